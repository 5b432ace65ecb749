-- `show_graph` meets its contract. Assumes nothing.
use mathlib.Core.Path.{◌≡◌, refl, sym, ◌∙◌, ap, subst}
use lib.ListN.{length}
use Rattle.std.specs.Prelude.{Err}
use Rattle.std.proofs.Common.{rules}
use Rattle.table.specs.Model.{Model}
use Rattle.table.proofs.Laws.Reads.{refusal-of, reads_of}
use Rattle.regions.specs.Of.{of-table}
use Rattle.regions.specs.Call.{room_for, from_answer, outcome_of, graph_of, entries_after}
use Rattle.regions.specs.Shown.{ShownIn}
use Rattle.regions.specs.Laws.Shown.{not-refused}
use Rattle.regions.proofs.shown.show_graph.Goals as goal

pub returns-in_err-shape : goal.returns-in_err-shape
unfolding outcome_of
returns-in_err-shape c =
    let args = c.args in
    let same : c.from_residual.result ≡ Err c.in_err-shape.field-0.0 = search rules in
    let out = ap (from_answer (room_for (length args.entries.now)))
    (refusal-of args.bytes.now _ (sym c.in_err-shape.was ∙ c.read.ensures)) in
    record {
      same_slices = (refl, refl, refl, refl, refl, refl);
      lengths = (refl, refl, refl, refl, refl, refl);
      value = same ∙ sym (ap graph_of out);
      entries_after = sym (ap (entries_after args.entries.now) out);
      shown = λ m found read is room.
          absurd (not-refused _ (outcome_of args.bytes.now (room_for (length args.entries.now))) found
          (sym (ap graph_of out)) is);
      labels_unchanged = λ none. (refl, refl, refl, refl, refl, refl);
    }

pub returns : goal.returns
unfolding outcome_of
returns c =
    let args = c.args in
    let show-read = c.show_read in
    let (m, reads) = reads_of args.bytes.now _ (sym c.in_ok-shape.was ∙ c.read.ensures) in
    let out = ap (from_answer (room_for (length args.entries.now))) reads.answer in
    let of = of-table c.new.result args.bytes.now _ m c.new.ensures reads in
    let done = show-read.ensures.value m of in
    record {
      same_slices = show-read.ensures.same_slices;
      lengths = show-read.ensures.lengths;
      value = done.0 ∙ sym (ap graph_of out);
      entries_after = done.1 ∙ sym (ap (entries_after args.entries.now) out);
      shown = λ k found read is room.
          let same : m ≡ k = cc (reads.answer, read) in
          subst (λ (x : Model). ShownIn x found show-read.new.graph) same (show-read.ensures.shown m found of (sym out ∙ is) room);
      labels_unchanged = λ none. show-read.ensures.labels_unchanged m of (λ found is room. none found (out ∙ is) room);
    }
