-- `explore_table` meets its contract. Assumes nothing.
use mathlib.Core.Path.{sym, ◌∙◌, ap}
use lib.ListN.{length}
use Rattle.std.specs.Prelude.{Err, ◌≡◌}
use Rattle.std.proofs.Common.{rules}
use Rattle.table.proofs.Laws.Reads.{refusal-of, reads_of}
use Rattle.regions.specs.Of.{of-table}
use Rattle.regions.specs.Call.{room_for, from_answer, outcome_of, graph_of, entries_after}
use Rattle.regions.proofs.call.explore_table.Goals as goal

pub returns-in_err-shape : goal.returns-in_err-shape
unfolding outcome_of
returns-in_err-shape c =
    let args = c.args in
    let same : c.from_residual.result ≡ Err c.in_err-shape.field-0.0 = search rules in
    let out = ap (from_answer (room_for (length args.entries.now)))
    (refusal-of args.bytes.now _ (sym c.in_err-shape.was ∙ c.read.ensures)) in
    record {
      value = same ∙ sym (ap graph_of out);
      entries_after = sym (ap (entries_after args.entries.now) out);
    }

pub returns : goal.returns
unfolding outcome_of
returns c =
    let args = c.args in
    let (m, reads) = reads_of args.bytes.now _ (sym c.in_ok-shape.was ∙ c.read.ensures) in
    let out = ap (from_answer (room_for (length args.entries.now))) reads.answer in
    let done = c.graph_of.ensures m (of-table c.new.result args.bytes.now _ m c.new.ensures reads) in
    record {
      value = done.0 ∙ sym (ap graph_of out);
      entries_after = done.1 ∙ sym (ap (entries_after args.entries.now) out);
    }
