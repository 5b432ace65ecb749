-- Reading is refused, or exploring, or the state; or its region is looked for.
use Rattle.std.proofs.Common.{rules, arith, ◌≡◌, ◌≤◌, sym, ◌∙◌, ap, ap₂, Err, length}
use Rattle.table.proofs.Laws.Reads.{refusal-of, reads_of, counts-read}
use Rattle.regions.specs.Entries.{max_entries}
use Rattle.regions.specs.Call.{room_for, from_answer, outcome_of, entries_after}
use Rattle.regions.specs.Explore.{listed}
use Rattle.regions.specs.View.{number_in, bounds_read}
use Rattle.states.specs.Placing.{placed}
use Rattle.states.specs.StateCall.{asked, numbered, placed_from, place_of}
use Rattle.states.specs.Laws.StateCall.{place-refused, place-few, place-regions}
use Rattle.states.proofs.states.place_state.Goals as goal

pub returns-in_err-shape : goal.returns-in_err-shape
unfolding outcome_of place_of
returns-in_err-shape c =
    let args = c.args in
    let cap = room_for (length args.entries.now) in
    let same : c.from_residual.result ≡ Err c.in_err-shape.field-0.0 = search rules in
    let out = refusal-of args.bytes.now _ (sym c.in_err-shape.was ∙ c.read.ensures) in
    record {
      value = same ∙ sym (ap (placed_from cap (asked args.location args.v0 args.v1 args.v2 args.v3 args.denominator)) out);
      entries_after = sym (ap (entries_after args.entries.now) (ap (from_answer cap) out));
    }

pub returns-in_err-n : goal.returns-in_err-n
returns-in_err-n c =
    let args = c.args in
    let explore = c.explore_table in
    let cap = room_for (length args.entries.now) in
    let state = asked args.location args.v0 args.v1 args.v2 args.v3 args.denominator in
    let same : c.from_residual-in_err-n.result ≡ Err c.in_err-n.field-0.0 = search rules in
    let (m, reads) = reads_of args.bytes.now _ (sym c.in_ok-shape.was ∙ c.read.ensures) in
    record {
      value = same ∙ place-refused args.bytes.now m state cap reads.answer _ (sym c.in_err-n.was ∙ explore.ensures.value);
      entries_after = explore.ensures.entries_after;
    }

pub returns-in_err-state : goal.returns-in_err-state
returns-in_err-state c =
    let args = c.args in
    let explore = c.explore_table in
    let cap = room_for (length args.entries.now) in
    let state = asked args.location args.v0 args.v1 args.v2 args.v3 args.denominator in
    let same : c.from_residual-in_err-state.result ≡ Err c.in_err-state.field-0.0 = search rules in
    let room : cap ≤ max_entries = omega arith in
    let (m, reads) = reads_of args.bytes.now _ (sym c.in_ok-shape.was ∙ c.read.ensures) in
    let counts = counts-read args.bytes.now _ m reads in
    let refused = c.in_err-state.ensures m counts.locations counts.clocks in
    record {
      value =
          place-regions args.bytes.now args.entries.now explore.new.entries m cap reads.answer room _
          (sym c.in_ok-n.was ∙ explore.ensures.value) explore.ensures.entries_after state c.from_residual-in_err-state.result
          (rw refused.0 (same ∙ ap Err refused.1));
      entries_after = explore.ensures.entries_after;
    }

pub returns : goal.returns
returns c =
    let args = c.args in
    let explore = c.explore_table in
    let cap = room_for (length args.entries.now) in
    let n = c.in_ok-n.n in
    let state = asked args.location args.v0 args.v1 args.v2 args.v3 args.denominator in
    let room : cap ≤ max_entries = omega arith in
    let (m, reads) = reads_of args.bytes.now _ (sym c.in_ok-shape.was ∙ c.read.ensures) in
    let counts = counts-read args.bytes.now _ m reads in
    let taken = c.in_ok-state.ensures m counts.locations counts.clocks in
    let answer = sym c.in_ok-n.was ∙ explore.ensures.value in
    let left = explore.ensures.entries_after in
    let few = place-few args.bytes.now args.entries.now explore.new.entries m cap reads.answer room n answer left in
    let region = c.region.ensures ∙ ap₂ placed (c.bounds_read.ensures ∙ ap bounds_read reads.answer) taken.1 in
    let number = c.number_of.ensures few ∙ ap (λ q. numbered n (number_in (listed explore.new.entries n) q)) region in
    record {
      value =
          place-regions args.bytes.now args.entries.now explore.new.entries m cap reads.answer room n answer left state
          c.number_of.result (rw taken.0 number);
      entries_after = left;
    }
