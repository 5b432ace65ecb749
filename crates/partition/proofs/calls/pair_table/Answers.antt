-- The answer, the entries and what else is lent are those of the graph call that refused, or of an accepted table, whose graph the slices
-- hold.
use Rattle.std.proofs.Common.{rules, ℕ, ◌≡◌, List, length, sym, ◌∙◌, Err}
use Rattle.regions.specs.Call.{room_for}
use Rattle.partition.specs.Laws.Calls.{on-refused, on-accepted, shown-for}
use Rattle.partition.specs.Calls.{refuses, shared_of, pair_of, pair_list_of, pair_list_after}
use Rattle.table.specs.declared.refusals.Refusal.{Refusal}
use Rattle.partition.proofs.calls.pair_table.Goals as goal

pub returns-in_err-n : goal.returns-in_err-n
unfolding pair_of pair_list_after
returns-in_err-n c =
    let args = c.args in
    let r : Refusal = c.in_err-n.field-0.0 in
    let cap : ℕ = room_for (length args.entries.now) in
    let same : c.from_residual.result ≡ Err r = search rules in
    let e = c.in_err-n.ensures.value in
    let first : List ℕ = args.first.now in
    let second : List ℕ = args.second.now in
    record {
      answer-is = same ∙ on-refused refuses (shared_of first second args.r args.s) args.bytes.now cap r e;
      entries-are = c.show.ensures.entries_after;
      first-is = on-refused (λ reason place. first) (pair_list_of first second first args.r args.s) args.bytes.now cap r e;
      second_is = on-refused (λ reason place. second) (pair_list_of first second second args.r args.s) args.bytes.now cap r e;
    }

pub returns : goal.returns
unfolding pair_of pair_list_after
returns c =
    let args = c.args in
    let cap : ℕ = room_for (length args.entries.now) in
    let (a, held, closed) =
    shown-for args.bytes.now args.entries.now c.in_ok-n.n c.in_ok-n.ensures.value c.show.new.self
    (λ m found read out. c.show.ensures.shown m found read out c.new-room.ensures) c.graph.result c.graph.ensures in
    let first : List ℕ = args.first.now in
    let second : List ℕ = args.second.now in
    let done = c.pair_shown.ensures a.model a.found held closed in
    record {
      answer-is = done.0 ∙ sym (on-accepted refuses (shared_of first second args.r args.s) args.bytes.now cap a);
      entries-are = c.show.ensures.entries_after;
      first-is = done.1 ∙ sym (on-accepted (λ reason place. first) (pair_list_of first second first args.r args.s) args.bytes.now cap a);
      second_is = done.2 ∙ sym (on-accepted (λ reason place. second) (pair_list_of first second second args.r args.s) args.bytes.now cap a);
    }
