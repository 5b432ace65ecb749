-- The answer, the entries and what else is lent are those of the graph call that refused, or of an accepted table, whose graph the slices
-- hold.
use Rattle.std.proofs.Common.{rules, ℕ, ◌≡◌, length, sym, ◌∙◌, Err}
use Rattle.regions.specs.Call.{room_for}
use Rattle.partition.specs.Laws.Calls.{on-refused, on-accepted, shown-for}
use Rattle.partition.specs.Calls.{refuses, judged_of, judge_of}
use Rattle.table.specs.declared.refusals.Refusal.{Refusal}
use Rattle.partition.proofs.calls.judge_table.Goals as goal

pub returns-in_err-n : goal.returns-in_err-n
unfolding judge_of
returns-in_err-n c =
    let args = c.args in
    let r : Refusal = c.in_err-n.field-0.0 in
    let cap : ℕ = room_for (length args.entries.now) in
    let same : c.from_residual.result ≡ Err r = search rules in
    let e = c.in_err-n.ensures.value in
    record {
      answer-is = same ∙ on-refused refuses (judged_of args.proposal.now) args.bytes.now cap r e;
      entries-are = c.show.ensures.entries_after;
    }

pub returns : goal.returns
unfolding judge_of
returns c =
    let args = c.args in
    let cap : ℕ = room_for (length args.entries.now) in
    let (a, held, closed) =
    shown-for args.bytes.now args.entries.now c.in_ok-n.n c.in_ok-n.ensures.value c.show.new.self
    (λ m found read out. c.show.ensures.shown m found read out c.new-room.ensures) c.graph.result c.graph.ensures in
    record {
      answer-is =
          c.judge_shown.ensures a.model a.found held closed
          ∙ sym (on-accepted refuses (judged_of args.proposal.now) args.bytes.now cap a);
      entries-are = c.show.ensures.entries_after;
    }
