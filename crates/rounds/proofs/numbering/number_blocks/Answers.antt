-- One more item has the number of its block.
use Rattle.std.proofs.Common.{arith, ◌∙◌}
use Rattle.bisimulation.specs.Finite.{related}
use Rattle.bisimulation.proofs.Laws.Leads.{related-equivalence}
use Rattle.rounds.specs.Laws.Rounds.{numbered_new, numbered_old, numbered-over}
use Rattle.rounds.proofs.numbering.number_blocks.Goals.{then-lead-i, else-lead-i}
use Rattle.rounds.proofs.numbering.number_blocks.Goals as goal

pub loop-i-preserved : goal.loop-i-preserved
loop-i-preserved c =
    let loop = c.loop-i in
    let list = c.args.list.now in
    elim c.if-lead-i.branch [
      | then-lead-i w ↦ rw (w.count-is, w.list-is) (
        omega (arith, loop.invariant.0),
        λ n size reps. numbered_new n (related list) (related-equivalence n list) list reps loop.list loop.i loop.count
            (loop.auto.list ∙ size) (omega (arith, size, c.loop-i-test.true)) (loop.invariant.1 n size reps) w.if-lead-i.true,
      )
      | else-lead-i w ↦ rw (w.count-is, w.list-is, w.at.ensures) (
        omega (arith, loop.invariant.0),
        λ n size reps. numbered_old n (related list) (related-equivalence n list) list reps loop.list loop.i loop.count
            (loop.auto.list ∙ size) (omega (arith, size, c.loop-i-test.true)) (loop.invariant.1 n size reps) w.if-lead-i.false,
      )
    ]

pub returns : goal.returns
returns c =
    let list = c.args.list.now in
    λ n size reps. numbered-over n (related list) (related-equivalence n list) list reps c.loop-i.list c.loop-i.i c.loop-i.count
    (c.loop-i.auto.list ∙ size) (omega (arith, size, c.loop-i-test.false)) (c.loop-i.invariant.1 n size reps)
