-- An item that the index does not find leads, and goes into it.
use Rattle.std.proofs.Common.{ℕ, ◌<◌, length, length-set, arith, sym, ◌∙◌, replicate}
use Rattle.std.proofs.lemmas.List.{length-replicate}
use Rattle.bisimulation.specs.Finite.{related}
use Rattle.rounds.specs.Laws.Rounds.{reps-none, reps-on}
use Rattle.rounds.specs.Laws.Firsts.{indexed-none, indexed-past, indexed-on}
use Rattle.rounds.proofs.judging.list_firsts.Goals.{in-Some, in-None}
use Rattle.rounds.proofs.judging.list_firsts.Goals as goal

pub loop-x-init : goal.loop-x-init
loop-x-init c =
    let list = c.args.proposal.now in (
      length-replicate {A = ℕ} 4096 0,
      reps-none (related list) (replicate 4096 0),
      indexed-none list c.new-index.result (λ b. (c.new-index.ensures b).0),
    )

pub loop-x-preserved : goal.loop-x-preserved
loop-x-preserved c =
    let list = c.args.proposal.now in
    let loop = c.loop-x in
    let inside : loop.x < length loop.firsts = omega (arith, loop.invariant.0, c.loop-x-test.true, c.requires) in
    elim c.match-find_first.branch [
      | in-Some w ↦ rw (w.first-is, w.index-is) (
        length-set loop.firsts loop.x w.in-Some.first ∙ loop.invariant.0,
        reps-on (related list) loop.firsts loop.x w.in-Some.first inside loop.invariant.1 (sym w.in-Some.ensures.0),
        indexed-past list loop.index loop.x loop.invariant.2 (λ e. omega (arith, w.in-Some.ensures.0, w.in-Some.ensures.1, e)),
      )
      | in-None w ↦ rw (w.first-is, w.index-is) (
        length-set loop.firsts loop.x loop.x ∙ loop.invariant.0,
        reps-on (related list) loop.firsts loop.x loop.x inside loop.invariant.1 (sym w.in-None.ensures),
        rw (w.put.ensures.after, w.bucket_of.ensures, w.at.ensures)
            (indexed-on list loop.index loop.x loop.invariant.2 (omega (arith, w.put.ensures.room.0))
            (omega (arith, w.put.ensures.room.1, c.loop-x-test.true, c.requires)) w.in-None.ensures),
      )
    ]
