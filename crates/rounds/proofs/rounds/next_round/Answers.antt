-- One more item has its lead.
use Rattle.std.proofs.Common.{◌+◌, arith}
use Rattle.bisimulation.specs.Finite.{next}
use Rattle.rounds.specs.Laws.Rounds.{Counts, counts-most, kins-kept, led_on}
use Rattle.rounds.proofs.rounds.next_round.Goals.{then-lead-x, else-lead-x}
use Rattle.rounds.proofs.rounds.next_round.Goals as goal

pub loop-x-preserved : goal.loop-x-preserved
loop-x-preserved c =
    let loop = c.loop-x in
    let placed = c.next_lead-lead in
    let counts : Counts loop.x placed.result loop.count c.if-lead-x.count =
    elim c.if-lead-x.branch [
      | then-lead-x w ↦ Counts.one_more w.if-lead-x.true w.count-is
      | else-lead-x w ↦ Counts.as_before w.if-lead-x.false w.count-is
    ] in (
      counts-most counts loop.invariant.0,
      placed.ensures.kins (loop.x + 1) (omega arith) (kins-kept loop.kins loop.x loop.invariant.1),
      λ F keyed sorted.
          let (led, chains, known) = loop.invariant.2 F keyed sorted in
          let (own, linked, known') = placed.ensures.value F known sorted chains led.reps loop.invariant.1 c.loop-x-test.true in (
            led_on (next F c.args.sorting.names.now) loop.new loop.x placed.result loop.count c.if-lead-x.count
                (omega (arith, c.loop-x-test.true, loop.auto.new, c.requires.0)) led own counts,
            linked,
            known',
          ),
    )
