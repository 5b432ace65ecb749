-- One more item gets its mark.
use Rattle.std.proofs.Common.{◌<◌, ◌+◌, length, arith, ◌∙◌}
use Rattle.bisimulation.specs.Finite.{next, related}
use Rattle.bisimulation.proofs.Laws.Leads.{lead_low}
use Rattle.std.proofs.Math.Path.{ap₂}
use Rattle.rounds.specs.Rounds.{join_mark}
use Rattle.rounds.specs.Laws.Joins.{marked-on}
use Rattle.rounds.specs.Laws.Rounds.{kins-kept}
use Rattle.std.proofs.Common.{length}
use Rattle.std.proofs.Common.{length-set}
use Rattle.rounds.proofs.joins.fill_marks.Goals as goal

pub loop-x-preserved : goal.loop-x-preserved
loop-x-preserved c =
    let b = c.args.before in
    let loop = c.loop-x in
    let joined = c.is_joined-joins in
    let long : loop.x < length loop.marks = omega (arith, loop.invariant.0, c.loop-x-test.true, c.requires) in (
      length-set loop.marks loop.x c.mark_of.result ∙ loop.invariant.0,
      joined.ensures.kins (loop.x + 1) (omega arith) (kins-kept loop.kins loop.x loop.invariant.1),
      λ F keyed settled anchored step.
          let (marked, known) = loop.invariant.2 F keyed settled anchored step in
          let (joins, known') = joined.ensures.value F known settled anchored step marked loop.invariant.1 c.loop-x-test.true in (
            marked-on (next F b.names.now) b.anchors.now b.old.now loop.marks loop.x c.mark_of.result long marked
                (c.mark_of.ensures (omega (
                  arith,
                  c.at.ensures,
                  step.reps.rep loop.x c.loop-x-test.true,
                  lead_low (related b.old.now) loop.x,
                  c.loop-x-test.true,
                  keyed.held.few,
                ))
                ∙ ap₂ join_mark c.at.ensures joins),
            known',
          ),
    )
