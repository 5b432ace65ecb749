-- Equal marks sort the items, as the blocks of the round before and the anchors say.
use Rattle.bisimulation.specs.Finite.{next}
use Rattle.rounds.specs.Laws.Joins.{marks-sort}
use Rattle.rounds.proofs.rounds.make_round.Goals as goal

pub returns-clause-led : goal.returns-clause-led
returns-clause-led c =
    let args = c.args in
    let n = args.graph.n in
    λ F keyed step settled.
    let d = next F args.names.now in
    let anchors = c.find_anchors.new.anchors in
    let marks = c.fill_marks.new.marks in
    let mid = c.first_round.new.list in
    let anchored = c.find_anchors.ensures n c.requires.0 step.reps in
    let (marked, keyed') = c.fill_marks.ensures F keyed settled anchored step in
    c.next_round.ensures.led F keyed'
    (marks-sort d n args.old.now args.stirred.now anchors anchored step.classes step.finer marks marked mid c.first_round.ensures.led.reps)
