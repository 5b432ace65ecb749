-- What a change of names reaches is stirred, and its keys are forgotten.
use Rattle.bisimulation.specs.Finite.{next}
use Rattle.rounds.specs.Laws.Names.{leaders-kept}
use Rattle.rounds.specs.Laws.Prepared.{prepared-on}
use Rattle.rounds.proofs.rounds.Carried.follow_round.Goals as goal

pub returns : goal.returns
returns c =
    let args = c.args in
    let n = args.graph.n in
    λ F held closed classed step prepared reps.
    let kept = leaders-kept (next F args.old.now) n args.old.now args.new.now step reps in
    prepared-on held closed step prepared reps (c.name_round-changed.ensures.named n c.requires.0 kept prepared.named.tagged)
    (c.name_round-changed.ensures.changed n c.requires.0) (c.stir.ensures held.opened classed) c.forget_keys.ensures.0
