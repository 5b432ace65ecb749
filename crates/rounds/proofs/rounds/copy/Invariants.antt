-- The elements that were passed are copied.
use Rattle.rounds.proofs.Laws.Steps.{CopiedTo}
use Rattle.rounds.proofs.rounds.copy.Given as goal

abbrev pub invariant-loop-i : goal.invariant-loop-i
invariant-loop-i l = CopiedTo l.i l.from l.to
