-- The keys of the stirred items that were passed are forgotten; others stay.
use Rattle.rounds.specs.Rounds.{Forgotten}
use Rattle.rounds.proofs.rounds.forget_keys.Given as goal

abbrev pub invariant-loop-x : goal.invariant-loop-x
invariant-loop-x l = Forgotten l.x l.initial.keys l.keys l.stirred
