-- What is tried next is an item below x.
use Rattle.std.proofs.Common.{◌<◌}
use Rattle.std.specs.Prelude.{IfSome}
use Rattle.rounds.specs.Rounds.{KinsBelow}
use Rattle.rounds.proofs.kins.find_kin.Given as goal

abbrev pub invariant-loop : goal.invariant-loop
invariant-loop l = KinsBelow l.x l.kins → IfSome l.fn.first (λ z. z < l.x) → IfSome l.tried (λ z. z < l.x)
