-- The sign and the edge stay below their bounds.
use Rattle.std.proofs.Common.{◌<◌, ◌≤◌}
use Rattle.rounds.proofs.kins.sign_of.Given as goal

abbrev pub invariant-loop-e : goal.invariant-loop-e
invariant-loop-e l = (l.sign < 4096) × (l.e ≤ 128)

abbrev pub decreases-loop-e : goal.decreases-loop-e
decreases-loop-e l = l.e
