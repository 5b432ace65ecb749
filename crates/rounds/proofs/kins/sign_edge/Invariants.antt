-- The sum grows by no more than it may for each branch.
use Rattle.std.proofs.Common.{◌<◌, ◌≤◌, ◌+◌, ◌*◌}
use Rattle.rounds.proofs.kins.sign_edge.Given as goal

abbrev pub invariant-loop-i : goal.invariant-loop-i
invariant-loop-i l = (l.factor < 4093) × (l.sum ≤ 217050 + 955195560 * l.i)
