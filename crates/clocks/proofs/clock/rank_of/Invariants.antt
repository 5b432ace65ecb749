-- The count is the rank of the number looked at last, and at most that number.
use Rattle.std.proofs.Common.{◌<◌, ◌≤◌, ◌≡◌, ◌-◌, ◌+◌}
use Rattle.clocks.specs.Cells.{rank}
use Rattle.clocks.proofs.clock.rank_of.Given as goal

abbrev pub invariant-loop-k : goal.invariant-loop-k
invariant-loop-k l = (l.rank ≡ rank l.fractions (l.k-counter - 1)) × (l.rank < l.k-counter) × (l.k-counter ≤ l.fraction + 1)
