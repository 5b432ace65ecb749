-- The fractions that were looked at count, and those that are left.
use Rattle.std.proofs.Common.{◌+◌, ◌≤◌, ◌≡◌, drop}
use Rattle.clocks.specs.Cells.{rank}
use Rattle.states.proofs.state.rank_of.Given as goal

abbrev pub invariant-loop-i : goal.invariant-loop-i
invariant-loop-i l = (l.rank + rank (drop l.i l.other-items) l.fraction ≡ rank l.fn.fractions l.fraction) × (l.rank ≤ l.i)
