-- `read` meets its contract. The loop's invariant: reading on from here gives what reading from the start gives. The measure is
-- what is left of the table. Assumes nothing.
use Prim.Native.Nat.{◌-◌}
use lib.ListN.{length}
use Rattle.table.proofs.Laws.Turns.{Underway}
use Rattle.table.proofs.reading.read.Given as goal

abbrev pub invariant-loop-next : goal.invariant-loop-next
invariant-loop-next l = Underway l.table l.progress l.at

abbrev pub decreases-loop-next : goal.decreases-loop-next
decreases-loop-next l = length l.table - l.at
