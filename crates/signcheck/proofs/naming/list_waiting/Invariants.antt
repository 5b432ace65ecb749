-- Loop: no more regions are listed than were looked at.
use Rattle.std.proofs.Common.{◌≤◌, length}
use Rattle.signcheck.proofs.naming.list_waiting.Given as goal

abbrev pub invariant-loop-region : goal.invariant-loop-region
invariant-loop-region l = length l.waiting.items ≤ l.region
