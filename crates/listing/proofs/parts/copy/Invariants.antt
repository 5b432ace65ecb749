-- The bytes that were passed are copied, and those after them are as they were.
use Rattle.std.proofs.Common.{◌≤◌, ◌≡◌, ◌++◌, length, take, drop}
use Rattle.listing.proofs.parts.copy.Given as goal

abbrev pub invariant-loop-i : goal.invariant-loop-i
invariant-loop-i l = (l.i ≤ length l.text) × (l.buffer ≡ take l.i l.text ++ drop l.i l.initial.buffer)
