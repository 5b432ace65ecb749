-- The clocks that were met are put.
use Rattle.std.proofs.Common.{length}
use Rattle.text.specs.Text.{each}
use Rattle.text.specs.Writing.{Puts}
use Rattle.listing.specs.Printed.{clock_field, clocks_at}
use Rattle.listing.proofs.lines.put_clocks.Given as goal

abbrev pub invariant-loop-whole : goal.invariant-loop-whole
invariant-loop-whole l = Puts l.initial.text l.text (each clock_field (clocks_at (length l.yielded) l.region))
