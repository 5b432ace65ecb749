-- A byte has no bit from 8 on.
use mathlib.Core.Path.{sym, ◌∙◌, ap}
use lib.Dec.{ltb}
use borrow.Author.Tests.{le-ltb}
use Rattle.table.proofs.Laws.Masks.{nothing-from}
use Rattle.table.proofs.records.names_missing_clock.Goals as goal

pub returns-else-clocks-lt8 : goal.returns-else-clocks-lt8
returns-else-clocks-lt8 c = le-ltb _ _ c.if-clocks-lt8.false ∙ sym (ap (ltb 0) (nothing-from 8 c.ranges.mask.fits c.if-clocks-lt8.false))
