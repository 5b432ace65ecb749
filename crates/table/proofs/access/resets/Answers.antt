-- A shift and a mask pick the bit, and a byte has none from 8 on.
use Prim.Native.Nat.{ℕ, ◌/◌, ◌^◌}
use mathlib.Core.Path.{sym, ◌∙◌, ap}
use lib.Bits.{and_mask}
use lib.Dec.{eqb}
use borrow.Author.Tests.{le-ltb}
use Rattle.table.specs.Model.{reset_in}
use Rattle.table.proofs.Laws.Masks.{no-reset}
use Rattle.table.proofs.access.resets.Goals as goal

pub returns-then-clock-lt8 : goal.returns-then-clock-lt8
unfolding reset_in
returns-then-clock-lt8 c =
    let args = c.args in
    ap (λ (b : ℕ). eqb b 1) (and_mask (args.mask / 2 ^ args.clock) 1)

pub returns-else-clock-lt8 : goal.returns-else-clock-lt8
returns-else-clock-lt8 c = le-ltb _ _ c.if-clock-lt8.false ∙ sym (no-reset 8 c.ranges.mask.fits c.if-clock-lt8.false)
