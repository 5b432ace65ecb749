-- `show_nexts` meets its contract. The loop's invariant: the first x delay regions are stored. Assumes nothing.
use Prim.Native.Nat.{ℕ, ◌<◌}
use mathlib.Core.Path.{◌≡◌}
use lib.ListN.{get_or}
use Rattle.table.specs.Model.{Model}
use Rattle.regions.specs.Of.{Of}
use Rattle.regions.specs.Explore.{regions_of, region_of, size_of}
use Rattle.regions.specs.View.{delay_numbers}
use Rattle.regions.specs.Shown.{followers}
use Rattle.regions.specs.Order.{AllRegions}
use Rattle.regions.proofs.moves.show_nexts.Given as goal

abbrev pub invariant-loop-x : goal.invariant-loop-x
invariant-loop-x l = (m : Model) → Of l.model m → AllRegions m (regions_of l.found) → (y : ℕ) → y < l.x
    → delay_numbers m (regions_of l.found) (region_of l.found y) ≡ followers (size_of l.found) (get_or l.nexts y 0)
