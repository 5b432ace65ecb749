-- `show_labels` meets its contract. The loop's invariant: the first x labels are stored. Assumes nothing.
use Prim.Native.Nat.{ℕ, ◌<◌}
use mathlib.Core.Path.{◌≡◌}
use lib.ListN.{get_or}
use Rattle.table.specs.Model.{Model}
use Rattle.regions.specs.Of.{Of}
use Rattle.regions.specs.Explore.{region_of}
use Rattle.regions.specs.View.{label_of}
use Rattle.regions.proofs.moves.show_labels.Given as goal

abbrev pub invariant-loop-x : goal.invariant-loop-x
invariant-loop-x l = (m : Model) → Of l.model m → (y : ℕ) → y < l.x → get_or l.labels y 0 ≡ label_of m (region_of l.found y)
