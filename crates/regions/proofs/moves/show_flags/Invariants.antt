-- `show_flags` meets its contract. The loop's invariant: the flags of the first x regions are stored. Assumes nothing.
use Prim.Native.Nat.{suc}
use mathlib.Core.Path.{◌≡◌}
use lib.ListN.{length}
use Rattle.table.specs.Model.{Model}
use Rattle.table.specs.Reads.{edge_of}
use Rattle.regions.specs.Of.{Of}
use Rattle.regions.specs.Graph.{available}
use Rattle.regions.specs.Explore.{region_of}
use Rattle.regions.specs.Shown.{open_below}
use Rattle.regions.specs.Filling.{Blocks}
use Rattle.regions.proofs.moves.show_flags.Given as goal

abbrev pub invariant-loop-x : goal.invariant-loop-x
invariant-loop-x l = (length l.flags ≡ length l.initial.flags) × ((m : Model) → Of l.model m
    → Blocks 128 (length m.edges) l.x (λ y j v. v ≡ open_below (λ f. available m (edge_of m f) (region_of l.found y)) (suc j)) l.flags)
