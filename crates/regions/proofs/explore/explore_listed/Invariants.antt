-- `explore_listed` meets its contract. The loop's invariant: going on from region i gives what exploring gives. The measure is the
-- regions that there may be. Assumes nothing.
use Prim.Native.Nat.{suc, ◌-◌}
use mathlib.Core.Path.{◌≡◌}
use Rattle.table.specs.Model.{Model}
use Rattle.clocks.specs.declared.region.Region.{Region}
use Rattle.regions.specs.Of.{Of}
use Rattle.regions.specs.Graph.{next_of}
use Rattle.regions.specs.Worklist.{explore_from}
use Rattle.regions.specs.Explore.{SameSlice, Kept, same_region, listed, so_far}
use Rattle.regions.proofs.explore.explore_listed.Given as goal

abbrev pub invariant-loop-i : goal.invariant-loop-i
invariant-loop-i l = record {
  slice : SameSlice l.initial.found l.found;
  kept : Kept l.initial.found l.found;
  same : (m : Model) (d : Region) → Of l.model m
      → explore_from same_region (next_of m) (suc l.initial.found.cap) l.initial.found.cap d (listed l.initial.found.entries.now 1) 0
      ≡ explore_from same_region (next_of m) (suc l.initial.found.cap - l.i) l.initial.found.cap d (so_far l.found) l.i;
}

abbrev pub decreases-loop-i : goal.decreases-loop-i
decreases-loop-i l = l.found.cap - l.i
