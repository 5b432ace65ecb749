-- `list_sets` meets its contract. The loop's invariant: the sets of the first x regions are listed. Assumes nothing.
use mathlib.Core.Path.{◌≡◌}
use lib.ListN.{length}
use Rattle.regions.specs.Explore.{SameSlice, size_of}
use Rattle.regions.specs.Filling.{Grouped}
use Rattle.regions.proofs.classes.list_sets.Given as goal

abbrev pub invariant-loop-x : goal.invariant-loop-x
invariant-loop-x l = record {
  slice : SameSlice l.initial.sets l.sets;
  cap : l.sets.cap ≡ l.initial.sets.cap;
  spots : length l.spots ≡ length l.initial.spots;
  grouped : Grouped l.found.entries.now (size_of l.found) l.x l.sets.entries.now l.sets.links.count l.spots;
}
