-- `meet_branches` meets its contract. The loop's invariant: what the first i branches lead to was met. Assumes nothing.
use Prim.Native.Nat.{ℕ}
use mathlib.Core.Path.{◌≡◌}
use mathlib.Core.List.{[], ◌∷◌}
use lib.ListN.{take}
use Rattle.table.specs.Model.{Model}
use Rattle.table.specs.Reads.{edge_of}
use Rattle.regions.specs.Of.{OfEdge}
use Rattle.regions.specs.Graph.{landing, gather}
use Rattle.regions.specs.Marks.{Visited}
use Rattle.regions.specs.Worklist.{complete, meet}
use Rattle.regions.specs.Explore.{SameSlice, Kept, same_region, so_far}
use Rattle.regions.proofs.explore.meet_branches.Given as goal

abbrev pub invariant-loop-i : goal.invariant-loop-i
invariant-loop-i l = record {
  slice : SameSlice l.initial.found l.found;
  kept : Kept l.initial.found l.found;
  visited : Visited l.model.bounds l.r l.found.entries.now l.found.links.count l.visited;
  met : (m : Model) (e : ℕ) → OfEdge l.model l.place m e
      → meet same_region l.initial.found.cap (so_far l.initial.found)
      (gather (λ b. landing l.model.bounds l.r b ∷ []) (take l.i (edge_of m e).branches))
      ≡ complete (so_far l.found);
}
