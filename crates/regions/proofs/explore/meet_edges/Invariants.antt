-- `meet_edges` meets its contract. The loop's invariant: what the first edges lead to was met, and the link is that of the next edge
-- with the region's location as its source. Assumes nothing.
use mathlib.Core.Path.{◌≡◌}
use lib.ListN.{take}
use Rattle.table.specs.Model.{Model}
use Rattle.regions.specs.Of.{Of}
use Rattle.regions.specs.Edges.{link_from}
use Rattle.regions.specs.Graph.{gather, edge_next}
use Rattle.regions.specs.Marks.{Visited}
use Rattle.regions.specs.Worklist.{complete, meet}
use Rattle.regions.specs.Explore.{SameSlice, Kept, same_region, so_far}
use Rattle.regions.proofs.explore.meet_edges.Given as goal

abbrev pub invariant-loop-e : goal.invariant-loop-e
invariant-loop-e l = record {
  slice : SameSlice l.initial.found l.found;
  kept : Kept l.initial.found l.found;
  model : l.marks.model.now ≡ l.model;
  region : l.marks.region ≡ l.fn.r;
  visited : Visited l.model.bounds l.fn.r l.found.entries.now l.found.links.count l.visited;
  linked : (m : Model) → Of l.model m → l.link ≡ link_from m l.fn.r.location l.e;
  met : (m : Model) → Of l.model m → meet same_region l.initial.found.cap (so_far l.initial.found)
      (gather (edge_next m l.fn.r) (take l.e m.edges)) ≡ complete (so_far l.found);
}
