-- `mark_edges` meets its contract. The loop's invariant: the first flags are stored, and the link is that of the next edge with the
-- region's location as its source. Assumes nothing.
use Prim.Native.Nat.{suc}
use mathlib.Core.Path.{◌≡◌}
use Rattle.table.specs.Model.{Model}
use Rattle.table.specs.Reads.{edge_of}
use Rattle.regions.specs.Of.{Of}
use Rattle.regions.specs.Edges.{link_from}
use Rattle.regions.specs.Graph.{available}
use Rattle.regions.specs.Shown.{open_below}
use Rattle.regions.specs.Filling.{Run, Before}
use Rattle.regions.proofs.moves.mark_edges.Given as goal

abbrev pub invariant-loop-e : goal.invariant-loop-e
invariant-loop-e l = record {
  before : Before l.base l.initial.flags l.flags;
  model : l.marks.model.now ≡ l.model;
  region : l.marks.region ≡ l.fn.r;
  linked : (m : Model) → Of l.model m → l.link ≡ link_from m l.fn.r.location l.e;
  last_is : (m : Model) → Of l.model m → l.last ≡ open_below (λ f. available m (edge_of m f) l.fn.r) l.e;
  run : (m : Model) → Of l.model m → Run l.base l.e (λ j v. v ≡ open_below (λ f. available m (edge_of m f) l.fn.r) (suc j)) l.flags;
}
