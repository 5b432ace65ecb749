-- A model as the code prepares it, once for all regions: its bounds, its edges by number and by source, and its limits. The numbers of
-- each edge fit in a row.
use Rattle.std.specs.Prelude.{ℕ, ◌<◌, ◌≡◌, List, length}
use Rattle.table.specs.Model.{Model}
use Rattle.table.specs.Reads.{Lists, edge_of}
use Rattle.table.specs.declared.model.Edge.{Edge as EdgeStruct}
use Rattle.regions.specs.Graph.{bounds_of}
use Rattle.regions.specs.Edges.{Placed, Linked}
use Rattle.regions.specs.Filling.{Fitting}
use Rattle.regions.specs.Limits.{Limits}
use Rattle.clocks.specs.declared.region.Bounds.{Bounds}

pub record Suits (m : Model) (bounds : Bounds) (edges : List EdgeStruct) (places starts follows limits : List ℕ) : Type 0 where
  pub bounds_are : bounds ≡ bounds_of m
  pub edges_are : Lists m edges
  pub placed : Placed m places
  pub linked : Linked m starts follows
  pub limits_are : Limits m limits
  pub fitting : (e : ℕ) → e < length m.edges → Fitting (edge_of m e)
