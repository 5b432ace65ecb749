-- `largest_edge` meets its contract. Assumes nothing.
use Prim.Native.Nat.{max}
use mathlib.Core.Path.{◌≡◌}
use lib.ListN.{length, drop}
use Rattle.table.specs.Model.{Model}
use Rattle.table.specs.Reading.{read_table, accepted}
use Rattle.regions.specs.Edges.{Placed}
use Rattle.regions.specs.Graph.{largest_of, edge_constant}
use Rattle.regions.proofs.bounds.largest_edge.Given as goal

abbrev pub invariant-loop-e : goal.invariant-loop-e
invariant-loop-e l = (m : Model) → read_table l.bytes ≡ accepted m → l.count ≡ length m.edges → Placed m l.places
    → max l.best (largest_of edge_constant (drop l.e m.edges)) ≡ largest_of edge_constant m.edges
