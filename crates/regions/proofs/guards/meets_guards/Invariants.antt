-- `meets_guards` meets its contract. Assumes nothing.
use Prim.Native.Nat.{ℕ}
use mathlib.Core.Path.{◌≡◌}
use lib.ListN.{drop}
use Rattle.table.specs.Model.{Model}
use Rattle.table.specs.Reads.{ReadsEdge, edge_of}
use Rattle.regions.specs.Graph.{satisfies, every}
use Rattle.regions.proofs.guards.meets_guards.Given as goal

abbrev pub invariant-loop-i : goal.invariant-loop-i
invariant-loop-i l = (m : Model) (e : ℕ) → ReadsEdge l.bytes l.place m e
    → every (satisfies l.bounds l.r) (edge_of m e).guards ≡ every (satisfies l.bounds l.r) (drop l.i (edge_of m e).guards)
