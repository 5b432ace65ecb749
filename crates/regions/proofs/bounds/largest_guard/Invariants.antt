-- `largest_guard` meets its contract. Assumes nothing.
use Prim.Native.Nat.{ℕ, max}
use mathlib.Core.Path.{◌≡◌}
use lib.ListN.{drop}
use Rattle.table.specs.Model.{Model}
use Rattle.table.specs.Reads.{ReadsEdge, edge_of}
use Rattle.regions.specs.Graph.{largest_of, guard_constant}
use Rattle.regions.proofs.bounds.largest_guard.Given as goal

abbrev pub invariant-loop-i : goal.invariant-loop-i
invariant-loop-i l = (m : Model) (e : ℕ) → ReadsEdge l.bytes l.place m e
    → max l.best (largest_of guard_constant (drop l.i (edge_of m e).guards)) ≡ largest_of guard_constant (edge_of m e).guards
