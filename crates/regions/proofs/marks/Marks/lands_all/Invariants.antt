-- `lands_all` meets its contract. The loop's invariant: the first i branches land where they may. Assumes nothing.
use Prim.Native.Nat.{ℕ}
use mathlib.Core.Path.{◌≡◌}
use lib.ListN.{drop}
use Rattle.table.specs.Model.{Model}
use Rattle.table.specs.Reads.{edge_of}
use Rattle.regions.specs.Of.{Of, OfEdge}
use Rattle.regions.specs.Graph.{every, bounds_of, meets, landing}
use Rattle.regions.proofs.marks.Marks.lands_all.Given as goal

abbrev pub invariant-loop-i : goal.invariant-loop-i
invariant-loop-i l = (l.self.model.now ≡ l.initial.self.model.now) × (l.self.region ≡ l.initial.self.region)
    × ((m : Model) (e : ℕ) → Of l.initial.self.model.now m → OfEdge l.initial.self.model.now l.place m e
    → every (λ b. meets (bounds_of m) m.invariants (landing (bounds_of m) l.initial.self.region b)) (edge_of m e).branches
    ≡ every (λ b. meets (bounds_of m) m.invariants (landing (bounds_of m) l.initial.self.region b)) (drop l.i (edge_of m e).branches))
