-- The branches of an edge are those of its places, one for each.
use Rattle.std.specs.Prelude.{ℕ, zero, suc, ◌+◌, ◌≤◌, ◌<◌, ◌≡◌, ◌⊎◌}
use Rattle.std.proofs.Common.{arith, eq-or-lt_of_le, sym, ap, inl, inr}
use mathlib.Core.List.{List, Memᴰ}
use Rattle.bisimulation.specs.Structures.{Branch}
use Rattle.graph.specs.Readers.{branch_slot, landing_of, low_of}
use Rattle.signatures.specs.Structure.{branches_from}

module _ (graph edges : List ℕ) (class edge : ℕ) where
  pub branches-from : (i left : ℕ) {b : Branch ℕ} → Memᴰ b (branches_from graph edges class edge i left)
      → (j : ℕ) × (i ≤ j) × (j < i + left) × (b.target ≡ landing_of graph class (branch_slot graph edge j))
  branches-from i zero m = elim m [ ]
  branches-from i (suc left) (Memᴰ.head e) = (i, omega arith, omega arith, ap (λ (b : Branch ℕ). b.target) e)
  branches-from i (suc left) (Memᴰ.tail m) =
      let (j, low, high, is) = branches-from (suc i) left m in
      (j, omega (arith, low), omega (arith, high), is)

  pub branches-in : (i left j : ℕ) → i ≤ j → j < i + left
      → Memᴰ (record { weight = low_of edges edge j; target = landing_of graph class (branch_slot graph edge j) })
      (branches_from graph edges class edge i left)
  branches-in i zero j low high = absurd (omega (arith, low, high))
  branches-in i (suc left) j low high = go (branches-in (suc i) left j) (eq-or-lt_of_le low)
    where
      branch : ℕ → Branch ℕ
      branch k = record { weight = low_of edges edge k; target = landing_of graph class (branch_slot graph edge k) }

      go : (suc i ≤ j → j < suc i + left → Memᴰ (branch j) (branches_from graph edges class edge (suc i) left)) → (i ≡ j) ⊎ (i < j)
          → Memᴰ (branch j) (branches_from graph edges class edge i (suc left))
      go rest (inl e) = Memᴰ.head (ap branch (sym e))
      go rest (inr less) = Memᴰ.tail (rest (omega (arith, less)) (omega (arith, high)))
