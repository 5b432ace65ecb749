-- Laws on the bound M of a model (document 01, "Regions"): it is at least each constant of the table, it is one of them or 0,
-- and it is at most 15 in a model that was read. With them the law that each atom of such a model has a verdict.
use Rattle.std.specs.Prelude.{None, ℕ, zero, suc, ◌≤◌, max, ◌⊎◌, ◌≡◌, refl, Bool, not, ◌&&◌}
use native.Mathlib.Omega.{arith}
use Rattle.std.proofs.Math.Nat.{max-eq_left, max-eq_right, max-le}
use Rattle.std.proofs.Math.Decide.{dec_le}
use Rattle.std.proofs.Math.Logic.{inl, inr}
use Rattle.std.proofs.Common.{sym, ◌∙◌, ap, subst}
use mathlib.Core.List.{List, [], ◌∷◌, Memᴰ}
use Rattle.table.specs.Format.{max_constant, last_bound, last_comparison}
use Rattle.table.specs.Model.{Model, Edge}
use Rattle.table.specs.Sound.{All, also, SoundInvariant, SoundGuard, Sound}
use Rattle.table.specs.declared.model.Guard.{Guard}
use Rattle.table.specs.declared.model.Invariant.{Invariant}
use Rattle.clocks.specs.Atoms.{atom, verdict, below, at_most}
use Rattle.clocks.specs.Cells.{Cell}
use Rattle.clocks.specs.Packed.{cell_of, clock_at}
use Rattle.regions.specs.Graph.{largest_of, constant_of, guard_constant, edge_constant, largest_constant}
use Rattle.clocks.specs.declared.region.Bounds.{Bounds}
use Rattle.clocks.specs.declared.region.Region.{Region}

-- What all items of a list are, each item of it is.
pub all-at : {A : Type 0} {P : A → Type 0} {x : A} (l : List A) → All P l → Memᴰ x l → P x
all-at [] _ n = elim n [ ]
all-at {P} (y ∷ l) (also h t) (Memᴰ.head e) = subst P (sym e) h
all-at (y ∷ l) (also h t) (Memᴰ.tail n) = all-at l t n

-- ---- The largest of the numbers of a list

-- The larger of two numbers is one of them.
larger-is : (a b : ℕ) → (max a b ≡ a) ⊎ (max a b ≡ b)
larger-is a b = go (dec_le a b)
  where
    go : Dec (a ≤ b) → (max a b ≡ a) ⊎ (max a b ≡ b)
    go (yes h) = inr (max-eq_right h)
    go (no h) = inl (max-eq_left (omega arith))

module _ {A : Type 0} (f : A → ℕ) where
  -- The largest is at least each of the numbers.
  largest-above : (x : A) (l : List A) → Memᴰ x l → f x ≤ largest_of f l
  largest-above x [] n = elim n [ ]
  largest-above x (y ∷ l) (Memᴰ.head e) = let s : f x ≡ f y = ap f e in omega arith
  largest-above x (y ∷ l) (Memᴰ.tail n) = let s : f x ≤ largest_of f l = largest-above x l n in omega arith

  -- The largest is at most what each of them is at most.
  largest-within : (b : ℕ) (l : List A) → ((x : A) → Memᴰ x l → f x ≤ b) → largest_of f l ≤ b
  largest-within b [] h = omega arith
  largest-within b (y ∷ l) h =
      let s : f y ≤ b = h y (Memᴰ.head refl) in
      let t : largest_of f l ≤ b = largest-within b l (λ x n. h x (Memᴰ.tail n)) in
      omega arith

  -- The largest is 0, or one of them.
  largest-named : (l : List A) → (largest_of f l ≡ 0) ⊎ ((x : A) × Memᴰ x l × (largest_of f l ≡ f x))
  largest-named [] = inl refl
  largest-named (y ∷ l) = go (larger-is (f y) (largest_of f l)) (largest-named l)
    where
      go : (max (f y) (largest_of f l) ≡ f y) ⊎ (max (f y) (largest_of f l) ≡ largest_of f l)
          → (largest_of f l ≡ 0) ⊎ ((x : A) × Memᴰ x l × (largest_of f l ≡ f x))
          → (max (f y) (largest_of f l) ≡ 0) ⊎ ((x : A) × Memᴰ x (y ∷ l) × (max (f y) (largest_of f l) ≡ f x))
      go (inl h) t = inr (y, Memᴰ.head refl, h)
      go (inr h) (inl t) = inl (h ∙ t)
      go (inr h) (inr t) = inr (t.0, Memᴰ.tail t.1, h ∙ t.2)

-- ---- The bound of a model

module _ (m : Model) where
  -- M is at least the constant of each invariant atom.
  pub invariant-bound : (a : Invariant) → Memᴰ a m.invariants → a.constant ≤ largest_constant m
  unfolding largest_constant
  invariant-bound a n =
      let s : a.constant ≤ largest_of constant_of m.invariants = largest-above constant_of a m.invariants n in omega arith

  -- M is at least the constant of each guard atom of each edge.
  pub guard-bound : (e : Edge) (g : Guard) → Memᴰ e m.edges → Memᴰ g e.guards → g.constant ≤ largest_constant m
  unfolding largest_constant
  guard-bound e g n k =
      let s : g.constant ≤ edge_constant e = largest-above guard_constant g e.guards k in
      let t : edge_constant e ≤ largest_of edge_constant m.edges = largest-above edge_constant e m.edges n in
      omega arith

  -- What is sound in a model that was read, at one of its atoms.
  pub sound-guard : Sound m → (e : Edge) (g : Guard) → Memᴰ e m.edges → Memᴰ g e.guards → SoundGuard m.clocks g
  sound-guard s e g n k = all-at e.guards (all-at m.edges s.edges n).guards k

  pub sound-invariant : Sound m → (a : Invariant) → Memᴰ a m.invariants → SoundInvariant m.clocks m.locations a
  sound-invariant s a n = all-at m.invariants s.invariants n

  invariants-small : Sound m → largest_of constant_of m.invariants ≤ max_constant
  invariants-small s = largest-within constant_of max_constant m.invariants (λ a n. (sound-invariant s a n).constant)

  edge-small : Sound m → (e : Edge) → Memᴰ e m.edges → edge_constant e ≤ max_constant
  edge-small s e n = largest-within guard_constant max_constant e.guards (λ g k. (sound-guard s e g n k).constant)

  edges-small : Sound m → largest_of edge_constant m.edges ≤ max_constant
  edges-small s = largest-within edge_constant max_constant m.edges (edge-small s)

  -- M is at most 15 in a model that was read.
  pub constants-small : Sound m → largest_constant m ≤ max_constant
  unfolding largest_constant
  constants-small s = max-le (invariants-small s) (edges-small s)

  -- M is 0, or the constant of an invariant atom, or the constant of a guard atom of an edge.
  pub bound-named : (largest_constant m ≡ 0)
      ⊎ (((a : Invariant) × Memᴰ a m.invariants × (largest_constant m ≡ a.constant))
      ⊎ ((e : Edge) × (g : Guard) × Memᴰ e m.edges × Memᴰ g e.guards × (largest_constant m ≡ g.constant)))
  unfolding largest_constant
  bound-named =
      elim (larger-is (largest_of constant_of m.invariants) (largest_of edge_constant m.edges)) [
        | inl h ↦ elim (largest-named constant_of m.invariants) [
          | inl z ↦ inl (h ∙ z)
          | inr a ↦ inr (inl (a.0, a.1, h ∙ a.2))
        ]
        | inr h ↦ elim (largest-named edge_constant m.edges) [
          | inl z ↦ inl (h ∙ z)
          | inr e ↦ elim (largest-named guard_constant e.0.guards) [
            | inl z ↦ inl (h ∙ e.2 ∙ z)
            | inr g ↦ inr (inr (e.0, g.0, e.1, g.1, h ∙ e.2 ∙ g.2))
          ]
        ]
      ]

-- ---- Atoms have verdicts

verdict-known : (b : Bool) → verdict b ≡ None → ⊥
verdict-known b e = let z : ◌≡◌ {A = ℕ} 0 1 = cc in omega arith

-- The numbers up to 4 are comparisons.
pub atom-known : (comparison k : ℕ) (c : Cell) → comparison ≤ last_comparison → atom comparison k c ≡ None → ⊥
unfolding atom
atom-known zero k c h e = verdict-known (below k c) e
atom-known (suc zero) k c h e = verdict-known (at_most k c) e
atom-known (suc (suc zero)) k c h e = verdict-known (not (at_most k c)) e
atom-known (suc (suc (suc zero))) k c h e = verdict-known (not (below k c)) e
atom-known (suc (suc (suc (suc zero)))) k c h e = verdict-known (at_most k c && not (below k c)) e
atom-known (suc (suc (suc (suc (suc n))))) k c h e = omega arith

-- The test of an atom of a model that was read has a verdict.
module _ (bounds : Bounds) (r : Region) (m : Model) (s : Sound m) where
  pub guard-known : (e : Edge) (g : Guard) → Memᴰ e m.edges → Memᴰ g e.guards
      → atom g.comparison g.constant (cell_of (clock_at bounds r g.clock)) ≡ None → ⊥
  guard-known e g n k =
      atom-known g.comparison g.constant (cell_of (clock_at bounds r g.clock)) (sound-guard m s e g n k).comparison

  pub invariant-known : (a : Invariant) → Memᴰ a m.invariants
      → atom a.comparison a.constant (cell_of (clock_at bounds r a.clock)) ≡ None → ⊥
  invariant-known a n =
      let h : a.comparison ≤ last_bound = (sound-invariant m s a n).comparison in
      atom-known a.comparison a.constant (cell_of (clock_at bounds r a.clock)) (omega arith)
