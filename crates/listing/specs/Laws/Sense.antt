-- What the definitions of Printed and of `crates/rounding` fall back on never occurs in what a partition call left: every block has a
-- region, and the lowest is the one found (`block-has`, `block-lowest`); every region is of a block below the count (`block-below`); no
-- region leads out of the graph (`delays-inside`, `targets-inside`); and no denominator is 0 (`wholes-some`).
use Rattle.std.specs.Prelude.{ℕ, zero, suc, ◌+◌, ◌≤◌, ◌<◌, ◌≡◌, refl, Bool, true, false, cond, eqb, length, get_or, take}
use Rattle.std.proofs.Math.Decide.{dec_lt}
use Rattle.std.proofs.Common.{arith, ◌∙◌, ap, eqb-true}
use mathlib.Core.List.{List, Memᴰ}
use Rattle.std.proofs.lemmas.Bool.{eqb-false}
use Rattle.partition.specs.Passed.{Finite, Branch}
use Rattle.partition.specs.Instances.{graph}
use Rattle.partition.specs.Laws.Left.{left-length, left-taken, left_below, left-delays, left-targets, left-wholes}
use Rattle.partition.specs.Left.{Left}
use Rattle.listing.specs.Printed.{lowest_from, lowest_of}

-- The lowest number from x on that has block c in the list; it is below `top`.
record Lowest (list : List ℕ) (c x top low : ℕ) : Type 0 where
  inside : low < top
  is : get_or list low 0 ≡ c
  none : (z : ℕ) → x ≤ z → z < low → get_or list z 0 ≡ c → ⊥

-- It is found where there is any.
lowest-found : (list : List ℕ) (c x more y : ℕ) → x ≤ y → y < x + more → get_or list y 0 ≡ c
    → Lowest list c x (x + more) (lowest_from list c x more)
lowest-found list c x zero y above below e = absurd (omega (arith, above, below))
lowest-found list c x (suc more) y above below e = go (eqb (get_or list x 0) c) refl (lowest-found list c (suc x) more y)
  where
    go : (t : Bool) → eqb (get_or list x 0) c ≡ t
        → (suc x ≤ y → y < suc x + more → get_or list y 0 ≡ c
        → Lowest list c (suc x) (suc x + more) (lowest_from list c (suc x) more))
        → Lowest list c x (x + suc more) (cond t x (lowest_from list c (suc x) more))
    go true t later =
        record {
          inside = omega arith;
          is = eqb-true (get_or list x 0) c t;
          none = λ z h k _. absurd (omega (arith, h, k));
        }
    go false t later =
        let other : get_or list x 0 ≡ c → ⊥ = eqb-false (get_or list x 0) c t in
        let past : x ≡ y → ⊥ = λ q. other (ap (λ (i : ℕ). get_or list i 0) q ∙ e) in
        let rest = later (omega (arith, above, past)) (omega (arith, below)) e in
        record {
          inside = omega (arith, rest.inside);
          is = rest.is;
          none = λ z h k q. step z h k q other rest.none (dec_lt x z);
        }
      where
        step : (z : ℕ) → x ≤ z → z < lowest_from list c (suc x) more → get_or list z 0 ≡ c → (get_or list x 0 ≡ c → ⊥)
            → ((z : ℕ) → suc x ≤ z → z < lowest_from list c (suc x) more → get_or list z 0 ≡ c → ⊥) → Dec (x < z) → ⊥
        step z h k q other rest (yes l) = rest z l k q
        step z h k q other rest (no l) =
            let same : x ≡ z = omega (arith, h, l) in
            other (ap (λ (i : ℕ). get_or list i 0) same ∙ q)

module _ {table : List ℕ} {cap n b k : ℕ} {entries list : List ℕ} (left : Left table cap n b k entries list) where
  -- The numbers that are printed (`.list-holds`: those of the last round), and the graph.
  abbrev L : List ℕ
  L = take n list

  abbrev F : Finite
  F = graph left.from.model left.from.found

  lowest : (c : ℕ) → c < b → Lowest L c 0 (0 + length L) (lowest_of L c)
  lowest c h =
      let (x, hx, is) = left-taken left c h in
      lowest-found L c 0 (length L) x (omega arith) (omega (arith, hx, left-length left)) is

  pub block-has : (c : ℕ) → c < b → (lowest_of L c < n) × (get_or L (lowest_of L c) 0 ≡ c)
  block-has c h = let low = lowest c h in (omega (arith, low.inside, left-length left), low.is)

  pub block-lowest : (c : ℕ) → c < b → (x : ℕ) → x < lowest_of L c → get_or L x 0 ≡ c → ⊥
  block-lowest c h x = (lowest c h).none x (omega arith)

  pub block-below : (x : ℕ) → x < n → get_or L x 0 < b
  block-below = left_below left

  pub delays-inside : (x y : ℕ) → x < n → Memᴰ y (F.delays x) → y < n
  delays-inside = left-delays left

  pub targets-inside : (x e : ℕ) → x < n → e < F.edges → F.available x e ≡ true → (t : Branch ℕ)
      → Memᴰ t (F.branches x e) → t.target < n
  targets-inside = left-targets left

  pub wholes-some : (x e : ℕ) → x < n → e < F.edges → F.available x e ≡ true → 0 < F.whole x e
  wholes-some = left-wholes left
