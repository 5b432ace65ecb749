-- All that is reached from an item is met within as many steps as there are items. Of n + 1 items below n two are equal, so a longer walk
-- repeats itself, and a shorter one ends at the same item. Walks by jumps meet the same names as walks by single delays.
use Prim.Native.Nat.{ℕ, zero, suc, ◌+◌, ◌-◌, ◌≤◌, ◌<◌}
use Rattle.std.proofs.Common.{arith, ◌∙◌, subst}
use Rattle.std.specs.Prelude.{◌≡◌, true, false, ◌⊎◌, ltb, eqb}
use Rattle.std.proofs.Math.Path.{refl, sym, ap}
use Rattle.std.proofs.Math.Bool.{cond}
use mathlib.Core.List.{List, [], ◌∷◌, Memᴰ}
use Rattle.std.proofs.Math.Logic.{inl, inr}
use borrow.Author.Tests.{lt-ltb, ltb-true, ltb-false, eq-eqb, eqb-true, eqb-false}
use Rattle.bisimulation.specs.Finite.{some_below}
use Rattle.bisimulation.proofs.Laws.Tests.{both, clash, some_below_lem, below-some}
use Rattle.graph.specs.Readers.{delay_of}
use Rattle.signatures.specs.Steps.{name_of}
use Rattle.signatures.specs.Signatures.{names_of}
use Rattle.signatures.specs.Structure.{chain_from, Reaches, here, onward}
use Rattle.signatures.specs.Named.{items_in, jump_of, Way, by-delay, past_end, passing, Skips}
use Rattle.signatures.specs.Laws.Signatures.{names_in, names-from}

-- ---- Of n + 1 numbers below n two are equal

-- Numbers of which none is the last, with n itself replaced by the last: so all are below n.
closed-up : (ℕ → ℕ) → ℕ → ℕ → ℕ
closed-up f n i = cond (eqb (f i) n) (f (suc n)) (f i)

module _ (n : ℕ) (f : ℕ → ℕ) (h : (i : ℕ) → i ≤ suc n → f i < suc n) (other : (i : ℕ) → i < suc n → f i ≡ f (suc n) → ⊥) where
  closed-small : (i : ℕ) → i ≤ n → closed-up f n i < n
  unfolding closed-up
  closed-small i less =
      elim (both (eqb (f i) n)) [
        | inl e ↦ rw e (
            let is : f i ≡ n = eqb-true (f i) n e in
            let not : f (suc n) ≡ n → ⊥ = λ l. other i (omega (arith, less)) (is ∙ sym l) in
            let most : f (suc n) < suc n = h (suc n) (omega arith) in
            omega (arith, not, most)
            )
        | inr e ↦ rw e (
            let not : f i ≡ n → ⊥ = eqb-false (f i) n e in
            let most : f i < suc n = h i (omega (arith, less)) in
            omega (arith, not, most)
            )
      ]

  closed_same : (i j : ℕ) → i ≤ n → j ≤ n → closed-up f n i ≡ closed-up f n j → f i ≡ f j
  unfolding closed-up
  closed_same i j hi hj = go (both (eqb (f i) n)) (both (eqb (f j) n))
    where
      go : (eqb (f i) n ≡ true) ⊎ (eqb (f i) n ≡ false) → (eqb (f j) n ≡ true) ⊎ (eqb (f j) n ≡ false)
          → cond (eqb (f i) n) (f (suc n)) (f i) ≡ cond (eqb (f j) n) (f (suc n)) (f j) → f i ≡ f j
      go (inl a) (inl b) = λ _. eqb-true (f i) n a ∙ sym (eqb-true (f j) n b)
      go (inl a) (inr b) = rw (a, b) (λ e. absurd (other j (omega (arith, hj)) (sym e)))
      go (inr a) (inl b) = rw (a, b) (λ e. absurd (other i (omega (arith, hi)) e))
      go (inr a) (inr b) = rw (a, b) (λ e. e)

pub two-same : (n : ℕ) (f : ℕ → ℕ) → ((i : ℕ) → i ≤ n → f i < n) → (i : ℕ) × (j : ℕ) × (i < j) × (j ≤ n) × (f i ≡ f j)
two-same zero f h = absurd (omega (arith, h 0 (omega arith)))
two-same (suc n) f h = go (two-same n) (both (some_below (suc n) (λ i. eqb (f i) (f (suc n)))))
  where
    go : ((g : ℕ → ℕ) → ((i : ℕ) → i ≤ n → g i < n) → (i : ℕ) × (j : ℕ) × (i < j) × (j ≤ n) × (g i ≡ g j))
        → (some_below (suc n) (λ i. eqb (f i) (f (suc n))) ≡ true) ⊎ (some_below (suc n) (λ i. eqb (f i) (f (suc n))) ≡ false)
        → (i : ℕ) × (j : ℕ) × (i < j) × (j ≤ suc n) × (f i ≡ f j)
    go rest (inl e) =
        let (i, less, is) = some_below_lem (suc n) (λ i. eqb (f i) (f (suc n))) e in
        (i, suc n, less, omega arith, eqb-true (f i) (f (suc n)) is)
    go rest (inr e) =
        let other : (i : ℕ) → i < suc n → f i ≡ f (suc n) → ⊥ =
        λ i less is. clash (below-some (suc n) (λ i. eqb (f i) (f (suc n))) i less (eq-eqb (f i) (f (suc n)) is)) e in
        let (i, j, less, most, same) = rest (closed-up f n) (closed-small n f h other) in
        (i, j, less, omega (arith, most), closed_same n f h other i j (omega (arith, less, most)) most same)

-- ---- A walk by steps

-- What stands after k steps.
after : (ℕ → ℕ) → (k x : ℕ) → ℕ
after next zero x = x
after next (suc k) x = after next k (next x)

module _ (next : ℕ → ℕ) where
  after_more : (a b c x : ℕ) → c ≡ a + b → after next c x ≡ after next b (after next a x)
  unfolding after
  after_more zero b c x e = let same : c ≡ b = omega (arith, e) in ap (λ (k : ℕ). after next k x) same
  after_more (suc a) b zero x e = absurd (omega (arith, e))
  after_more (suc a) b (suc c) x e = after_more a b c (next x) (omega (arith, e))

  module _ (n : ℕ) where
    reach-starts : {x y : ℕ} → Reaches next n x y → x < n
    reach-starts (here h) = h
    reach-starts (onward h r) = h

    reach-ends : {x y : ℕ} → Reaches next n x y → y < n
    reach-ends (here h) = h
    reach-ends (onward h r) = reach-ends r

    pub reach-then : {x y z : ℕ} → Reaches next n x y → Reaches next n y z → Reaches next n x z
    reach-then (here h) s = s
    reach-then (onward h r) s = onward h (reach-then r s)

    -- What is reached stands after some number of steps, with items all the way.
    reach-after : {x y : ℕ} → Reaches next n x y → (k : ℕ) × (after next k x ≡ y) × ((i : ℕ) → i ≤ k → after next i x < n)
    unfolding after
    reach-after {x} (here h) = (0, refl, λ i less. at i (omega (arith, less)))
      where
        at : (i : ℕ) → i ≡ 0 → after next i x < n
        at zero e = h
        at (suc i) e = absurd (omega (arith, e))
    reach-after {x} (onward h r) = let (k, is, within) = reach-after r in (suc k, is, at k within)
      where
        at : (k : ℕ) → ((i : ℕ) → i ≤ k → after next i (next x) < n) → (i : ℕ) → i ≤ suc k → after next i x < n
        at k within zero less = h
        at k within (suc i) less = within i (omega (arith, less))

    -- What stands after fewer than so many steps is in their list.
    after-in : (k steps x : ℕ) → k < steps → ((i : ℕ) → i ≤ k → after next i x < n) → Memᴰ (after next k x) (chain_from next n steps x)
    unfolding after
    after-in k zero x less within = absurd (omega (arith, less))
    after-in zero (suc steps) x less within = rw (lt-ltb x n (within 0 (omega arith))) (Memᴰ.head refl)
    after-in (suc k) (suc steps) x less within =
        rw (lt-ltb x n (within 0 (omega arith)))
        (Memᴰ.tail (after-in k steps (next x) (omega (arith, less)) (λ i most. within (suc i) (omega (arith, most)))))

    -- A walk of n steps or more comes twice to one item: leaving out what lies between, it is shorter.
    all_after : (fuel k x : ℕ) → k < fuel → ((i : ℕ) → i ≤ k → after next i x < n) → Memᴰ (after next k x) (chain_from next n n x)
    all_after zero k x less within = absurd (omega (arith, less))
    all_after (suc fuel) k x less within = go (all_after fuel) (both (ltb k n))
      where
        go : ((k x : ℕ) → k < fuel → ((i : ℕ) → i ≤ k → after next i x < n) → Memᴰ (after next k x) (chain_from next n n x))
            → (ltb k n ≡ true) ⊎ (ltb k n ≡ false) → Memᴰ (after next k x) (chain_from next n n x)
        go rest (inl e) = after-in k n x (ltb-true k n e) within
        go rest (inr e) =
            let long : n ≤ k = ltb-false k n e in
            let (i, j, before, most, same) = two-same n (λ s. after next s x) (λ s h. within s (omega (arith, h, long))) in
            let short : k - j + i < k = omega (arith, before, most, long) in
            let is : after next (k - j + i) x ≡ after next k x =
            after_more i (k - j) (k - j + i) x (omega arith) ∙ ap (after next (k - j)) same
            ∙ sym (after_more j (k - j) k x (omega (arith, most, long))) in
            subst (λ (y : ℕ). Memᴰ y (chain_from next n n x)) is
            (rest (k - j + i) x (omega (arith, short, less)) (λ s h. within s (omega (arith, h, short))))

    -- The list of n steps holds exactly what is reached.
    pub reach-in : {x y : ℕ} → Reaches next n x y → Memᴰ y (chain_from next n n x)
    reach-in {x} {y} r =
        let (k, is, within) = reach-after r in
        subst (λ (z : ℕ). Memᴰ z (chain_from next n n x)) is (all_after (suc k) k x (omega arith) within)

    pub reach-from : (steps : ℕ) {x y : ℕ} → Memᴰ y (chain_from next n steps x) → Reaches next n x y
    reach-from zero m = elim m [ ]
    reach-from (suc steps) {x} {y} m = go (reach-from steps {x = next x} {y = y}) (both (ltb x n)) m
      where
        go : (Memᴰ y (chain_from next n steps (next x)) → Reaches next n (next x) y) → (ltb x n ≡ true) ⊎ (ltb x n ≡ false)
            → Memᴰ y (cond (ltb x n) (x ∷ chain_from next n steps (next x)) []) → Reaches next n x y
        go rest (inr e) = rw e (λ m. elim m [ ])
        go rest (inl e) = rw e first
          where
            first : Memᴰ y (x ∷ chain_from next n steps (next x)) → Reaches next n x y
            first (Memᴰ.head is) = subst (λ (z : ℕ). Reaches next n x z) (sym is) (here (ltb-true x n e))
            first (Memᴰ.tail k) = onward (ltb-true x n e) (rest k)

-- ---- Jumps

-- A jump to what follows, and one to where an item of the same name that follows jumps.
module _ (graph names : List ℕ) (y to : ℕ) where
  pub way_next : to ≡ delay_of graph y → Way graph names (name_of names y) y to
  way_next e = by-delay refl e

  pub way-further : delay_of graph y < items_in names → name_of names (delay_of graph y) ≡ name_of names y
      → Way graph names (name_of names (delay_of graph y)) (delay_of graph y) to → Way graph names (name_of names y) y to
  way-further less same w = passing refl less (subst (λ (v : ℕ). Way graph names v (delay_of graph y) to) same w)

module _ (graph names : List ℕ) (skips : Skips graph names) where
  -- What a jump leads to is reached by delays.
  way-reached : {name y to z : ℕ} → Way graph names name y to → y < items_in names → to < items_in names
      → Reaches (delay_of graph) (items_in names) to z → Reaches (delay_of graph) (items_in names) y z
  way-reached {z = z} (by-delay is e) hy hto r = onward hy (subst (λ (k : ℕ). Reaches (delay_of graph) (items_in names) k z) e r)
  way-reached (past_end is last past) hy hto r = absurd (omega (arith, hto, past))
  way-reached (passing is less w) hy hto r = onward hy (way-reached w less hto r)

  jump-reached : {x y : ℕ} → Reaches (jump_of names) (items_in names) x y → Reaches (delay_of graph) (items_in names) x y
  jump-reached (here h) = here h
  jump-reached {x} (onward h r) = way-reached (skips x h) h (reach-starts (jump_of names) (items_in names) r) (jump-reached r)

  way-named : {name y to : ℕ} → Way graph names name y to → name_of names y ≡ name
  way-named (by-delay is e) = is
  way-named (past_end is last past) = is
  way-named (passing is less w) = is

  -- A walk by delays from z, on the way from w to where w jumps: the name of what it comes to is met by jumps.
  delay-met : {x w z y : ℕ} → Reaches (jump_of names) (items_in names) x w → Way graph names (name_of names w) z (jump_of names w)
      → Reaches (delay_of graph) (items_in names) z y
      → (t : ℕ) × Reaches (jump_of names) (items_in names) x t × (name_of names t ≡ name_of names y)
  delay-met {w = w} met way (here h) = (w, met, sym (way-named way))
  delay-met {x} {w} {z} {y} met (by-delay is e) (onward h r) =
      let less : jump_of names w < items_in names =
      subst (λ (k : ℕ). k < items_in names) (sym e) (reach-starts (delay_of graph) (items_in names) r) in
      delay-met {w = jump_of names w} {z = delay_of graph z}
      (reach-then (jump_of names) (items_in names) met (onward (reach-ends (jump_of names) (items_in names) met) (here less)))
      (subst (λ (k : ℕ). Way graph names (name_of names (jump_of names w)) k (jump_of names (jump_of names w))) e
      (skips (jump_of names w) less))
      r
  delay-met met (past_end is last past) (onward h r) = absurd (omega (arith, reach-starts (delay_of graph) (items_in names) r, last))
  delay-met met (passing is less way) (onward h r) = delay-met met way r

  pub skip-to : (x u : ℕ) → Memᴰ u (names_of names (chain_from (jump_of names) (items_in names) (items_in names) x))
      → Memᴰ u (names_of names (chain_from (delay_of graph) (items_in names) (items_in names) x))
  skip-to x u m =
      let (y, k, is) = names-from names (chain_from (jump_of names) (items_in names) (items_in names) x) u m in
      subst (λ (v : ℕ). Memᴰ v (names_of names (chain_from (delay_of graph) (items_in names) (items_in names) x))) (sym is)
      (names_in names (chain_from (delay_of graph) (items_in names) (items_in names) x) y
      (reach-in (delay_of graph) (items_in names) (jump-reached (reach-from (jump_of names) (items_in names) (items_in names) k))))

  pub skip-from : (x u : ℕ) → Memᴰ u (names_of names (chain_from (delay_of graph) (items_in names) (items_in names) x))
      → Memᴰ u (names_of names (chain_from (jump_of names) (items_in names) (items_in names) x))
  skip-from x u m =
      let (y, k, is) = names-from names (chain_from (delay_of graph) (items_in names) (items_in names) x) u m in
      let r = reach-from (delay_of graph) (items_in names) (items_in names) k in
      let h = reach-starts (delay_of graph) (items_in names) r in
      let (t, met, same) = delay-met (here h) (skips x h) r in
      subst (λ (v : ℕ). Memᴰ v (names_of names (chain_from (jump_of names) (items_in names) (items_in names) x))) (same ∙ sym is)
      (names_in names (chain_from (jump_of names) (items_in names) (items_in names) x) t (reach-in (jump_of names) (items_in names) met))
