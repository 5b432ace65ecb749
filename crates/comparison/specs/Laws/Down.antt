-- Loops that go over the available edges of an item from the last down: what they keep, one law for each step.
use Prim.Native.Nat.{ℕ, zero, suc, ◌+◌, ◌-◌, ◌≤◌, ◌<◌}
use native.Mathlib.Omega.{arith}
use Rattle.std.specs.Prelude.{◌≡◌, Bool, true, false, ltb}
use Rattle.std.proofs.Math.Path.{refl, ap}
use Rattle.std.proofs.Common.{sym, ◌∙◌, subst, inl, inr, ltb-true, ltb-false}
use Rattle.bisimulation.specs.Finite.{all_below, some_below}
use Rattle.bisimulation.proofs.Laws.Tests.{both, clash, fails, same?, all-below, some_below_lem}
use Rattle.comparison.specs.Held.{open_below}
use Rattle.comparison.specs.Keys.{sum_below}
use Rattle.comparison.specs.Laws.Open.{open-yes, open_no, open_at, sum-open}

-- The loop began at k and has come to e: the number before e passes, and those from e on that pass have a property.
pub record Down (p : ℕ → Bool) (P : ℕ → Type 0) (k e : ℕ) : Type 0 where
  pub at : 0 < e → p (e - 1) ≡ true
  pub past : (g : ℕ) → e ≤ g → g < k → p g ≡ true → P g

-- The same, where what the numbers from e on add was summed.
pub record SumDown (p : ℕ → Bool) (f : ℕ → ℕ) (k e total : ℕ) : Type 0 where
  pub at : 0 < e → p (e - 1) ≡ true
  pub same : sum_below k f ≡ total + sum_below e f

module _ (p : ℕ → Bool) where
  -- None passes between the number that is told and the one that was asked at.
  pub open-past : (e g : ℕ) → open_below p e ≤ g → g < e → p g ≡ false
  open-past zero g h k = absurd (omega arith)
  open-past (suc e) g h k =
      elim (both (p e)) [
        | inl t ↦ absurd (omega (arith, h, k, open-yes p e t))
        | inr n ↦
            elim (same? g e) [
              | inl s ↦ ap p s ∙ n
              | inr o ↦ open-past e g (omega (arith, h, open_no p e n)) (omega (arith, k, o))
            ]
      ]

  open-before : (s e : ℕ) → e ≡ open_below p s → 0 < e → p (e - 1) ≡ true
  open-before s e told h = open_at p s (e - 1) (omega (arith, told, h))

  -- Tests over all numbers below k, where those that do not pass make no difference.
  pub none_open : (q : ℕ → Bool) (k : ℕ) → ((g : ℕ) → p g ≡ false → q g ≡ false)
      → ((g : ℕ) → g < k → p g ≡ true → q g ≡ false) → some_below k q ≡ false
  none_open q k free none =
      fails (some_below k q)
      (λ t.
      let (g, h, u) = some_below_lem k q t in
      elim (both (p g)) [ inl t ↦ clash u (none g h t) | inr n ↦ clash u (free g n) ])

  pub each-open : (q : ℕ → Bool) (k : ℕ) → ((g : ℕ) → p g ≡ false → q g ≡ true)
      → ((g : ℕ) → g < k → p g ≡ true → q g ≡ true) → all_below k q ≡ true
  each-open q k free all =
      (all-below k q).1 (λ g h. elim (both (p g)) [ inl t ↦ all g h t | inr n ↦ free g n ])

  -- ---- Properties

  module _ (P : ℕ → Type 0) where
    pub down-first : (k e : ℕ) → e ≡ open_below p k → Down p P k e
    down-first k e told =
        record {
          at = open-before k e told;
          past = λ g h b t. absurd (clash t (open-past k g (omega (arith, told, h)) b));
        }

    pub down-on : (k e e' : ℕ) → 0 < e → Down p P k e → P (e - 1) → e' ≡ open_below p (e - 1) → Down p P k e'
    down-on k e e' h down here told =
        record {
          at = open-before (e - 1) e' told;
          past =
              λ g a b t.
              elim (both (ltb g (e - 1))) [
                | inl l ↦ absurd (clash t (open-past (e - 1) g (omega (arith, told, a)) (ltb-true g (e - 1) l)))
                | inr m ↦
                    elim (same? g (e - 1)) [
                      | inl s ↦ subst P (sym s) here
                      | inr o ↦ down.past g (omega (arith, ltb-false g (e - 1) m, o)) b t
                    ]
              ];
        }

    pub down-over : (k e : ℕ) → e ≤ 0 → Down p P k e → (g : ℕ) → g < k → p g ≡ true → P g
    down-over k e h down g b t = down.past g (omega arith) b t

  -- ---- Sums

  sum-last : (f : ℕ → ℕ) (e : ℕ) → 0 < e → sum_below e f ≡ sum_below (e - 1) f + f (e - 1)
  unfolding sum_below
  sum-last f zero h = absurd (omega arith)
  sum-last f (suc e) h = let less : suc e - 1 ≡ e = omega arith in rw less refl

  module _ (f : ℕ → ℕ) (free : (g : ℕ) → p g ≡ false → f g ≡ 0) where
    open-sum : (s e : ℕ) → e ≡ open_below p s → sum_below s f ≡ sum_below e f
    open-sum s e told = sum-open p f free s ∙ ap (λ (m : ℕ). sum_below m f) (sym told)

    pub sums_first : (k e : ℕ) → e ≡ open_below p k → SumDown p f k e 0
    sums_first k e told =
        record {
          at = open-before k e told;
          same = let same = open-sum k e told in omega arith;
        }

    pub sums_on : (k e e' total w : ℕ) → 0 < e → SumDown p f k e total → w ≡ f (e - 1) → e' ≡ open_below p (e - 1)
        → SumDown p f k e' (total + w)
    sums_on k e e' total w h down added told =
        record {
          at = open-before (e - 1) e' told;
          same = let last = sum-last f e h in let same = open-sum (e - 1) e' told in omega (arith, down.same);
        }

    pub sums-over : (k e total : ℕ) → e ≤ 0 → SumDown p f k e total → total ≡ sum_below k f
    unfolding sum_below
    sums-over k e total h down =
        let none : e ≡ 0 = omega arith in
        let nothing : sum_below e f ≡ 0 = ap (λ (m : ℕ). sum_below m f) none in
        omega (arith, down.same)
