-- Chains. A head and links hold, bucket by bucket, the members from the last one down: each is the latest member below a number.
use Rattle.std.specs.Prelude.{ℕ, zero, suc, ◌≤◌, ◌<◌, ◌≡◌, refl, Bool, true, false, ◌⊎◌, eqb, ltb}
use Rattle.std.proofs.Common.{arith, eq-or-lt_of_le, sym, ◌∙◌, subst, inl, inr, ⊎_elim, eqb-true, ne_eqb, ltb-true, ltb-false}
use Rattle.std.proofs.Math.Path.{ap}
use Rattle.std.proofs.Math.Bool.{cond}
use Rattle.std.proofs.lemmas.Bool.{false≢true, eqb-false}
use Rattle.graph.specs.Columns.{nothing}

-- The last number below n that passes, or nothing.
unfoldable pub latest : (ℕ → Bool) → ℕ → ℕ
latest p zero = nothing
latest p (suc n) = cond (p n) n (latest p n)

pub both : (b : Bool) → (b ≡ true) ⊎ (b ≡ false)
both true = inl refl
both false = inr refl

pub not-both : (b : Bool) → b ≡ true → b ≡ false → ⊥
not-both b e f = false≢true (sym f ∙ e)

pub decide : (a b : ℕ) → (a ≡ b) ⊎ (a ≡ b → ⊥)
decide a b = elim (both (eqb a b)) [ inl e ↦ inl (eqb-true a b e) | inr e ↦ inr (eqb-false a b e) ]

pub cases : (a b : ℕ) → (a < b) ⊎ ((a ≡ b) ⊎ (b < a))
cases a b =
    elim (both (ltb a b)) [
      | inl e ↦ inl (ltb-true a b e)
      | inr e ↦ inr (⊎_elim (λ (k : b ≡ a). inl (sym k)) (λ (k : b < a). inr k) (eq-or-lt_of_le (ltb-false a b e)))
    ]

pub latest-none : (p : ℕ → Bool) → latest p 0 ≡ nothing
unfolding latest
latest-none p = refl

module _ (p : ℕ → Bool) (n : ℕ) where
  pub latest-here : p n ≡ true → latest p (suc n) ≡ n
  unfolding latest
  latest-here e = ap (λ (b : Bool). cond b n (latest p n)) e

  pub latest-past : p n ≡ false → latest p (suc n) ≡ latest p n
  unfolding latest
  latest-past e = ap (λ (b : Bool). cond b n (latest p n)) e

-- It is nothing, or a number below n that passes.
pub latest-ways : (p : ℕ → Bool) (n : ℕ) → (latest p n ≡ nothing) ⊎ ((latest p n < n) × (p (latest p n) ≡ true))
latest-ways p zero = inl (latest-none p)
latest-ways p (suc n) = go (latest-ways p n) (both (p n))
  where
    go : (latest p n ≡ nothing) ⊎ ((latest p n < n) × (p (latest p n) ≡ true)) → (p n ≡ true) ⊎ (p n ≡ false)
        → (latest p (suc n) ≡ nothing) ⊎ ((latest p (suc n) < suc n) × (p (latest p (suc n)) ≡ true))
    go rest (inl e) = inr (rw (latest-here p n e) (omega arith, e))
    go (inl none) (inr e) = inl (latest-past p n e ∙ none)
    go (inr some) (inr e) = inr (rw (latest-past p n e) (omega (arith, some.0), some.1))

-- Predicates that agree below n have the same.
pub latest-same : (p q : ℕ → Bool) (n : ℕ) → ((y : ℕ) → y < n → p y ≡ q y) → latest p n ≡ latest q n
unfolding latest
latest-same p q zero same = refl
latest-same p q (suc n) same = rw (same n (omega arith), latest-same p q n (λ y h. same y (omega arith)))

-- None passes: nothing.
pub latest-absent : (p : ℕ → Bool) (n : ℕ) → ((y : ℕ) → y < n → p y ≡ false) → latest p n ≡ nothing
latest-absent p zero none = latest-none p
latest-absent p (suc n) none = latest-past p n (none n (omega arith)) ∙ latest-absent p n (λ y h. none y (omega arith))

-- One passes and no other does: that one.
pub latest-only : (p : ℕ → Bool) (n x : ℕ) → x < n → p x ≡ true → ((y : ℕ) → y < n → p y ≡ true → y ≡ x) → latest p n ≡ x
latest-only p zero x less is one = absurd (omega arith)
latest-only p (suc n) x less is one =
    elim (both (p n)) [
      | inl e ↦ latest-here p n e ∙ one n (omega arith) e
      | inr e ↦ latest-past p n e ∙ latest-only p n x (below e (eq-or-lt_of_le (most less))) is (λ y h. one y (omega arith))
    ]
  where
    most : x < suc n → x ≤ n
    most h = omega arith

    below : p n ≡ false → (x ≡ n) ⊎ (x < n) → x < n
    below e (inr h) = h
    below e (inl same) = absurd (not-both (p n) (subst (λ (k : ℕ). p k ≡ true) same is) e)

-- A number that is the latest to pass, though none should: none below n passes where it is nothing.
pub latest-misses : (p : ℕ → Bool) (n : ℕ) → n ≤ nothing → latest p n ≡ nothing → (y : ℕ) → y < n → p y ≡ false
latest-misses p zero few none y h = absurd (omega arith)
latest-misses p (suc n) few none y h =
    elim (both (p n)) [
      | inl e ↦ absurd (omega (arith, sym (latest-here p n e) ∙ none, few))
      | inr e ↦ go e (latest-misses p n (omega arith) (sym (latest-past p n e) ∙ none) y) (eq-or-lt_of_le (most h))
    ]
  where
    most : y < suc n → y ≤ n
    most k = omega arith

    go : p n ≡ false → (y < n → p y ≡ false) → (y ≡ n) ⊎ (y < n) → p y ≡ false
    go e rest (inl same) = subst (λ (k : ℕ). p k ≡ false) (sym same) e
    go e rest (inr less) = rest less

-- The latest that passes q is found by way of those that pass p, if every number that passes q passes p: the latest of these passes q, or
-- the search goes on below it.
pub latest-through : (p q : ℕ → Bool) (k : ℕ) → k ≤ nothing → ((y : ℕ) → y < k → q y ≡ true → p y ≡ true)
    → latest q k ≡ cond (eqb (latest p k) nothing) nothing (cond (q (latest p k)) (latest p k) (latest q (latest p k)))
unfolding latest
latest-through p q zero few some = refl
latest-through p q (suc n) few some =
    elim (both (p n)) [
      | inl e ↦ rw (e, ne_eqb n nothing (λ is. absurd (omega (arith, is, few)))) refl
      | inr e ↦ rw (e, off e (both (q n))) (latest-through p q n (omega arith) (λ y h. some y (omega arith)))
    ]
  where
    off : p n ≡ false → (q n ≡ true) ⊎ (q n ≡ false) → q n ≡ false
    off e (inl t) = absurd (not-both (p n) (some n (omega arith) t) e)
    off e (inr f) = f

-- Every number that passes is at most the latest.
pub latest-covers : (p : ℕ → Bool) (n t : ℕ) → n ≤ nothing → t < n → p t ≡ true → t ≤ latest p n
latest-covers p zero t few h is = absurd (omega arith)
latest-covers p (suc n) t few h is =
    elim (both (p n)) [
      | inl e ↦ let here = latest-here p n e in omega (arith, here, h)
      | inr e ↦ let past = latest-past p n e in
          let less : t < n = below e (eq-or-lt_of_le (most h)) in
          let rest = latest-covers p n t (omega arith) less is in
          omega (arith, past, rest)
    ]
  where
    most : t < suc n → t ≤ n
    most k = omega arith

    below : p n ≡ false → (t ≡ n) ⊎ (t < n) → t < n
    below e (inr k) = k
    below e (inl same) = absurd (not-both (p n) (subst (λ (k : ℕ). p k ≡ true) same is) e)
