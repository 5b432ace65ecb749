-- Shares are rounded as document 02, Job 7, has it: `ten_thousandths` is `Rounded`, no other number is, and an exact half goes to the
-- even one. Then how large the number can be, and what the code goes by.
use Rattle.std.specs.Prelude.{ℕ, zero, suc, ◌+◌, ◌-◌, ◌*◌, ◌/◌, ◌%◌, ◌≤◌, ◌<◌, ◌≡◌, Bool, ◌↔◌, eqb}
use Rattle.std.proofs.Math.Decide.{dec_lt}
use Rattle.std.proofs.Common.{mul-le-mul_right, suc-mul, add-mul, mul_assoc, div-add-mod', sym, ◌∙◌, subst}
use Rattle.std.proofs.Math.Nat.{mod-lt, div-le_self}
use native.Mathlib.Omega.{arith}
use Rattle.std.proofs.Math.Path.{refl}
use Rattle.std.proofs.Math.Bool.{true, false, cond}
use Rattle.std.proofs.Math.Dec.{ltb}
use borrow.Author.Tests.{eq-eqb, ne_eqb, ltb-true, ltb-false}
use Rattle.rounding.specs.Rounding.{distance, Rounded, twice, to_even, ten_thousandths}

-- ---- What is nearest

-- In ten-thousandths the share weight / d is `down` and remainder/d.
module _ (weight d down remainder : ℕ) (split : down * d + remainder ≡ 10000 * weight) (rest : remainder < d) where
  at-down : distance weight d down ≡ remainder
  at-down = omega (arith, split)

  at_up : distance weight d (suc down) ≡ d - remainder
  at_up = omega (arith, split, rest, suc-mul down d)

  -- How far off a number is at least: one up to `down`, and one above it.
  off-below : (s : ℕ) → s ≤ down → remainder ≤ distance weight d s
  off-below s h = omega (arith, split, mul-le-mul_right d h)

  off-above : (s : ℕ) → down < s → d - remainder ≤ distance weight d s
  off-above s h = omega (arith, split, rest, suc-mul down d, mul-le-mul_right d h)

  -- And one that is neither `down` nor the next.
  far-below : (s : ℕ) → s < down → d + remainder ≤ distance weight d s
  far-below s h = omega (arith, split, suc-mul s d, mul-le-mul_right d h)

  far-above : (s : ℕ) → suc down < s → d + (d - remainder) ≤ distance weight d s
  far-above s h = omega (arith, split, rest, suc-mul down d, suc-mul (suc down) d, mul-le-mul_right d h)

  near_down : 2 * remainder ≤ d → (s : ℕ) → distance weight d down ≤ distance weight d s
  near_down h s = go (dec_lt down s)
    where
      go : Dec (down < s) → distance weight d down ≤ distance weight d s
      go (yes l) = omega (arith, at-down, off-above s l, h)
      go (no l) = omega (arith, at-down, off-below s (omega (arith, l)))

  near_up : d ≤ 2 * remainder → (s : ℕ) → distance weight d (suc down) ≤ distance weight d s
  near_up h s = go (dec_lt down s)
    where
      go : Dec (down < s) → distance weight d (suc down) ≤ distance weight d s
      go (yes l) = omega (arith, at_up, off-above s l)
      go (no l) = omega (arith, at_up, off-below s (omega (arith, l)), h)

  -- The remainder is less than a half, or more: no other number is as near.
  rounded-down : 2 * remainder < d → Rounded weight d down
  rounded-down h = record { nearest = near_down (omega (arith, h)); even = λ s other same. absurd (go s other same (dec_lt down s)) }
    where
      go : (s : ℕ) → ¬ (s ≡ down) → distance weight d s ≡ distance weight d down → Dec (down < s) → ⊥
      go s other same (yes l) = omega (arith, at-down, off-above s l, h, same)
      go s other same (no l) = omega (arith, at-down, far-below s (omega (arith, l, other)), h, same, rest)

  rounded-up : d < 2 * remainder → Rounded weight d (suc down)
  rounded-up h = record { nearest = near_up (omega (arith, h)); even = λ s other same. absurd (go s other same (dec_lt down s)) }
    where
      go : (s : ℕ) → ¬ (s ≡ suc down) → distance weight d s ≡ distance weight d (suc down) → Dec (down < s) → ⊥
      go s other same (yes l) = omega (arith, at_up, far-above s (omega (arith, l, other)), same, rest)
      go s other same (no l) = omega (arith, at_up, off-below s (omega (arith, l)), h, same)

  -- It is exactly a half: of the two that are equally near, the even one.
  rounded-half : 2 * remainder ≡ d → Rounded weight d (to_even down)
  rounded-half h = go (down % 2) refl (mod-lt down {m = 2} (omega arith))
    where
      go : (odd : ℕ) → down % 2 ≡ odd → odd < 2 → Rounded weight d (to_even down)
      go zero is few =
          let same : down ≡ to_even down = omega (arith, is) in
          subst (λ (t : ℕ). Rounded weight d t) same (record { nearest = near_down (omega (arith, h)); even = λ s other tie. is })
      go (suc zero) is few =
          let same : suc down ≡ to_even down = omega (arith, is) in
          let even : suc down % 2 ≡ 0 = omega (arith, is) in
          subst (λ (t : ℕ). Rounded weight d t) same (record { nearest = near_up (omega (arith, h)); even = λ s other tie. even })
      go (suc (suc odd)) is few = absurd (omega (arith, few))

-- ---- There is one

module _ (weight d : ℕ) (some : 0 < d) where
  -- Of two equally near numbers with another between them, neither is nearest.
  nearer-between : (s t : ℕ) → suc s < t → distance weight d s ≡ distance weight d t → distance weight d (suc s) < distance weight d s
  nearer-between s t h same = omega (arith, same, some, suc-mul s d, suc-mul (suc s) d, mul-le-mul_right d h)

  not-below : (s t : ℕ) → Rounded weight d s → Rounded weight d t → s < t → ⊥
  not-below s t a b h =
      let same : distance weight d s ≡ distance weight d t = omega (arith, a.nearest t, b.nearest s) in
      let even : s % 2 ≡ 0 = a.even t (λ e. omega (arith, e, h)) (sym same) in
      let even' : t % 2 ≡ 0 = b.even s (λ e. omega (arith, e, h)) same in
      let parted : suc s < t = omega (arith, even, even', h) in
      omega (arith, nearer-between s t parted same, a.nearest (suc s))

  pub rounded-one : (s t : ℕ) → Rounded weight d s → Rounded weight d t → s ≡ t
  rounded-one s t a b = go (dec_lt s t) (dec_lt t s)
    where
      go : Dec (s < t) → Dec (t < s) → s ≡ t
      go (yes h) k = absurd (not-below s t a b h)
      go (no h) (yes k) = absurd (not-below t s b a k)
      go (no h) (no k) = omega (arith, h, k)

-- ---- The number that is printed

module _ (weight denominator : ℕ) where
  abbrev down : ℕ
  down = 10000 * weight / denominator

  abbrev remainder : ℕ
  remainder = 10000 * weight % denominator

  split : down * denominator + remainder ≡ 10000 * weight
  split = div-add-mod' (10000 * weight) denominator

  rest : 0 < denominator → remainder < denominator
  rest = mod-lt (10000 * weight)

  pub rounded : 0 < denominator → Rounded weight denominator (ten_thousandths weight denominator)
  unfolding ten_thousandths
  rounded some =
      rw (ne_eqb denominator 0 (λ e. omega (arith, e, some)))
      (go (ltb (twice remainder) denominator) refl (ltb denominator (twice remainder)) refl)
    where
      go : (less : Bool) → ltb (twice remainder) denominator ≡ less → (more : Bool) → ltb denominator (twice remainder) ≡ more
          → Rounded weight denominator (cond less down (cond more (suc down) (to_even down)))
      go true e more f =
          let less = ltb-true (twice remainder) denominator e in
          rounded-down weight denominator down remainder split (rest some) (omega (arith, less))
      go false e true f =
          let more = ltb-true denominator (twice remainder) f in
          rounded-up weight denominator down remainder split (rest some) (omega (arith, more))
      go false e false f =
          let most = ltb-false denominator (twice remainder) f in
          let least = ltb-false (twice remainder) denominator e in
          rounded-half weight denominator down remainder split (rest some) (omega (arith, most, least))

  -- How large it can be, whatever the denominator.
  pub rounded-most : ten_thousandths weight denominator ≤ 10000 * weight + 1
  unfolding ten_thousandths
  rounded-most = go (eqb denominator 0) (ltb (twice remainder) denominator) (ltb denominator (twice remainder))
    where
      go : (none less more : Bool)
          → cond none 0 (cond less down (cond more (suc down) (to_even down))) ≤ 10000 * weight + 1
      go true less more = omega arith
      go false true more = omega (arith, div-le_self (10000 * weight) denominator)
      go false false true = omega (arith, div-le_self (10000 * weight) denominator)
      go false false false = omega (arith, div-le_self (10000 * weight) denominator, mod-lt down {m = 2} (omega arith))

module _ (weight d : ℕ) (some : 0 < d) where
  -- A share is rounded to t exactly where t is the number printed.
  pub rounded-iff : (t : ℕ) → Rounded weight d t ↔ (t ≡ ten_thousandths weight d)
  rounded-iff t = (
    λ r. rounded-one weight d some t (ten_thousandths weight d) r (rounded weight d some),
    λ e. subst (λ (s : ℕ). Rounded weight d s) (sym e) (rounded weight d some),
  )

  -- "An exact half to the even one": of s and the next.
  pub half-to-even : (s : ℕ) → 2 * (10000 * weight) ≡ (2 * s + 1) * d → to_even s ≡ ten_thousandths weight d
  half-to-even s half =
      let remainder : ℕ = 10000 * weight - s * d in
      let twice : (2 * s + 1) * d ≡ 2 * (s * d) + d = omega (arith, add-mul (2 * s) 1 d, mul_assoc 2 s d) in
      let split : s * d + remainder ≡ 10000 * weight = omega (arith, half, twice) in
      let exact : 2 * remainder ≡ d = omega (arith, half, twice) in
      (rounded-iff (to_even s)).0 (rounded-half weight d s remainder split (omega (arith, exact, some)) exact)

-- ---- What the code gives is `Rounded`, so it is the number printed

module _ (weight denominator : ℕ) where
  pub ten-thousandths-none : denominator ≡ 0 → 0 ≡ ten_thousandths weight denominator
  unfolding ten_thousandths
  ten-thousandths-none h = rw (eq-eqb denominator 0 h) refl

  module _ (other : ¬ (denominator ≡ 0)) where
    some : 0 < denominator
    some = omega (arith, other)

    -- What is `Rounded` is printed.
    is-printed : (t : ℕ) → Rounded weight denominator t → t ≡ ten_thousandths weight denominator
    is-printed t = (rounded-iff weight denominator some t).0

    pub ten-thousandths-down : 2 * (10000 * weight % denominator) < denominator
        → 10000 * weight / denominator ≡ ten_thousandths weight denominator
    ten-thousandths-down h = is-printed _ (rounded-down weight denominator _ _ (split weight denominator) (rest weight denominator some) h)

    pub ten-thousandths-up : denominator < 2 * (10000 * weight % denominator)
        → 10000 * weight / denominator + 1 ≡ ten_thousandths weight denominator
    ten-thousandths-up h =
        let next : 10000 * weight / denominator + 1 ≡ suc (10000 * weight / denominator) = omega arith in
        next ∙ is-printed _ (rounded-up weight denominator _ _ (split weight denominator) (rest weight denominator some) h)

    pub ten-thousandths-half : 2 * (10000 * weight % denominator) ≡ denominator
        → 10000 * weight / denominator + 10000 * weight / denominator % 2 ≡ ten_thousandths weight denominator
    ten-thousandths-half h = is-printed _ (rounded-half weight denominator _ _ (split weight denominator) (rest weight denominator some) h)
