-- The digits that `io::decimal` writes are those of `decimal`.
use Rattle.std.specs.Prelude.{ℕ, zero, suc, ◌+◌, ◌/◌, ◌%◌, ◌^◌, ◌≤◌, ◌<◌, ◌⊎◌, ◌≡◌, refl, Bool, true, false, cond, List, [], ◌∷◌, ◌++◌, ltb}
use Rattle.std.proofs.Common.{mod-lt, mod-eq_of_lt, pow-suc, arith, inl, inr, sym, ◌∙◌, ap, subst, ltb-false, lt-ltb, le-ltb}
use Rattle.std.proofs.Math.Nat.{one-le-pow}
use Rattle.io.specs.Digits.{hex_digit_ascii, last_digits, IsDigitCount}
use Rattle.text.specs.Text.{digits_by, decimal}

cond_yes : {A : Type 0} (t : Bool) (x y : A) → t ≡ true → cond t x y ≡ x
cond_yes t x y e = ap (λ (s : Bool). cond s x y) e

cond_no : {A : Type 0} (t : Bool) (x y : A) → t ≡ false → cond t x y ≡ y
cond_no t x y e = ap (λ (s : Bool). cond s x y) e

both : (b : Bool) → (b ≡ true) ⊎ (b ≡ false)
both true = inl refl
both false = inr refl

-- ---- Steps that are enough

by_one : (fuel n : ℕ) → ltb n 10 ≡ true → digits_by (suc fuel) n ≡ (48 + n) ∷ []
by_one fuel n e = cond_yes (ltb n 10) _ _ e

by-more : (fuel n : ℕ) → ltb n 10 ≡ false → digits_by (suc fuel) n ≡ digits_by fuel (n / 10) ++ ((48 + n % 10) ∷ [])
by-more fuel n e = cond_no (ltb n 10) _ _ e

-- Any number of steps that is above the number gives the same.
enough : (f g n : ℕ) → n < f → n < g → digits_by f n ≡ digits_by g n
enough zero g n p q = absurd (omega arith)
enough (suc f) zero n p q = absurd (omega arith)
enough (suc f) (suc g) n p q = elim (both (ltb n 10)) [
  | inl e ↦ by_one f n e ∙ sym (by_one g n e)
  | inr e ↦
      let big = ltb-false n 10 e in
      by-more f n e
      ∙ ap (λ (l : List ℕ). l ++ ((48 + n % 10) ∷ [])) (enough f g (n / 10) (omega (arith, big, p)) (omega (arith, big, q)))
      ∙ sym (by-more g n e)
]

-- ---- The fewest digits

last-digit : (n : ℕ) → hex_digit_ascii (n % 10) ≡ 48 + n % 10
last-digit n = cond_yes (ltb (n % 10) 10) _ _ (lt-ltb (n % 10) 10 (mod-lt n (omega arith)))

from-fewest : (k n : ℕ) → n < 10 ^ suc k → (0 < k → 10 ^ k ≤ n) → last_digits 10 (suc k) n ≡ digits_by (suc n) n
from-fewest zero n p q =
    let small : n < 10 = p in
    ap (λ (d : ℕ). d ∷ []) (last-digit n ∙ ap (λ (d : ℕ). 48 + d) (mod-eq_of_lt small)) ∙ sym (by_one n n (lt-ltb n 10 small))
from-fewest (suc k) n p q =
    let least = q (omega arith) in
    let some = one-le-pow k 10 (omega arith) in
    let one_up = pow-suc 10 k in
    let two_up = pow-suc 10 (suc k) in
    let big : 10 ≤ n = omega (arith, least, some, one_up) in
    ap (λ (l : List ℕ). l ++ (hex_digit_ascii (n % 10) ∷ []))
    (from-fewest k (n / 10) (omega (arith, p, two_up)) (λ h. omega (arith, least, one_up))
    ∙ enough (suc (n / 10)) n (n / 10) (omega arith) (omega (arith, big)))
    ∙ ap (λ (d : ℕ). digits_by n (n / 10) ++ (d ∷ [])) (last-digit n)
    ∙ sym (by-more n n (le-ltb n 10 big))

-- The fewest digits of a number, and at least one, are its decimal digits.
pub digits_decimal : (n k : ℕ) → IsDigitCount 10 1 n k → last_digits 10 k n ≡ decimal n
unfolding decimal
digits_decimal n zero h = absurd (omega (arith, h.0))
digits_decimal n (suc k) h =
    from-fewest k n h.1 (λ p. subst (λ (j : ℕ). 10 ^ j ≤ n) (omega arith) (h.2 (omega (arith, p))))
