-- How long texts are: numbers by their digits, and texts put together.
use Rattle.std.specs.Prelude.{ℕ, zero, suc, ◌+◌, ◌*◌, ◌/◌, ◌%◌, ◌^◌, ◌≤◌, ◌<◌, ◌≡◌, refl, Bool, true, false, cond, List, [], ◌∷◌, ◌++◌, ltb}
use Rattle.std.specs.Prelude.{length}
use Rattle.std.proofs.Common.{div-lt_iff_lt-mul, pow-suc, mul-suc, arith, sym, subst, length-append, ltb-false}
use Rattle.text.specs.Text.{digits_by, decimal, field, up_to}

-- ---- Numbers

digits-length : (fuel n k : ℕ) → 0 < k → n < 10 ^ k → length (digits_by fuel n) ≤ k
digits-length zero n k some h = omega arith
digits-length (suc fuel) n zero some h = absurd (omega (arith, some))
digits-length (suc fuel) n (suc k) some h = go (ltb n 10) refl (digits-length fuel (n / 10) k)
  where
    go : (t : Bool) → ltb n 10 ≡ t → (0 < k → n / 10 < 10 ^ k → length (digits_by fuel (n / 10)) ≤ k)
        → length (cond t ((48 + n) ∷ []) (digits_by fuel (n / 10) ++ ((48 + n % 10) ∷ []))) ≤ suc k
    go true e rest = omega arith
    go false e rest =
        let ten = ltb-false n 10 e in
        let below : n < 10 ^ k * 10 = subst (λ (x : ℕ). n < x) (pow-suc 10 k) h in
        let more : 0 < k = two k ten h in
        let less : n / 10 < 10 ^ k = (div-lt_iff_lt-mul {k = 10} (omega arith)).1 below in
        omega (arith, length-append (digits_by fuel (n / 10)) ((48 + n % 10) ∷ []), rest more less)
      where
        two : (j : ℕ) → 10 ≤ n → n < 10 ^ suc j → 0 < j
        two zero ten h = absurd (omega (arith, ten, h))
        two (suc j) ten h = omega arith

-- A number below 10 ^ k has at most k digits.
pub decimal-length : (n k : ℕ) → 0 < k → n < 10 ^ k → length (decimal n) ≤ k
unfolding decimal
decimal-length n k some h = digits-length (suc n) n k some h

-- ---- Texts that have at most so many bytes

pub record Fits (text : List ℕ) (most : ℕ) : Type 0 where
  pub within : length text ≤ most

pub fits_word : (text : List ℕ) → Fits text (length text)
fits_word text = record { within = omega arith }

pub fits-less : {text : List ℕ} {most more : ℕ} → Fits text most → most ≤ more → Fits text more
fits-less f h = record { within = omega (arith, f.within, h) }

pub fits-then : {one two : List ℕ} {most more : ℕ} → Fits one most → Fits two more → Fits (one ++ two) (most + more)
fits-then {one} {two} f g = record { within = omega (arith, length-append one two, f.within, g.within) }

pub fits-upto : (f : ℕ → List ℕ) (n most : ℕ) → ((i : ℕ) → i < n → Fits (f i) most) → Fits (up_to f n) (most * n)
fits-upto f zero most each = record { within = omega arith }
fits-upto f (suc n) most each =
    subst (Fits (up_to f (suc n))) (sym (mul-suc most n))
    (fits-then (fits-upto f n most (λ i h. each i (omega (arith, h)))) (each n (omega arith)))

pub fits-field : (n k : ℕ) → 0 < k → n < 10 ^ k → Fits (field n) (1 + k)
fits-field n k some h = record { within = omega (arith, decimal-length n k some h) }

-- A u64 has at most 20 digits, a u16 5, a number of a block 4 and a byte 3.
pub long-field : (n : ℕ) → n < 18446744073709551616 → Fits (field n) 21
long-field n h = fits-field n 20 (omega arith) (omega (arith, h))

pub half-field : (n : ℕ) → n < 65536 → Fits (field n) 6
half-field n h = fits-field n 5 (omega arith) (omega (arith, h))

pub block-field : (n : ℕ) → n < 4096 → Fits (field n) 5
block-field n h = fits-field n 4 (omega arith) (omega (arith, h))

pub byte-field : (n : ℕ) → n < 256 → Fits (field n) 4
byte-field n h = fits-field n 3 (omega arith) (omega (arith, h))
