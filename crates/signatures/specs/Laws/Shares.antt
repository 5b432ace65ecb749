-- Shares as two numbers are equal exactly if the cross products are. Denominators are below 2^30, so that different shares differ by more
-- than 2^-60.
use Rattle.std.specs.Prelude.{ℕ, ◌+◌, ◌*◌, ◌/◌, ◌%◌, ◌≤◌, ◌<◌, ◌≡◌}
use Rattle.std.proofs.Common.{arith, mul-le-mul_right, mul-le-mul, mul_right_comm, mul_comm, mul_assoc, add-mul, lt_of_mul-lt-mul_right}
use Rattle.std.proofs.Common.{mul-lt-mul_of_pos_right, div-mul-le_self, mod-lt, mod-eq_of_lt, div-lt_iff_lt-mul, sym, ◌∙◌, ap, ap₂, subst}
use Rattle.std.proofs.Math.Nat.{mul-div-mul_right, lt-div-mul-add, div-add-mod, mul-add-div}
use Rattle.signatures.specs.Shares.{high_share, low_share}

-- Both digits as one number.
whole_share : (a w : ℕ) → ℕ
whole_share a w = a * 1152921504606846976 / w

-- The first digit of a share that is at most 1.
high-plain : (a w : ℕ) → 0 < w → a ≤ w → high_share a w ≡ a * 1073741824 / w
unfolding high_share
high-plain a w h most =
    mod-eq_of_lt ((div-lt_iff_lt-mul {k = w} {x = a * 1073741824} {y = 4294967296} h).1
    (omega (arith, mul-le-mul_right 1073741824 most, h)))

pub high-most : (a w : ℕ) → 0 < w → a ≤ w → high_share a w ≤ 1073741824
high-most a w h most =
    let less : a * 1073741824 / w < 1073741825 =
    (div-lt_iff_lt-mul {k = w} {x = a * 1073741824} {y = 1073741825} h).1 (omega (arith, mul-le-mul_right 1073741824 most, h)) in
    omega (arith, high-plain a w h most, less)

whole-digits : (a w : ℕ) → 0 < w → a ≤ w → whole_share a w ≡ high_share a w * 1073741824 + low_share a w
unfolding whole_share low_share
whole-digits a w h most =
    ap (λ (s : ℕ). s / w) split ∙ mul-add-div h (a * 1073741824 / w * 1073741824) (a * 1073741824 % w * 1073741824)
    ∙ ap (λ (s : ℕ). s * 1073741824 + a * 1073741824 % w * 1073741824 / w) (sym (high-plain a w h most))
  where
    split : a * 1152921504606846976 ≡ w * (a * 1073741824 / w * 1073741824) + a * 1073741824 % w * 1073741824
    split =
        sym (mul_assoc a 1073741824 1073741824)
        ∙ ap (λ (s : ℕ). s * 1073741824) (sym (div-add-mod (a * 1073741824) w))
        ∙ add-mul (w * (a * 1073741824 / w)) (a * 1073741824 % w) 1073741824
        ∙ ap (λ (s : ℕ). s + a * 1073741824 % w * 1073741824) (mul_assoc w (a * 1073741824 / w) 1073741824)

pub low_small : (a w : ℕ) → 0 < w → low_share a w < 1073741824
unfolding low_share
low_small a w h =
    (div-lt_iff_lt-mul h).1
    (subst (λ (s : ℕ). a * 1073741824 % w * 1073741824 < s) (mul_comm w 1073741824)
    (mul-lt-mul_of_pos_right (mod-lt (a * 1073741824) h) (omega arith)))

-- Equal cross products give equal shares.
whole_same : (a b w z : ℕ) → 0 < w → 0 < z → a * z ≡ b * w → whole_share a w ≡ whole_share b z
unfolding whole_share
whole_same a b w z hw hz e =
    sym (mul-div-mul_right (a * 1152921504606846976) w hz)
    ∙ ap₂ (λ (s t : ℕ). s / t)
    (mul_right_comm a 1152921504606846976 z ∙ ap (λ (s : ℕ). s * 1152921504606846976) e ∙ mul_right_comm b w 1152921504606846976)
    (mul_comm w z)
    ∙ mul-div-mul_right (b * 1152921504606846976) z hw

-- With q the common quotient and K = 2^60: a K z < q w z + w z, and q z w ≤ b K w, so that (a z) K < (b w + 1) K.
half : (a b w z q : ℕ) → 0 < w → 0 < z → w * z ≤ 1152921504606846976 → a * 1152921504606846976 < q * w + w
    → q * z ≤ b * 1152921504606846976 → a * z ≤ b * w
half a b w z q hw hz small one other =
    omega (arith, lt_of_mul-lt-mul_right 1152921504606846976 {m = a * z} {n = b * w + 1} gap)
  where
    upper : a * z * 1152921504606846976 < q * w * z + w * z
    upper =
        subst (λ (s : ℕ). s < q * w * z + w * z) (mul_right_comm a 1152921504606846976 z)
        (subst (λ (s : ℕ). a * 1152921504606846976 * z < s) (add-mul (q * w) w z) (mul-lt-mul_of_pos_right one hz))

    lower : q * w * z ≤ b * w * 1152921504606846976
    lower =
        subst (λ (s : ℕ). s ≤ b * w * 1152921504606846976) (mul_right_comm q z w)
        (subst (λ (s : ℕ). q * z * w ≤ s) (mul_right_comm b 1152921504606846976 w) (mul-le-mul_right w other))

    gap : a * z * 1152921504606846976 < (b * w + 1) * 1152921504606846976
    gap = omega (arith, upper, lower, small, add-mul (b * w) 1 1152921504606846976)

product : (w z : ℕ) → w < 1073741824 → z < 1073741824 → w * z ≤ 1152921504606846976
product w z h k =
    let h' : w ≤ 1073741824 = omega arith in
    let k' : z ≤ 1073741824 = omega arith in
    omega (arith, mul-le-mul h' k')

whole_apart : (a b w z : ℕ) → 0 < w → 0 < z → w < 1073741824 → z < 1073741824 → whole_share a w ≡ whole_share b z → a * z ≡ b * w
unfolding whole_share
whole_apart a b w z hw hz lw lz e =
    omega (
      arith,
      half a b w z (a * 1152921504606846976 / w) hw hz (product w z lw lz) (lt-div-mul-add hw)
          (subst (λ (s : ℕ). s * z ≤ b * 1152921504606846976) (sym e) (div-mul-le_self (b * 1152921504606846976) z)),
      half b a z w (b * 1152921504606846976 / z) hz hw (product z w lz lw) (lt-div-mul-add hz)
          (subst (λ (s : ℕ). s * w ≤ a * 1152921504606846976) e (div-mul-le_self (a * 1152921504606846976) w)),
    )

module _ (a b w z : ℕ) (hw : 0 < w) (hz : 0 < z) (ma : a ≤ w) (mb : b ≤ z) where
  pub share-same : a * z ≡ b * w → (high_share a w ≡ high_share b z) × (low_share a w ≡ low_share b z)
  share-same e =
      let one : high_share a w * 1073741824 + low_share a w ≡ high_share b z * 1073741824 + low_share b z =
      sym (whole-digits a w hw ma) ∙ whole_same a b w z hw hz e ∙ whole-digits b z hz mb in
      (omega (arith, one, low_small a w hw, low_small b z hz), omega (arith, one, low_small a w hw, low_small b z hz))

  pub share-apart : w < 1073741824 → z < 1073741824 → high_share a w ≡ high_share b z → low_share a w ≡ low_share b z → a * z ≡ b * w
  share-apart lw lz high low =
      whole_apart a b w z hw hz lw lz
      (whole-digits a w hw ma ∙ ap₂ (λ (s t : ℕ). s * 1073741824 + t) high low ∙ sym (whole-digits b z hz mb))
