-- Small steps that the laws and proofs of loops share.
use Rattle.std.specs.Prelude.{ℕ, zero, suc, ◌+◌, ◌≤◌, ◌<◌, ◌≡◌, refl, Bool, true, false, cond, List, ◌⊎◌, length, get_or, set, replicate}
use Rattle.std.proofs.Common.{arith, sym, ◌∙◌, ap, subst, inl, inr, length-set, get_or-set_same, get_or-set_other}
use Rattle.bisimulation.proofs.Laws.Tests.{same?}

-- One turn of a loop: x is below i + 1 where it is below i, or is i.
pub below_one : {x i : ℕ} → x < i + 1 → (x ≡ i) ⊎ (x < i)
below_one {x} {i} h = go (same? x i)
  where
    go : (x ≡ i) ⊎ (¬ (x ≡ i)) → (x ≡ i) ⊎ (x < i)
    go (inl e) = inl e
    go (inr o) = inr (omega arith)

pub cond_yes : {A : Type 0} (b : Bool) (x y : A) → b ≡ true → cond b x y ≡ x
cond_yes b x y e = ap (λ (t : Bool). cond t x y) e

pub cond_no : {A : Type 0} (b : Bool) (x y : A) → b ≡ false → cond b x y ≡ y
cond_no b x y e = ap (λ (t : Bool). cond t x y) e

-- What holds of each number below i, and of i.
pub each_none : (P : ℕ → Type 0) (x : ℕ) → x < 0 → P x
each_none P x h = absurd (omega arith)

pub each_on : (P : ℕ → Type 0) (i : ℕ) → ((x : ℕ) → x < i → P x) → P i → (x : ℕ) → x < i + 1 → P x
each_on P i all here x h = go (below_one h)
  where
    go : (x ≡ i) ⊎ (x < i) → P x
    go (inl same) = subst P (sym same) here
    go (inr below) = all x below

pub each_over : (P : ℕ → Type 0) (n i : ℕ) → n ≤ i → ((x : ℕ) → x < i → P x) → (x : ℕ) → x < n → P x
each_over P n i h all x below = all x (omega arith)

-- A list of zeros, and one number after the other put into a list that may be too short.
pub zeros-at : (n i : ℕ) → get_or (replicate {A = ℕ} n 0) i 0 ≡ 0
zeros-at zero i = refl
zeros-at (suc n) zero = refl
zeros-at (suc n) (suc i) = zeros-at n i

pub put_next : (f : ℕ → ℕ) (i v : ℕ) (l : List ℕ) → ((j : ℕ) → j < i → j < length l → get_or l j 0 ≡ f j) → v ≡ f i
    → (j : ℕ) → j < i + 1 → j < length (set l i v) → get_or (set l i v) j 0 ≡ f j
put_next f i v l all here j h room = go (below_one h)
  where
    inside : j < length l
    inside = subst (λ (m : ℕ). j < m) (length-set l i v) room

    go : (j ≡ i) ⊎ (j < i) → get_or (set l i v) j 0 ≡ f j
    go (inl same) =
        subst (λ (m : ℕ). get_or (set l i v) m 0 ≡ f m) (sym same)
        (get_or-set_same l i v 0 (subst (λ (m : ℕ). m < length l) same inside) ∙ here)
    go (inr below) = get_or-set_other l i j v 0 (λ s. absurd (omega (arith, s, below))) ∙ all j below inside
