-- What follows of one clock, of four numbers and of an atom from the definitions: laws that stand for a reader of the definitions; the code
-- needs none of them.
use Rattle.std.specs.Prelude.{ℕ, suc, ◌+◌, ◌≤◌, ◌<◌, max, min, ◌≡◌, refl, Bool, true, false, cond, List, [], ◌∷◌, map, eqb, ltb, None}
use Rattle.std.proofs.Common.{arith, add-one, sym, ◌∙◌, ap, ap₂, ne_eqb}
use Rattle.std.proofs.Math.Bool.{or-false}
use Rattle.clocks.specs.Atoms.{atom}
use Rattle.clocks.specs.Cells.{Cell, over, at, fraction_of, member, rank, restart, is_over, leave, highest}
use Rattle.clocks.specs.Packed.{over_part, cell_of, clock_of}
use Rattle.clocks.specs.declared.clock.Clock.{Clock}

-- No number but 0 to 4 is a comparison.
pub atom-other : (comparison k : ℕ) (c : Cell) → (comparison ≡ 0 → ⊥) → (comparison ≡ 1 → ⊥) → (comparison ≡ 2 → ⊥) → (comparison ≡ 3 → ⊥)
    → (comparison ≡ 4 → ⊥) → atom comparison k c ≡ None
unfolding atom
atom-other n k c h₀ h₁ h₂ h₃ h₄ = simp (ne_eqb n 0 h₀, ne_eqb n 1 h₁, ne_eqb n 2 h₂, ne_eqb n 3 h₃, ne_eqb n 4 h₄)

-- What a clock of rank 0 does at the beginning of a delay.
pub leave-zero : (any : Bool) (m w f : ℕ) → f ≡ 0 → leave any (at m w f) ≡ cond (ltb w m) (at m w 1) (over m)
leave-zero any m w f e = ap (λ k. leave any (at m w k)) e

-- One more number is looked at in finding a rank.
pub rank_step : (fs : List ℕ) (k n n' : ℕ) (b : Bool) → n ≡ rank fs k → b ≡ member (k + 1) fs → n' ≡ cond b (suc n) n
    → n' ≡ rank fs (k + 1)
rank_step fs k n n' b en eb e =
    e ∙ ap₂ (λ (t : Bool) (x : ℕ). cond t (suc x) x) (eb ∙ ap (λ j. member j fs) (add-one k)) en ∙ sym (ap (rank fs) (add-one k))

pub counted-most : (b : Bool) (n n' : ℕ) → n' ≡ cond b (suc n) n → n' ≤ suc n
counted-most true n n' e = omega arith
counted-most false n n' e = omega arith

pub member-last : (k a b c d : ℕ) → (k ≡ a → ⊥) → (k ≡ b → ⊥) → (k ≡ c → ⊥) → eqb k d ≡ member k (a ∷ b ∷ c ∷ d ∷ [])
member-last k a b c d ha hb hc = rw (ne_eqb k a ha, ne_eqb k b hb, ne_eqb k c hc) (sym (or-false (eqb k d)))

-- The highest rank is the largest fraction.

largest : List ℕ → ℕ
largest [] = 0
largest (x ∷ l) = max x (largest l)

highest-is : (cs : List Cell) → highest cs ≡ largest (map fraction_of cs)
unfolding largest
highest-is [] = refl
highest-is (c ∷ cs) = ap (max (fraction_of c)) (highest-is cs)

pub highest-four : (a b c d : ℕ) (cs : List Cell) → (a ∷ b ∷ c ∷ d ∷ []) ≡ map fraction_of cs → max a (max b (max c d)) ≡ highest cs
unfolding largest
highest-four a b c d cs e =
    let last : d ≡ max d 0 = omega arith in
    ap (λ n. max a (max b (max c n))) last ∙ ap largest e ∙ sym (highest-is cs)

-- A clock is over where its cell is, and begins anew as its cell does.

pub over-test : (k : Clock) → eqb k.whole over_part ≡ is_over (cell_of k)
over-test k = test (eqb k.whole over_part)
  where
    test : (b : Bool) → b ≡ is_over (cond b (over k.bound) (at k.bound k.whole k.rank))
    test true = refl
    test false = refl

pub restart-clock : (k : Clock) → at k.bound 0 0 ≡ restart (cell_of k)
restart-clock k = test (eqb k.whole over_part)
  where
    test : (b : Bool) → at k.bound 0 0 ≡ restart (cond b (over k.bound) (at k.bound k.whole k.rank))
    test true = refl
    test false = refl

-- The bytes of a cell.

pub clock-at : (m w f w' f' : ℕ) → w' ≡ min w 255 → f' ≡ min f 255 → record { bound = m; whole = w'; rank = f' } ≡ clock_of (at m w f)
clock-at m w f w' f' ew ef = ap₂ (λ (x y : ℕ). record { bound = m; whole = x; rank = y }) ew ef

pub byte-kept : (x : ℕ) → x < 256 → x ≡ min x 255
byte-kept x h = omega arith
