-- Going over the available edges of an item from the last down: what the flags tell, and a sum over all edges, which is a sum over those
-- that are available where the others add nothing.
use Prim.Native.Nat.{ℕ, zero, suc, ◌+◌, ◌*◌, ◌-◌, ◌≤◌, ◌<◌}
use Rattle.std.proofs.Common.{arith, sym, ◌∙◌, ap₂, eq-eqb, eqb-true, lt-ltb, le-leb, leb-true}
use Rattle.std.specs.Prelude.{◌≡◌, Bool, true, false, ◌&&◌, ◌⊎◌, List, eqb, leb, ltb, get_or}
use Rattle.std.proofs.Math.Path.{refl, ap}
use Rattle.std.proofs.Math.Bool.{cond}
use Rattle.std.proofs.Math.Logic.{inl, inr}
use Rattle.bisimulation.proofs.Laws.Tests.{both, clash, and-iff}
use Rattle.comparison.specs.Held.{flag_room, most_items, most_edges, open_below, is_open, Opened, told_at, open_edge}
use Rattle.comparison.specs.Keys.{sum_below}

module _ (p : ℕ → Bool) where
  -- One number more: it is told where it passes, and else what is told without it.
  pub open-yes : (e : ℕ) → p e ≡ true → open_below p (suc e) ≡ suc e
  unfolding open_below
  open-yes e t = ap (λ (b : Bool). cond b (suc e) (open_below p e)) t

  pub open_no : (e : ℕ) → p e ≡ false → open_below p (suc e) ≡ open_below p e
  unfolding open_below
  open_no e f = ap (λ (b : Bool). cond b (suc e) (open_below p e)) f

  pub open_none : open_below p 0 ≡ 0
  unfolding open_below
  open_none = refl

  pub open-most : (e : ℕ) → open_below p e ≤ e
  open-most zero = rw open_none (omega arith)
  open-most (suc e) =
      elim (both (p e)) [
        | inl t ↦ rw (open-yes e t) (omega arith)
        | inr f ↦ rw (open_no e f) (let below = open-most e in omega arith)
      ]

  -- The number before the one that is told passes.
  pub open_at : (e g : ℕ) → open_below p e ≡ suc g → p g ≡ true
  open_at zero g h = absurd (omega (arith, h, open_none))
  open_at (suc e) g h =
      elim (both (p e)) [
        | inl t ↦ let same : e ≡ g = omega (arith, h, open-yes e t) in ap p (sym same) ∙ t
        | inr f ↦ open_at e g (sym (open_no e f) ∙ h)
      ]

  -- A sum over the numbers below e, where those that do not pass add nothing.
  pub sum-open : (f : ℕ → ℕ) → ((g : ℕ) → p g ≡ false → f g ≡ 0) → (e : ℕ) → sum_below e f ≡ sum_below (open_below p e) f
  unfolding sum_below
  sum-open f free zero = rw open_none refl
  sum-open f free (suc e) =
      elim (both (p e)) [
        | inl t ↦ rw (open-yes e t) refl
        | inr n ↦ rw (open_no e n) (let none = free e n in let same = sum-open f free e in omega (arith, none, same))
      ]

-- Tests that agree below e tell the same number.
pub open-agree : (p q : ℕ → Bool) (e : ℕ) → ((g : ℕ) → g < e → p g ≡ q g) → open_below p e ≡ open_below q e
unfolding open_below
open-agree p q zero same = refl
open-agree p q (suc e) same =
    ap₂ (λ (b : Bool) (m : ℕ). cond b (suc e) m) (same e (omega arith)) (open-agree p q e (λ g h. same g (omega arith)))

-- What is held at the edge before e is the number after the last available one below e.
pub open-held : (n k : ℕ) (flags : List ℕ) (x e last : ℕ) → Opened n k flags → x < n → ¬ (e ≡ 0) → e ≤ k
    → last ≡ get_or flags (flag_room * x + (e - 1)) 0 → last ≡ open_below (is_open flags x) e
open-held n k flags x zero last opened hx he hk same = absurd (he refl)
open-held n k flags x (suc e) last opened hx he hk same =
    let less : suc e - 1 ≡ e = omega arith in
    same ∙ ap (λ (i : ℕ). get_or flags (flag_room * x + i) 0) less ∙ opened x e hx (omega arith)

-- So it is what the flags tell there.
pub told-most : (flags : List ℕ) (x e : ℕ) → told_at flags x e ≤ e
told-most flags x e = go (both (leb v e))
  where
    v : ℕ
    v = get_or flags (flag_room * x + (e - 1)) 0

    go : (leb v e ≡ true) ⊎ (leb v e ≡ false) → cond (leb v e) v 0 ≤ e
    go (inl t) = rw t (leb-true v e t)
    go (inr f) = rw f (omega arith)

pub told-open : (n k : ℕ) (flags : List ℕ) (x e : ℕ) → Opened n k flags → x < n → ¬ (e ≡ 0) → e ≤ k
    → told_at flags x e ≡ open_below (is_open flags x) e
told-open n k flags x e opened hx he hk =
    let v : ℕ = get_or flags (flag_room * x + (e - 1)) 0 in
    let same : v ≡ open_below (is_open flags x) e = open-held n k flags x e v opened hx he hk refl in
    let most : v ≤ e = omega (arith, same, open-most (is_open flags x) e) in
    ap (λ (b : Bool). cond b v 0) (le-leb v e most) ∙ same

-- The same for all numbers.
pub edge-most : (flags : List ℕ) (x e : ℕ) → open_edge flags x e ≤ e
edge-most flags x e = go (ltb x most_items && leb e most_edges) (eqb e 0)
  where
    go : (b c : Bool) → cond b (cond c 0 (told_at flags x e)) 0 ≤ e
    go true true = omega arith
    go true false = told-most flags x e
    go false c = omega arith

pub edge-open : (n k : ℕ) (flags : List ℕ) (x e : ℕ) → Opened n k flags → x < most_items → e ≤ most_edges → x < n → e ≤ k
    → open_edge flags x e ≡ open_below (is_open flags x) e
edge-open n k flags x e opened few few-edges hx hk =
    ap (λ (b : Bool). cond b (cond (eqb e 0) 0 (told_at flags x e)) 0)
    ((and-iff (ltb x most_items) (leb e most_edges)).1 (lt-ltb x most_items few, le-leb e most_edges few-edges))
    ∙ go (both (eqb e 0))
  where
    go : (eqb e 0 ≡ true) ⊎ (eqb e 0 ≡ false) → cond (eqb e 0) 0 (told_at flags x e) ≡ open_below (is_open flags x) e
    go (inl z) =
        ap (λ (b : Bool). cond b 0 (told_at flags x e)) z
        ∙ sym (open_none (is_open flags x))
        ∙ ap (open_below (is_open flags x)) (sym (eqb-true e 0 z))
    go (inr o) =
        ap (λ (b : Bool). cond b 0 (told_at flags x e)) o
        ∙ told-open n k flags x e opened hx (λ s. clash (eq-eqb e 0 s) o) hk
