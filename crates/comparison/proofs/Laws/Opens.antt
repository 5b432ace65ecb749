-- Loops, `all` and `any` over the available edges of an item.
use Rattle.std.proofs.Common.{arith, ap, sym, ◌∙◌, subst, inl, inr, refl, get_or-set_same, get_or-set_other}
use Rattle.std.specs.Prelude.{ℕ, zero, suc, ◌+◌, ◌≤◌, ◌<◌, ◌≡◌, Bool, true, false, List, [], ◌∷◌, ◌⊎◌, length, get_or, set, Option, Some}
use Rattle.std.specs.Iterator.{Yields, ChecksAll, CallableAtEachTurn}
use Rattle.std.specs.List.{FoldsTo}
use Rattle.std.specs.Fn.{Called, Takes}
use denote.Param.Members.{Mut}
use Rattle.comparison.specs.declared.held.Graph.{Graph}
use Rattle.comparison.specs.declared.held.Open.{Open}
use Rattle.comparison.specs.Graphs.{is_open}
use Rattle.comparison.specs.Walks.{OpenStep, told}
use Rattle.comparison.proofs.Laws.Runs.{all-run}
use Rattle.comparison.proofs.Laws.Walks.{Past, past-at, past-then, past-on, past-over, told-now}
use Rattle.bisimulation.proofs.Laws.Tests.{both, same?}
use Rattle.comparison.specs.Keys.{sum_below}
use Rattle.comparison.specs.Laws.Open.{sum-open}

-- A number is put at the place of the edge that a step gives.
pub past-put : {g : Graph} {x m : ℕ} (F : ℕ → ℕ) {left left' : List ℕ} {e : ℕ} (numbers : List ℕ) (v : ℕ)
    → Past g x m (λ f. get_or numbers f 0 ≡ F f) left → OpenStep left (Some e) left' → v ≡ F e → e < length numbers
    → Past g x m (λ f. get_or (set numbers e v) f 0 ≡ F f) left'
past-put F {left} {left'} {e} numbers v past step here room =
    past-on
    (past-then past (λ f. get_or (set numbers e v) f 0 ≡ F f)
    (λ f h kept. get_or-set_other numbers e f v 0 (λ s. absurd (omega (arith, s, step.2))) ∙ kept))
    step (get_or-set_same numbers e v 0 room ∙ here)

abbrev pub steps : Open → Option ℕ → Open → Type 0
steps s r t = OpenStep s.flags.now r t.flags.now

module _ {F : Type 0} {c : Mut F (ℕ × Unit {0}) Bool} (f : F) where
  -- A closure that is left as it was may be called at each edge.
  serve : (on : Bool) (m : ℕ) → ((e : ℕ) (q : F) → e < m → Called c f (e, tt) on q → q ≡ f) → ((e : ℕ) → e < m → Takes c f (e, tt))
      → (xs : List ℕ) (s t u : Open) (p q : F) (e : ℕ) → length s.flags.now ≤ m → p ≡ f → Yields steps s xs t
      → FoldsTo (λ p e q. Called c p (e, tt) on q) p xs q → steps t (Some e) u → Takes c q (e, tt)
  serve on m stays takes [] s t u p q e few same at folds step =
      let below : e < m = subst (λ (s' : Open). length s'.flags.now ≤ m → e < m) (sym at) (λ h. omega (arith, h, step.2)) few in
      subst (λ (p' : F). Takes c p' (e, tt)) (sym (sym folds ∙ same)) (takes e below)
  serve on m stays takes (x ∷ xs) s t u p q e few same (s', first, more) (p', called, folds) step =
      serve on m stays takes xs s' t u p' q e (omega (arith, few, first.2, first.3))
      (stays x p' (omega (arith, few, first.2)) (subst (λ (k : F). Called c k (x, tt) on p') same called)) more folds step

  pub open-callable : (on : Bool) (m : ℕ) (s : Open) → length s.flags.now ≤ m
      → ((e : ℕ) (q : F) → e < m → Called c f (e, tt) on q → q ≡ f) → ((e : ℕ) → e < m → Takes c f (e, tt))
      → CallableAtEachTurn steps (λ p e q. Called c p (e, tt) on q) (λ p e. Takes c p (e, tt)) s f
  open-callable on m s few stays takes =
      record { at = λ xs t q e u yields folds step. serve on m stays takes xs s t u f q e few refl yields folds step }

  -- `all` tells whether each available edge has a property.
  pub all-open : (g : Graph) (x m : ℕ) (P : ℕ → Type 0) (No : Type 0) (s u : Open) (r : Bool)
      → ((e : ℕ) (q : F) → e < m → is_open g x e ≡ true → Called c f (e, tt) true q → (q ≡ f) × P e)
      → ((e : ℕ) (q : F) → e < m → is_open g x e ≡ true → Called c f (e, tt) false q → No)
      → Past g x m P s.flags.now → ChecksAll steps c s f r u
      → ((r ≡ true) × ((e : ℕ) → e < m → is_open g x e ≡ true → P e)) ⊎ ((r ≡ false) × No)
  all-open g x m P No s u r go stop past ran =
      all-run steps c (λ s. Past g x m P s.flags.now) ((e : ℕ) → e < m → is_open g x e ≡ true → P e) No f s u r
      (λ s t e q kept step called.
      let (same, here) = go e q (omega (arith, step.2, kept.few)) (past-at kept step) called in
      (same, past-on kept step here))
      (λ s t e q kept step called. stop e q (omega (arith, step.2, kept.few)) (past-at kept step) called)
      (λ s t kept over. past-over kept over) past ran

-- ---- Sums over all edges, to which those that are not available add nothing

module _ {g : Graph} {x m : ℕ} {P : ℕ → Type 0} {left : List ℕ} (past : Past g x m P left) (F : ℕ → ℕ)
    (free : (e : ℕ) → is_open g x e ≡ false → F e ≡ 0) where
  sum-to : sum_below (length left) F ≡ sum_below (told left) F
  sum-to = sum-open (is_open g x) F free (length left) ∙ ap (λ (n : ℕ). sum_below n F) (sym (told-now past))

  pub sum-step : {left' : List ℕ} {e : ℕ} → OpenStep left (Some e) left' → sum_below (length left) F ≡ sum_below (length left') F + F e
  unfolding sum_below
  sum-step {left'} {e} step =
      sum-to
      ∙ ap (λ (n : ℕ). sum_below n F) step.0
      ∙ ap (λ (n : ℕ). sum_below n F + F e) (sym step.3)

  pub sum-end : told left ≡ 0 → sum_below (length left) F ≡ 0
  unfolding sum_below
  sum-end over = sum-to ∙ ap (λ (n : ℕ). sum_below n F) over

-- At first the sum is over all that is left.
sum-flat : (F : ℕ → ℕ) (l m : ℕ) → l ≤ m → ((f : ℕ) → l ≤ f → f < m → F f ≡ 0) → sum_below m F ≡ sum_below l F
unfolding sum_below
sum-flat F l zero h none = let same : l ≡ 0 = omega arith in ap (λ (n : ℕ). sum_below n F) (sym same)
sum-flat F l (suc m) h none =
    elim (same? l (suc m)) [
      | inl s ↦ ap (λ (n : ℕ). sum_below n F) (sym s)
      | inr o ↦
          let rest = sum-flat F l m (omega arith) (λ f a b. none f a (omega arith)) in
          let nothing = none m (omega arith) (omega arith) in
          omega arith
    ]

pub sum-first : {g : Graph} {x m : ℕ} {left : List ℕ} → Past g x m (λ _. ⊥) left → (F : ℕ → ℕ)
    → ((e : ℕ) → is_open g x e ≡ false → F e ≡ 0) → sum_below m F ≡ sum_below (length left) F
sum-first {g} {x} {m} {left} past F free =
    sum-flat F (length left) m past.few
    (λ f h b. elim (both (is_open g x f)) [ inl t ↦ absurd (past.past f h b t) | inr n ↦ free f n ])
