-- Signatures tell the next round: two items are related in it exactly where their signatures are equal.
use Rattle.std.specs.Prelude.{ℕ, zero, suc, ◌≤◌, ◌<◌, ◌≡◌, refl, true, false, cond, ◌&&◌, ◌⊎◌, ◌↔◌}
use Rattle.std.proofs.Common.{arith, eq-or-lt_of_le, sym, ◌∙◌, ap, subst, inl, inr}
use mathlib.Core.List.{List, [], ◌∷◌, Memᴰ}
use Rattle.bisimulation.specs.Structures.{Closed}
use Rattle.bisimulation.specs.Finite.{Finite, structure, related, some_below, any_of, alike, delays_match, edges_match}
use Rattle.bisimulation.specs.Finite.{matches, next}
use Rattle.bisimulation.proofs.Laws.Tests.{both, and-iff, eqb-iff, cond-iff, all-below, some_below_lem, below-some, all-of, any-of, of-any}
use Rattle.signatures.specs.Steps.{name_of, step_of}
use Rattle.signatures.specs.Signatures.{names_of, steps_below, steps_of, SameSignature}
use Rattle.signatures.specs.Laws.Sets.{set_same, same_set}
use Rattle.signatures.specs.Laws.Steps.{step-alike, alike-step}

-- ---- Names

pub names_in : (names l : List ℕ) (x : ℕ) → Memᴰ x l → Memᴰ (name_of names x) (names_of names l)
names_in names [] x m = elim m [ ]
names_in names (y ∷ l) x (Memᴰ.head e) = Memᴰ.head (ap (name_of names) e)
names_in names (y ∷ l) x (Memᴰ.tail k) = Memᴰ.tail (names_in names l x k)

pub names-from : (names l : List ℕ) (u : ℕ) → Memᴰ u (names_of names l) → (x : ℕ) × Memᴰ x l × (u ≡ name_of names x)
names-from names [] u m = elim m [ ]
names-from names (y ∷ l) u (Memᴰ.head e) = (y, Memᴰ.head refl, e)
names-from names (y ∷ l) u (Memᴰ.tail k) = let (x, h, e) = names-from names l u k in (x, Memᴰ.tail h, e)

-- ---- Steps

module _ (F : Finite) (names : List ℕ) (x : ℕ) where
  pub step_in : (k e : ℕ) → e < k → F.available x e ≡ true → Memᴰ (step_of F names x e) (steps_below F names x k)
  step_in zero e h is = absurd (omega arith)
  step_in (suc k) e h is = let most : e ≤ k = omega arith in go (step_in k e) (eq-or-lt_of_le most)
    where
      go : (e < k → F.available x e ≡ true → Memᴰ (step_of F names x e) (steps_below F names x k)) → (e ≡ k) ⊎ (e < k)
          → Memᴰ (step_of F names x e) (steps_below F names x (suc k))
      go rest (inl same) =
          rw (subst (λ (j : ℕ). F.available x j ≡ true) same is) (Memᴰ.head (ap (step_of F names x) same))
      go rest (inr less) =
          elim (both (F.available x k)) [
            | inl t ↦ rw t (Memᴰ.tail (rest less is))
            | inr f ↦ rw f (rest less is)
          ]

  pub step_from : (k : ℕ) (s : List ℕ) → Memᴰ s (steps_below F names x k)
      → (e : ℕ) × (e < k) × (F.available x e ≡ true) × (s ≡ step_of F names x e)
  step_from zero s m = elim m [ ]
  step_from (suc k) s m = go (step_from k s) (both (F.available x k)) m
    where
      go : (Memᴰ s (steps_below F names x k) → (e : ℕ) × (e < k) × (F.available x e ≡ true) × (s ≡ step_of F names x e))
          → (F.available x k ≡ true) ⊎ (F.available x k ≡ false) → Memᴰ s (steps_below F names x (suc k))
          → (e : ℕ) × (e < suc k) × (F.available x e ≡ true) × (s ≡ step_of F names x e)
      go rest (inl t) = rw t here
        where
          here : Memᴰ s (step_of F names x k ∷ steps_below F names x k)
              → (e : ℕ) × (e < suc k) × (F.available x e ≡ true) × (s ≡ step_of F names x e)
          here (Memᴰ.head e) = (k, omega arith, t, e)
          here (Memᴰ.tail j) = let (e, h, is, same) = rest j in (e, omega (arith, h), is, same)
      go rest (inr f) = rw f (λ j. let (e, h, is, same) = rest j in (e, omega (arith, h), is, same))

-- ---- One way

module _ (F : Finite) (names : List ℕ) (x y : ℕ) where
  delays-to : delays_match F names x y ≡ true → (u : ℕ) → Memᴰ u (names_of names (F.delays x)) → Memᴰ u
      (names_of names (F.delays y))
  delays-to is u m =
      let (x', h, e) = names-from names (F.delays x) u m in
      let (y', k, f) = any-of (λ z. related names x' z) (F.delays y)
      ((all-of (λ z. any_of (λ w. related names z w) (F.delays y)) (F.delays x)).0 is x' h) in
      subst (λ (v : ℕ). Memᴰ v (names_of names (F.delays y))) (sym (e ∙ (eqb-iff (name_of names x') (name_of names y')).0 f))
      (names_in names (F.delays y) y' k)

  to-delays : ((u : ℕ) → Memᴰ u (names_of names (F.delays x)) → Memᴰ u (names_of names (F.delays y)))
      → delays_match F names x y ≡ true
  to-delays to =
      (all-of (λ z. any_of (λ w. related names z w) (F.delays y)) (F.delays x)).1 (λ x' h.
      let (y', k, e) = names-from names (F.delays y) (name_of names x') (to (name_of names x') (names_in names (F.delays x) x' h)) in
      of-any (λ w. related names x' w) (F.delays y) y' k ((eqb-iff (name_of names x') (name_of names y')).1 e))

-- Denominators are below 2^30, as those of a graph in slices are.
abbrev pub Small : Finite → Type 0
Small F = (x e : ℕ) → F.whole x e < 1073741824

module _ (F : Finite) (closed : Closed (structure F)) (small : Small F) (names : List ℕ) (x y : ℕ) (hx : x < F.size)
    (hy : y < F.size) where
  steps-to : edges_match F names x y ≡ true → (s : List ℕ) → Memᴰ s (steps_of F names x) → Memᴰ s (steps_of F names y)
  steps-to is s m =
      let (e, h, t, same) = step_from F names x F.edges s m in
      let (f, k, both') = some_below_lem F.edges (λ f. F.available y f && alike F names x e y f)
      ((cond-iff (F.available x e) (some_below F.edges (λ f. F.available y f && alike F names x e y f))).0
      ((all-below F.edges (λ e. cond (F.available x e)
      (some_below F.edges (λ f. F.available y f && alike F names x e y f)) true)).0 is e h) t) in
      let (u, a) = (and-iff (F.available y f) (alike F names x e y f)).0 both' in
      subst (λ (v : List ℕ). Memᴰ v (steps_of F names y)) (sym (same ∙ alike-step F closed names x e y f hx hy (h, t) (k, u) a))
      (step_in F names y F.edges f k u)

  to-steps : ((s : List ℕ) → Memᴰ s (steps_of F names x) → Memᴰ s (steps_of F names y)) → edges_match F names x y ≡ true
  to-steps to =
      (all-below F.edges (λ e. cond (F.available x e) (some_below F.edges (λ f. F.available y f && alike F names x e y f)) true)).1
      (λ e h. (cond-iff (F.available x e) (some_below F.edges (λ f. F.available y f && alike F names x e y f))).1 (λ t.
      let (f, k, u, same) = step_from F names y F.edges (step_of F names x e)
      (to (step_of F names x e) (step_in F names x F.edges e h t)) in
      below-some F.edges (λ f. F.available y f && alike F names x e y f) f k
      ((and-iff (F.available y f) (alike F names x e y f)).1
      (u, step-alike F closed names x e y f hx hy (h, t) (k, u) (small x e) (small y f) same))))

-- ---- Both ways

module _ (F : Finite) (closed : Closed (structure F)) (small : Small F) (names : List ℕ) (x y : ℕ) (hx : x < F.size)
    (hy : y < F.size) where
  pub signature-tells : (next F names x y ≡ true) ↔ SameSignature F names x y
  signature-tells = (to, fro)
    where
      to : next F names x y ≡ true → SameSignature F names x y
      to is =
          let (r, m) = (and-iff (related names x y) (matches F names x y && matches F names y x)).0 is in
          let (one, other) = (and-iff (matches F names x y) (matches F names y x)).0 m in
          let (d, e) = (and-iff (delays_match F names x y) (edges_match F names x y)).0 one in
          let (d', e') = (and-iff (delays_match F names y x) (edges_match F names y x)).0 other in
          record {
            name = (eqb-iff (name_of names x) (name_of names y)).0 r;
            delays = set_same (names_of names (F.delays x)) (names_of names (F.delays y)) (delays-to F names x y d)
                (delays-to F names y x d');
            steps-to = steps-to F closed small names x y hx hy e;
            steps-from = steps-to F closed small names y x hy hx e';
          }

      fro : SameSignature F names x y → next F names x y ≡ true
      fro same =
          (and-iff (related names x y) (matches F names x y && matches F names y x)).1 (
            (eqb-iff (name_of names x) (name_of names y)).1 same.name,
            (and-iff (matches F names x y) (matches F names y x)).1 (
              (and-iff (delays_match F names x y) (edges_match F names x y)).1 (
                to-delays F names x y (same_set (names_of names (F.delays x)) (names_of names (F.delays y)) same.delays),
                to-steps F closed small names x y hx hy same.steps-to,
              ),
              (and-iff (delays_match F names y x) (edges_match F names y x)).1 (
                to-delays F names y x (same_set (names_of names (F.delays y)) (names_of names (F.delays x)) (sym same.delays)),
                to-steps F closed small names y x hy hx same.steps-from,
              ),
            ),
          )
