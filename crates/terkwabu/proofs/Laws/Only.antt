-- At most one answer fits document 01's list (`only-answer`, and `graph-answer` to `pair-answer` for each call): rows 1 to 15 exclude one
-- another and the graph (`stopped-one`, `not-both`), the model and its regions are one (`held_one`), and so do the rows of each call. So an
-- answer with refusal 0 says that the list found none (`stopped-some`).
use Rattle.std.specs.Prelude.{ℕ, ◌≤◌, ◌<◌, ◌⊎◌, ◌≡◌, refl, true, false, length}
use Rattle.std.proofs.Common.{arith, inl, inr, ⊎_elim, sym, ◌∙◌, ap, ap₂, subst, length-append}
use Rattle.std.proofs.lemmas.Bool.{false≢true}
use mathlib.Core.List.Memᴰ
use mathlib.Core.List.{List, [], ◌∷◌, ◌++◌, Memᴰ}
use Rattle.partition.specs.Passed.{Reason, number}
use Rattle.regions.specs.Passed.{Model, Answer as Read, read_table, refusal, accepted, Region}
use Rattle.regions.specs.Graph.{bounds_of, meets, first, Reached}
use Rattle.regions.specs.Order.{AllRegions, FirstRegions, InOrder}
use Rattle.regions.specs.Call.{refused, room_for, from_answer, outcome_of}
use Rattle.regions.specs.Laws.Numbers.{refused-number}
use Rattle.regions.specs.Laws.Order.{order-one}
use Rattle.regions.specs.Laws.Worklist.{different-grown, no_more, member}
use Rattle.terkwabu.specs.Answers.{refused_as, result_as}
use Rattle.terkwabu.specs.Rows.{Stopped, row-1-13, row-14, row-15, GraphHeld, ByList, stopped, went_on}
use Rattle.terkwabu.specs.Rows.{GraphRows, graph-result, PlaceRows, place-row-20, place-row-21, place-result}
use Rattle.terkwabu.specs.Rows.{ReduceRows, reduce-row-16, reduce-result, PairRows, pair-row-16, pair-row-19, pair-shared, pair-apart}
use Rattle.terkwabu.specs.Rows.{JudgeRows, judge-row-17, judge-row-18, judge-result}
use Rattle.terkwabu.proofs.Laws.States.{read_one}
use Rattle.terkwabu.specs.declared.answer.Answer.{Answer}

-- ---- What reading says

abbrev number_in : Read → ℕ
number_in (refusal n p) = number n
number_in (accepted m) = 0

abbrev place_in : Read → ℕ
place_in (refusal n p) = p
place_in (accepted m) = 0

abbrev kind_of : Read → ℕ
kind_of (refusal n p) = 0
kind_of (accepted m) = 1

refused-read : (table : List ℕ) (n : Reason) (p : ℕ) → read_table table ≡ refusal n p → outcome_of table 0 ≡ refused n p
unfolding outcome_of
refused-read table n p e = ap (from_answer 0) e

module _ (table entries : List ℕ) where
  refused-or-read : {n : Reason} {p : ℕ} {m : Model} → read_table table ≡ refusal n p → read_table table ≡ accepted m → ⊥
  refused-or-read e f = omega (arith, ap kind_of (sym e ∙ f))

  meets-or-breaks : {m m' : Model} → read_table table ≡ accepted m → meets (bounds_of m) m.invariants (first m) ≡ false
      → read_table table ≡ accepted m' → meets (bounds_of m') m'.invariants (first m') ≡ true → ⊥
  meets-or-breaks {m} {m'} read breaks read' fine =
      false≢true
      (sym breaks
      ∙ ap (λ (x : Model). meets (bounds_of x) x.invariants (first x)) (read_one table m m' read read')
      ∙ fine)

  -- ---- Rows 1 to 15

  pub stopped-one : {left left' : List ℕ} {n p n' p' : ℕ} → Stopped table entries left n p → Stopped table entries left' n' p'
      → refused_as n p ≡ refused_as n' p'
  stopped-one (row-1-13 e _) (row-1-13 f _) =
      ap₂ (λ (x y : ℕ). refused_as x y) (ap number_in (sym e ∙ f)) (ap place_in (sym e ∙ f))
  stopped-one (row-1-13 e _) (row-14 f _ _) = absurd (refused-or-read e f)
  stopped-one (row-1-13 e _) (row-15 f _ _ _ _) = absurd (refused-or-read e f)
  stopped-one (row-14 f _ _) (row-1-13 e _) = absurd (refused-or-read e f)
  stopped-one (row-14 _ _ _) (row-14 _ _ _) = refl
  stopped-one (row-14 e b _) (row-15 f c _ _ _) = absurd (meets-or-breaks e b f c)
  stopped-one (row-15 f _ _ _ _) (row-1-13 e _) = absurd (refused-or-read e f)
  stopped-one (row-15 f c _ _ _) (row-14 e b _) = absurd (meets-or-breaks e b f c)
  stopped-one (row-15 _ _ _ _ _) (row-15 _ _ _ _ _) = refl

  -- The number is not 0.
  pub stopped-some : {left : List ℕ} {n p : ℕ} → Stopped table entries left n p → 0 < n
  stopped-some (row-1-13 {reason} {place} e _) =
      let low = refused-number table 0 reason place (refused-read table reason place e) in omega (arith, low)
  stopped-some (row-14 _ _ _) = omega arith
  stopped-some (row-15 _ _ _ _ _) = omega arith

  -- More regions are reached than there is room for, or all have room.
  crowded : (m : Model) (cap : ℕ) (some all : List Region) → FirstRegions m cap some → AllRegions m all → length all ≤ cap → ⊥
  crowded m cap some all few whole fits =
      let more : List Region = some ++ (few.another ∷ []) in
      let most = no_more more all (different-grown some few.another few.another-new few.different)
      (λ r n. (whole.all r).0 (⊎_elim (few.reached r)
      (λ k. subst (Reached m) (sym (Memᴰ.eq_of_singleton k)) few.another-reached) (Memᴰ.append_cases some n))) in
      omega (arith, most, length-append some (few.another ∷ []), few.fills, fits)

  pub not-both : {left left' : List ℕ} {n p : ℕ} {m : Model} {found : List Region} → Stopped table entries left n p
      → GraphHeld table entries left' m found → ⊥
  not-both (row-1-13 e _) held = refused-or-read e held.read
  not-both (row-14 e b _) held = meets-or-breaks e b held.read held.meets-first
  not-both {m = m} {found} (row-15 {m = x} {found = some} e _ few _ _) held =
      crowded m (room_for (length entries)) some found
      (subst (λ (k : Model). FirstRegions k (room_for (length entries)) some) (read_one table x m e held.read) few) held.all
      held.fits

  pub held_one : {left left' : List ℕ} {m m' : Model} {found found' : List Region} → GraphHeld table entries left m found
      → GraphHeld table entries left' m' found' → (m ≡ m') × (found ≡ found')
  held_one {m = m} {m'} {found} {found'} one two =
      let same = read_one table m m' one.read two.read in
      (same, order-one m' found found' (subst (λ (k : Model). InOrder k found) same one.in_order) two.in_order)

  -- ---- A call

  module _ {left left' : List ℕ} {kept kept' : Type 0} {own own' : Model → List Region → Answer → Type 0}
      (rows-one : (m : Model) (found : List Region) (a b : Answer) → AllRegions m found → own m found a → own' m found b → a ≡ b) where
    pub only-answer : {a b : Answer} → ByList table entries left kept own a → ByList table entries left' kept' own' b → a ≡ b
    only-answer (stopped r _) (stopped s _) = stopped-one r s
    only-answer (stopped r _) (went_on h _) = absurd (not-both r h)
    only-answer (went_on h _) (stopped r _) = absurd (not-both r h)
    only-answer {a} {b} (went_on {m} {found} h o) (went_on {m = m'} {found = found'} k p) =
        let (same, list) = held_one h k in
        rows-one m found a b h.all o
        (subst (λ (l : List Region). own' m l b) (sym list) (subst (λ (x : Model). own' x found' b) (sym same) p))

-- ---- The rows of each call

pub graph-only : {m : Model} {found : List Region} {a b : Answer} → AllRegions m found → GraphRows m found a → GraphRows m found b → a ≡ b
graph-only all graph-result graph-result = refl

pub place-only : {l v₀ v₁ v₂ v₃ d : ℕ} {m : Model} {found : List Region} {a b : Answer} → AllRegions m found
    → PlaceRows l v₀ v₁ v₂ v₃ d m found a → PlaceRows l v₀ v₁ v₂ v₃ d m found b → a ≡ b
place-only all (place-row-20 e) (place-row-20 f) = refl
place-only all (place-row-20 e) (place-row-21 t _ _) = absurd (e t)
place-only all (place-row-20 e) (place-result t _ _ _ _) = absurd (e t)
place-only all (place-row-21 t _ _) (place-row-20 e) = absurd (e t)
place-only all (place-row-21 _ _ _) (place-row-21 _ _ _) = refl
place-only {m = m} {found} all (place-row-21 _ _ away) (place-result _ _ number below is) =
    absurd (away ((all.all _).1 (subst (λ (r : Region). Memᴰ r found) (is (first m)) (member (first m) found number below))))
place-only all (place-result t _ _ _ _) (place-row-20 e) = absurd (e t)
place-only {m = m} {found} all (place-result _ _ number below is) (place-row-21 _ _ away) =
    absurd (away ((all.all _).1 (subst (λ (r : Region). Memᴰ r found) (is (first m)) (member (first m) found number below))))
place-only {m = m} all (place-result _ _ i hi at) (place-result _ _ j hj bt) =
    ap (λ (x : ℕ). result_as x 0 0) (all.different (first m) i j hi hj (at (first m) ∙ sym (bt (first m))))

-- Both lists are long enough, or one is short.
long-or-short : {first second n : ℕ} → (n ≤ first) × (n ≤ second) → (first < n) ⊎ (second < n) → ⊥
long-or-short (a, b) (inl h) = omega (arith, a, h)
long-or-short (a, b) (inr h) = omega (arith, b, h)

below-or-past : {r s n : ℕ} → (r < n) × (s < n) → (n ≤ r) ⊎ (n ≤ s) → ⊥
below-or-past (a, b) (inl h) = omega (arith, a, h)
below-or-past (a, b) (inr h) = omega (arith, b, h)

pub reduce-only : {first second first' second' first'' second'' : List ℕ} {m : Model} {found : List Region} {a b : Answer}
    → AllRegions m found → ReduceRows first second first' second' m found a → ReduceRows first second first'' second'' m found b → a ≡ b
reduce-only all (reduce-row-16 _ _) (reduce-row-16 _ _) = refl
reduce-only all (reduce-row-16 e _) (reduce-result f _) = absurd (long-or-short f e)
reduce-only all (reduce-result f _) (reduce-row-16 e _) = absurd (long-or-short f e)
reduce-only all (reduce-result _ _) (reduce-result _ _) = refl

pub pair-only : {first second : List ℕ} {r s : ℕ} {first' second' first'' second'' : List ℕ} {m : Model} {found : List Region}
    {a b : Answer}
    → AllRegions m found → PairRows first second r s first' second' m found a → PairRows first second r s first'' second'' m found b → a ≡ b
pair-only all (pair-row-16 _ _) (pair-row-16 _ _) = refl
pair-only all (pair-row-16 e _) (pair-row-19 f _ _) = absurd (long-or-short f e)
pair-only all (pair-row-16 e _) (pair-shared f _ _ _) = absurd (long-or-short f e)
pair-only all (pair-row-16 e _) (pair-apart f _ _ _) = absurd (long-or-short f e)
pair-only all (pair-row-19 f _ _) (pair-row-16 e _) = absurd (long-or-short f e)
pair-only all (pair-row-19 _ _ _) (pair-row-19 _ _ _) = refl
pair-only all (pair-row-19 _ e _) (pair-shared _ f _ _) = absurd (below-or-past f e)
pair-only all (pair-row-19 _ e _) (pair-apart _ f _ _) = absurd (below-or-past f e)
pair-only all (pair-shared f _ _ _) (pair-row-16 e _) = absurd (long-or-short f e)
pair-only all (pair-shared _ f _ _) (pair-row-19 _ e _) = absurd (below-or-past f e)
pair-only all (pair-shared _ _ _ _) (pair-shared _ _ _ _) = refl
pair-only all (pair-shared _ _ _ e) (pair-apart _ _ _ f) = absurd (f e)
pair-only all (pair-apart f _ _ _) (pair-row-16 e _) = absurd (long-or-short f e)
pair-only all (pair-apart _ f _ _) (pair-row-19 _ e _) = absurd (below-or-past f e)
pair-only all (pair-apart _ _ _ f) (pair-shared _ _ _ e) = absurd (f e)
pair-only all (pair-apart _ _ _ _) (pair-apart _ _ _ _) = refl

pub judge-only : {proposal : List ℕ} {m : Model} {found : List Region} {a b : Answer} → AllRegions m found → JudgeRows proposal m found a
    → JudgeRows proposal m found b → a ≡ b
judge-only all (judge-row-17 _) (judge-row-17 _) = refl
judge-only all (judge-row-17 n) (judge-row-18 e _) = absurd (n e)
judge-only all (judge-row-17 n) (judge-result e _) = absurd (n e)
judge-only all (judge-row-18 e _) (judge-row-17 n) = absurd (n e)
judge-only all (judge-row-18 _ _) (judge-row-18 _ _) = refl
judge-only all (judge-row-18 _ n) (judge-result _ b) = absurd (n b)
judge-only all (judge-result e _) (judge-row-17 n) = absurd (n e)
judge-only all (judge-result _ b) (judge-row-18 _ n) = absurd (n b)
judge-only all (judge-result _ _) (judge-result _ _) = refl

-- ---- So for each call

module _ (table entries : List ℕ) {left left' : List ℕ} {a b : Answer} where
  pub graph-answer : ByList table entries left Unit GraphRows a → ByList table entries left' Unit GraphRows b → a ≡ b
  graph-answer = only-answer table entries (λ m found a b. graph-only)

  pub place-answer : (l v₀ v₁ v₂ v₃ d : ℕ) → ByList table entries left Unit (PlaceRows l v₀ v₁ v₂ v₃ d) a
      → ByList table entries left' Unit (PlaceRows l v₀ v₁ v₂ v₃ d) b → a ≡ b
  place-answer l v₀ v₁ v₂ v₃ d = only-answer table entries (λ m found a b. place-only)

  pub judge-answer : (proposal : List ℕ) → ByList table entries left Unit (JudgeRows proposal) a
      → ByList table entries left' Unit (JudgeRows proposal) b → a ≡ b
  judge-answer proposal = only-answer table entries (λ m found a b. judge-only)

  module _ (first second first' second' first'' second'' : List ℕ) where
    pub reduce-answer : ByList table entries left ((first' ≡ first) × (second' ≡ second)) (ReduceRows first second first' second') a
        → ByList table entries left' ((first'' ≡ first) × (second'' ≡ second)) (ReduceRows first second first'' second'') b → a ≡ b
    reduce-answer = only-answer table entries (λ m found a b. reduce-only)

    pub pair-answer : (r s : ℕ)
        → ByList table entries left ((first' ≡ first) × (second' ≡ second)) (PairRows first second r s first' second') a
        → ByList table entries left' ((first'' ≡ first) × (second'' ≡ second)) (PairRows first second r s first'' second'') b → a ≡ b
    pair-answer r s = only-answer table entries (λ m found a b. pair-only)
