-- What follows of one clock, of four fractions, of one value, and of an answer from the definitions: laws that stand for a reader of the
-- definitions; the code needs none of them.
use Rattle.std.specs.Prelude.{ℕ, ◌+◌, ◌*◌, ◌/◌, ◌%◌, ◌≤◌, ◌<◌, ◌≡◌, refl, Bool, true, false, cond, not, ◌&&◌, ◌||◌}
use Rattle.std.specs.Prelude.{List, [], ◌∷◌, map, get_or, eqb, leb, ltb, Result, Ok, Err}
use Rattle.std.proofs.Common.{arith, sym, ◌∙◌, ap, ap₂, eq-eqb, ne_eqb, le-leb, le-ltb, lt-ltb}
use Rattle.std.proofs.lemmas.Bool.{eqb-false, lt-leb}
use Rattle.table.specs.Model.{Model}
use Rattle.table.specs.Reading.{accepted, read_table}
use Rattle.table.specs.Reasons.{refusal_at}
use Rattle.table.specs.declared.refusals.Reason.TheVariants.{BadState, Unreached}
use Rattle.table.specs.declared.refusals.Refusal.{Refusal}
use Rattle.clocks.specs.Cells.{Cell, over, at, fraction_of, member, rank}
use Rattle.clocks.specs.Packed.{over_part, clock_of}
use Rattle.clocks.specs.declared.region.Bounds.{Bounds}
use Rattle.regions.specs.Call as C
use Rattle.regions.specs.Call.{Outcome, from_answer, outcome_of, graph_of, entries_after}
use Rattle.states.specs.States.{State}
use Rattle.states.specs.Placing.{value_cell, state_cell, state_cells, placed}
use Rattle.states.specs.Spots.{spot_of, spot_wholes, spot_ranks, is_fresh, fresh_count}
use Rattle.states.specs.StateCall.{asked, numbered, placed_among}
use Rattle.states.specs.Laws.Spots as S
use Rattle.states.specs.Laws.Spots.{rank-more, rank-none}
use Rattle.states.specs.declared.state.Spot.{Spot}

-- ---- One clock, at v/d

abbrev pub value_at : Bounds → (d i v : ℕ) → Cell
value_at bounds d i v = cond (ltb i bounds.count) (value_cell d (get_or bounds.bound i 0) v) (over 0)

pub record SpotIs (s : Spot) (c : Cell) : Type 0 where
  pub whole : s.whole ≡ (clock_of c).whole
  pub fraction : s.fraction ≡ fraction_of c

pub record SpotsAre (p q r t : Spot) (a b c d : Cell) : Type 0 where
  pub a-is : SpotIs p a
  pub b-is : SpotIs q b
  pub c-is : SpotIs r c
  pub d-is : SpotIs t d

module _ (bounds : Bounds) (d i v : ℕ) where
  here : i < bounds.count → value_at bounds d i v ≡ value_cell d (get_or bounds.bound i 0) v
  here h = rw (lt-ltb i bounds.count h) refl

  -- The clock is over.
  pub spot-over : (s : Spot) → i < bounds.count → get_or bounds.bound i 0 * d < v → s.whole ≡ over_part → s.fraction ≡ 0
      → SpotIs s (value_at bounds d i v)
  spot-over s h past ew ef =
      let e : value_at bounds d i v ≡ over (get_or bounds.bound i 0) = here h ∙ rw (lt-ltb (get_or bounds.bound i 0 * d) v past) refl in
      record { whole = ew ∙ sym (ap (λ c. (clock_of c).whole) e); fraction = ef ∙ sym (ap fraction_of e) }

  -- The model does not have the clock.
  pub spot-beyond : (s : Spot) → bounds.count ≤ i → s.whole ≡ over_part → s.fraction ≡ 0 → SpotIs s (value_at bounds d i v)
  spot-beyond s h ew ef =
      let e : value_at bounds d i v ≡ over 0 = rw (le-ltb i bounds.count h) refl in
      record { whole = ew ∙ sym (ap (λ c. (clock_of c).whole) e); fraction = ef ∙ sym (ap fraction_of e) }

  -- The clock has a whole part and a fraction.
  pub spot-at : (s : Spot) → i < bounds.count → v ≤ get_or bounds.bound i 0 * d → v / d < 256 → s.whole ≡ v / d → s.fraction ≡ v % d
      → SpotIs s (value_at bounds d i v)
  spot-at s h low byte ew ef =
      let e : value_at bounds d i v ≡ at (get_or bounds.bound i 0) (v / d) (v % d) =
      here h ∙ rw (le-ltb (get_or bounds.bound i 0 * d) v low) refl in
      record { whole = ew ∙ omega (arith, byte) ∙ sym (ap (λ c. (clock_of c).whole) e); fraction = ef ∙ sym (ap fraction_of e) }

-- Clock i of a state is at its value.
pub value-cell-is : (bounds : Bounds) (s : State) (i : ℕ) → state_cell bounds s i ≡ value_at bounds s.denominator i (get_or s.values i 0)
unfolding state_cell
value-cell-is bounds s i = refl

-- A region with the bytes of four clocks of a state is the state's region.
pub region-is : (bounds : Bounds) (location v₀ v₁ v₂ v₃ d : ℕ) (p q r t : Spot)
    → SpotsAre p q r t (value_at bounds d 0 v₀) (value_at bounds d 1 v₁) (value_at bounds d 2 v₂) (value_at bounds d 3 v₃)
    → (whole ranks : List ℕ) → whole ≡ spot_wholes bounds.count (p ∷ q ∷ r ∷ t ∷ [])
    → ranks ≡ spot_ranks bounds.count (p ∷ q ∷ r ∷ t ∷ [])
    → record { location = location; whole = whole; rank = ranks } ≡ placed bounds (asked location v₀ v₁ v₂ v₃ d)
unfolding state_cell
region-is bounds location v₀ v₁ v₂ v₃ d p q r t is whole ranks ew er =
    S.region-is bounds (asked location v₀ v₁ v₂ v₃ d) (p ∷ q ∷ r ∷ t ∷ []) whole ranks same ew er
  where
    spot-is : (s : Spot) (c : Cell) → SpotIs s c → s ≡ spot_of c
    spot-is s c e = ap₂ (λ (x y : ℕ). record { whole = x; fraction = y }) e.whole e.fraction

    same : (p ∷ q ∷ r ∷ t ∷ []) ≡ map spot_of (state_cells bounds (asked location v₀ v₁ v₂ v₃ d))
    same = rw (spot-is p _ is.a-is, spot-is q _ is.b-is, spot-is r _ is.c-is, spot-is t _ is.d-is) refl

-- ---- Ranks by counting

-- Zeros among the others do not matter to a fraction that is not 0.
fresh-padded : (f x : ℕ) (l k : List ℕ) → ((x ≡ 0 → ⊥) → member x l ≡ member x k) → is_fresh f x l ≡ is_fresh f x k
fresh-padded f x l k same = go (eqb x 0) refl
  where
    go : (b : Bool) → eqb x 0 ≡ b → is_fresh f x l ≡ is_fresh f x k
    go true e = rw e refl
    go false e = rw (same (eqb-false x 0 e)) refl

-- The rank among four, counted.
pub rank-four : (f a b c d : ℕ) → fresh_count f a (b ∷ c ∷ d ∷ []) + fresh_count f b (c ∷ d ∷ 0 ∷ [])
    + fresh_count f c (d ∷ 0 ∷ 0 ∷ []) + fresh_count f d (0 ∷ 0 ∷ 0 ∷ []) ≡ rank (a ∷ b ∷ c ∷ d ∷ []) f
rank-four f a b c d =
    let none = rank-none f in
    let last = rank-more d [] f in
    let third = rank-more c (d ∷ []) f in
    let second = rank-more b (c ∷ d ∷ []) f in
    let first = rank-more a (b ∷ c ∷ d ∷ []) f in
    let pd : is_fresh f d (0 ∷ 0 ∷ 0 ∷ []) ≡ is_fresh f d [] = fresh-padded f d (0 ∷ 0 ∷ 0 ∷ []) [] (λ n. rw (ne_eqb d 0 n) refl) in
    let pc : is_fresh f c (d ∷ 0 ∷ 0 ∷ []) ≡ is_fresh f c (d ∷ []) =
    fresh-padded f c (d ∷ 0 ∷ 0 ∷ []) (d ∷ []) (λ n. rw (ne_eqb c 0 n) refl) in
    let pb : is_fresh f b (c ∷ d ∷ 0 ∷ []) ≡ is_fresh f b (c ∷ d ∷ []) =
    fresh-padded f b (c ∷ d ∷ 0 ∷ []) (c ∷ d ∷ []) (λ n. rw (ne_eqb b 0 n) refl) in
    rw (pd, pc, pb) (omega (arith, none, last, third, second, first))

-- Where a fraction is not fresh among three others, and where it is.
module _ (f x p q s : ℕ) where
  pub fresh-zero : x ≡ 0 → 0 ≡ fresh_count f x (p ∷ q ∷ s ∷ [])
  fresh-zero e = rw (eq-eqb x 0 e) refl

  pub fresh-above : (x ≡ 0 → ⊥) → f < x → 0 ≡ fresh_count f x (p ∷ q ∷ s ∷ [])
  fresh-above n h = rw (ne_eqb x 0 n, lt-leb x f h) refl

  stale : (b c : Bool) → c ≡ true → ◌≡◌ {A = ℕ} 0 (cond (b && not c) 1 0)
  stale true c e = rw e refl
  stale false c e = refl

  or-last : (a b : Bool) → b ≡ true → (a || b) ≡ true
  or-last true b e = refl
  or-last false b e = e

  pub fresh-first : x ≡ p → 0 ≡ fresh_count f x (p ∷ q ∷ s ∷ [])
  fresh-first e = stale (not (eqb x 0) && leb x f) (member x (p ∷ q ∷ s ∷ [])) (rw (eq-eqb x p e) refl)

  pub fresh-second : x ≡ q → 0 ≡ fresh_count f x (p ∷ q ∷ s ∷ [])
  fresh-second e = stale (not (eqb x 0) && leb x f) (member x (p ∷ q ∷ s ∷ [])) (or-last (eqb x p) _ (rw (eq-eqb x q e) refl))

  pub fresh-third : x ≡ s → 0 ≡ fresh_count f x (p ∷ q ∷ s ∷ [])
  fresh-third e =
      stale (not (eqb x 0) && leb x f) (member x (p ∷ q ∷ s ∷ []))
      (or-last (eqb x p) _ (or-last (eqb x q) _ (rw (eq-eqb x s e) refl)))

  pub fresh-one : (x ≡ 0 → ⊥) → x ≤ f → (x ≡ p → ⊥) → (x ≡ q → ⊥) → (x ≡ s → ⊥) → 1 ≡ fresh_count f x (p ∷ q ∷ s ∷ [])
  fresh-one n h np nq ns = rw (ne_eqb x 0 n, le-leb x f h, ne_eqb x p np, ne_eqb x q nq, ne_eqb x s ns) refl

-- ---- A value of a clock within n, and one of a clock beyond.

pub not-stray : (n i v : ℕ) → i < n → false ≡ (leb n i && not (eqb v 0))
not-stray n i v h = rw (lt-leb n i h) refl

pub maybe-stray : (n i v : ℕ) → n ≤ i → not (eqb v 0) ≡ (leb n i && not (eqb v 0))
maybe-stray n i v h = rw (le-leb n i h) refl

-- ---- An answer, by its tests

pub twenty : (b : Bool) (other : Result ℕ Refusal) → b ≡ true → Err (refusal_at BadState 0) ≡ cond b (Err (refusal_at BadState 0)) other
twenty b other e = rw e refl

pub twenty-one : (b : Bool) (n k k' : ℕ) → b ≡ false → k ≡ k' → n ≤ k
    → Err (refusal_at Unreached 0) ≡ cond b (Err (refusal_at BadState 0)) (numbered n k')
twenty-one b n k k' e same h = rw (e, le-ltb k' n (omega (arith, same, h))) refl

pub has-number : (b : Bool) (n k k' : ℕ) → b ≡ false → k ≡ k' → k < n → Ok k ≡ cond b (Err (refusal_at BadState 0)) (numbered n k')
has-number b n k k' e same h = rw (e, lt-ltb k' n (omega (arith, same, h))) (ap Ok same)

-- What exploring is refused with, the call is.
pub place-refused : (m : Model) (s : State) (o : Outcome) (r : Refusal) → Err r ≡ graph_of o → Err r ≡ placed_among m s o
place-refused m s (C.refused reason place) r e = e
place-refused m s (C.cut found) r e = e
place-refused m s (C.whole found) r e = cc

-- What exploring a table comes to, by the model that it is read as.
pub explored : (table es es' : List ℕ) (g : Result ℕ Refusal) (m : Model) (cap : ℕ) → read_table table ≡ accepted m
    → g ≡ graph_of (outcome_of table cap) → es' ≡ entries_after es (outcome_of table cap)
    → (g ≡ graph_of (from_answer cap (accepted m))) × (es' ≡ entries_after es (from_answer cap (accepted m)))
unfolding outcome_of
explored table es es' g m cap read answer left =
    let is = ap (from_answer cap) read in (answer ∙ ap graph_of is, left ∙ ap (entries_after es) is)
