-- What the answer of the state call says: 20 exactly where the call does not take what is asked; a number exactly where the
-- state's region was reached, and then the region with that number; 21 otherwise. No other number is refused but those of the
-- graph call (`placed-numbers`), and equal states are answered alike (`same_place`).
use Rattle.std.specs.Prelude.{ℕ, ◌≤◌, ◌<◌, ◌⊎◌, ◌≡◌, Bool, true, false, cond, ◌||◌, List, eqb, leb, ltb, length, get_or, Result, Ok, Err}
use Rattle.std.proofs.Common.{arith, inr, sym, ◌∙◌, length-take, leb-false, lt-ltb, ltb-true}
use Rattle.std.proofs.Math.Logic.{inl}
use Rattle.std.proofs.Math.Path.{refl, ap}
use Rattle.std.proofs.lemmas.Bool.{eqb-false}
use Rattle.table.specs.Model.{Model}
use Rattle.table.specs.Reading.{Answer, refusal, accepted, read_table}
use Rattle.table.proofs.Laws.Models.{sound}
use Rattle.table.proofs.Laws.Numbers.{refusal-numbers}
use Rattle.regions.specs.Graph.{bounds_of, Reached}
use Rattle.states.specs.States.{State, IsState, Same}
use Rattle.states.specs.Placing.{placed}
use Rattle.regions.specs.Call.{Outcome, refused, cut, whole, from_answer, outcome_of}
use Rattle.regions.specs.View.{number_in}
use Rattle.states.specs.StateCall.{is_not_taken, own_state, numbered, placed_among, placed_from, place_of}
use Rattle.regions.specs.Laws.Call.{false-true, whole-model}
use Rattle.regions.specs.Order.{AllRegions}
use Rattle.regions.specs.Laws.Numbers.{refused-number}
use Rattle.states.specs.Laws.States.{same-placed}
use Rattle.regions.specs.Laws.View.{has-number, number-listed}
use Rattle.clocks.specs.declared.region.Region.{Region}
use Rattle.table.specs.Reasons.{number, refusal_at}
use Rattle.table.specs.declared.refusals.Reason.{Reason}
use Rattle.table.specs.declared.refusals.Reason.TheVariants.{TooManyRegions, BadState, Unreached}
use Rattle.table.specs.declared.refusals.Refusal.{Refusal}

neither : (a b : Bool) → (a || b) ≡ false → (a ≡ false) × (b ≡ false)
neither true b e = false-true (sym e)
neither false b e = (refl, e)

-- What the call takes is a state of the model.
pub own-state : (table : List ℕ) (m : Model) → read_table table ≡ accepted m → (s : State) → length s.values ≡ 4
    → is_not_taken m s ≡ false → IsState m (own_state m s)
unfolding is_not_taken own_state
own-state table m read s four e =
    let (l, rest) = neither (leb m.locations s.location) _ e in
    let (d, more) = neither (eqb s.denominator 0) _ rest in
    let few = (sound table m read).clocks in
    record {
      location = leb-false m.locations s.location l;
      values = length-take m.clocks s.values ∙ omega (arith, four, few);
      denominator = let some = eqb-false s.denominator 0 d in omega (arith, some);
    }

module _ (table : List ℕ) (cap : ℕ) (found : List Region) (out : outcome_of table cap ≡ whole found) (m : Model)
    (read : read_table table ≡ accepted m) (s : State) where
  -- The region asked for.
  abbrev pub asked_region : Region
  asked_region = placed (bounds_of m) (own_state m s)

  answer-is : place_of table cap s
      ≡ cond (is_not_taken m s) (Err (refusal_at BadState 0)) (numbered (length found) (number_in found asked_region))
  unfolding place_of outcome_of
  answer-is = ap (placed_from cap s) read ∙ ap (placed_among m s) (sym (ap (from_answer cap) read) ∙ out)

  -- 20: the call does not take it.
  pub place-twenty : is_not_taken m s ≡ true → place_of table cap s ≡ Err (refusal_at BadState 0)
  place-twenty e = answer-is ∙ rw e refl

  all : AllRegions m found
  all = (whole-model table cap found m out read).0

  module _ (some : is_not_taken m s ≡ false) where
    -- The region was reached: its number is answered.
    pub place-number : Reached m asked_region
        → (j : ℕ) × (place_of table cap s ≡ Ok j) × (j < length found) × ((d : Region) → get_or found j d ≡ asked_region)
    place-number r =
        let k = has-number found asked_region ((all.all asked_region).0 r) in (
          number_in found asked_region,
          answer-is ∙ rw (some, lt-ltb (number_in found asked_region) (length found) k.inside) refl,
          k.inside,
          k.is,
        )

    -- It was not: 21.
    pub place-twenty-one : (Reached m asked_region → ⊥) → place_of table cap s ≡ Err (refusal_at Unreached 0)
    place-twenty-one none = answer-is ∙ rw (some, past (ltb (number_in found asked_region) (length found)) refl) refl
      where
        past : (b : Bool) → ltb (number_in found asked_region) (length found) ≡ b
            → ltb (number_in found asked_region) (length found) ≡ false
        past true e = absurd (none ((all.all asked_region).1 (number-listed found asked_region (ltb-true _ _ e))))
        past false e = e

-- ---- For every table and all room

-- What the call takes has a denominator.
taken-denominator : (m : Model) (s : State) → is_not_taken m s ≡ false → 1 ≤ (own_state m s).denominator
unfolding is_not_taken own_state
taken-denominator m s e =
    let (l, rest) = neither (leb m.locations s.location) _ e in
    let (d, more) = neither (eqb s.denominator 0) _ rest in
    let some = eqb-false s.denominator 0 d in
    omega (arith, some)

-- "Equal values at one location are one state": where the call takes both, it answers both alike.
pub same_place : (table : List ℕ) (cap : ℕ) (m : Model) → read_table table ≡ accepted m → (s t : State)
    → is_not_taken m s ≡ false → is_not_taken m t ≡ false → Same (own_state m s) (own_state m t)
    → place_of table cap s ≡ place_of table cap t
unfolding place_of
same_place table cap m read s t hs ht e =
    ap (placed_from cap s) read ∙ alike (from_answer cap (accepted m)) ∙ sym (ap (placed_from cap t) read)
  where
    alike : (o : Outcome) → placed_among m s o ≡ placed_among m t o
    alike (refused reason place) = refl
    alike (cut found) = refl
    alike (whole found) =
        rw (hs, ht) (ap (λ (r : Region). numbered (length found) (number_in found r))
        (same-placed (bounds_of m) (taken-denominator m s hs) (taken-denominator m t ht) e))

-- Refusals that are the same have one reason.
same-reason : (a b : Reason) (p q : ℕ) → ◌≡◌ {A = Result ℕ Refusal} (Err (refusal_at a p)) (Err (refusal_at b q)) → a ≡ b
same-reason a b p q e = let one : refusal_at a p ≡ refusal_at b q = cc in ap (λ (x : Refusal). x.reason) one

module _ (table : List ℕ) (cap : ℕ) (s : State) (reason : Reason) (place : ℕ) where
  -- The numbers of the state call: those of the graph call, 20 and 21.
  abbrev Allowed : Type 0
  Allowed = ((1 ≤ number reason) × (number reason ≤ 15)) ⊎ ((number reason ≡ 20) ⊎ (number reason ≡ 21))

  by_number : (count k : ℕ) → numbered count k ≡ Err (refusal_at reason place) → Allowed
  by_number count k = go (ltb k count)
    where
      go : (b : Bool) → cond b (Ok k) (Err (refusal_at Unreached 0)) ≡ Err (refusal_at reason place) → Allowed
      go true e = absurd (let z : ◌≡◌ {A = ℕ} 0 1 = cc in omega arith)
      go false e = inr (inr (ap number (sym (same-reason Unreached reason 0 place e))))

  by-outcome : (m : Model) (o : Outcome) → outcome_of table cap ≡ o → placed_among m s o ≡ Err (refusal_at reason place) → Allowed
  by-outcome m (refused r p) out e =
      let low = refused-number table cap r p out in
      inl (omega (arith, low, ap number (same-reason r reason p place e)))
  by-outcome m (cut found) out e = inl (omega (arith, ap number (same-reason TooManyRegions reason 0 place e)))
  by-outcome m (whole found) out e = go (is_not_taken m s) e
    where
      go : (b : Bool)
          → cond b (Err (refusal_at BadState 0)) (numbered (length found) (number_in found (placed (bounds_of m) (own_state m s))))
          ≡ Err (refusal_at reason place) → Allowed
      go true t = inr (inl (ap number (sym (same-reason BadState reason 0 place t))))
      go false t = by_number (length found) _ t

  by_answer : (a : Answer) → read_table table ≡ a → placed_from cap s a ≡ Err (refusal_at reason place) → Allowed
  unfolding outcome_of
  by_answer (refusal r p) t e =
      let low = refusal-numbers table r p t in
      inl (omega (arith, low, ap number (same-reason r reason p place e)))
  by_answer (accepted m) t e = by-outcome m (from_answer cap (accepted m)) (ap (from_answer cap) t) e

  pub placed-numbers : place_of table cap s ≡ Err (refusal_at reason place)
      → ((1 ≤ number reason) × (number reason ≤ 15)) ⊎ ((number reason ≡ 20) ⊎ (number reason ≡ 21))
  unfolding place_of
  placed-numbers e = by_answer (read_table table) refl e
