-- Laws for the code of the state call: what its tests come to, and how its steps are put together.
use Rattle.std.specs.Prelude.{ℕ, zero, suc, ◌-◌, ◌≤◌, ◌<◌, ◌≡◌, Bool, true, false, cond, not, ◌&&◌, ◌||◌, List, [], ◌∷◌}
use Rattle.std.specs.Prelude.{eqb, leb, ltb, length, get_or, take, drop, Result, Ok, Err}
use Rattle.std.specs.List.{list_any}
use Rattle.std.proofs.Common.{arith, sym, ◌∙◌, ap, ap₂, get_or-take}
use Rattle.std.proofs.Math.Path.{refl}
use borrow.Author.Tests.{eq-eqb, ne_eqb, lt-ltb, le-ltb, le-leb, lt-leb, ltb-true, leb-true, leb-false}
use Rattle.table.specs.Model.{Model}
use Rattle.table.specs.Reading.{accepted, read_table}
use Rattle.regions.specs.Graph.{bounds_of}
use Rattle.states.specs.States.{State}
use Rattle.clocks.specs.Cells.{Cell, over, close}
use Rattle.clocks.specs.Packed.{pack}
use Rattle.states.specs.Placing.{value_cell, state_cell, state_cells, placed}
use Rattle.regions.specs.Explore.{listed}
use Rattle.regions.specs.Entries.{max_entries}
use Rattle.regions.specs.Call.{Outcome, refused, cut, whole, from_answer, outcome_of, graph_of, entries_after}
use Rattle.regions.specs.View.{number_in}
use Rattle.states.specs.StateCall.{most_denominator, strays, is_not_taken, own_state, numbered, placed_among, placed_from, place_of}
use Rattle.regions.specs.Laws.Bytes.{listed-whole}
use Rattle.regions.specs.Laws.Call.{whole-graph}
use Rattle.clocks.specs.declared.region.Region.{Region}
use Rattle.table.specs.Reasons.{refusal_at}
use Rattle.table.specs.declared.refusals.Reason.TheVariants.{TooManyRegions, BadState}
use Rattle.table.specs.declared.refusals.Refusal.{Refusal}

-- ---- Laws for the code

-- A value that is not 0, of a clock beyond n.
strays-from : (n i : ℕ) (vs : List ℕ) → list_any (λ v. not (eqb v 0)) (drop (n - i) vs) ≡ strays n i vs
strays-from n i [] = none (n - i)
  where
    none : (k : ℕ) → list_any (λ v. not (eqb v 0)) (drop k []) ≡ false
    none zero = refl
    none (suc k) = refl
strays-from n i (v ∷ vs) = by (leb n i) refl (strays-from n (suc i) vs)
  where
    by : (b : Bool) → leb n i ≡ b → list_any (λ v. not (eqb v 0)) (drop (n - suc i) vs) ≡ strays n (suc i) vs
        → list_any (λ v. not (eqb v 0)) (drop (n - i) (v ∷ vs)) ≡ ((b && not (eqb v 0)) || strays n (suc i) vs)
    by true h e =
        let now : n - i ≡ 0 = omega (arith, leb-true n i h) in
        let next : n - suc i ≡ 0 = omega (arith, leb-true n i h) in
        let e' : list_any (λ v. not (eqb v 0)) vs ≡ strays n (suc i) vs = rw next at e in
        rw (now, e')
    by false h e =
        let next : n - i ≡ suc (n - suc i) = omega (arith, leb-false n i h) in
        rw (next, e)

pub strays-any : (n : ℕ) (vs : List ℕ) → list_any (λ v. not (eqb v 0)) (drop n vs) ≡ strays n 0 vs
strays-any n vs = let all : n ≡ n - 0 = omega arith in ap (λ k. list_any (λ v. not (eqb v 0)) (drop k vs)) all ∙ strays-from n 0 vs

module _ (m : Model) (s : State) where
  pub no-location : m.locations ≤ s.location → true ≡ is_not_taken m s
  unfolding is_not_taken
  no-location h = rw (le-leb m.locations s.location h) refl

  module _ (here : s.location < m.locations) where
    pub no-parts : s.denominator ≡ 0 → true ≡ is_not_taken m s
    unfolding is_not_taken
    no-parts e = rw (lt-leb m.locations s.location here, eq-eqb s.denominator 0 e) refl

    module _ (some : s.denominator ≡ 0 → ⊥) where
      pub many-parts : most_denominator < s.denominator → true ≡ is_not_taken m s
      unfolding is_not_taken
      many-parts h =
          rw (lt-leb m.locations s.location here, ne_eqb s.denominator 0 some, lt-ltb most_denominator s.denominator h) refl

      pub by-strays : s.denominator ≤ most_denominator → strays m.clocks 0 s.values ≡ is_not_taken m s
      unfolding is_not_taken
      by-strays h =
          rw (lt-leb m.locations s.location here, ne_eqb s.denominator 0 some, le-ltb most_denominator s.denominator h) refl

-- ---- The region of a state depends on the values of the model's clocks alone

own-cell : (m : Model) (s : State) (i : ℕ) → state_cell (bounds_of m) (own_state m s) i ≡ state_cell (bounds_of m) s i
unfolding state_cell own_state bounds_of
own-cell m s i = go (ltb i m.clocks) refl (get_or (bounds_of m).bound i 0)
  where
    go : (b : Bool) → ltb i m.clocks ≡ b → (bound : ℕ)
        → cond b (value_cell s.denominator bound (get_or (take m.clocks s.values) i 0)) (over 0)
        ≡ cond b (value_cell s.denominator bound (get_or s.values i 0)) (over 0)
    go true e bound = ap (value_cell s.denominator bound) (get_or-take m.clocks s.values i 0 (ltb-true i m.clocks e))
    go false e bound = refl

own-location : (m : Model) (s : State) → (own_state m s).location ≡ s.location
unfolding own_state
own-location m s = refl

own-cells : (m : Model) (s : State) → state_cells (bounds_of m) (own_state m s) ≡ state_cells (bounds_of m) s
own-cells m s = rw (own-cell m s 0, own-cell m s 1, own-cell m s 2, own-cell m s 3) refl

pub placed-own : (m : Model) (s : State) → placed (bounds_of m) (own_state m s) ≡ placed (bounds_of m) s
unfolding placed
placed-own m s =
    ap (λ (l : ℕ). pack (bounds_of m) l (close (state_cells (bounds_of m) (own_state m s)))) (own-location m s)
    ∙ ap (λ (cs : List Cell). pack (bounds_of m) s.location (close cs)) (own-cells m s)

-- ---- The steps of the code, put together

pub is-found : (n j k : ℕ) → k ≡ j → j < n → Ok j ≡ numbered n k
is-found n j k e h = rw (e, lt-ltb j n h) refl

-- What exploring a table comes to, by the model that it is read as.
outcome-read : (table : List ℕ) (m : Model) (cap : ℕ) → read_table table ≡ accepted m → outcome_of table cap ≡ from_answer cap (accepted m)
unfolding outcome_of
outcome-read table m cap read = ap (from_answer cap) read

-- Where exploring is refused, the call is.
pub place-refused : (table : List ℕ) (m : Model) (s : State) (cap : ℕ) → read_table table ≡ accepted m → (r : Refusal)
    → Err r ≡ graph_of (outcome_of table cap) → Err r ≡ place_of table cap s
unfolding place_of
place-refused table m s cap read r e =
    by (from_answer cap (accepted m)) (e ∙ ap graph_of (outcome-read table m cap read)) ∙ sym (ap (placed_from cap s) read)
  where
    by : (o : Outcome) → Err r ≡ graph_of o → Err r ≡ placed_among m s o
    by (refused reason place) e = e
    by (cut found) e = e
    by (whole found) e = cc

module _ (table es es' : List ℕ) (m : Model) (cap : ℕ) (read : read_table table ≡ accepted m) (room : cap ≤ max_entries) (n : ℕ)
    (answer : Ok n ≡ graph_of (outcome_of table cap)) (left : es' ≡ entries_after es (outcome_of table cap)) where
  the-regions : (o : Outcome) → outcome_of table cap ≡ o → (found : List Region) × (outcome_of table cap ≡ whole found) × (length found ≡ n)
  the-regions (refused reason place) e = let none : Ok n ≡ Err (refusal_at reason place) = answer ∙ ap graph_of e in cc
  the-regions (cut found) e = let none : Ok n ≡ Err (refusal_at TooManyRegions 0) = answer ∙ ap graph_of e in cc
  the-regions (whole found) e = (found, e, let t : Ok n ≡ Ok (length found) = answer ∙ ap graph_of e in cc)

  -- There are no more regions than entries.
  pub place-few : n ≤ max_entries
  place-few =
      let f = the-regions (outcome_of table cap) refl in
      let g = whole-graph table cap f.0 f.1 in
      omega (arith, g.2, f.2, room)

  pub place-regions : (s : State) (r : Result ℕ Refusal)
      → r ≡ cond (is_not_taken m s) (Err (refusal_at BadState 0)) (numbered n (number_in (listed es' n) (placed (bounds_of m) s)))
      → r ≡ place_of table cap s
  unfolding place_of
  place-regions s r e =
      let f = the-regions (outcome_of table cap) refl in
      let found = f.0 in
      let list : listed es' n ≡ found =
      ap₂ (λ (x : List ℕ) (k : ℕ). listed x k) left (sym f.2) ∙ listed-whole table es cap found f.1 in
      let if_taken : Result ℕ Refusal → Result ℕ Refusal = λ r. cond (is_not_taken m s) (Err (refusal_at BadState 0)) r in
      e
      ∙ ap₂ (λ (k : List Region) (x : ℕ). if_taken (numbered x (number_in k (placed (bounds_of m) s)))) list (sym f.2)
      ∙ ap (λ q. if_taken (numbered (length found) (number_in found q))) (sym (placed-own m s))
      ∙ sym (ap (placed_among m s) (sym (outcome-read table m cap read) ∙ f.1))
      ∙ sym (ap (placed_from cap s) read)
