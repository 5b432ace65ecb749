-- The answer of each call, and what it left in what was lent, are by document 01's list, row by row. What the graph call comes to decides
-- rows 1 to 15 (`rows`); then come the rows of each call.
use Rattle.std.specs.Prelude.{ℕ, zero, suc, ◌+◌, ◌≤◌, ◌<◌, ◌⊎◌, ◌↔◌, ◌≡◌, Bool, true, false, not}
use Rattle.std.specs.Prelude.{◌&&◌, ◌||◌, List, [], ◌∷◌, ◌++◌, eqb, leb, ltb, length, get_or, drop, Result, Ok, Err}
use Rattle.std.proofs.Common.{arith, ◌∙◌}
use Rattle.std.proofs.Math.Logic.{inl, inr}
use Rattle.std.proofs.Math.Path.{refl, sym, ap, subst}
use Rattle.std.proofs.Math.Bool.{false≢true, cond}
use borrow.Author.Tests.{eq-eqb, ne_eqb, eqb-true, eqb-false, ltb-true, ltb-false, le-ltb, leb-true, leb-false, le-leb, lt-leb}
use Rattle.regions.specs.Passed.{Model, Answer as Read, read_table, refusal, accepted, Region}
use Rattle.regions.specs.Graph.{Reached}
use Rattle.regions.specs.Call.{Outcome, refused, cut, whole, room_for, from_answer, outcome_of, graph_of, entries_after}
use Rattle.regions.specs.View.{number_in}
use Rattle.regions.specs.Laws.Call.{refused-graph, cut-graph, whole-graph}
use Rattle.regions.specs.Laws.Order.{whole-order, cut-order}
use Rattle.regions.specs.Laws.View.{has-number, number-listed}
use Rattle.partition.specs.Passed.{Reason, Refusal, number, refusal_at}
use Rattle.table.specs.declared.refusals.Reason.TheVariants.{TooManyRegions, ShortList, WrongLength, NoBisimulation, UnknownRegion}
use Rattle.table.specs.declared.refusals.Reason.TheVariants.{BadState, Unreached}
use Rattle.states.specs.States.{State, IsState}
use Rattle.states.specs.Alike.{region_in}
use Rattle.states.specs.StateCall.{asked, strays, is_not_taken, own_state, numbered, placed_among, placed_from, place_of}
use Rattle.states.specs.Laws.Placed.{own-state}
use Rattle.bisimulation.specs.Finite.{structure, related, accepts, rounds, last_blocks, block_count}
use Rattle.bisimulation.proofs.Laws.Rounds.{bisimulation-agree}
use Rattle.partition.specs.Instances.{graph}
use Rattle.partition.specs.Calls.{Accepted, from_outcome, after_graph, refuses, counts, acceptance, is_short, is_asked_past}
use Rattle.partition.specs.Calls.{blocks_of, numbered_in, reduce_of, list_of, list_after}
use Rattle.partition.specs.Calls.{shared_of, pair_of, pair_list_of, pair_list_after, judged_of, judge_of}
use Rattle.partition.specs.Laws.Calls.{on-accepted, on-refused, long-enough, below_both, judged-well}
use Rattle.partition.specs.Laws.Instances.{call-closed, call-placed}
use Rattle.partition.specs.Laws.Bisimilar.{accepted-iff}
use Rattle.listing.specs.Printed.{refusal_line}
use Rattle.listing.specs.Parts.{text_from, text_of, fitted, buffer_after, part_from, part_of}
use Rattle.listing.specs.declared.parts.Part.TheVariants as T
use Rattle.terkwabu.specs.Answers.{result_as, of, told_number, told_counts, told_sharing, told_acceptance}
use Rattle.terkwabu.specs.Answers.{of_graph, of_placing, of_reduction, of_pairing, of_judgement, told_part, of_part}
use Rattle.terkwabu.specs.Calls.{GraphCall, PlaceCall, ReduceCall, PairCall, JudgeCall, PartCall, LineCall}
use Rattle.terkwabu.specs.Rows.{Stopped, row-1-13, row-14, row-15, GraphHeld, ByList, stopped, went_on}
use Rattle.terkwabu.specs.Rows.{state_asked, Takes, GraphRows, graph-result, PlaceRows, place-row-20, place-row-21, place-result}
use Rattle.terkwabu.specs.Rows.{ReduceRows, reduce-row-16, reduce-result, PairRows, pair-row-16, pair-row-19, pair-shared, pair-apart}
use Rattle.terkwabu.specs.Rows.{Proposed, JudgeRows, judge-row-17, judge-row-18, judge-result}
use Rattle.terkwabu.specs.Rows.{Given, no_text, written, short, PartRows, part-row-1-13, part-result}
use Rattle.terkwabu.specs.declared.answer.Answer.{Answer}

-- ---- Rows 1 to 15

module _ (table entries entries' : List ℕ) (held : entries' ≡ entries_after entries (outcome_of table (room_for (length entries)))) where
  abbrev room : ℕ
  room = room_for (length entries)

  -- One of them is met, and the graph call says which; or none is.
  Rows : Type 0
  Rows =
      ((r : Refusal) × Stopped table entries entries' (number r.reason) r.place × (Err r ≡ graph_of (outcome_of table room)))
      ⊎ ((a : Accepted table room) × GraphHeld table entries entries' a.model a.found)

  rows : Rows
  unfolding Rows
  rows = by-outcome (outcome_of table room) refl
    where
      early : (n : Reason) (p : ℕ) → outcome_of table room ≡ refused n p → Stopped table entries entries' (number n) p
      early n p o =
          elim (refused-graph table room n p o) [
            | inl read ↦ row-1-13 read (held ∙ ap (entries_after entries) o)
            | inr t ↦
                let (m, read, breaks, en, ep) = t in
                subst (λ (x : Reason). Stopped table entries entries' (number x) p) (sym en)
                (subst (λ (y : ℕ). Stopped table entries entries' 14 y) (sym ep)
                (row-14 read breaks (held ∙ ap (entries_after entries) o)))
          ]

      by-outcome : (o : Outcome) → outcome_of table room ≡ o
          → ((r : Refusal) × Stopped table entries entries' (number r.reason) r.place × (Err r ≡ graph_of (outcome_of table room)))
          ⊎ ((a : Accepted table room) × GraphHeld table entries entries' a.model a.found)
      by-outcome (refused n p) o = inl (refusal_at n p, early n p o, sym (ap graph_of o))
      by-outcome (cut found) o =
          let (b, some) = cut-graph table room found o in
          inl (
            refusal_at TooManyRegions 0,
            row-15 b.read b.meets-first some (cut-order table room found b.model b.read o) (held ∙ ap (entries_after entries) o),
            sym (ap graph_of o),
          )
      by-outcome (whole found) o =
          let (b, all, fits) = whole-graph table room found o in
          inr (
            record { model = b.model; read = b.read; found = found; out = o },
            record {
              read = b.read;
              meets-first = b.meets-first;
              all = all;
              in_order = whole-order table room found b.model b.read o;
              fits = fits;
              entries-are = held ∙ ap (entries_after entries) o;
            },
          )

  -- A call that goes on after the graph call: its answer is of one of them, or of its own rows.
  module _ {A : Type 0} (go : Model → List Region → Result A Refusal) (told : A → Answer) (unchanged : Type 0)
      (own : Model → List Region → Answer → Type 0) where
    by-list : (answer : Answer) → answer ≡ of told (after_graph refuses go room (read_table table))
        → ((r : Refusal) → Err r ≡ graph_of (outcome_of table room) → unchanged)
        → ((a : Accepted table room) → own a.model a.found (of told (go a.model a.found)))
        → ByList table entries entries' unchanged own answer
    unfolding Rows
    by-list answer is same rest =
        elim rows [
          | inl t ↦
              let (r, row, e) = t in
              subst (ByList table entries entries' unchanged own)
              (sym (is ∙ ap (of told) (sym (on-refused refuses go table room r e)))) (stopped row (same r e))
          | inr t ↦
              let (a, here) = t in
              subst (ByList table entries entries' unchanged own) (sym (is ∙ ap (of told) (on-accepted refuses go table room a)))
              (went_on here (rest a))
        ]

-- ---- The graph call

graph-after : (table : List ℕ) (cap : ℕ)
    → graph_of (outcome_of table cap) ≡ after_graph refuses (λ m found. Ok (length found)) cap (read_table table)
unfolding outcome_of
graph-after table cap = by_answer (read_table table)
  where
    by-outcome : (m : Model) (o : Outcome)
        → graph_of o ≡ from_outcome refuses (λ found. Ok (length found)) o
    by-outcome m (refused n p) = refl
    by-outcome m (cut found) = refl
    by-outcome m (whole found) = refl

    by_answer : (x : Read) → graph_of (from_answer cap x) ≡ after_graph refuses (λ m found. Ok (length found)) cap x
    by_answer (refusal n p) = refl
    by_answer (accepted m) = by-outcome m (from_answer cap (accepted m))

pub graph-rows : (table entries : List ℕ) (answer : Answer) (entries' : List ℕ) → GraphCall table entries answer entries'
    → ByList table entries entries' Unit GraphRows answer
graph-rows table entries answer entries' call =
    by-list table entries entries' call.entries-are (λ m found. Ok (length found)) told_number Unit GraphRows answer
    (call.answer-is ∙ ap of_graph (graph-after table (room_for (length entries)))) (λ r e. tt) (λ a. graph-result)

-- ---- The state call

neither : (a b : Bool) → (a || b) ≡ false → (a ≡ false) × (b ≡ false)
neither true b e = absurd (false≢true (sym e))
neither false b e = (refl, e)

-- Clocks beyond the count are 0 exactly where none strays.
strays-none : (n i : ℕ) (vs : List ℕ) → strays n i vs ≡ false → (j : ℕ) → n ≤ i + j → get_or vs j 0 ≡ 0
strays-none n i [] e j h = refl
strays-none n i (v ∷ vs) e zero h = here (eqb v 0) refl (neither (leb n i && not (eqb v 0)) _ e).0
  where
    here : (b : Bool) → eqb v 0 ≡ b → (leb n i && not (eqb v 0)) ≡ false → v ≡ 0
    here true t f = eqb-true v 0 t
    here false t f = absurd (false≢true (sym f ∙ rw (le-leb n i (omega (arith, h)), t) refl))
strays-none n i (v ∷ vs) e (suc j) h =
    strays-none n (suc i) vs (neither (leb n i && not (eqb v 0)) _ e).1 j (omega (arith, h))

none-strays : (n i : ℕ) (vs : List ℕ) → ((j : ℕ) → n ≤ i + j → get_or vs j 0 ≡ 0) → strays n i vs ≡ false
none-strays n i [] all = refl
none-strays n i (v ∷ vs) all =
    rw (here (leb n i) refl) (none-strays n (suc i) vs (λ j h. all (suc j) (omega (arith, h))))
  where
    here : (b : Bool) → leb n i ≡ b → (leb n i && not (eqb v 0)) ≡ false
    here true t = rw (t, eq-eqb v 0 (all 0 (omega (arith, leb-true n i t)))) refl
    here false t = rw t refl

-- What is said of a state after the graph call.
abbrev pub placed_in : State → Model → List Region → Result ℕ Refusal
placed_in s m found = cond (is_not_taken m s) (refuses BadState 0) (numbered (length found) (number_in found (region_in m (own_state m s))))

pub place_after : (table : List ℕ) (cap : ℕ) (s : State) → place_of table cap s ≡ after_graph refuses (placed_in s) cap (read_table table)
unfolding place_of
place_after table cap s = by_answer (read_table table)
  where
    by-outcome : (m : Model) (o : Outcome) → placed_among m s o ≡ from_outcome refuses (placed_in s m) o
    by-outcome m (refused n p) = refl
    by-outcome m (cut found) = refl
    by-outcome m (whole found) = refl

    by_answer : (x : Read) → placed_from cap s x ≡ after_graph refuses (placed_in s) cap x
    by_answer (refusal n p) = refl
    by_answer (accepted m) = by-outcome m (from_answer cap (accepted m))

module _ (m : Model) (location v₀ v₁ v₂ v₃ denominator : ℕ) where
  abbrev given-state : State
  given-state = asked location v₀ v₁ v₂ v₃ denominator

  pub asked_is : own_state m given-state ≡ state_asked m location v₀ v₁ v₂ v₃ denominator
  unfolding own_state
  asked_is = refl

  -- The tests of the call say whether it takes what is asked.
  pub takes : is_not_taken m given-state ≡ false → Takes m location v₀ v₁ v₂ v₃ denominator
  unfolding is_not_taken
  takes e =
      let (l, rest) = neither (leb m.locations location) _ e in
      let (d, more) = neither (eqb denominator 0) _ rest in
      let (few, none) = neither (ltb 1000000 denominator) _ more in
      let some = eqb-false denominator 0 d in
      record {
        there = leb-false m.locations location l;
        some = omega (arith, some);
        most = ltb-false 1000000 denominator few;
        beyond = λ i h. strays-none m.clocks 0 (v₀ ∷ v₁ ∷ v₂ ∷ v₃ ∷ []) none i (omega (arith, h));
      }

  pub takes-not : is_not_taken m given-state ≡ true → ¬ Takes m location v₀ v₁ v₂ v₃ denominator
  unfolding is_not_taken
  takes-not e t =
      false≢true
      (sym (rw (
        lt-leb m.locations location t.there,
        ne_eqb denominator 0 (λ z. omega (arith, z, t.some)),
        le-ltb 1000000 denominator t.most,
        none-strays m.clocks 0 (v₀ ∷ v₁ ∷ v₂ ∷ v₃ ∷ []) (λ j h. t.beyond j (omega (arith, h))),
      ) refl)
      ∙ e)

place-own : (table : List ℕ) (cap : ℕ) (location v₀ v₁ v₂ v₃ denominator : ℕ) (a : Accepted table cap)
    → PlaceRows location v₀ v₁ v₂ v₃ denominator a.model a.found
    (of_placing (placed_in (asked location v₀ v₁ v₂ v₃ denominator) a.model a.found))
place-own table cap location v₀ v₁ v₂ v₃ denominator a = by-taken (is_not_taken a.model s) refl
  where
    s : State
    s = asked location v₀ v₁ v₂ v₃ denominator

    own : own_state a.model s ≡ state_asked a.model location v₀ v₁ v₂ v₃ denominator
    own = asked_is a.model location v₀ v₁ v₂ v₃ denominator

    place : ℕ
    place = number_in a.found (region_in a.model (own_state a.model s))

    by_number : is_not_taken a.model s ≡ false → (b : Bool) → ltb place (length a.found) ≡ b
        → PlaceRows location v₀ v₁ v₂ v₃ denominator a.model a.found (of_placing (cond b (Ok place) (refuses Unreached 0)))
    by_number taken true e =
        let below = ltb-true place (length a.found) e in
        place-result (takes a.model location v₀ v₁ v₂ v₃ denominator taken)
        (subst (IsState a.model) own (own-state table a.model a.read s refl taken)) place below
        (λ d.
        (has-number a.found (region_in a.model (own_state a.model s))
        (number-listed a.found (region_in a.model (own_state a.model s)) below)).is d
        ∙ ap (region_in a.model) own)
    by_number taken false e =
        let above = ltb-false place (length a.found) e in
        place-row-21 (takes a.model location v₀ v₁ v₂ v₃ denominator taken)
        (subst (IsState a.model) own (own-state table a.model a.read s refl taken))
        (λ r.
        let below = (call-placed table cap a.found a.out a.model a.read (own_state a.model s)).1
        (subst (λ (t : State). Reached a.model (region_in a.model t)) (sym own) r) in
        omega (arith, below, above))

    by-taken : (b : Bool) → is_not_taken a.model s ≡ b
        → PlaceRows location v₀ v₁ v₂ v₃ denominator a.model a.found
        (of_placing (cond b (refuses BadState 0) (numbered (length a.found) place)))
    by-taken true e = place-row-20 (takes-not a.model location v₀ v₁ v₂ v₃ denominator e)
    by-taken false e = by_number e (ltb place (length a.found)) refl

pub place-rows : (table entries : List ℕ) (location v₀ v₁ v₂ v₃ denominator : ℕ) (answer : Answer) (entries' : List ℕ)
    → PlaceCall table entries location v₀ v₁ v₂ v₃ denominator answer entries'
    → ByList table entries entries' Unit (PlaceRows location v₀ v₁ v₂ v₃ denominator) answer
place-rows table entries location v₀ v₁ v₂ v₃ denominator answer entries' call =
    let s : State = asked location v₀ v₁ v₂ v₃ denominator in
    by-list table entries entries' call.entries-are (placed_in s) told_number Unit (PlaceRows location v₀ v₁ v₂ v₃ denominator) answer
    (call.answer-is ∙ ap of_placing (place_after table (room_for (length entries)) s)) (λ r e. tt)
    (place-own table (room_for (length entries)) location v₀ v₁ v₂ v₃ denominator)

-- ---- The partition call

-- Where one list is short, and where both are long enough.
short-one : (first n second : ℕ) → (ltb first n || ltb second n) ≡ true → (first < n) ⊎ (second < n)
short-one first n second e = go (ltb first n) refl e
  where
    go : (b : Bool) → ltb first n ≡ b → (b || ltb second n) ≡ true → (first < n) ⊎ (second < n)
    go true t q = inl (ltb-true first n t)
    go false t q = inr (ltb-true second n q)

past_one : (n r s : ℕ) → (leb n r || leb n s) ≡ true → (n ≤ r) ⊎ (n ≤ s)
past_one n r s e = go (leb n r) refl e
  where
    go : (b : Bool) → leb n r ≡ b → (b || leb n s) ≡ true → (n ≤ r) ⊎ (n ≤ s)
    go true t q = inl (leb-true n r t)
    go false t q = inr (leb-true n s q)

module _ (table entries first second : List ℕ) where
  abbrev lent : ℕ
  lent = room_for (length entries)

  -- A list after the call, where rows 1 to 15 stopped it, and where not.
  kept-list : (list : List ℕ) (r : Refusal) → Err r ≡ graph_of (outcome_of table lent) → list_after table lent first second list ≡ list
  unfolding list_after
  kept-list list r e = sym (on-refused (λ reason place. list) (list_of first second list) table lent r e)

  after_list : (list : List ℕ) (a : Accepted table lent)
      → list_after table lent first second list ≡ list_of first second list a.model a.found
  unfolding list_after
  after_list list a = on-accepted (λ reason place. list) (list_of first second list) table lent a

  reduce-own : (first' second' : List ℕ) → first' ≡ list_after table lent first second first
      → second' ≡ list_after table lent first second second → (a : Accepted table lent)
      → ReduceRows first second first' second' a.model a.found (of_reduction (blocks_of first second a.model a.found))
  reduce-own first' second' f s a =
      by_length (is_short (length a.found) first second) refl (f ∙ after_list first a) (s ∙ after_list second a)
    where
      by_length : (b : Bool) → is_short (length a.found) first second ≡ b
          → first' ≡ cond b first (numbered_in first a.model a.found)
          → second' ≡ cond b second (numbered_in second a.model a.found)
          → ReduceRows first second first' second' a.model a.found
          (of_reduction (cond b (refuses ShortList 0)
          (Ok (counts (length a.found) (block_count (graph a.model a.found) (rounds (graph a.model a.found)))
          (rounds (graph a.model a.found))))))
      by_length true e f s = reduce-row-16 (short-one (length first) (length a.found) (length second) e) (f, s)
      by_length false e f s = reduce-result (long-enough (length first) (length a.found) (length second) e) (f, s)

pub reduce-rows : (table entries first second : List ℕ) (answer : Answer) (entries' first' second' : List ℕ)
    → ReduceCall table entries first second answer entries' first' second'
    → ByList table entries entries' ((first' ≡ first) × (second' ≡ second)) (ReduceRows first second first' second') answer
unfolding reduce_of
reduce-rows table entries first second answer entries' first' second' call =
    by-list table entries entries' call.entries-are (blocks_of first second) told_counts
    ((first' ≡ first) × (second' ≡ second)) (ReduceRows first second first' second') answer call.answer-is
    (λ r e. (
      call.first-is ∙ kept-list table entries first second first r e,
      call.second_is ∙ kept-list table entries first second second r e,
    ))
    (reduce-own table entries first second first' second' call.first-is call.second_is)

-- ---- The pair call

module _ (table entries first second : List ℕ) (r s : ℕ) where
  abbrev pair_room : ℕ
  pair_room = room_for (length entries)

  kept_pair : (list : List ℕ) (x : Refusal) → Err x ≡ graph_of (outcome_of table pair_room)
      → pair_list_after table pair_room first second list r s ≡ list
  unfolding pair_list_after
  kept_pair list x e = sym (on-refused (λ reason place. list) (pair_list_of first second list r s) table pair_room x e)

  after-pair : (list : List ℕ) (a : Accepted table pair_room)
      → pair_list_after table pair_room first second list r s ≡ pair_list_of first second list r s a.model a.found
  unfolding pair_list_after
  after-pair list a = on-accepted (λ reason place. list) (pair_list_of first second list r s) table pair_room a

  pair-own : (first' second' : List ℕ) → first' ≡ pair_list_after table pair_room first second first r s
      → second' ≡ pair_list_after table pair_room first second second r s → (a : Accepted table pair_room)
      → PairRows first second r s first' second' a.model a.found (of_pairing (shared_of first second r s a.model a.found))
  pair-own first' second' f g a =
      by_tests (is_short n first second) refl (is_asked_past n r s) refl (f ∙ after-pair first a) (g ∙ after-pair second a)
    where
      n : ℕ
      n = length a.found

      numbers : List ℕ
      numbers = last_blocks (graph a.model a.found)

      by-share : (n ≤ length first) × (n ≤ length second) → (r < n) × (s < n)
          → (first' ≡ numbered_in first a.model a.found) × (second' ≡ numbered_in second a.model a.found)
          → (v : Bool) → related numbers r s ≡ v
          → PairRows first second r s first' second' a.model a.found (of_pairing (Ok v))
      by-share long below lists true e = pair-shared long below lists (eqb-true _ _ e)
      by-share long below lists false e = pair-apart long below lists (eqb-false _ _ e)

      by_tests : (x : Bool) → is_short n first second ≡ x → (y : Bool) → is_asked_past n r s ≡ y
          → first' ≡ cond x first (cond y first (numbered_in first a.model a.found))
          → second' ≡ cond x second (cond y second (numbered_in second a.model a.found))
          → PairRows first second r s first' second' a.model a.found
          (of_pairing (cond x (refuses ShortList 0) (cond y (refuses UnknownRegion 0) (Ok (related numbers r s)))))
      by_tests true ex y ey f g = pair-row-16 (short-one (length first) n (length second) ex) (f, g)
      by_tests false ex true ey f g =
          pair-row-19 (long-enough (length first) n (length second) ex) (past_one n r s ey) (f, g)
      by_tests false ex false ey f g =
          by-share (long-enough (length first) n (length second) ex) (below_both n r s ey) (f, g) (related numbers r s) refl

pub pair-rows : (table entries first second : List ℕ) (r s : ℕ) (answer : Answer) (entries' first' second' : List ℕ)
    → PairCall table entries first second r s answer entries' first' second'
    → ByList table entries entries' ((first' ≡ first) × (second' ≡ second)) (PairRows first second r s first' second') answer
unfolding pair_of
pair-rows table entries first second r s answer entries' first' second' call =
    by-list table entries entries' call.entries-are (shared_of first second r s) told_sharing
    ((first' ≡ first) × (second' ≡ second)) (PairRows first second r s first' second') answer call.answer-is
    (λ x e. (
      call.first-is ∙ kept_pair table entries first second r s first x e,
      call.second_is ∙ kept_pair table entries first second r s second x e,
    ))
    (pair-own table entries first second r s first' second' call.first-is call.second_is)

-- ---- The judging call

-- A proposal is accepted exactly where equal numbers are a bisimulation.
pub proposed-iff : (table : List ℕ) (cap : ℕ) (a : Accepted table cap) (proposal : List ℕ)
    → (accepts (graph a.model a.found) proposal ≡ true) ↔ Proposed a.model a.found proposal
proposed-iff table cap a proposal =
    let closed = call-closed table cap a.found a.out a.model a.read in
    let S = structure (graph a.model a.found) in (
      λ t. bisimulation-agree S closed (λ x y. related proposal x y ≡ true) (λ x y. get_or proposal x 0 ≡ get_or proposal y 0)
          (λ x y hx hy. (eqb-true _ _, eq-eqb _ _)) ((accepted-iff a.model a.found proposal).0 t),
      λ b. (accepted-iff a.model a.found proposal).1
          (bisimulation-agree S closed (λ x y. get_or proposal x 0 ≡ get_or proposal y 0) (λ x y. related proposal x y ≡ true)
          (λ x y hx hy. (eq-eqb _ _, eqb-true _ _)) b),
    )

judge-own : (table : List ℕ) (cap : ℕ) (proposal : List ℕ) (a : Accepted table cap)
    → JudgeRows proposal a.model a.found (of_judgement (judged_of proposal a.model a.found))
judge-own table cap proposal a =
    by_tests (eqb (length proposal) (length a.found)) refl (accepts (graph a.model a.found) proposal) refl
  where
    by_tests : (x : Bool) → eqb (length proposal) (length a.found) ≡ x → (y : Bool)
        → accepts (graph a.model a.found) proposal ≡ y
        → JudgeRows proposal a.model a.found
        (of_judgement (cond (not x) (refuses WrongLength 0) (cond y acceptance (refuses NoBisimulation 0))))
    by_tests false ex y ey = judge-row-17 (eqb-false _ _ ex)
    by_tests true ex true ey = judge-result (eqb-true _ _ ex) ((proposed-iff table cap a proposal).0 ey)
    by_tests true ex false ey =
        judge-row-18 (eqb-true _ _ ex) (λ b. false≢true (sym ey ∙ (proposed-iff table cap a proposal).1 b))

pub judge-rows : (table entries proposal : List ℕ) (answer : Answer) (entries' : List ℕ)
    → JudgeCall table entries proposal answer entries' → ByList table entries entries' Unit (JudgeRows proposal) answer
unfolding judge_of
judge-rows table entries proposal answer entries' call =
    by-list table entries entries' call.entries-are (judged_of proposal) told_acceptance Unit (JudgeRows proposal) answer call.answer-is
    (λ r e. tt) (judge-own table (room_for (length entries)) proposal)

-- It answers 1 exactly where the proposal has N numbers, and equal numbers are a bisimulation.
pub judge-iff : (table entries proposal : List ℕ) (answer : Answer) (entries' : List ℕ) → JudgeCall table entries proposal answer entries'
    → (a : Accepted table (room_for (length entries)))
    → (answer ≡ result_as 1 0 0) ↔ ((length proposal ≡ length a.found) × Proposed a.model a.found proposal)
unfolding judge_of
judge-iff table entries proposal answer entries' call a =
    let own = judge-own table (room_for (length entries)) proposal a in
    let is : answer ≡ of_judgement (judged_of proposal a.model a.found) = judge-is in
    (λ e. accepted-row (subst (JudgeRows proposal a.model a.found) (sym is ∙ e) own), λ t. is ∙ judged-one t)
  where
    judge-is : answer ≡ of_judgement (judged_of proposal a.model a.found)
    judge-is = call.answer-is ∙ ap of_judgement (on-accepted refuses (judged_of proposal) table (room_for (length entries)) a)

    accepted-row : JudgeRows proposal a.model a.found (result_as 1 0 0)
        → (length proposal ≡ length a.found) × Proposed a.model a.found proposal
    accepted-row (judge-result long well) = (long, well)

    judged-one : (length proposal ≡ length a.found) × Proposed a.model a.found proposal
        → of_judgement (judged_of proposal a.model a.found) ≡ result_as 1 0 0
    judged-one t =
        sym (ap of_judgement (judged-well a.model a.found proposal t.0
        ((proposed-iff table (room_for (length entries)) a proposal).1 t.1)))

-- ---- Text in a buffer

given : (text buffer buffer' : List ℕ) → buffer' ≡ buffer_after text buffer
    → Given text buffer buffer' (told_part (fitted text (length buffer)))
given [] buffer buffer' e = no_text refl (e ∙ empty (leb 0 (length buffer)))
  where
    empty : (b : Bool) → cond b buffer buffer ≡ buffer
    empty true = refl
    empty false = refl
given (c ∷ l) buffer buffer' e = by_length (leb (length (c ∷ l)) (length buffer)) refl e
  where
    by_length : (b : Bool) → leb (length (c ∷ l)) (length buffer) ≡ b
        → buffer' ≡ cond b ((c ∷ l) ++ drop (length (c ∷ l)) buffer) buffer
        → Given (c ∷ l) buffer buffer' (told_part (cond b (T.Written (length (c ∷ l))) (T.Short (length (c ∷ l)))))
    by_length true t f = written (omega arith) (leb-true _ _ t) f
    by_length false t f = short (leb-false _ _ t) f

pub line-rows : (number place : ℕ) (buffer : List ℕ) (answer : Answer) (buffer' : List ℕ)
    → LineCall number place buffer answer buffer' → Given (refusal_line number place) buffer buffer' answer
line-rows number place buffer answer buffer' call =
    subst (Given (refusal_line number place) buffer buffer') (sym call.answer-is)
    (given (refusal_line number place) buffer buffer' call.buffer-is)

pub part-rows : (table entries list : List ℕ) (regions blocks rounds part : ℕ) (buffer : List ℕ) (answer : Answer) (buffer' : List ℕ)
    → PartCall table entries list regions blocks rounds part buffer answer buffer'
    → PartRows table (text_of table entries list regions blocks rounds part) buffer buffer' answer
unfolding part_of text_of
part-rows table entries list regions blocks rounds part buffer answer buffer' call =
    by_answer (read_table table) refl call.answer-is call.buffer-is
  where
    by_answer : (x : Read) → read_table table ≡ x
        → answer ≡ of_part (part_from x (text_from x entries list regions blocks rounds part) (length buffer))
        → buffer' ≡ buffer_after (text_from x entries list regions blocks rounds part) buffer
        → PartRows table (text_from (read_table table) entries list regions blocks rounds part) buffer buffer' answer
    by_answer (refusal n p) read e f =
        subst (PartRows table (text_from (read_table table) entries list regions blocks rounds part) buffer buffer') (sym e)
        (part-row-1-13 read (f ∙ empty (leb 0 (length buffer))))
      where
        empty : (b : Bool) → cond b buffer buffer ≡ buffer
        empty true = refl
        empty false = refl
    by_answer (accepted m) read e f =
        let text : List ℕ = text_from (accepted m) entries list regions blocks rounds part in
        subst (λ (t : List ℕ). PartRows table t buffer buffer' answer)
        (sym (ap (λ (x : Read). text_from x entries list regions blocks rounds part) read))
        (part-result read (subst (Given text buffer buffer') (sym e) (given text buffer buffer' f)))
