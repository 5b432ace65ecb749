-- Demand 3, entire, from what the partition call and the pair call promise (Promises): "Let a and b be any two states of any accepted
-- model, their clock values any fractions, both lying in regions of its graph. Whenever document 01's list finds no refusal for the
-- partition call, both block lists then hold document 01's block numbers, and those of the two regions differ exactly when no
-- probabilistic time-abstracting bisimulation over all states of the model relates a and b. Whenever that list finds none for the
-- pair call on these two regions, the call says in exactly the same cases that they share no block." When the list finds none for
-- either call is said in Success (`reduce-exactly`, `pair-exactly`).
use Prim.Native.Nat.{ℕ}
use Rattle.std.specs.Prelude.{◌≡◌, refl, Bool, true, false, ◌↔◌, length, Result, Ok}
use Rattle.std.proofs.Math.Path.{sym, ap, subst}
use Rattle.std.proofs.Common.{◌∙◌, eqb-true, eq-eqb}
use Rattle.std.proofs.lemmas.Bool.{false≢true}
use mathlib.Core.List.{List}
use Rattle.std.proofs.Math.ListN.{get_or}
use Rattle.regions.specs.Passed.{Model}
use Rattle.regions.specs.Call.{room_for}
use Rattle.regions.specs.Graph.{Reached}
use Rattle.states.specs.States.{State, IsState}
use Rattle.states.specs.Alike.{region_in}
use Rattle.bisimulation.specs.Bisimulations.{Bisimulation}
use Rattle.bisimulation.specs.Finite.{related, last_blocks, block_count, rounds as last_round}
use Rattle.partition.specs.Instances.{graph, states, block_in}
use Rattle.partition.specs.Laws.Bisimilar.{related-states, parted-states}
use Rattle.partition.specs.Calls.{counts, Accepted, Inside, region_number, numbered_in, list_after, pair_of}
use Rattle.partition.specs.Promises.{Reduced, Paired}
use Rattle.partition.specs.Laws.Instances.{call-placed}
use Rattle.partition.specs.Laws.Success.{one-model, reduce-succeeds, reduce-holds, calls-agree}
use Rattle.partition.specs.Laws.Calls.{numbered-at, reduce-accepted, reduce-lists, pair-accepted, pair-shares, pair-long, pair-lists}
use Rattle.partition.specs.declared.calls.Reduction.{Reduction}
use Rattle.table.specs.declared.refusals.Refusal.{Refusal}

-- ---- The partition call

module _ (table entries first second : List ℕ) (answer : Result Reduction Refusal) (entries' first' second' : List ℕ)
    (promised : Reduced table entries first second answer entries' first' second') (n blocks rounds : ℕ)
    (succeeded : answer ≡ Ok (counts n blocks rounds)) where
  -- The model and its regions.
  pub accepted-model : Accepted table (room_for (length entries))
  accepted-model =
      reduce-accepted table (room_for (length entries)) first second n blocks rounds (sym promised.answer-is ∙ succeeded)

  -- The block number of a state in each list is that of document 01.
  holds : (list list' : List ℕ)
      → list' ≡ list_after table (room_for (length entries)) first second list
      → (s : State) → Inside accepted-model s
      → get_or list' (region_number accepted-model s) 0 ≡ block_in accepted-model.model accepted-model.found s
  unfolding accepted-model
  holds list list' is s in_graph =
      ap (λ (l : List ℕ). get_or l (region_number accepted-model s) 0)
      (is ∙ reduce-lists table (room_for (length entries)) first second n blocks rounds (sym promised.answer-is ∙ succeeded) list)
      ∙ numbered-at list accepted-model.model accepted-model.found (region_number accepted-model s)
      ((call-placed table (room_for (length entries)) accepted-model.found accepted-model.out accepted-model.model
      accepted-model.read s).1 in_graph.reached)

  pub first_holds : (s : State) → Inside accepted-model s
      → get_or first' (region_number accepted-model s) 0 ≡ block_in accepted-model.model accepted-model.found s
  first_holds = holds first first' promised.first-is

  pub second_holds : (s : State) → Inside accepted-model s
      → get_or second' (region_number accepted-model s) 0 ≡ block_in accepted-model.model accepted-model.found s
  second_holds = holds second second' promised.second_is

  -- The lists hold the blocks of the last round in their first N numbers, and are unchanged after them.
  pub lists-hold : (first' ≡ numbered_in first accepted-model.model accepted-model.found)
      × (second' ≡ numbered_in second accepted-model.model accepted-model.found)
  unfolding accepted-model
  lists-hold =
      let after = reduce-lists table (room_for (length entries)) first second n blocks rounds (sym promised.answer-is ∙ succeeded) in
      (promised.first-is ∙ after first, promised.second_is ∙ after second)

  -- "Any accepted model": whatever was lent where the table was accepted, its states and its graph are these.
  pub any-accepted : (cap : ℕ) (a : Accepted table cap) (s : State) → Inside a s → Inside accepted-model s
  any-accepted cap a s in_graph =
      let same = one-model table cap (room_for (length entries)) a accepted-model in
      record {
        state = subst (λ (m : Model). IsState m s) same in_graph.state;
        reached = subst (λ (m : Model). Reached m (region_in m s)) same in_graph.reached;
      }

  -- Any two states that lie in regions of the graph.
  module _ (a b : State) (ia : Inside accepted-model a) (ib : Inside accepted-model b) where
    -- The numbers of the two regions, in the first list and in the second.
    abbrev pub SameFirst : Type 0
    SameFirst = get_or first' (region_number accepted-model a) 0 ≡ get_or first' (region_number accepted-model b) 0

    abbrev pub SameSecond : Type 0
    SameSecond = get_or second' (region_number accepted-model a) 0 ≡ get_or second' (region_number accepted-model b) 0

    same_block : {x y : ℕ} → x ≡ block_in accepted-model.model accepted-model.found a
        → y ≡ block_in accepted-model.model accepted-model.found b → x ≡ y
        → block_in accepted-model.model accepted-model.found a ≡ block_in accepted-model.model accepted-model.found b
    same_block ex ey e = sym ex ∙ e ∙ ey

    relates : block_in accepted-model.model accepted-model.found a ≡ block_in accepted-model.model accepted-model.found b
        → (R : State → State → Type 0) × Bisimulation (states accepted-model.model) R × R a b
    relates =
        related-states table (room_for (length entries)) accepted-model.found accepted-model.out accepted-model.model
        accepted-model.read a b ia.state ib.state ia.reached ib.reached

    parts {ℓ} : (R : State → State → Type ℓ) → Bisimulation (states accepted-model.model) R → R a b
        → block_in accepted-model.model accepted-model.found a ≡ block_in accepted-model.model accepted-model.found b
    parts =
        parted-states table (room_for (length entries)) accepted-model.found accepted-model.out accepted-model.model
        accepted-model.read a b ia.state ib.state ia.reached ib.reached

    -- Where the numbers are equal, in either list, a bisimulation over all states that relates the two is given.
    pub first-related : SameFirst → (R : State → State → Type 0) × Bisimulation (states accepted-model.model) R × R a b
    first-related e = relates (same_block (first_holds a ia) (first_holds b ib) e)

    pub second-related : SameSecond → (R : State → State → Type 0) × Bisimulation (states accepted-model.model) R × R a b
    second-related e = relates (same_block (second_holds a ia) (second_holds b ib) e)

    -- Every bisimulation over all states that relates the two, decidable or not, at any level, makes them equal in both lists.
    pub first-equal {ℓ} : (R : State → State → Type ℓ) → Bisimulation (states accepted-model.model) R → R a b → SameFirst
    first-equal R w r = first_holds a ia ∙ parts R w r ∙ sym (first_holds b ib)

    pub second-equal {ℓ} : (R : State → State → Type ℓ) → Bisimulation (states accepted-model.model) R → R a b → SameSecond
    second-equal R w r = second_holds a ia ∙ parts R w r ∙ sym (second_holds b ib)

    -- Demand 3's own form: the numbers differ exactly when no bisimulation over all states relates the two.
    pub first-differ : (¬ SameFirst) ↔ ((R : State → State → Type 0) → Bisimulation (states accepted-model.model) R → ¬ R a b)
    first-differ = (λ n R w r. n (first-equal R w r), λ none e. let (R, w, r) = first-related e in none R w r)

    pub second-differ : (¬ SameSecond) ↔ ((R : State → State → Type 0) → Bisimulation (states accepted-model.model) R → ¬ R a b)
    second-differ = (λ n R w r. n (second-equal R w r), λ none e. let (R, w, r) = second-related e in none R w r)

-- ---- The pair call, on the regions of two states

module _ (table entries first second : List ℕ) (r s : ℕ) (answer : Result Bool Refusal) (entries' first' second' : List ℕ)
    (promised : Paired table entries first second r s answer entries' first' second') (shares : Bool)
    (succeeded : answer ≡ Ok shares) where
  pub paired-model : Accepted table (room_for (length entries))
  paired-model = pair-accepted table (room_for (length entries)) first second r s shares (sym promised.answer-is ∙ succeeded)

  -- Both lists hold the blocks of the last round in their first N numbers, and are unchanged after them.
  pub pair-lists-hold : (first' ≡ numbered_in first paired-model.model paired-model.found)
      × (second' ≡ numbered_in second paired-model.model paired-model.found)
  unfolding paired-model
  pair-lists-hold =
      let after = pair-lists table (room_for (length entries)) first second r s shares (sym promised.answer-is ∙ succeeded) in
      (promised.first-is ∙ after first, promised.second_is ∙ after second)

  -- So it leaves what the partition call leaves on the same.
  pub pair-leaves : Reduced table entries first second
      (Ok (counts (length paired-model.found)
      (block_count (graph paired-model.model paired-model.found) (last_round (graph paired-model.model paired-model.found)))
      (last_round (graph paired-model.model paired-model.found)))) entries' first' second'
  unfolding paired-model
  pair-leaves =
      let cap : ℕ = room_for (length entries) in
      let is : pair_of table cap first second r s ≡ Ok shares = sym promised.answer-is ∙ succeeded in
      let (one, two) = pair-long table cap first second r s shares is in
      record {
        answer-is = sym (reduce-succeeds table cap paired-model first second one two);
        entries-are = promised.entries-are;
        first-is = pair-lists-hold.0 ∙ sym (reduce-holds table cap paired-model first second one two first);
        second_is = pair-lists-hold.1 ∙ sym (reduce-holds table cap paired-model first second one two second);
      }

  module _ (a b : State) (ia : Inside paired-model a) (ib : Inside paired-model b) (at_a : r ≡ region_number paired-model a)
      (at_b : s ≡ region_number paired-model b) where
    -- The call says whether the two have one block number.
    says : related (last_blocks (graph paired-model.model paired-model.found)) (region_number paired-model a)
        (region_number paired-model b) ≡ shares
    unfolding paired-model
    says =
        sym (ap (λ (x : ℕ). related (last_blocks (graph paired-model.model paired-model.found)) x (region_number paired-model b)) at_a)
        ∙ sym (ap (λ (y : ℕ). related (last_blocks (graph paired-model.model paired-model.found)) r y) at_b)
        ∙ pair-shares table (room_for (length entries)) first second r s shares (sym promised.answer-is ∙ succeeded)

    -- They share a block: a bisimulation over all states that relates the two is given.
    pub pair-related : shares ≡ true → (R : State → State → Type 0) × Bisimulation (states paired-model.model) R × R a b
    pair-related e =
        related-states table (room_for (length entries)) paired-model.found paired-model.out paired-model.model
        paired-model.read a b ia.state ib.state ia.reached ib.reached (eqb-true _ _ (says ∙ e))

    -- Every bisimulation over all states that relates the two, at any level, makes them share a block.
    pub pair-equal {ℓ} : (R : State → State → Type ℓ) → Bisimulation (states paired-model.model) R → R a b → shares ≡ true
    pair-equal R w q =
        sym says
        ∙ eq-eqb _ _ (parted-states table (room_for (length entries)) paired-model.found paired-model.out paired-model.model
        paired-model.read a b ia.state ib.state ia.reached ib.reached R w q)

    -- Demand 3's own form: the call says that they share no block exactly when no bisimulation over all states relates them.
    pub pair-differ : (shares ≡ false) ↔ ((R : State → State → Type 0) → Bisimulation (states paired-model.model) R → ¬ R a b)
    pair-differ = (λ e R w q. false≢true (sym e ∙ pair-equal R w q), λ none. not-shared shares refl none)
      where
        not-shared : (v : Bool) → shares ≡ v → ((R : State → State → Type 0) → Bisimulation (states paired-model.model) R → ¬ R a b)
            → shares ≡ false
        not-shared true e none = let (R, w, q) = pair-related e in absurd (none R w q)
        not-shared false e none = e

-- ---- Both calls on one table, whatever was lent to each: "the call says in exactly the same cases that they share no block"

module _ (table entries first second : List ℕ) (answer : Result Reduction Refusal) (entries' first' second' : List ℕ)
    (promised : Reduced table entries first second answer entries' first' second') (n blocks rounds : ℕ)
    (succeeded : answer ≡ Ok (counts n blocks rounds))
    (entries₂ first₂ second₂ : List ℕ) (r s : ℕ) (answer₂ : Result Bool Refusal) (entries₂' first₂' second₂' : List ℕ)
    (promised₂ : Paired table entries₂ first₂ second₂ r s answer₂ entries₂' first₂' second₂') (shares : Bool)
    (succeeded₂ : answer₂ ≡ Ok shares) where
  pub model : Accepted table (room_for (length entries))
  model = accepted-model table entries first second answer entries' first' second' promised n blocks rounds succeeded

  agree : (list list' : List ℕ) → list' ≡ list_after table (room_for (length entries)) first second list
      → (shares ≡ true) ↔ (get_or list' r 0 ≡ get_or list' s 0)
  unfolding model accepted-model
  agree list list' is =
      subst (λ (l : List ℕ). (shares ≡ true) ↔ (get_or l r 0 ≡ get_or l s 0)) (sym is)
      (calls-agree table (room_for (length entries)) (room_for (length entries₂)) first second first₂ second₂ n blocks rounds
      (sym promised.answer-is ∙ succeeded) r s shares (sym promised₂.answer-is ∙ succeeded₂) list)

  -- They share a block by the pair call exactly where the partition call's numbers are equal, in either list.
  pub pair-as-first : (shares ≡ true) ↔ (get_or first' r 0 ≡ get_or first' s 0)
  pair-as-first = agree first first' promised.first-is

  pub pair-as-second : (shares ≡ true) ↔ (get_or second' r 0 ≡ get_or second' s 0)
  pair-as-second = agree second second' promised.second_is
