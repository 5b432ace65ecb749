-- From what a C host sees of a call that refused nothing, the five numbers answered and what was left in what was lent, back to what the
-- layer beneath promises: `Accepted` of the graph call, `Reduced` and `Left` of the partition call, `Reduced` and `Left` of the pair call
-- too, which leaves the same, and the region's number of the state call.
use Rattle.std.specs.Prelude.{ℕ, ◌<◌, ◌≡◌, ◌↔◌, Bool, length, Ok}
use Rattle.std.proofs.Common.{arith, sym, ◌∙◌, subst}
use Rattle.std.proofs.Math.Path.{refl, ap, ap₂}
use mathlib.Core.Logic.Iff
use Rattle.std.proofs.Math.Bool.{true, false, cond}
use Rattle.std.proofs.Math.Dec.{ltb}
use borrow.Author.Tests.{ltb-true}
use mathlib.Core.List.{List, map, Memᴰ}
use Rattle.std.proofs.Math.ListN.{get_or}
use Rattle.regions.specs.Passed.{edge_of, Region}
use Rattle.regions.specs.Call.{whole, room_for, outcome_of}
use Rattle.regions.specs.Entries.{region_at}
use Rattle.regions.specs.Explore.{listed, listed-length, listed_at}
use Rattle.regions.specs.Graph.{available, first, DelaysTo}
use Rattle.regions.specs.Order.{AllRegions, InOrder}
use Rattle.regions.specs.Laws.Call.{whole-graph, whole-model}
use Rattle.regions.specs.Laws.Order.{whole-order}
use Rattle.regions.specs.View.{number_in, label_of}
use Rattle.regions.specs.Laws.Bytes.{listed-whole}
use Rattle.regions.specs.Laws.View.{has-number, number-listed}
use Rattle.states.specs.States.{State}
use Rattle.states.specs.Alike.{region_in}
use Rattle.states.specs.StateCall.{asked, is_not_taken, own_state, numbered, place_of}
use Rattle.bisimulation.specs.Finite.{Finite, block_count, rounds}
use Rattle.partition.specs.Instances.{region_of, lands_at, graph}
use Rattle.partition.specs.Laws.Delays.{delays-are}
use Rattle.partition.specs.Calls.{Accepted, refuses, counts, reduce_of, pair_of}
use Rattle.partition.specs.Promises.{Reduced, Paired}
use Rattle.partition.specs.Left.{Left}
use Rattle.partition.specs.Laws.Calls.{from-accepted, pair-accepted, pair-below}
use Rattle.partition.specs.Laws.Success.{one_found}
use Rattle.partition.specs.Laws.Left.{reduced-first, reduced-second}
use Rattle.partition.specs.Laws.Promised.{paired-model, pair-leaves, pair-as-first, pair-as-second}
use Rattle.table.specs.declared.refusals.Reason.TheVariants.{BadState, Unreached}
use Rattle.terkwabu.specs.Answers.{of_placing, of_reduction, one_if, of_pairing}
use Rattle.terkwabu.specs.Calls.{GraphCall, PlaceCall, ReduceCall, PairCall}
use Rattle.terkwabu.proofs.Laws.Rows.{placed_in, place_after}
use Rattle.terkwabu.proofs.Laws.Host.{zero-whole, value-whole, zero-placed, zero-reduced, zero-paired}
use Rattle.terkwabu.specs.declared.answer.Answer.{Answer}

-- ---- The graph call

module _ (table entries : List ℕ) (answer : Answer) (entries' : List ℕ) (call : GraphCall table entries answer entries')
    (none : answer.refusal ≡ 0) where
  all_listed : (found : List Region) × (outcome_of table (room_for (length entries)) ≡ whole found)
  all_listed = (zero-whole table (room_for (length entries))).0 (sym (ap (λ (a : Answer). a.refusal) call.answer-is) ∙ none)

  -- The model is accepted, the value is N, and the entries hold its regions.
  pub graph-accepted : Accepted table (room_for (length entries))
  graph-accepted =
      let b = (whole-graph table (room_for (length entries)) all_listed.0 all_listed.1).0 in
      record { model = b.model; read = b.read; found = all_listed.0; out = all_listed.1 }

  pub graph-value : answer.value ≡ length graph-accepted.found
  unfolding graph-accepted
  graph-value =
      ap (λ (a : Answer). a.value) call.answer-is
      ∙ value-whole table (room_for (length entries)) all_listed.0 all_listed.1

  pub graph-entries : listed entries' answer.value ≡ graph-accepted.found
  unfolding graph-accepted
  graph-entries =
      ap₂ (λ (es : List ℕ) (n : ℕ). listed es n) call.entries-are graph-value
      ∙ listed-whole table entries (room_for (length entries)) all_listed.0 all_listed.1

  -- They are all regions that are reached, in document 01's order.
  pub graph-all : AllRegions graph-accepted.model (listed entries' answer.value)
  graph-all =
      subst (AllRegions graph-accepted.model) (sym graph-entries)
      (whole-model table (room_for (length entries)) graph-accepted.found graph-accepted.model graph-accepted.out
      graph-accepted.read).0

  pub graph-order : InOrder graph-accepted.model (listed entries' answer.value)
  graph-order =
      subst (InOrder graph-accepted.model) (sym graph-entries)
      (whole-order table (room_for (length entries)) graph-accepted.found graph-accepted.model graph-accepted.read
      graph-accepted.out)

  -- Region x of the graph, by number, is entry x: so are its label, its edges and their branches.
  region-is : (x : ℕ) → x < answer.value → region_of graph-accepted.model (listed entries' answer.value) x ≡ region_at entries' x
  region-is x h = listed_at entries' answer.value x (first graph-accepted.model) h

  pub graph-label : (x : ℕ) → x < answer.value
      → (graph graph-accepted.model (listed entries' answer.value)).label x
      ≡ get_or graph-accepted.model.labels (region_at entries' x).location 0
  unfolding label_of
  graph-label x h = ap (λ (r : Region). get_or graph-accepted.model.labels r.location 0) (region-is x h)

  pub graph-available : (x e : ℕ) → x < answer.value
      → (graph graph-accepted.model (listed entries' answer.value)).available x e
      ≡ available graph-accepted.model (edge_of graph-accepted.model e) (region_at entries' x)
  graph-available x e h = ap (available graph-accepted.model (edge_of graph-accepted.model e)) (region-is x h)

  pub graph-branches : (x e : ℕ) → x < answer.value
      → (graph graph-accepted.model (listed entries' answer.value)).branches x e
      ≡ map (lands_at graph-accepted.model (listed entries' answer.value) (region_at entries' x))
      (edge_of graph-accepted.model e).branches
  graph-branches x e h =
      ap
      (λ (r : Region).
      map (lands_at graph-accepted.model (listed entries' answer.value) r) (edge_of graph-accepted.model e).branches)
      (region-is x h)

  -- By number, a region reaches by delay what it delays to.
  pub graph-delays : (x y : ℕ) → x < answer.value → y < answer.value
      → Memᴰ y ((graph graph-accepted.model (listed entries' answer.value)).delays x)
      ↔ DelaysTo graph-accepted.model (region_at entries' x) (region_at entries' y)
  graph-delays x y hx hy =
      let m = graph-accepted.model in
      let found : List Region = listed entries' answer.value in
      let fine = (whole-model table (room_for (length entries)) graph-accepted.found m graph-accepted.out graph-accepted.read).1 in
      let long : length found ≡ answer.value = listed-length entries' answer.value in
      let at : (z : ℕ) → z < answer.value → region_of m found z ≡ region_at entries' z = region-is in
      let are = delays-are m found graph-all fine x y (omega (arith, hx, long)) in (
        λ n. subst (λ (r : Region). DelaysTo m r (region_at entries' y)) (at x hx)
            (subst (λ (r : Region). DelaysTo m (region_of m found x) r) (at y hy) (are.0 n).1),
        λ d. are.1 (
          omega (arith, hy, long),
          subst (λ (r : Region). DelaysTo m r (region_of m found y)) (sym (at x hx))
              (subst (λ (r : Region). DelaysTo m (region_at entries' x) r) (sym (at y hy)) d),
        ),
      )

-- ---- The state call

-- The value is the number of the state's region.
pub place-region : (table entries : List ℕ) (location v₀ v₁ v₂ v₃ denominator : ℕ) (answer : Answer) (entries' : List ℕ)
    → PlaceCall table entries location v₀ v₁ v₂ v₃ denominator answer entries' → answer.refusal ≡ 0
    → place_of table (room_for (length entries)) (asked location v₀ v₁ v₂ v₃ denominator) ≡ Ok answer.value
place-region table entries location v₀ v₁ v₂ v₃ denominator answer entries' call none =
    let (number, e) = (zero-placed table (room_for (length entries)) (asked location v₀ v₁ v₂ v₃ denominator)).0
    (sym (ap (λ (a : Answer). a.refusal) call.answer-is) ∙ none) in
    e ∙ sym (ap (λ (a : Answer). Ok a.value) (call.answer-is ∙ ap of_placing e))

-- So the model is accepted, the call takes the state, and region number `value` is the state's.
module _ (table entries : List ℕ) (location v₀ v₁ v₂ v₃ denominator : ℕ) (answer : Answer) (entries' : List ℕ)
    (call : PlaceCall table entries location v₀ v₁ v₂ v₃ denominator answer entries') (none : answer.refusal ≡ 0) where
  abbrev given : State
  given = asked location v₀ v₁ v₂ v₃ denominator

  pub place_found : (a : Accepted table (room_for (length entries))) × (is_not_taken a.model given ≡ false)
      × (answer.value < length a.found)
      × ((d : Region) → get_or a.found answer.value d ≡ region_in a.model (own_state a.model given))
  place_found =
      let (a, e) = from-accepted refuses (placed_in given) table (room_for (length entries)) (Ok answer.value) (λ reason place q. cc)
      (sym (place_after table (room_for (length entries)) given)
      ∙ place-region table entries location v₀ v₁ v₂ v₃ denominator answer entries' call none) in
      let r : Region = region_in a.model (own_state a.model given) in
      let (taken, below, same) = tests (is_not_taken a.model given) (length a.found) (number_in a.found r) e in (
        a,
        taken,
        omega (arith, below, same),
        λ d.
            ap (λ (x : ℕ). get_or a.found x d) (sym same) ∙ (has-number a.found r (number-listed a.found r below)).is d,
      )
    where
      tests : (b : Bool) (n x : ℕ) → cond b (refuses BadState 0) (numbered n x) ≡ Ok answer.value
          → (b ≡ false) × (x < n) × (x ≡ answer.value)
      tests true n x e = absurd (let z : ◌≡◌ {A = ℕ} 0 1 = cc in omega arith)
      tests false n x e = go (ltb x n) refl e
        where
          go : (t : Bool) → ltb x n ≡ t → cond t (Ok x) (refuses Unreached 0) ≡ Ok answer.value
              → (◌≡◌ {A = Bool} false false) × (x < n) × (x ≡ answer.value)
          go true t q = (refl, ltb-true x n t, cc)
          go false t q = absurd (let z : ◌≡◌ {A = ℕ} 0 1 = cc in omega arith)

-- ---- The partition call

module _ (table entries first second : List ℕ) (answer : Answer) (entries' first' second' : List ℕ)
    (call : ReduceCall table entries first second answer entries' first' second') (none : answer.refusal ≡ 0) where
  reduced-as : Ok (counts answer.value answer.blocks answer.rounds) ≡ reduce_of table (room_for (length entries)) first second
  reduced-as =
      let (n, b, k, e) = (zero-reduced table (room_for (length entries)) first second).0
      (sym (ap (λ (a : Answer). a.refusal) call.answer-is) ∙ none) in
      ap (λ (a : Answer). Ok (counts a.value a.blocks a.rounds)) (call.answer-is ∙ ap of_reduction e) ∙ sym e

  -- What the partition layer promises, with the three counts of the answer.
  pub reduced-of : Reduced table entries first second (Ok (counts answer.value answer.blocks answer.rounds)) entries' first' second'
  reduced-of =
      record {
        answer-is = reduced-as;
        entries-are = call.entries-are;
        first-is = call.first-is;
        second_is = call.second_is;
      }

  -- So entries and lists hold the graph and the blocks.
  pub first-left : Left table (room_for (length entries)) answer.value answer.blocks answer.rounds entries' first'
  first-left =
      reduced-first table entries first second answer.value answer.blocks answer.rounds entries' first' second' reduced-of

  pub second-left : Left table (room_for (length entries)) answer.value answer.blocks answer.rounds entries' second'
  second-left =
      reduced-second table entries first second answer.value answer.blocks answer.rounds entries' first' second' reduced-of

-- ---- The pair call

one-if : (v : Bool) → (one_if v ≡ 1) ↔ (v ≡ true)
one-if true = (λ e. refl, λ e. refl)
one-if false = (λ e. absurd (omega (arith, e)), λ e. ap one_if e)

module _ (table entries first second : List ℕ) (r s : ℕ) (answer : Answer) (entries' first' second' : List ℕ)
    (call : PairCall table entries first second r s answer entries' first' second') (none : answer.refusal ≡ 0) where
  -- It is answered whether they share a block.
  pub shared-as : (v : Bool) × (pair_of table (room_for (length entries)) first second r s ≡ Ok v)
  shared-as =
      (zero-paired table (room_for (length entries)) first second r s).0 (sym (ap (λ (a : Answer). a.refusal) call.answer-is) ∙ none)

  -- What the partition layer promises; the value is 1 exactly where the two regions share a block.
  pub paired-of : Paired table entries first second r s (Ok shared-as.0) entries' first' second'
  paired-of =
      record {
        answer-is = sym shared-as.1;
        entries-are = call.entries-are;
        first-is = call.first-is;
        second_is = call.second_is;
      }

  value_shares : (answer.value ≡ 1) ↔ (shared-as.0 ≡ true)
  value_shares =
      let is = ap (λ (a : Answer). a.value) (call.answer-is ∙ ap of_pairing shared-as.1) in
      (λ e. (one-if shared-as.0).0 (sym is ∙ e), λ e. is ∙ (one-if shared-as.0).1 e)

  -- The model and its regions, as the pair call found them.
  pub pair-model : Accepted table (room_for (length entries))
  pair-model = paired-model table entries first second r s (Ok shared-as.0) entries' first' second' paired-of shared-as.0 refl

  -- Both numbers are those of regions.
  pub pair-regions : (r < length pair-model.found) × (s < length pair-model.found)
  pair-regions =
      let cap : ℕ = room_for (length entries) in
      let (hr, hs) = pair-below table cap first second r s shared-as.0 shared-as.1 in
      let same = ap length (one_found table cap cap (pair-accepted table cap first second r s shared-as.0 shared-as.1) pair-model) in
      (omega (arith, hr, same), omega (arith, hs, same))

  -- Entries and lists hold the graph and the blocks, as the partition call leaves them.
  abbrev F : Finite
  F = graph pair-model.model pair-model.found

  pair-reduced : Reduced table entries first second (Ok (counts (length pair-model.found) (block_count F (rounds F)) (rounds F))) entries'
      first' second'
  unfolding pair-model
  pair-reduced = pair-leaves table entries first second r s (Ok shared-as.0) entries' first' second' paired-of shared-as.0 refl

  pub pair-first-left : Left table (room_for (length entries)) (length pair-model.found) (block_count F (rounds F)) (rounds F) entries'
      first'
  pair-first-left = reduced-first table entries first second _ _ _ entries' first' second' pair-reduced

  pub pair-second-left : Left table (room_for (length entries)) (length pair-model.found) (block_count F (rounds F)) (rounds F) entries'
      second'
  pair-second-left = reduced-second table entries first second _ _ _ entries' first' second' pair-reduced

  -- The value is 1 exactly where the two numbers are equal, in the lists that a partition call on this table left, whatever was lent to it.
  module _ (entries₁ first₁ second₁ : List ℕ) (n b k : ℕ) (entries₁' first₁' second₁' : List ℕ)
      (reduced : Reduced table entries₁ first₁ second₁ (Ok (counts n b k)) entries₁' first₁' second₁') where
    pub value-first : (answer.value ≡ 1) ↔ (get_or first₁' r 0 ≡ get_or first₁' s 0)
    value-first =
        Iff.trans value_shares
        (pair-as-first table entries₁ first₁ second₁ (Ok (counts n b k)) entries₁' first₁' second₁' reduced n b k refl entries first second
        r s (Ok shared-as.0) entries' first' second' paired-of shared-as.0 refl)

    pub value-second : (answer.value ≡ 1) ↔ (get_or second₁' r 0 ≡ get_or second₁' s 0)
    value-second =
        Iff.trans value_shares
        (pair-as-second table entries₁ first₁ second₁ (Ok (counts n b k)) entries₁' first₁' second₁' reduced n b k refl entries first second
        r s (Ok shared-as.0) entries' first' second' paired-of shared-as.0 refl)

  -- So in its own lists: 1 where they are equal, 0 where they differ.
  pub value-together : (answer.value ≡ 1) ↔ (get_or first' r 0 ≡ get_or first' s 0)
  value-together = value-first entries first second _ _ _ entries' first' second' pair-reduced

  pub value-apart : (answer.value ≡ 0) ↔ (¬ (get_or first' r 0 ≡ get_or first' s 0))
  value-apart =
      let one = value-together in
      let is = ap (λ (a : Answer). a.value) (call.answer-is ∙ ap of_pairing shared-as.1) in (
        λ e q. let v = one.1 q in omega (arith, v, e),
        λ other. is ∙ zero-if shared-as.0 (λ t. other (one.0 (is ∙ (one-if shared-as.0).1 t))),
      )
    where
      zero-if : (v : Bool) → ¬ (v ≡ true) → one_if v ≡ 0
      zero-if true other = absurd (other refl)
      zero-if false other = refl
