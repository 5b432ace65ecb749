-- Document 01's refusal list as each call goes through it, and what the lent memory then holds. One constructor stands for rows 1 to 13, as
-- reading the table finds them: "the first record meeting a condition decides, and within it the lowest number". From 14 on there is one
-- for each row, with its sentence, and one for the result, and each asks that no row before it is met: "the lowest number that fits the
-- call decides". So at most one answer fits (`only-answer` of proofs/Laws/Only.antt).
use Rattle.std.specs.Prelude.{ℕ, ◌*◌, ◌/◌, ◌≤◌, ◌<◌, min, ◌≡◌, ◌⊎◌, true, false, List, [], ◌∷◌, ◌++◌, length, get_or, take, drop}
use Rattle.partition.specs.Passed.{Reason, number}
use Rattle.regions.specs.Passed.{Model, read_table, refusal, accepted, Region}
use Rattle.regions.specs.Graph.{bounds_of, meets, first, Reached}
use Rattle.regions.specs.Order.{AllRegions, FirstRegions, InOrder, FirstInOrder}
use Rattle.regions.specs.Call.{flat}
use Rattle.states.specs.States.{State, IsState}
use Rattle.states.specs.Alike.{region_in}
use Rattle.bisimulation.specs.Bisimulations.{Bisimulation}
use Rattle.bisimulation.specs.Finite.{structure, rounds, last_blocks, block_count}
use Rattle.partition.specs.Instances.{graph}
use Rattle.terkwabu.specs.Answers.{refused_as, result_as, short_as}
use Rattle.terkwabu.specs.declared.answer.Answer.{Answer}

-- How many entries count: "N exceeds 4,096 or the whole entries lent", of nine bytes each.
abbrev pub entries_lent : List ℕ → ℕ
entries_lent entries = min 4096 (length entries / 9)

-- Entries that hold some regions, and after them what was there. (An entry's nine bytes are said by `entry` of Demand1.)
abbrev pub with_regions : List Region → List ℕ → List ℕ
with_regions found entries = flat found ++ drop (9 * length found) entries

-- ---- Rows 1 to 15, which every call that takes a table and lent entries has, and what they leave in the entries

pub data Stopped (table entries entries' : List ℕ) : (code place : ℕ) → Type 0 where
  -- 1 to 13, with their places, are those of reading the table, record by record (`rows_of` of Refusals and `read_table` of Reading, in
  -- crates/table). "Refusals 1 to 14 change nothing."
  row-1-13 : {reason : Reason} {place : ℕ} → read_table table ≡ refusal reason place → entries' ≡ entries
      → Stopped table entries entries' (number reason) place
  -- "14. Region 0 breaks its invariant."
  row-14 : {m : Model} → read_table table ≡ accepted m → meets (bounds_of m) m.invariants (first m) ≡ false → entries' ≡ entries
      → Stopped table entries entries' 14 0
  -- "15. N exceeds 4,096 or the whole entries lent": another region is reached than fit. "15 leaves the first regions, as many as fit (at
  -- most 4,096)." "Bytes after the entries never change."
  row-15 : {m : Model} {found : List Region} → read_table table ≡ accepted m → meets (bounds_of m) m.invariants (first m) ≡ true
      → FirstRegions m (entries_lent entries) found → FirstInOrder m found
      → entries' ≡ with_regions found entries → Stopped table entries entries' 15 0

-- None of them is met: the table is read as m, found are all its regions, by number, and there is room for them. "Otherwise the first N
-- entries hold the graph."
pub record GraphHeld (table entries entries' : List ℕ) (m : Model) (found : List Region) : Type 0 where
  pub read : read_table table ≡ accepted m
  pub meets-first : meets (bounds_of m) m.invariants (first m) ≡ true
  pub all : AllRegions m found
  pub in_order : InOrder m found
  pub fits : length found ≤ entries_lent entries
  pub entries-are : entries' ≡ with_regions found entries

-- The answer by the list: that of rows 1 to 15, where what else was lent is unchanged, or that of the call's own rows.
pub data ByList (table entries entries' : List ℕ) (unchanged : Type 0) (own : Model → List Region → Answer → Type 0) : Answer → Type 0 where
  stopped : {code place : ℕ} → Stopped table entries entries' code place → unchanged
      → ByList table entries entries' unchanged own (refused_as code place)
  went_on : {m : Model} {found : List Region} {answer : Answer} → GraphHeld table entries entries' m found → own m found answer
      → ByList table entries entries' unchanged own answer

-- ---- The own rows of each call, and its result. N is `length found`

-- The graph call: "its result is N".
pub data GraphRows (m : Model) (found : List Region) : Answer → Type 0 where
  graph-result : GraphRows m found (result_as (length found) 0 0)

-- The state that a call asks for: of the four values the model's n.
abbrev pub state_asked : Model → (location v₀ v₁ v₂ v₃ denominator : ℕ) → State
state_asked m location v₀ v₁ v₂ v₃ denominator =
    record { location = location; values = take m.clocks (v₀ ∷ v₁ ∷ v₂ ∷ v₃ ∷ []); denominator = denominator }

-- What the call takes, so that row 20 is not met.
pub record Takes (m : Model) (location v₀ v₁ v₂ v₃ denominator : ℕ) : Type 0 where
  pub there : location < m.locations
  pub some : 1 ≤ denominator
  pub most : denominator ≤ 1000000
  pub beyond : (i : ℕ) → m.clocks ≤ i → get_or (v₀ ∷ v₁ ∷ v₂ ∷ v₃ ∷ []) i 0 ≡ 0

-- The state call: "the region's number".
pub data PlaceRows (location v₀ v₁ v₂ v₃ denominator : ℕ) (m : Model) (found : List Region) : Answer → Type 0 where
  -- "20. A state's location is not below the count, its denominator is 0 or above 1,000,000, or a clock beyond n is not 0."
  place-row-20 : ¬ Takes m location v₀ v₁ v₂ v₃ denominator → PlaceRows location v₀ v₁ v₂ v₃ denominator m found (refused_as 20 0)
  -- "21. The state's region was not reached."
  place-row-21 : Takes m location v₀ v₁ v₂ v₃ denominator → IsState m (state_asked m location v₀ v₁ v₂ v₃ denominator)
      → ¬ Reached m (region_in m (state_asked m location v₀ v₁ v₂ v₃ denominator))
      → PlaceRows location v₀ v₁ v₂ v₃ denominator m found (refused_as 21 0)
  place-result : Takes m location v₀ v₁ v₂ v₃ denominator → IsState m (state_asked m location v₀ v₁ v₂ v₃ denominator)
      → (number : ℕ) → number < length found
      → ((d : Region) → get_or found number d ≡ region_in m (state_asked m location v₀ v₁ v₂ v₃ denominator))
      → PlaceRows location v₀ v₁ v₂ v₃ denominator m found (result_as number 0 0)

-- A list that holds the blocks in its first N entries and is unchanged after them.
abbrev pub with_blocks : Model → List Region → List ℕ → List ℕ
with_blocks m found list = last_blocks (graph m found) ++ drop (length found) list

-- The partition call: "N, the count of blocks and the count of rounds". "Block lists change only on success of partition and pair calls:
-- both then hold the blocks in their first N entries and are unchanged after them."
pub data ReduceRows (first second first' second' : List ℕ) (m : Model) (found : List Region) : Answer → Type 0 where
  -- "16. One of the two lent block lists is shorter than N (partition and pair calls)."
  reduce-row-16 : (length first < length found) ⊎ (length second < length found) → (first' ≡ first) × (second' ≡ second)
      → ReduceRows first second first' second' m found (refused_as 16 0)
  reduce-result : (length found ≤ length first) × (length found ≤ length second)
      → (first' ≡ with_blocks m found first) × (second' ≡ with_blocks m found second)
      → ReduceRows first second first' second' m found
      (result_as (length found) (block_count (graph m found) (rounds (graph m found))) (rounds (graph m found)))

-- The pair call: "whether the two regions share a block", 1 or 0.
pub data PairRows (first second : List ℕ) (r s : ℕ) (first' second' : List ℕ) (m : Model) (found : List Region) : Answer → Type 0 where
  pair-row-16 : (length first < length found) ⊎ (length second < length found) → (first' ≡ first) × (second' ≡ second)
      → PairRows first second r s first' second' m found (refused_as 16 0)
  -- "19. An asked region number is not below N (pair call)."
  pair-row-19 : (length found ≤ length first) × (length found ≤ length second) → (length found ≤ r) ⊎ (length found ≤ s)
      → (first' ≡ first) × (second' ≡ second) → PairRows first second r s first' second' m found (refused_as 19 0)
  pair-shared : (length found ≤ length first) × (length found ≤ length second) → (r < length found) × (s < length found)
      → (first' ≡ with_blocks m found first) × (second' ≡ with_blocks m found second)
      → get_or (last_blocks (graph m found)) r 0 ≡ get_or (last_blocks (graph m found)) s 0
      → PairRows first second r s first' second' m found (result_as 1 0 0)
  pair-apart : (length found ≤ length first) × (length found ≤ length second) → (r < length found) × (s < length found)
      → (first' ≡ with_blocks m found first) × (second' ≡ with_blocks m found second)
      → ¬ (get_or (last_blocks (graph m found)) r 0 ≡ get_or (last_blocks (graph m found)) s 0)
      → PairRows first second r s first' second' m found (result_as 0 0 0)

-- "A proposal is any N numbers, equal numbers meaning related."
abbrev pub Proposed : Model → List Region → List ℕ → Type 0
Proposed m found proposal = Bisimulation (structure (graph m found)) (λ x y. get_or proposal x 0 ≡ get_or proposal y 0)

-- The judging call: "acceptance", 1.
pub data JudgeRows (proposal : List ℕ) (m : Model) (found : List Region) : Answer → Type 0 where
  -- "17. A proposed partition's length is not N."
  judge-row-17 : ¬ (length proposal ≡ length found) → JudgeRows proposal m found (refused_as 17 0)
  -- "18. The proposed partition is no bisimulation."
  judge-row-18 : length proposal ≡ length found → ¬ Proposed m found proposal → JudgeRows proposal m found (refused_as 18 0)
  judge-result : length proposal ≡ length found → Proposed m found proposal → JudgeRows proposal m found (result_as 1 0 0)

-- ---- Text in a lent buffer. How the end and a short buffer are told is a choice of ours; every choice has in common that what was written
-- is the text, whole, and that bytes after it stay.

pub data Given (text buffer buffer' : List ℕ) : Answer → Type 0 where
  no_text : text ≡ [] → buffer' ≡ buffer → Given text buffer buffer' (result_as 0 0 0)
  written : 0 < length text → length text ≤ length buffer → buffer' ≡ text ++ drop (length text) buffer
      → Given text buffer buffer' (result_as (length text) 0 0)
  short : length buffer < length text → buffer' ≡ buffer → Given text buffer buffer' (short_as (length text))

-- The part call: rows 1 to 13, or the text of the part. (From 14 on nothing is asked again: entries, list and counts are taken as they are
-- lent.)
pub data PartRows (table text buffer buffer' : List ℕ) : Answer → Type 0 where
  part-row-1-13 : {reason : Reason} {place : ℕ} → read_table table ≡ refusal reason place → buffer' ≡ buffer
      → PartRows table text buffer buffer' (refused_as (number reason) place)
  part-result : {m : Model} {answer : Answer} → read_table table ≡ accepted m → Given text buffer buffer' answer
      → PartRows table text buffer buffer' answer
