-- Demand 3: "Let a and b be any two states of any accepted model, their clock values any fractions, both lying in regions of its graph.
-- Whenever document 01's list finds no refusal for the partition call, both block lists then hold document 01's block numbers, and those of
-- the two regions differ exactly when no probabilistic time-abstracting bisimulation over all states of the model relates a and b. Whenever
-- that list finds none for the pair call on these two regions, the call says in exactly the same cases that they share no block." One
-- closed statement; and the half that holds for relations at every level. proofs/Demand3.antt has the theorems.
--
-- A premise `ReduceCall table entries first second answer entries' first' second'` (Calls) is what the contract of terkwabu_reduce
-- (src/calls.rt) says of every call with these that answers `answer` and leaves entries', first' and second'. `answer.refusal ≡ 0` says
-- that the list found no refusal (Demand1), so that the model is accepted; `read_table table ≡ accepted m` says which model it is. With
-- this file five say what is claimed:
--   Demand2                           `BlockNumbers`: document 01's block numbers
--   States, Placing (of states)       states with fractions as clock values, and how they move; the region of a state (`placed`, by which
--                                     `region_in` of Alike is said)
--   Bisimulations (of bisimulation)   bisimulations over any structure
--   Instances (of partition)          `states m`: all states of the model as a structure
-- What these files rest on is named in their first lines.
use Rattle.std.specs.Prelude.{ℕ, ◌<◌, ◌≡◌, ◌↔◌, ◌⊎◌, List, get_or}
use Rattle.regions.specs.Passed.{Model, read_table, accepted, Region}
use Rattle.regions.specs.Entries.{region_at}
use Rattle.regions.specs.Explore.{listed}
use Rattle.regions.specs.Graph.{Reached}
use Rattle.regions.specs.Order.{AllRegions, InOrder}
use Rattle.states.specs.States.{State, IsState}
use Rattle.states.specs.Alike.{region_in}
use Rattle.bisimulation.specs.Structures.{Structure}
use Rattle.bisimulation.specs.Bisimulations.{Bisimulation}
use Rattle.partition.specs.Instances.{states, states_zero, block_in}
use Rattle.terkwabu.specs.Calls.{PlaceCall, ReduceCall, PairCall}
use Rattle.terkwabu.specs.Rows.{state_asked}
use Rattle.terkwabu.specs.Demand2.{graph_in, BlockNumbers}
use Rattle.terkwabu.specs.declared.answer.Answer.{Answer}

-- Number i is that of region r: it is entry i of the first n, and no other.
abbrev pub IsNumber : (entries : List ℕ) (n : ℕ) → Region → ℕ → Type 0
IsNumber entries n r i = (i < n) × (region_at entries i ≡ r) × ((j : ℕ) → j < n → region_at entries j ≡ r → j ≡ i)

-- No bisimulation over a structure of states relates a and b. (Of Type 0 here; relations at every level are in `Demand3At`.)
abbrev pub NoneRelates : Structure State → State → State → Type 1
NoneRelates S a b = (R : State → State → Type 0) → Bisimulation S R → ¬ R a b

pub record Demand3 : Type 1 where
  -- Both lists hold document 01's block numbers, of the graph that stands in the entries.
  pub lists : (table entries first second : List ℕ) (answer : Answer) (entries' first' second' : List ℕ)
      → ReduceCall table entries first second answer entries' first' second' → answer.refusal ≡ 0
      → (m : Model) × (read_table table ≡ accepted m)
      × AllRegions m (listed entries' answer.value) × InOrder m (listed entries' answer.value)
      × BlockNumbers (graph_in m entries' answer.value) answer.value answer.blocks answer.rounds first'
      × BlockNumbers (graph_in m entries' answer.value) answer.value answer.blocks answer.rounds second'
  -- The two states lie in regions i and j, and the numbers of these differ, in either list, exactly when no bisimulation over all states
  -- relates the two.
  pub partition : (table : List ℕ) (m : Model) → read_table table ≡ accepted m
      → (a b : State) → IsState m a → IsState m b → Reached m (region_in m a) → Reached m (region_in m b)
      → (entries first second : List ℕ) (answer : Answer) (entries' first' second' : List ℕ)
      → ReduceCall table entries first second answer entries' first' second' → answer.refusal ≡ 0
      → (i : ℕ) × (j : ℕ)
      × IsNumber entries' answer.value (region_in m a) i × IsNumber entries' answer.value (region_in m b) j
      × ((¬ (get_or first' i 0 ≡ get_or first' j 0)) ↔ NoneRelates (states m) a b)
      × ((¬ (get_or second' i 0 ≡ get_or second' j 0)) ↔ NoneRelates (states m) a b)
  -- The pair call on two regions, r of a and s of b, says 0, that they share no block, in exactly the same cases.
  pub pair : (table : List ℕ) (m : Model) → read_table table ≡ accepted m
      → (a b : State) → IsState m a → IsState m b
      → (entries first second : List ℕ) (r s : ℕ) (answer : Answer) (entries' first' second' : List ℕ)
      → PairCall table entries first second r s answer entries' first' second' → answer.refusal ≡ 0
      → region_at entries' r ≡ region_in m a → region_at entries' s ≡ region_in m b
      → (answer.value ≡ 0) ↔ NoneRelates (states m) a b
  -- Both lists then hold document 01's block numbers too.
  pub pair-lists : (table entries first second : List ℕ) (r s : ℕ) (answer : Answer) (entries' first' second' : List ℕ)
      → PairCall table entries first second r s answer entries' first' second' → answer.refusal ≡ 0
      → (n : ℕ) × (blocks : ℕ) × (rounds : ℕ) × (m : Model) × (read_table table ≡ accepted m)
      × AllRegions m (listed entries' n) × InOrder m (listed entries' n)
      × BlockNumbers (graph_in m entries' n) n blocks rounds first' × BlockNumbers (graph_in m entries' n) n blocks rounds second'
  -- Where both calls succeed on one table, whatever was lent to each, they say the same.
  pub agree : (table entries first second : List ℕ) (answer : Answer) (entries' first' second' : List ℕ)
      → ReduceCall table entries first second answer entries' first' second' → answer.refusal ≡ 0
      → (entries₂ first₂ second₂ : List ℕ) (r s : ℕ) (answer₂ : Answer) (entries₂' first₂' second₂' : List ℕ)
      → PairCall table entries₂ first₂ second₂ r s answer₂ entries₂' first₂' second₂' → answer₂.refusal ≡ 0
      → ((answer₂.value ≡ 1) ↔ (get_or first' r 0 ≡ get_or first' s 0)) × ((answer₂.value ≡ 1) ↔ (get_or second' r 0 ≡ get_or second' s 0))
  -- From a state to its block: where the state call answers a number, whatever was lent to it, that is the number of the state's region in
  -- what the partition call left, and number `value` of either list is that state's block.
  pub place : (table : List ℕ) (m : Model) → read_table table ≡ accepted m
      → (entries first second : List ℕ) (answer : Answer) (entries' first' second' : List ℕ)
      → ReduceCall table entries first second answer entries' first' second' → answer.refusal ≡ 0
      → (entries₁ : List ℕ) (location v₀ v₁ v₂ v₃ denominator : ℕ) (answer₁ : Answer) (entries₁' : List ℕ)
      → PlaceCall table entries₁ location v₀ v₁ v₂ v₃ denominator answer₁ entries₁' → answer₁.refusal ≡ 0
      → IsState m (state_asked m location v₀ v₁ v₂ v₃ denominator)
      × (answer₁.value < answer.value)
      × (region_at entries' answer₁.value ≡ region_in m (state_asked m location v₀ v₁ v₂ v₃ denominator))
      × (get_or first' answer₁.value 0 ≡ block_in m (listed entries' answer.value) (state_asked m location v₀ v₁ v₂ v₃ denominator))
      × (get_or second' answer₁.value 0 ≡ block_in m (listed entries' answer.value) (state_asked m location v₀ v₁ v₂ v₃ denominator))
  -- Where the numbers are equal, in either list, a bisimulation over all states that relates the two is given.
  pub given : (table : List ℕ) (m : Model) → read_table table ≡ accepted m
      → (a b : State) → IsState m a → IsState m b
      → (entries first second : List ℕ) (answer : Answer) (entries' first' second' : List ℕ)
      → ReduceCall table entries first second answer entries' first' second' → answer.refusal ≡ 0
      → (i j : ℕ) → i < answer.value → region_at entries' i ≡ region_in m a → j < answer.value → region_at entries' j ≡ region_in m b
      → (get_or first' i 0 ≡ get_or first' j 0) ⊎ (get_or second' i 0 ≡ get_or second' j 0)
      → (R : State → State → Type 0) × Bisimulation (states m) R × R a b
  -- Whether a state that breaks its invariant has a zero delay, on which document 01's words may be read either way, makes no difference.
  pub zero-delay : (table : List ℕ) (m : Model) → read_table table ≡ accepted m
      → (a b : State) → IsState m a → IsState m b → Reached m (region_in m a) → Reached m (region_in m b)
      → (entries first second : List ℕ) (answer : Answer) (entries' first' second' : List ℕ)
      → ReduceCall table entries first second answer entries' first' second' → answer.refusal ≡ 0
      → NoneRelates (states m) a b ↔ NoneRelates (states_zero m) a b

-- Relations at every level: one that is a bisimulation over all states and relates a and b makes their numbers equal in both lists, and the
-- pair call say 1.
abbrev pub Demand3At {ℓ} : Type (ℓ + 1)
Demand3At =
    (table : List ℕ) (m : Model) → read_table table ≡ accepted m
    → (a b : State) → IsState m a → IsState m b
    → (R : State → State → Type ℓ) → Bisimulation (states m) R → R a b
    → ((entries first second : List ℕ) (answer : Answer) (entries' first' second' : List ℕ)
    → ReduceCall table entries first second answer entries' first' second' → answer.refusal ≡ 0
    → (i j : ℕ) → i < answer.value → region_at entries' i ≡ region_in m a → j < answer.value → region_at entries' j ≡ region_in m b
    → (get_or first' i 0 ≡ get_or first' j 0) × (get_or second' i 0 ≡ get_or second' j 0))
    × ((entries first second : List ℕ) (r s : ℕ) (answer : Answer) (entries' first' second' : List ℕ)
    → PairCall table entries first second r s answer entries' first' second' → answer.refusal ≡ 0
    → region_at entries' r ≡ region_in m a → region_at entries' s ≡ region_in m b → answer.value ≡ 1)
