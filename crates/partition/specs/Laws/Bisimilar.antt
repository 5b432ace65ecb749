-- Demand 3, over the definitions: "Let a and b be any two states of any accepted model, their clock values any fractions,
-- both lying in regions of its graph." The block numbers of the two regions "differ exactly when no probabilistic
-- time-abstracting bisimulation over all states of the model relates a and b". What a reader needs to know stands in
--   States, Placing (of states)       states with fractions as clock values, and how they move; the region of a state
--   Graph (of regions)                regions, what they lead to, what is reached
--   Call (of regions)                 `outcome_of`: what the graph call comes to
--   Bisimulations (of bisimulation)   bisimulations over any structure, and the rounds
--   Finite (of bisimulation)          `last_blocks`: the block numbers of the last round; `accepts`: judging a proposal
--   Instances                         `states` and `graph`, the structures of a model; `block_in`, the block number of a state
use Rattle.std.specs.Prelude.{ℕ, ◌<◌, ◌≡◌, true, List, ◌↔◌, length, get_or}
use Rattle.std.proofs.Common.{eqb-true}
use Rattle.regions.specs.Passed.{Model, read_table, accepted, Region}
use Rattle.regions.specs.Call.{whole, outcome_of}
use Rattle.regions.specs.Graph.{Reached}
use Rattle.states.specs.States.{State, IsState}
use Rattle.states.specs.Alike.{region_in}
use Rattle.bisimulation.specs.Structures.{Closed}
use Rattle.bisimulation.specs.Bisimulations.{Bisimulation}
use Rattle.bisimulation.specs.Finite.{structure, related, rounds, last_blocks, accepts}
use Rattle.bisimulation.proofs.Laws.Blocks.{last-rests, last-bisimulation, last-coarsest}
use Rattle.bisimulation.proofs.Laws.Judging.{judged-iff}
use Rattle.bisimulation.proofs.Laws.Transfer.{transfer-related, transfer-parted}
use Rattle.partition.specs.Instances.{graph, states, place_in, block_in}
use Rattle.partition.specs.Laws.Instances.{states-closed, states-respect}
use Rattle.partition.specs.Laws.Instances.{call-closed, call-placing, call-placed, one_block}

-- A table that is read as a model, and whose regions the graph call lists, all of them: "A model is accepted, with the
-- entries lent, where the graph call refuses nothing."
module _ (table : List ℕ) (cap : ℕ) (found : List Region) (out : outcome_of table cap ≡ whole found)
    (m : Model) (read : read_table table ≡ accepted m) where
  closed : Closed (structure (graph m found))
  closed = call-closed table cap found out m read

  -- ---- States: any two, with fractions as clock values, both lying in regions of the graph

  module _ (a b : State) (ia : IsState m a) (ib : IsState m b)
      (ra : Reached m (region_in m a)) (rb : Reached m (region_in m b)) where
    pa : place_in m found a < length found
    pa = (call-placed table cap found out m read a).1 ra

    pb : place_in m found b < length found
    pb = (call-placed table cap found out m read b).1 rb

    -- Where the numbers are equal, a bisimulation over all states that relates the two is given.
    pub related-states : block_in m found a ≡ block_in m found b
        → (R : State → State → Type 0) × Bisimulation (states m) R × R a b
    related-states e =
        transfer-related (states m) (states-closed table m read) (graph m found) closed (place_in m found)
        (call-placing table cap found out m read) (states-respect table m read) (rounds (graph m found))
        (last-rests (graph m found) closed) ia ib pa pb ((one_block table cap found out m read a b ra rb).0 e)

    -- Whatever bisimulation over all states relates the two, decidable or not, at any level: the numbers are equal.
    pub parted-states {ℓ} : (R : State → State → Type ℓ) → Bisimulation (states m) R → R a b
        → block_in m found a ≡ block_in m found b
    parted-states R w r =
        (one_block table cap found out m read a b ra rb).1
        (transfer-parted (states m) (states-closed table m read) (graph m found) closed (place_in m found)
        (call-placing table cap found out m read) (states-respect table m read) (rounds (graph m found))
        (last-rests (graph m found) closed) ia ib pa pb R w r)

    -- Demand 3: the numbers differ exactly when no bisimulation over all states relates the two.
    pub states-differ : (¬ (block_in m found a ≡ block_in m found b))
        ↔ ((R : State → State → Type 0) → Bisimulation (states m) R → ¬ R a b)
    states-differ = (λ n R w r. n (parted-states R w r), λ none e. let (R, w, r) = related-states e in none R w r)

    -- There is then none at any level.
    pub states-differ-any {ℓ} : ¬ (block_in m found a ≡ block_in m found b)
        → (R : State → State → Type ℓ) → Bisimulation (states m) R → ¬ R a b
    states-differ-any n R w r = n (parted-states R w r)

  -- ---- Regions: the blocks are the coarsest bisimulation of the region graph

  -- They are one.
  pub blocks-bisimulation : Bisimulation (structure (graph m found)) (λ x y. related (last_blocks (graph m found)) x y ≡ true)
  blocks-bisimulation = last-bisimulation (graph m found) closed

  -- Whatever one relates, at any level, has one number.
  pub blocks-coarsest {ℓ} : (R : ℕ → ℕ → Type ℓ) → Bisimulation (structure (graph m found)) R
      → (x y : ℕ) → x < length found → y < length found → R x y
      → get_or (last_blocks (graph m found)) x 0 ≡ get_or (last_blocks (graph m found)) y 0
  blocks-coarsest R w x y hx hy r = eqb-true _ _ (last-coarsest (graph m found) closed R w x y hx hy r)

-- ---- Proposals

-- Demand 2: "A proposed partition is accepted exactly when it is a probabilistic time-abstracting bisimulation of the region
-- graph", "equal numbers meaning related". (For any list of regions; of the call itself it is said in JudgingCall.)
pub accepted-iff : (m : Model) (found : List Region) (proposal : List ℕ)
    → (accepts (graph m found) proposal ≡ true)
    ↔ Bisimulation (structure (graph m found)) (λ x y. related proposal x y ≡ true)
accepted-iff m found proposal = judged-iff (graph m found) proposal
