-- Demand 3 at document 01's printed model, so that what is proved of accepted models and of calls that succeed is proved of something:
-- its five regions and their block numbers, computed; two states that a bisimulation relates, and two of one label that none does;
-- the answers of the partition call and the pair call.
--   region 0 0 0 0      region 1 0 0 0+1      region 2 0 1 1      region 3 1 2 1      region 4 1 2 >
use Rattle.std.specs.Prelude.{ℕ, ◌<◌, ◌≡◌, refl, true, false, List, [], ◌∷◌, Ok}
use Rattle.std.proofs.Common.{arith, ◌∙◌, ap, ap₂}
use Rattle.regions.specs.Passed.{reset_in, delay, atom, clock_at, delayed, after_reset, Region}
use Rattle.regions.specs.Example.{printed, printed_model, printed-read}
use Rattle.regions.specs.Graph.{largest_constant, bounds_of, meets, fits, landing, lands}
use Rattle.regions.specs.Graph.{delay_next, edge_next, next_of, first, Reached}
use Rattle.regions.specs.Explore.{same_region}
use Rattle.regions.specs.Worklist.{explore_from, explore}
use Rattle.regions.specs.View.{number_in, label_of}
use Rattle.regions.specs.Call.{whole, outcome_of}
use Rattle.states.specs.States.{State, IsState}
use Rattle.states.specs.Placing.{state_cell, placed}
use Rattle.states.specs.Alike.{region_in}
use Rattle.bisimulation.specs.Bisimulations.{Bisimulation}
use Rattle.bisimulation.specs.Finite.{related, blocks, rounds, last_blocks, block_count}
use Rattle.partition.specs.Calls.{Accepted, counts, reduce_of, pair_of}
use Rattle.partition.specs.Laws.Success.{reduce-succeeds, pair-succeeds}
use Rattle.partition.specs.Instances.{delays_from, graph, states, place_in}
use Rattle.partition.specs.Laws.Instances.{call-placed}
use Rattle.partition.specs.Laws.Bisimilar.{related-states, states-differ-any}

-- ---- The regions and their blocks

-- A region of one clock.
abbrev region_with : (location whole rank : ℕ) → Region
region_with l w f = record { location = l; whole = w ∷ 0 ∷ 0 ∷ 0 ∷ []; rank = f ∷ 0 ∷ 0 ∷ 0 ∷ [] }

abbrev pub printed_regions : List Region
printed_regions = region_with 0 0 0 ∷ region_with 0 0 1 ∷ region_with 0 1 0 ∷ region_with 1 1 0 ∷ region_with 1 16 0 ∷ []

-- "The model above with 5 entries is accepted."
pub printed-whole : outcome_of printed 5 ≡ whole printed_regions
unfolding outcome_of delay atom clock_at delayed after_reset reset_in largest_constant bounds_of meets fits landing lands delay_next
    edge_next next_of first same_region explore_from explore
printed-whole = rw printed-read refl

pub printed-numbers : last_blocks (graph printed_model printed_regions) ≡ 0 ∷ 0 ∷ 1 ∷ 2 ∷ 2 ∷ []
unfolding delay atom clock_at delayed after_reset reset_in largest_constant bounds_of meets fits landing lands delay_next first
    same_region number_in label_of delays_from last_blocks blocks rounds
printed-numbers = refl

-- ---- Three states at location 0, with the clock at 0, 1/2 and 1

abbrev pub clock_at_zero : State
clock_at_zero = record { location = 0; values = 0 ∷ []; denominator = 1 }

abbrev pub clock_at_half : State
clock_at_half = record { location = 0; values = 1 ∷ []; denominator = 2 }

abbrev pub clock_at_one : State
clock_at_one = record { location = 0; values = 1 ∷ []; denominator = 1 }

is_state : (v d : ℕ) → 0 < d → IsState printed_model (record { location = 0; values = v ∷ []; denominator = d })
is_state v d h = record { location = omega arith; values = refl; denominator = h }

places : (place_in printed_model printed_regions clock_at_zero ≡ 0) × (place_in printed_model printed_regions clock_at_half ≡ 1)
    × (place_in printed_model printed_regions clock_at_one ≡ 2)
unfolding largest_constant bounds_of state_cell placed same_region number_in
places = (refl, refl, refl)

pub printed-states : IsState printed_model clock_at_zero × IsState printed_model clock_at_half × IsState printed_model clock_at_one
printed-states = (is_state 0 1 (omega arith), is_state 1 2 (omega arith), is_state 1 1 (omega arith))

of-graph : (s : State) → place_in printed_model printed_regions s < 5 → Reached printed_model (region_in printed_model s)
of-graph s h = (call-placed printed 5 printed_regions printed-whole printed_model printed-read s).0 h

-- All three lie in regions of the graph.
pub printed-reached : Reached printed_model (region_in printed_model clock_at_zero)
    × Reached printed_model (region_in printed_model clock_at_half)
    × Reached printed_model (region_in printed_model clock_at_one)
printed-reached = (
  of-graph clock_at_zero (omega (arith, places.0)),
  of-graph clock_at_half (omega (arith, places.1)),
  of-graph clock_at_one (omega (arith, places.2)),
)

-- A bisimulation over all states relates the clock at 0 and at 1/2.
pub printed-related : (R : State → State → Type 0) × Bisimulation (states printed_model) R × R clock_at_zero clock_at_half
printed-related =
    related-states printed 5 printed_regions printed-whole printed_model printed-read clock_at_zero clock_at_half
    printed-states.0 printed-states.1 printed-reached.0 printed-reached.1
    (rw (printed-numbers, places.0, places.1) refl)

-- None, at any level, relates the clock at 0 and at 1.
pub printed-parted {ℓ} : (R : State → State → Type ℓ) → Bisimulation (states printed_model) R → ¬ R clock_at_zero clock_at_one
printed-parted R w =
    states-differ-any printed 5 printed_regions printed-whole printed_model printed-read clock_at_zero clock_at_one
    printed-states.0 printed-states.2 printed-reached.0 printed-reached.2
    (λ e. let z : ◌≡◌ {A = ℕ} 0 1 = rw (printed-numbers, places.0, places.2) at e in omega arith) R w

-- ---- The calls on it, with 5 entries and two lists of 5 numbers

pub printed-accepted : Accepted printed 5
printed-accepted = record { model = printed_model; read = printed-read; found = printed_regions; out = printed-whole }

abbrev pub five_zeros : List ℕ
five_zeros = 0 ∷ 0 ∷ 0 ∷ 0 ∷ 0 ∷ []

counted : (block_count (graph printed_model printed_regions) (rounds (graph printed_model printed_regions)) ≡ 3)
    × (rounds (graph printed_model printed_regions) ≡ 1)
unfolding delay atom clock_at delayed after_reset reset_in largest_constant bounds_of meets fits landing lands delay_next first
    same_region number_in label_of delays_from last_blocks blocks rounds block_count
counted = (refl, refl)

-- "regions 5 blocks 3 rounds 1"
pub printed-reduced : reduce_of printed 5 five_zeros five_zeros ≡ Ok (counts 5 3 1)
unfolding printed-accepted
printed-reduced =
    reduce-succeeds printed 5 printed-accepted five_zeros five_zeros (omega arith) (omega arith)
    ∙ ap₂ (λ (b k : ℕ). Ok (counts 5 b k)) counted.0 counted.1

-- Regions 0 and 1 share a block, regions 0 and 2 do not.
pub printed-pairs : (pair_of printed 5 five_zeros five_zeros 0 1 ≡ Ok true)
    × (pair_of printed 5 five_zeros five_zeros 0 2 ≡ Ok false)
unfolding printed-accepted
printed-pairs =
    let says = pair-succeeds printed 5 printed-accepted five_zeros five_zeros (omega arith) (omega arith) in (
      says 0 1 (omega arith) (omega arith) ∙ ap (λ (l : List ℕ). Ok (related l 0 1)) printed-numbers,
      says 0 2 (omega arith) (omega arith) ∙ ap (λ (l : List ℕ). Ok (related l 0 2)) printed-numbers,
    )
