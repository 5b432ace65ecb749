-- The hypotheses of the three demands are met, at document 01's printed model, with 45 bytes of entries and two lists of 5 numbers: the
-- graph call, the state call, the partition call and the pair call refuse nothing, and demand 3 says of three states with the clock at 0,
-- 1/2 and 1 which have one number. `printed-block`, `printed-apart` and `printed-together` are demand 3 there.
use Rattle.std.specs.Prelude.{ℕ, ◌≡◌, refl, List, length, get_or, replicate, Ok}
use Rattle.std.proofs.Common.{sym, ◌∙◌, ap}
use Rattle.regions.specs.Call.{room_for, from_answer, outcome_of, graph_of, entries_after}
use Rattle.regions.specs.Explore.{same_region, listed}
use Rattle.regions.specs.Graph.{largest_constant, bounds_of}
use Rattle.regions.specs.View.{number_in}
use Rattle.regions.specs.Example.{printed, printed_model, printed-read}
use Rattle.states.specs.Alike.{region_in}
use Rattle.states.specs.Placing.{state_cell, placed}
use Rattle.states.specs.StateCall.{asked, is_not_taken, own_state, placed_among, placed_from, place_of}
use Rattle.partition.specs.Instances.{block_in}
use Rattle.partition.specs.Calls.{list_after, pair_list_after}
use Rattle.partition.specs.Laws.Example.{printed-whole, clock_at_zero, clock_at_half, clock_at_one, printed-states, printed-reached}
use Rattle.partition.specs.Laws.Example.{five_zeros, printed-reduced, printed-pairs, printed-related, printed-parted}
use Rattle.terkwabu.specs.Answers.{result_as, of_graph, of_placing, of_reduction, of_pairing}
use Rattle.terkwabu.specs.Calls.{GraphCall, PlaceCall, ReduceCall, PairCall}
use Rattle.terkwabu.specs.Rows.{state_asked}
use Rattle.terkwabu.specs.Demand3.{IsNumber}
use Rattle.terkwabu.proofs.Demand3.{demand-3}

-- Room for five entries.
abbrev lent : List ℕ
lent = replicate 45 0

abbrev left : List ℕ
left = entries_after lent (outcome_of printed (room_for (length lent)))

abbrev numbers : List ℕ
numbers = list_after printed (room_for (length lent)) five_zeros five_zeros five_zeros

-- "regions 5 blocks 3 rounds 1"
pub printed-graph : GraphCall printed lent (result_as 5 0 0) left
printed-graph = record { answer-is = sym (ap (λ o. of_graph (graph_of o)) printed-whole); entries-are = refl }

pub printed-reduce : ReduceCall printed lent five_zeros five_zeros (result_as 5 3 1) left numbers numbers
printed-reduce =
    record {
      answer-is = sym (ap of_reduction printed-reduced);
      entries-are = refl;
      first-is = refl;
      second_is = refl;
    }

-- Regions 0 and 1 share a block, regions 0 and 2 do not.
pub printed-pair : PairCall printed lent five_zeros five_zeros 0 1 (result_as 1 0 0) left
    (pair_list_after printed (room_for (length lent)) five_zeros five_zeros five_zeros 0 1)
    (pair_list_after printed (room_for (length lent)) five_zeros five_zeros five_zeros 0 1)
printed-pair =
    record { answer-is = sym (ap of_pairing printed-pairs.0); entries-are = refl; first-is = refl; second_is = refl }

-- The clock at 1/2 at location 0 lies in region 1.
half : place_of printed 5 (asked 0 1 0 0 0 2) ≡ Ok 1
unfolding place_of outcome_of is_not_taken own_state largest_constant bounds_of state_cell placed same_region number_in
half =
    ap (placed_from 5 (asked 0 1 0 0 0 2)) printed-read
    ∙ ap (placed_among printed_model (asked 0 1 0 0 0 2)) (sym (ap (from_answer 5) printed-read) ∙ printed-whole)

pub printed-place : PlaceCall printed lent 0 1 0 0 0 2 (result_as 1 0 0) left
printed-place = record { answer-is = sym (ap of_placing half); entries-are = refl }

-- So number 1 of the list is its block.
pub printed-block : get_or numbers 1 0 ≡ block_in printed_model (listed left 5) (state_asked printed_model 0 1 0 0 0 2)
printed-block =
    let (is, below, at, one, two) = demand-3.place printed printed_model printed-read lent five_zeros five_zeros (result_as 5 3 1) left
    numbers
    numbers printed-reduce refl lent 0 1 0 0 0 2 (result_as 1 0 0) left printed-place refl in
    one

-- The clock at 0 and at 1: they lie in regions whose numbers differ.
pub printed-apart : (i : ℕ) × (j : ℕ) × IsNumber left 5 (region_in printed_model clock_at_zero) i
    × IsNumber left 5 (region_in printed_model clock_at_one) j × (¬ (get_or numbers i 0 ≡ get_or numbers j 0))
printed-apart =
    let (i, j, at, bt, first, second) = demand-3.partition printed printed_model printed-read clock_at_zero clock_at_one printed-states.0
    printed-states.2 printed-reached.0 printed-reached.2 lent five_zeros five_zeros (result_as 5 3 1) left numbers numbers
    printed-reduce refl in
    (i, j, at, bt, first.1 (λ R w. printed-parted R w))

-- The clock at 0 and at 1/2: not every bisimulation parts them, so their numbers are not different.
pub printed-together : (i : ℕ) × (j : ℕ) × IsNumber left 5 (region_in printed_model clock_at_zero) i
    × IsNumber left 5 (region_in printed_model clock_at_half) j × (¬ (¬ (get_or numbers i 0 ≡ get_or numbers j 0)))
printed-together =
    let (i, j, at, bt, first, second) = demand-3.partition printed printed_model printed-read clock_at_zero clock_at_half printed-states.0
    printed-states.1 printed-reached.0 printed-reached.1 lent five_zeros five_zeros (result_as 5 3 1) left numbers numbers
    printed-reduce refl in
    (i, j, at, bt, λ apart. let (R, w, r) = printed-related in first.0 apart R w r)
