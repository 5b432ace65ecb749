-- What a C host sees of each exported call: what was lent, what was answered, and what the lent memory then holds (with a stroke). Each
-- record is, as it stands, the contract of the function of src/calls.rt that is named with it, for all bytes, numbers and lent lengths. A
-- contract also says that the call returns. What is only read (the table, a proposal, a list to print from) is lent as a slice that cannot
-- be written, so it stays as it was.
use Rattle.std.specs.Prelude.{ℕ, ◌≤◌, ◌≡◌, List, length}
use Rattle.regions.specs.Call.{room_for, outcome_of, graph_of, entries_after}
use Rattle.states.specs.StateCall.{asked, place_of}
use Rattle.partition.specs.Calls.{reduce_of, list_after, pair_of, pair_list_after, judge_of}
use Rattle.listing.specs.Printed.{refusal_line}
use Rattle.listing.specs.Parts.{text_of, part_of, fitted, buffer_after, most_bytes}
use Rattle.terkwabu.specs.Answers.{of_graph, of_placing, of_reduction, of_pairing, of_judgement, told_part, of_part}
use Rattle.terkwabu.specs.declared.answer.Answer.{Answer}

-- terkwabu_graph
pub record GraphCall (table entries : List ℕ) (answer : Answer) (entries' : List ℕ) : Type 0 where
  pub answer-is : answer ≡ of_graph (graph_of (outcome_of table (room_for (length entries))))
  pub entries-are : entries' ≡ entries_after entries (outcome_of table (room_for (length entries)))

-- terkwabu_place
pub record PlaceCall (table entries : List ℕ) (location v₀ v₁ v₂ v₃ denominator : ℕ) (answer : Answer) (entries' : List ℕ) : Type 0 where
  pub answer-is : answer ≡ of_placing (place_of table (room_for (length entries)) (asked location v₀ v₁ v₂ v₃ denominator))
  pub entries-are : entries' ≡ entries_after entries (outcome_of table (room_for (length entries)))

-- terkwabu_reduce
pub record ReduceCall (table entries first second : List ℕ) (answer : Answer) (entries' first' second' : List ℕ) : Type 0 where
  pub answer-is : answer ≡ of_reduction (reduce_of table (room_for (length entries)) first second)
  pub entries-are : entries' ≡ entries_after entries (outcome_of table (room_for (length entries)))
  pub first-is : first' ≡ list_after table (room_for (length entries)) first second first
  pub second_is : second' ≡ list_after table (room_for (length entries)) first second second

-- terkwabu_pair
pub record PairCall (table entries first second : List ℕ) (r s : ℕ) (answer : Answer) (entries' first' second' : List ℕ) : Type 0 where
  pub answer-is : answer ≡ of_pairing (pair_of table (room_for (length entries)) first second r s)
  pub entries-are : entries' ≡ entries_after entries (outcome_of table (room_for (length entries)))
  pub first-is : first' ≡ pair_list_after table (room_for (length entries)) first second first r s
  pub second_is : second' ≡ pair_list_after table (room_for (length entries)) first second second r s

-- terkwabu_judge
pub record JudgeCall (table entries proposal : List ℕ) (answer : Answer) (entries' : List ℕ) : Type 0 where
  pub answer-is : answer ≡ of_judgement (judge_of table (room_for (length entries)) proposal)
  pub entries-are : entries' ≡ entries_after entries (outcome_of table (room_for (length entries)))

-- terkwabu_part
pub record PartCall (table entries list : List ℕ) (regions blocks rounds part : ℕ) (buffer : List ℕ) (answer : Answer) (buffer' : List ℕ)
    : Type 0 where
  pub answer-is : answer ≡ of_part (part_of table entries list regions blocks rounds part (length buffer))
  pub buffer-is : buffer' ≡ buffer_after (text_of table entries list regions blocks rounds part) buffer
  pub enough : length (text_of table entries list regions blocks rounds part) ≤ most_bytes

-- terkwabu_refusal_line
pub record LineCall (number place : ℕ) (buffer : List ℕ) (answer : Answer) (buffer' : List ℕ) : Type 0 where
  pub answer-is : answer ≡ told_part (fitted (refusal_line number place) (length buffer))
  pub buffer-is : buffer' ≡ buffer_after (refusal_line number place) buffer
  pub enough : length (refusal_line number place) ≤ 128
