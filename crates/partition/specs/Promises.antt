-- What the partition call, the pair call and the judging call promise, each in one record: the answer, and what every lent table
-- then holds, for all inputs. Entries, lists and proposal are what was lent; those with a stroke are what they hold after the call.
use Rattle.std.specs.Prelude.{◌≡◌, Bool, List, ℕ, length, Result}
use Rattle.regions.specs.Call.{room_for, outcome_of, entries_after}
use Rattle.partition.specs.Calls.{reduce_of, list_after, pair_of, pair_list_after, judge_of}
use Rattle.partition.specs.declared.calls.Reduction.{Reduction}
use Rattle.table.specs.declared.refusals.Refusal.{Refusal}

pub record Reduced (table entries first second : List ℕ) (answer : Result Reduction Refusal)
    (entries' first' second' : List ℕ) : Type 0 where
  pub answer-is : answer ≡ reduce_of table (room_for (length entries)) first second
  pub entries-are : entries' ≡ entries_after entries (outcome_of table (room_for (length entries)))
  pub first-is : first' ≡ list_after table (room_for (length entries)) first second first
  pub second_is : second' ≡ list_after table (room_for (length entries)) first second second

pub record Paired (table entries first second : List ℕ) (r s : ℕ) (answer : Result Bool Refusal)
    (entries' first' second' : List ℕ) : Type 0 where
  pub answer-is : answer ≡ pair_of table (room_for (length entries)) first second r s
  pub entries-are : entries' ≡ entries_after entries (outcome_of table (room_for (length entries)))
  pub first-is : first' ≡ pair_list_after table (room_for (length entries)) first second first r s
  pub second_is : second' ≡ pair_list_after table (room_for (length entries)) first second second r s

pub record Judged (table entries proposal : List ℕ) (answer : Result Unit Refusal) (entries' : List ℕ) : Type 0 where
  pub answer-is : answer ≡ judge_of table (room_for (length entries)) proposal
  pub entries-are : entries' ≡ entries_after entries (outcome_of table (room_for (length entries)))
