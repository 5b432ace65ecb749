-- The graph call (document 01, "Refusal list"): what it answers, and what the lent entries then hold, for all tables and all lent
-- lengths. The rows are those of reading a table (1 to 13), then 14, then 15.
use Rattle.std.specs.Prelude.{ℕ, ◌*◌, ◌/◌, min, cond, List, [], ◌∷◌, ◌++◌, length, drop, Result, Ok, Err}
use Rattle.table.specs.Reasons.{refusal_at}
use Rattle.table.specs.Reading.{Answer, refusal, accepted, read_table}
use Rattle.regions.specs.Entries.{entry_bytes, max_entries, bytes_of}
use Rattle.regions.specs.Graph.{bounds_of, meets, next_of, first}
use Rattle.regions.specs.Worklist.{Found, complete, full, explore}
use Rattle.regions.specs.Explore.{same_region}
use Rattle.table.specs.declared.refusals.Reason.{Reason}
use Rattle.table.specs.declared.refusals.Reason.TheVariants.{BrokenStart, TooManyRegions}
use Rattle.table.specs.declared.refusals.Refusal.{Refusal}
use Rattle.clocks.specs.declared.region.Region.{Region}

-- "Whole entries lent": nine bytes each. No more than 4,096 count.
abbrev pub room_for : ℕ → ℕ
room_for bytes = min max_entries (bytes / entry_bytes)

-- What the call comes to: a refusal from 1 to 14; refusal 15, with the first regions, as many as fit; or all regions.
pub data Outcome : Type 0 where
  refused : (reason : Reason) (place : ℕ) → Outcome
  cut : List Region → Outcome
  whole : List Region → Outcome

abbrev pub from_found : Found Region → Outcome
from_found (complete found) = whole found
from_found (full found) = cut found

-- "14. Region 0 breaks its invariant. 15. N exceeds 4,096 or the whole entries lent."
abbrev pub from_answer : ℕ → Answer → Outcome
from_answer cap (refusal reason place) = refused reason place
from_answer cap (accepted m) =
    cond (meets (bounds_of m) m.invariants (first m)) (from_found (explore same_region (next_of m) cap (first m))) (refused BrokenStart 0)

-- What the graph call comes to, for a table and room for so many regions. "A model is accepted, with the entries lent, where the graph
-- call refuses nothing": where this is `whole`.
unfoldable pub outcome_of : List ℕ → ℕ → Outcome
outcome_of table cap = from_answer cap (read_table table)

-- The answer as the code gives it: the reason of a refusal, whose number is document 01's (`number`), and its place, 0 from 14 on; or N.
abbrev pub graph_of : Outcome → Result ℕ Refusal
graph_of (refused reason place) = Err (refusal_at reason place)
graph_of (cut found) = Err (refusal_at TooManyRegions 0)
graph_of (whole found) = Ok (length found)

-- The bytes of regions, one after the other.
abbrev pub flat : List Region → List ℕ
flat [] = []
flat (r ∷ l) = bytes_of r ++ flat l

-- "Refusals 1 to 14 change nothing. 15 leaves the first regions, as many as fit (at most 4,096). Otherwise the first N entries
-- hold the graph. Bytes after the entries never change."
abbrev pub entries_after : List ℕ → Outcome → List ℕ
entries_after es (refused reason place) = es
entries_after es (cut found) = flat found ++ drop (entry_bytes * length found) es
entries_after es (whole found) = flat found ++ drop (entry_bytes * length found) es
