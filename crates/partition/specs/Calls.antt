-- The partition call, the pair call and the judging call (document 01, "Refusal list"): what each answers, and what the lent lists
-- then hold, for all tables, lent lengths and numbers. The rows are those of the graph call (1 to 15), then 16, 17, 18 and 19, as far
-- as they fit the call. The lent entries hold what the graph call leaves.
use Rattle.std.specs.Prelude.{ℕ, Bool, cond, not, ◌||◌, List, ◌++◌, eqb, leb, ltb, length, drop, ◌≡◌, Result, Ok, Err}
use Rattle.table.specs.Reasons.{refusal_at}
use Rattle.regions.specs.Passed.{Model, Answer, refusal, accepted, read_table, Region}
use Rattle.regions.specs.Call.{Outcome, refused, cut, whole, from_answer, outcome_of}
use Rattle.regions.specs.Graph.{Reached}
use Rattle.states.specs.States.{State, IsState}
use Rattle.states.specs.Alike.{region_in}
use Rattle.bisimulation.specs.Finite.{related, rounds, last_blocks, block_count, accepts}
use Rattle.partition.specs.Instances.{graph, place_in}
use Rattle.table.specs.declared.refusals.Reason.{Reason}
use Rattle.table.specs.declared.refusals.Reason.TheVariants.{TooManyRegions, ShortList, WrongLength, NoBisimulation, UnknownRegion}
use Rattle.table.specs.declared.refusals.Refusal.{Refusal}
use Rattle.partition.specs.declared.calls.Reduction.{Reduction}

-- "A model is accepted, with the entries lent, where the graph call refuses nothing": a table that was read as a model whose regions the
-- graph call lists, all of them.
pub record Accepted (table : List ℕ) (cap : ℕ) : Type 0 where
  pub model : Model
  pub read : read_table table ≡ accepted model
  pub found : List Region
  pub out : outcome_of table cap ≡ whole found

-- A state of the model of an accepted table that lies in a region of its graph.
pub record Inside {table : List ℕ} {cap : ℕ} (a : Accepted table cap) (s : State) : Type 0 where
  pub state : IsState a.model s
  pub reached : Reached a.model (region_in a.model s)

-- The number of its region.
abbrev pub region_number : {table : List ℕ} {cap : ℕ} → Accepted table cap → State → ℕ
region_number a s = place_in a.model a.found s

-- What comes after the graph call: its refusals, 1 to 15, or what is said of the model and the regions found.
abbrev pub from_outcome : {A : Type 0} → (Reason → ℕ → A) → (List Region → A) → Outcome → A
from_outcome refuse go (refused reason place) = refuse reason place
from_outcome refuse go (cut found) = refuse TooManyRegions 0
from_outcome refuse go (whole found) = go found

abbrev pub after_graph : {A : Type 0} → (Reason → ℕ → A) → (Model → List Region → A) → (cap : ℕ) → Answer → A
after_graph refuse go cap (refusal reason place) = refuse reason place
after_graph refuse go cap (accepted m) = from_outcome refuse (go m) (from_answer cap (accepted m))

-- The answer of a call that refuses, whose number is document 01's (`number`).
abbrev pub refuses : {A : Type 0} → Reason → ℕ → Result A Refusal
refuses reason place = Err (refusal_at reason place)

-- ---- The partition call: N, the count of blocks and the count of rounds

abbrev pub counts : (n blocks rounds : ℕ) → Reduction
counts n blocks rounds = record { regions = n; blocks = blocks; rounds = rounds }

-- "16. One of the two lent block lists is shorter than N (partition and pair calls)."
abbrev pub is_short : (n : ℕ) (first second : List ℕ) → Bool
is_short n first second = ltb (length first) n || ltb (length second) n

abbrev pub blocks_of : (first second : List ℕ) → Model → List Region → Result Reduction Refusal
blocks_of first second m found =
    cond (is_short (length found) first second) (refuses ShortList 0)
    (Ok (counts (length found) (block_count (graph m found) (rounds (graph m found))) (rounds (graph m found))))

-- The partition call's answer: "N, the count of blocks and the count of rounds", or a refusal.
unfoldable pub reduce_of : (table : List ℕ) (cap : ℕ) (first second : List ℕ) → Result Reduction Refusal
reduce_of table cap first second = after_graph refuses (blocks_of first second) cap (read_table table)

-- "Block lists change only on success of partition and pair calls: both then hold the blocks in their first N entries and are
-- unchanged after them": so for either of the two.
abbrev pub numbered_in : (list : List ℕ) → Model → List Region → List ℕ
numbered_in list m found = last_blocks (graph m found) ++ drop (length found) list

abbrev pub list_of : (first second list : List ℕ) → Model → List Region → List ℕ
list_of first second list m found = cond (is_short (length found) first second) list (numbered_in list m found)

unfoldable pub list_after : (table : List ℕ) (cap : ℕ) (first second list : List ℕ) → List ℕ
list_after table cap first second list = after_graph (λ reason place. list) (list_of first second list) cap (read_table table)

-- ---- The pair call: whether the two regions share a block

-- "19. An asked region number is not below N (pair call)."
abbrev pub is_asked_past : (n r s : ℕ) → Bool
is_asked_past n r s = leb n r || leb n s

abbrev pub shared_of : (first second : List ℕ) (r s : ℕ) → Model → List Region → Result Bool Refusal
shared_of first second r s m found =
    cond (is_short (length found) first second) (refuses ShortList 0)
    (cond (is_asked_past (length found) r s) (refuses UnknownRegion 0) (Ok (related (last_blocks (graph m found)) r s)))

-- The pair call's answer: "whether the two regions share a block", or a refusal.
unfoldable pub pair_of : (table : List ℕ) (cap : ℕ) (first second : List ℕ) (r s : ℕ) → Result Bool Refusal
pair_of table cap first second r s = after_graph refuses (shared_of first second r s) cap (read_table table)

abbrev pub pair_list_of : (first second list : List ℕ) (r s : ℕ) → Model → List Region → List ℕ
pair_list_of first second list r s m found =
    cond (is_short (length found) first second) list (cond (is_asked_past (length found) r s) list (numbered_in list m found))

unfoldable pub pair_list_after : (table : List ℕ) (cap : ℕ) (first second list : List ℕ) (r s : ℕ) → List ℕ
pair_list_after table cap first second list r s =
    after_graph (λ reason place. list) (pair_list_of first second list r s) cap (read_table table)

-- ---- The judging call: acceptance

-- What is answered to a proposal that is accepted.
abbrev pub acceptance : Result Unit Refusal
acceptance = Ok tt

-- "17. A proposed partition's length is not N. 18. The proposed partition is no bisimulation."
abbrev pub judged_of : (proposal : List ℕ) → Model → List Region → Result Unit Refusal
judged_of proposal m found =
    cond (not (eqb (length proposal) (length found))) (refuses WrongLength 0)
    (cond (accepts (graph m found) proposal) acceptance (refuses NoBisimulation 0))

-- The judging call's answer: "acceptance", or a refusal.
unfoldable pub judge_of : (table : List ℕ) (cap : ℕ) (proposal : List ℕ) → Result Unit Refusal
judge_of table cap proposal = after_graph refuses (judged_of proposal) cap (read_table table)
