-- One region of the graph by itself, for the layer above: as an entry, and as an item of the graph in slices. Entries, counts and
-- numbers are whatever is lent; those that a call left are such.
use Rattle.std.specs.Prelude.{ℕ, zero, suc, ◌+◌, ◌*◌, ◌≤◌, ◌<◌, ◌≡◌, Bool, true, cond, List, [], ◌∷◌, ◌++◌, eqb, length, get_or, drop}
use Rattle.std.specs.Prelude.{Option, Some, None, Result, Ok, Err}
use Rattle.table.specs.Reasons.{refusal_at}
use Rattle.regions.specs.Passed.{Answer, refusal, accepted}
use Rattle.regions.specs.Explore.{listed}
pub use Rattle.regions.specs.Sight.{is_seen, location_labels, labels_after, checked_of, entry_in}
use Rattle.bisimulation.specs.Structures.{Branch}
use Rattle.bisimulation.specs.Finite.{Finite}
use Rattle.partition.specs.Instances.{graph}
use Rattle.comparison.specs.Held.{row_room}
use Rattle.table.specs.declared.refusals.Refusal.{Refusal}
use Rattle.regions.specs.declared.sight.Seen.{Seen}

-- ---- An item in slices: what it reaches by delay, and a row of numbers for each edge: 1 where it is available, the action, the
-- denominator, how many branches there are, and weight and target of each

abbrev pub branches_from : List ℕ → (at k : ℕ) → List (Branch ℕ)
branches_from rows at zero = []
branches_from rows at (suc k) = record { weight = get_or rows at 0; target = get_or rows (at + 1) 0 } ∷ branches_from rows (at + 2) k

-- The branches of edge e.
abbrev pub branches_at : List ℕ → ℕ → List (Branch ℕ)
branches_at rows e = branches_from rows (row_room * e + 4) (get_or rows (row_room * e + 3) 0)

-- What the slices hold of item x of a structure. What stands elsewhere in the rows is a choice of the code.
pub record Alone (F : Finite) (x : ℕ) (delays delays' rows' : List ℕ) : Type 0 where
  pub delays-are : delays' ≡ F.delays x ++ drop (length (F.delays x)) delays
  pub available : (e : ℕ) → e < F.edges → F.available x e ≡ eqb (get_or rows' (row_room * e) 0) 1
  pub action : (e : ℕ) → e < F.edges → F.available x e ≡ true → F.action x e ≡ get_or rows' (row_room * e + 1) 0
  pub whole : (e : ℕ) → e < F.edges → F.available x e ≡ true → F.whole x e ≡ get_or rows' (row_room * e + 2) 0
  pub branches : (e : ℕ) → e < F.edges → F.available x e ≡ true → F.branches x e ≡ branches_at rows' e
  pub few : (e : ℕ) → e < F.edges → F.available x e ≡ true → get_or rows' (row_room * e + 3) 0 ≤ 8
  pub few-edges : F.edges ≤ 128

-- What is said of an item that is seen: its label, how many items it reaches by delay, and how many edges there are.
abbrev pub item_of : Finite → ℕ → Seen
item_of F x = record { label = F.label x; reached = length (F.delays x); edges = F.edges }

-- The answer: the table is refused by reading; or item x is not seen; or what is said of it.
abbrev pub showing_of : Bool → (es : List ℕ) (n x : ℕ) → Answer → Result (Option Seen) Refusal
showing_of seen es n x (refusal reason place) = Err (refusal_at reason place)
showing_of seen es n x (accepted m) = Ok (cond seen (Some (item_of (graph m (listed es n)) x)) None)
