-- One region by itself, as the layer above asks for it: its label, what it reaches by delay, and its edges. It stands among the first
-- n of any lent entries; those that a graph call left are such. And a table by itself: its clocks, and the labels of its locations.
use Rattle.std.specs.Prelude.{ℕ, zero, suc, ◌+◌, ◌*◌, ◌<◌, ◌≡◌, Bool, true, cond, ◌&&◌, List, []}
use Rattle.std.specs.Prelude.{◌∷◌, ◌++◌, map, leb, ltb, length, get_or, drop, Option, Some, None, Result, Ok, Err}
use Rattle.table.specs.Reasons.{refusal_at}
use Rattle.table.specs.Model.{Model}
use Rattle.table.specs.Reading.{Answer, refusal, accepted}
use Rattle.table.specs.Reads.{edge_of}
use Rattle.regions.specs.Entries.{entry_bytes, max_entries, region_at}
use Rattle.regions.specs.Graph.{available, delay_next, gather}
use Rattle.regions.specs.Explore.{listed}
use Rattle.regions.specs.View.{number_in, label_of, Way, way_of}
use Rattle.regions.specs.Shown.{row_room}
use Rattle.clocks.specs.declared.region.Region.{Region}
use Rattle.table.specs.declared.refusals.Refusal.{Refusal}
use Rattle.regions.specs.declared.sight.Seen.{Seen}

-- ---- A table by itself

-- It is refused by reading, 1 to 13, or read: how many clocks its model has.
abbrev pub checked_of : Answer → Result ℕ Refusal
checked_of (refusal reason place) = Err (refusal_at reason place)
checked_of (accepted m) = Ok m.clocks

-- The labels of the first n locations; 0 past the last (a choice of ours: no region of a graph is there).
abbrev pub location_labels : Model → ℕ → List ℕ
location_labels m zero = []
location_labels m (suc n) = location_labels m n ++ (get_or m.labels n 0 ∷ [])

-- What `label_locations` leaves in a slice: as many labels as it is long, or what it held if the table is refused.
abbrev pub labels_after : Answer → (labels : List ℕ) → List ℕ
labels_after (refusal reason place) labels = labels
labels_after (accepted m) labels = location_labels m (length labels)

-- An entry with a number of 4,096 or more is not looked at: zeros stand for it (a choice of ours). So they do for bytes past the end of
-- the entries.
abbrev pub no_region : Region
no_region = record { location = 0; whole = 0 ∷ 0 ∷ 0 ∷ 0 ∷ []; rank = 0 ∷ 0 ∷ 0 ∷ 0 ∷ [] }

abbrev pub entry_in : List ℕ → ℕ → Region
entry_in es j = cond (ltb j max_entries) (region_at es j) no_region

-- ---- What a region reaches by delay

-- "Whatever r reaches by delay (zero included)": the region itself, then what follows it, so many times.
unfoldable pub delays_from : Model → ℕ → Region → List Region
delays_from m zero r = r ∷ []
delays_from m (suc more) r = r ∷ gather (delays_from m more) (delay_next m r)

-- By number. As many steps of delay as there are regions are enough in a graph: more would pass a region twice. For other entries the
-- list is cut there (a choice of ours).
abbrev pub delay_list : Model → List Region → Region → List ℕ
delay_list m found r = map (number_in found) (delays_from m (length found) r)

-- ---- Its edges, in rows of numbers: 1 where the edge is available and else 0, the action, the denominator, how many branches there
-- are, and for each its weight and the number of the region that it lands in

abbrev pub ways_from : List ℕ → (at k : ℕ) → List Way
ways_from rows at zero = []
ways_from rows at (suc k) = record { weight = get_or rows at 0; target = get_or rows (at + 1) 0 } ∷ ways_from rows (at + 2) k

-- The row from place `at` on has the branches of edge e at region r: how many, then weight and target of each.
abbrev pub Ways : Model → List Region → Region → (e at : ℕ) → List ℕ → Type 0
Ways m found r e at rows = ways_from rows (at + 4) (get_or rows (at + 3) 0) ≡ map (way_of m found r) (edge_of m e).branches

-- The row of edge e. What stands past its numbers, and past the first of an edge that is not available, is a choice of the code.
pub record Stepping (m : Model) (found : List Region) (r : Region) (e : ℕ) (rows : List ℕ) : Type 0 where
  pub flag : get_or rows (row_room * e) 0 ≡ cond (available m (edge_of m e) r) 1 0
  pub action : available m (edge_of m e) r ≡ true → get_or rows (row_room * e + 1) 0 ≡ (edge_of m e).action
  pub whole : available m (edge_of m e) r ≡ true → get_or rows (row_room * e + 2) 0 ≡ (edge_of m e).denominator
  pub ways : available m (edge_of m e) r ≡ true → Ways m found r e (row_room * e) rows

-- ---- The call

-- Region x is one of the first n entries, and the slices have room for what is said of it: the numbers of n regions and one more, and
-- the rows of 128 edges.
abbrev pub is_seen : (n x entries delays rows : ℕ) → Bool
is_seen n x entries delays rows =
    leb n max_entries && (ltb x n && (leb (entry_bytes * n) entries && (ltb n delays && leb (128 * row_room) rows)))

-- What is said of a region that is seen: its label, how many regions it reaches by delay, and how many edges the model has.
abbrev pub seen_of : Model → (es : List ℕ) (n x : ℕ) → Seen
seen_of m es n x =
    record {
      label = label_of m (region_at es x);
      reached = length (delay_list m (listed es n) (region_at es x));
      edges = length m.edges;
    }

-- The answer: the table is refused by reading; or the region is not seen; or what is said of it.
abbrev pub sight_of : Bool → (es : List ℕ) (n x : ℕ) → Answer → Result (Option Seen) Refusal
sight_of seen es n x (refusal reason place) = Err (refusal_at reason place)
sight_of seen es n x (accepted m) = Ok (cond seen (Some (seen_of m es n x)) None)

-- What the slices then hold, where it is seen. What stands elsewhere in the rows, past the last edge too, is a choice of the code; what
-- every choice has in common is said here.
pub record Sighted (m : Model) (es : List ℕ) (n x : ℕ) (delays delays' rows' : List ℕ) : Type 0 where
  pub delays-are : delays'
      ≡ delay_list m (listed es n) (region_at es x) ++ drop (length (delay_list m (listed es n) (region_at es x))) delays
  pub rows_are : (e : ℕ) → e < length m.edges → Stepping m (listed es n) (region_at es x) e rows'
