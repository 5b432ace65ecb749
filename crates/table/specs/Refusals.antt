-- Refusals 2 to 13 (document 01, "Refusal list"): each record's conditions are rows (reason, place, condition) in
-- document 01's order, and the first row that holds decides. The numbers of a record's rows rise, so that this is "within it
-- the lowest number" (`rows-rise`). Refusal 1, of the whole table, stands in `Reading`.
--
-- Readings that the rows rest on (docs/DECISIONS.md): a location too many is 5, never 11; an edge without branches is 12,
-- since its weights sum to 0; 12 is met by the next edge or the end, after all that record's own lower numbers.
use Rattle.std.specs.Prelude.{ℕ, ◌+◌, ◌^◌, ◌/◌, ◌≡◌, refl, Bool, true, cond, not, ◌&&◌, List, [], ◌∷◌, ◌++◌, map, eqb, leb, ltb, length}
use Rattle.std.specs.Prelude.{Result, Ok, Err, Option, Some, None}
use Rattle.table.specs.Format.{max_clocks, max_locations, max_constant, max_denominator, max_invariants}
use Rattle.table.specs.Format.{max_edges, max_guards, max_branches, last_bound, last_comparison}
use Rattle.table.specs.Records.{Record, header, location, invariant, edge, guard, branch, end, kind_at, record_at, past}
use Rattle.table.specs.declared.model.Invariant.{Invariant}
use Rattle.table.specs.declared.model.Guard.{Guard}
use Rattle.table.specs.declared.model.Branch.{Branch}
use Rattle.table.specs.declared.records.Stage.{Stage}
use Rattle.table.specs.declared.records.Stage.TheVariants.{AtStart, InLocations, InInvariants, InGuards, InBranches}
use Rattle.table.specs.declared.records.Progress.{Progress}
use Rattle.table.specs.declared.refusals.Reason.{Reason}
use Rattle.table.specs.declared.refusals.Reason.TheVariants.{TooLong, Missing, UnknownKind, CutShort, OutOfOrder, BadHeader}
use Rattle.table.specs.declared.refusals.Reason.TheVariants.{UnknownName, UnknownComparison, LargeConstant, BadWeight, TooMany}
use Rattle.table.specs.declared.refusals.Reason.TheVariants.{UnequalWeights, TrailingBytes, BrokenStart, TooManyRegions, ShortList}
use Rattle.table.specs.declared.refusals.Reason.TheVariants.{WrongLength, NoBisimulation, UnknownRegion, BadState, Unreached}
use Rattle.table.specs.declared.refusals.Refusal.{Refusal}

-- "A refusal is a number and a place": the number of each reason.
abbrev pub number : Reason → ℕ
number TooLong = 1
number Missing = 2
number UnknownKind = 3
number CutShort = 4
number OutOfOrder = 5
number BadHeader = 6
number UnknownName = 7
number UnknownComparison = 8
number LargeConstant = 9
number BadWeight = 10
number TooMany = 11
number UnequalWeights = 12
number TrailingBytes = 13
number BrokenStart = 14
number TooManyRegions = 15
number ShortList = 16
number WrongLength = 17
number NoBisimulation = 18
number UnknownRegion = 19
number BadState = 20
number Unreached = 21

abbrev pub refusal_at : Reason → ℕ → Refusal
refusal_at reason place = record { reason = reason; place = place }

-- A refusal of document 01: its reason, its place, and whether its condition holds.
pub record Row : Type 0 where
  pub reason : Reason
  pub place : ℕ
  pub holds : Bool

abbrev pub row : Reason → ℕ → Bool → Row
row r p b = record { reason = r; place = p; holds = b }

-- What a record leads to: a refusal; what is remembered for the next record; or nothing more, after the end record.
abbrev pub Step : Type 0
Step = Result (Option Progress) Refusal

-- The first row that holds decides; where none does, the record leads to `next`.
abbrev pub decide : List Row → Step → Step
decide [] next = next
decide (r ∷ rows) next = cond r.holds (Err (refusal_at r.reason r.place)) (decide rows next)

-- "Order: header, as many locations as it says, invariant atoms, edges, end. An edge is followed by its guard atoms,
-- then its branches." The stage says which records may follow. The stages, in their order:
--   AtStart        nothing was read: only a header may follow
--   InLocations    locations are missing: only a location may follow
--   InInvariants   all locations are there, and no edge is: an invariant atom, an edge or the end may follow
--   InGuards       the last edge has no branch yet: a guard atom, a branch, an edge or the end may follow
--   InBranches     the last edge has a branch: a branch, an edge or the end may follow
abbrev pub turn : Stage → ℕ
turn AtStart = 0
turn InLocations = 1
turn InInvariants = 2
turn InGuards = 3
turn InBranches = 4

abbrev pub sooner : Stage → Stage → Bool
sooner a b = ltb (turn a) (turn b)

abbrev pub apart : Stage → Stage → Bool
apart a b = not (eqb (turn a) (turn b))

-- A clock that does not exist has its bit set: some bit from n on.
abbrev pub bit_beyond : ℕ → ℕ → Bool
bit_beyond mask n = ltb 0 (mask / 2 ^ n)

-- "The edge now finished, by the next edge or the end, has weights that do not sum to W." Before the first edge both are 0.
abbrev pub unbalanced : Progress → Bool
unbalanced p = not (eqb p.weights p.denominator)

-- The rows of each record. It begins at `at`, and `p` is what is remembered of the records before it: the stage; the header's
-- numbers; how many locations (`labels`), invariant atoms and edges were read; and of the last edge its place, its denominator,
-- how many guard atoms and branches it has, and the sum of their weights.

abbrev pub header_rows : Progress → ℕ → ℕ → ℕ → ℕ → List Row
header_rows p at clocks locations initial =
    row OutOfOrder at (sooner AtStart p.stage)
    ∷ row BadHeader at (ltb max_clocks clocks)
    ∷ row BadHeader at (ltb locations 1)
    ∷ row BadHeader at (ltb max_locations locations)
    ∷ row BadHeader at (leb locations initial)
    ∷ []

abbrev pub location_rows : Progress → ℕ → List Row
location_rows p at = row OutOfOrder at (apart p.stage InLocations) ∷ []

abbrev pub invariant_rows : Progress → ℕ → Invariant → List Row
invariant_rows p at a =
    row OutOfOrder at (apart p.stage InInvariants)
    ∷ row UnknownName at (leb p.locations a.location)
    ∷ row UnknownName at (leb p.clocks a.clock)
    ∷ row UnknownComparison at (ltb last_bound a.comparison)
    ∷ row LargeConstant at (ltb max_constant a.constant)
    ∷ row TooMany at (leb max_invariants p.invariants)
    ∷ []

abbrev pub edge_rows : Progress → ℕ → ℕ → ℕ → List Row
edge_rows p at source denominator =
    row OutOfOrder at (sooner p.stage InInvariants)
    ∷ row UnknownName at (leb p.locations source)
    ∷ row BadWeight at (eqb denominator 0)
    ∷ row BadWeight at (ltb max_denominator denominator)
    ∷ row TooMany at (leb max_edges p.edges)
    ∷ row UnequalWeights p.place (unbalanced p)
    ∷ []

abbrev pub guard_rows : Progress → ℕ → Guard → List Row
guard_rows p at g =
    row OutOfOrder at (apart p.stage InGuards)
    ∷ row UnknownName at (leb p.clocks g.clock)
    ∷ row UnknownComparison at (ltb last_comparison g.comparison)
    ∷ row LargeConstant at (ltb max_constant g.constant)
    ∷ row TooMany at (leb max_guards p.guards)
    ∷ []

abbrev pub branch_rows : Progress → ℕ → Branch → List Row
branch_rows p at b =
    row OutOfOrder at (sooner p.stage InGuards)
    ∷ row UnknownName at (leb p.locations b.target)
    ∷ row UnknownName at (bit_beyond b.mask p.clocks)
    ∷ row BadWeight at (eqb b.weight 0)
    ∷ row TooMany at (leb max_branches p.branches)
    ∷ []

-- `size` is the table's length.
abbrev pub end_rows : Progress → ℕ → ℕ → List Row
end_rows p at size =
    row OutOfOrder at (sooner p.stage InInvariants)
    ∷ row UnequalWeights p.place (unbalanced p)
    ∷ row TrailingBytes (at + 1) (ltb (at + 1) size)
    ∷ []

unfoldable pub rows_of : Progress → ℕ → ℕ → Record → List Row
rows_of p at size (header n l i) = header_rows p at n l i
rows_of p at size (location x) = location_rows p at
rows_of p at size (invariant a) = invariant_rows p at a
rows_of p at size (edge s a w) = edge_rows p at s w
rows_of p at size (guard g) = guard_rows p at g
rows_of p at size (branch b) = branch_rows p at b
rows_of p at size end = end_rows p at size

-- What is remembered. A header begins anew; locations and invariant atoms leave all that is known of edges as it is; edges,
-- guard atoms and branches leave the header's numbers and the counts of locations and invariant atoms.

abbrev pub fresh : Stage → ℕ → ℕ → ℕ → Progress
fresh stage n l i =
    record {
      stage = stage;
      clocks = n;
      locations = l;
      initial = i;
      labels = 0;
      invariants = 0;
      edges = 0;
      place = 0;
      denominator = 0;
      guards = 0;
      branches = 0;
      weights = 0;
    }

abbrev pub with_counts : Progress → Stage → (labels invariants : ℕ) → Progress
with_counts p stage labels invariants =
    record {
      stage = stage;
      clocks = p.clocks;
      locations = p.locations;
      initial = p.initial;
      labels = labels;
      invariants = invariants;
      edges = p.edges;
      place = p.place;
      denominator = p.denominator;
      guards = p.guards;
      branches = p.branches;
      weights = p.weights;
    }

abbrev pub with_edge : Progress → Stage → (edges place denominator guards branches weights : ℕ) → Progress
with_edge p stage edges place denominator guards branches weights =
    record {
      stage = stage;
      clocks = p.clocks;
      locations = p.locations;
      initial = p.initial;
      labels = p.labels;
      invariants = p.invariants;
      edges = edges;
      place = place;
      denominator = denominator;
      guards = guards;
      branches = branches;
      weights = weights;
    }

-- Before the first record, and after each record that is not refused.

abbrev pub start : Progress
start = fresh AtStart 0 0 0

abbrev pub after_header : ℕ → ℕ → ℕ → Progress
after_header n l i = fresh InLocations n l i

abbrev pub after_location : Progress → Progress
after_location p = with_counts p (cond (leb p.locations (p.labels + 1)) InInvariants InLocations) (p.labels + 1) p.invariants

abbrev pub after_invariant : Progress → Progress
after_invariant p = with_counts p p.stage p.labels (p.invariants + 1)

abbrev pub after_edge : Progress → ℕ → ℕ → Progress
after_edge p at w = with_edge p InGuards (p.edges + 1) at w 0 0 0

abbrev pub after_guard : Progress → Progress
after_guard p = with_edge p p.stage p.edges p.place p.denominator (p.guards + 1) p.branches p.weights

abbrev pub after_branch : Progress → ℕ → Progress
after_branch p w = with_edge p InBranches p.edges p.place p.denominator p.guards (p.branches + 1) (p.weights + w)

unfoldable pub next_of : Progress → ℕ → Record → Step
next_of p at (header n l i) = Ok (Some (after_header n l i))
next_of p at (location x) = Ok (Some (after_location p))
next_of p at (invariant a) = Ok (Some (after_invariant p))
next_of p at (edge s a w) = Ok (Some (after_edge p at w))
next_of p at (guard g) = Ok (Some (after_guard p))
next_of p at (branch b) = Ok (Some (after_branch p b.weight))
next_of p at end = Ok None

-- The rows that come before a record's own: is there one, is its kind known, is it whole?
abbrev pub outer_rows : List ℕ → ℕ → List Row
outer_rows table at =
    row Missing at (leb (length table) at)
    ∷ row UnknownKind at (ltb (kind_at table at) 1)
    ∷ row UnknownKind at (ltb 7 (kind_at table at))
    ∷ row CutShort at (ltb (length table) (past table at))
    ∷ []

-- What a record leads to. `size` is the table's length.
abbrev pub step_of : Progress → ℕ → ℕ → Record → Step
step_of p at size r = decide (rows_of p at size r) (next_of p at r)

-- What the record at a place leads to.
unfoldable pub step_at : List ℕ → Progress → ℕ → Step
step_at table p at = decide (outer_rows table at) (step_of p at (length table) (record_at table at))

-- Each number is at least the one before it.
unfoldable pub rising : List ℕ → Bool
rising [] = true
rising (n ∷ []) = true
rising (n ∷ m ∷ l) = leb n m && rising (m ∷ l)

-- "Within it the lowest number": the rows of every record stand in the order of their numbers.
pub rows-rise : (table : List ℕ) (p : Progress) (at size : ℕ) (r : Record)
    → rising (map (λ x. number x.reason) (outer_rows table at ++ rows_of p at size r)) ≡ true
unfolding rising rows_of
rows-rise table p at size (header n l i) = refl
rows-rise table p at size (location x) = refl
rows-rise table p at size (invariant a) = refl
rows-rise table p at size (edge s a w) = refl
rows-rise table p at size (guard g) = refl
rows-rise table p at size (branch b) = refl
rows-rise table p at size end = refl
