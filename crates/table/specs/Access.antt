-- What the accessors give, of any bytes: definitions that walk from record to record. Of a table that was read, with its shape
-- or the place of one of its edges, they are the items of its model (laws in `Reads`). What they give past the last item, an
-- item of zeros, is a choice of ours, and so is what they give of other bytes and places; every choice gives the items of a
-- model that was read.
use Rattle.std.specs.Prelude.{ℕ, zero, suc, ◌+◌, cond, List, [], ◌∷◌, eqb}
use Rattle.table.specs.Format.{body_length, two_bytes, max_guards, max_branches}
use Rattle.table.specs.Model.{Edge}
use Rattle.table.specs.Records.{kind_at, body_at, invariant_of, guard_of, branch_of}
use Rattle.table.specs.declared.model.Invariant.{Invariant}
use Rattle.table.specs.declared.model.Guard.{Guard}
use Rattle.table.specs.declared.model.Branch.{Branch}
use Rattle.table.specs.declared.model.Edge.{Edge as EdgeStruct}
use Rattle.table.specs.declared.model.Shape.{Shape}
use Rattle.table.specs.declared.bodies.Body.{Body}

abbrev pub no_invariant : Invariant
no_invariant = record { location = 0; clock = 0; comparison = 0; constant = 0 }

abbrev pub no_guard : Guard
no_guard = record { clock = 0; comparison = 0; constant = 0 }

abbrev pub no_branch : Branch
no_branch = record { weight = 0; target = 0; mask = 0 }

-- `EdgeStruct` is the struct `Edge` of the code, an edge as the edge list holds it; `Edge` is that of the model.
abbrev pub no_edge_struct : EdgeStruct
no_edge_struct = record { source = 0; action = 0; denominator = 0 }

abbrev pub no_edge : Edge
no_edge = record { place = 0; source = 0; action = 0; denominator = 0; guards = []; branches = [] }

abbrev pub no_body : Body
no_body = record { a = 0; b = 0; c = 0; d = 0 }

-- The place after at most `most` records of one kind that stand one after the other from `at` on.
unfoldable pub walk_to : ℕ → ℕ → List ℕ → ℕ → ℕ
walk_to kind zero table at = at
walk_to kind (suc most) table at =
    cond (eqb (kind_at table at) kind) (walk_to kind most table (at + 1 + body_length kind)) at

-- How many records that walk passes.
unfoldable pub passed : ℕ → ℕ → List ℕ → ℕ → ℕ
passed kind zero table at = 0
passed kind (suc most) table at =
    cond (eqb (kind_at table at) kind) (suc (passed kind most table (at + 1 + body_length kind))) 0

-- The record of a kind at a place, read by `read`, or `nothing` where another record or none stands there.
abbrev pub item_or : {A : Type 0} → ℕ → A → (List ℕ → ℕ → A) → List ℕ → ℕ → A
item_or kind nothing read table at = cond (eqb (kind_at table at) kind) (read table at) nothing

abbrev pub read_label : List ℕ → ℕ → ℕ
read_label table at = (body_at table at).a

abbrev pub read_invariant : List ℕ → ℕ → Invariant
read_invariant table at = invariant_of (body_at table at)

abbrev pub read_guard : List ℕ → ℕ → Guard
read_guard table at = guard_of (body_at table at)

abbrev pub read_branch : List ℕ → ℕ → Branch
read_branch table at = branch_of (body_at table at)

-- An edge as the edge list holds it, "source, action and denominator together", of the body of its record.
abbrev pub edge_with : Body → EdgeStruct
edge_with b = record { source = b.a; action = b.b; denominator = two_bytes b.c b.d }

abbrev pub read_edge : List ℕ → ℕ → EdgeStruct
read_edge table at = edge_with (body_at table at)

-- Item i of those of a kind that stand from `first` on.
abbrev pub item_from : {A : Type 0} → ℕ → A → (List ℕ → ℕ → A) → List ℕ → ℕ → ℕ → A
item_from kind nothing read table first i = item_or kind nothing read table (walk_to kind i table first)

-- Kind 2, the locations.
unfoldable pub label_at : List ℕ → Shape → ℕ → ℕ
label_at table shape i = item_from 2 0 read_label table shape.first_location i

-- Kind 3.
unfoldable pub invariant_at : List ℕ → Shape → ℕ → Invariant
invariant_at table shape i = item_from 3 no_invariant read_invariant table shape.first_invariant i

-- Where the guard atoms (kind 5) and the branches (kind 6) of the edge (kind 4) at a place begin, and the record after them.
unfoldable pub guards_from : List ℕ → ℕ → ℕ
guards_from table place = walk_to 4 1 table place

unfoldable pub branches_from : List ℕ → ℕ → ℕ
branches_from table place = walk_to 5 max_guards table (guards_from table place)

unfoldable pub next_edge : List ℕ → ℕ → ℕ
next_edge table place = walk_to 6 max_branches table (branches_from table place)

unfoldable pub guard_at : List ℕ → ℕ → ℕ → Guard
guard_at table place i = item_from 5 no_guard read_guard table (guards_from table place) i

unfoldable pub guard_count : List ℕ → ℕ → ℕ
guard_count table place = passed 5 max_guards table (guards_from table place)

unfoldable pub branch_at : List ℕ → ℕ → ℕ → Branch
branch_at table place i = item_from 6 no_branch read_branch table (branches_from table place) i

unfoldable pub branch_count : List ℕ → ℕ → ℕ
branch_count table place = passed 6 max_branches table (branches_from table place)

-- The places of at most `count` edges that stand one after the other from `at` on, each with its guard atoms and branches.
unfoldable pub places_from : List ℕ → ℕ → ℕ → List ℕ
places_from table zero at = []
places_from table (suc count) at =
    cond (eqb (kind_at table at) 4) (at ∷ places_from table count (next_edge table at)) []

-- The places of the edges, by number.
abbrev pub edge_places : List ℕ → Shape → List ℕ
edge_places table shape = places_from table shape.edges shape.first_edge

-- The edge of a model as the edge list holds it.
abbrev pub edge_struct : Edge → EdgeStruct
edge_struct e = record { source = e.source; action = e.action; denominator = e.denominator }
