-- The table that a model is written as: the records of document 01's "Order", one after the other. A table that is read
-- is the table of its model, so nothing of it is lost (`table-written`).
use Rattle.std.specs.Prelude.{ℕ, ◌+◌, ◌<◌, ◌≡◌, List, [], ◌∷◌, ◌++◌, length, get_or}
use Rattle.table.specs.Model.{Edge, Model}
use Rattle.table.specs.Records.{Record, header, location, invariant, edge, guard, branch, end, kind_of, body_of}
use Rattle.table.specs.declared.model.Shape.{Shape}

-- A list whose elements are bytes, as a slice of bytes holds.
abbrev pub Bytes : List ℕ → Type 0
Bytes t = (i : ℕ) → get_or t i 0 < 256

abbrev pub bytes_of : Record → List ℕ
bytes_of r = kind_of r ∷ body_of r

-- Records of one kind, one after the other.
abbrev pub written : {A : Type 0} → (A → Record) → List A → List ℕ
written f [] = []
written f (x ∷ l) = bytes_of (f x) ++ written f l

-- "An edge is followed by its guard atoms, then its branches."
unfoldable pub edge_bytes : Edge → List ℕ
edge_bytes e =
    bytes_of (edge e.source e.action e.denominator) ++ (written guard e.guards ++ written branch e.branches)

abbrev pub edges_bytes : List Edge → List ℕ
edges_bytes [] = []
edges_bytes (e ∷ l) = edge_bytes e ++ edges_bytes l

-- "Order: header, as many locations as it says, invariant atoms, edges, end."
unfoldable pub table_of : Model → List ℕ
table_of m =
    bytes_of (header m.clocks m.locations m.initial)
    ++ (written location m.labels
    ++ (written invariant m.invariants
    ++ (edges_bytes m.edges
    ++ bytes_of end)))

-- Where the locations, the invariant atoms and the edges of a model begin in its table.
abbrev pub first_location : Model → ℕ
first_location m = length (bytes_of (header m.clocks m.locations m.initial))

abbrev pub first_invariant : Model → ℕ
first_invariant m = first_location m + length (written location m.labels)

abbrev pub first_edge : Model → ℕ
first_edge m = first_invariant m + length (written invariant m.invariants)

-- Each edge's place is where its record begins, the first at `at`.
abbrev pub Placed : ℕ → List Edge → Type 0
Placed at [] = Unit
Placed at (e ∷ l) = (e.place ≡ at) × Placed (at + length (edge_bytes e)) l

-- What the code keeps of a model that was read.
unfoldable pub shape_of : Model → Shape
shape_of m =
    record {
      clocks = m.clocks;
      locations = m.locations;
      initial = m.initial;
      invariants = length m.invariants;
      edges = length m.edges;
      first_location = first_location m;
      first_invariant = first_invariant m;
      first_edge = first_edge m;
    }
