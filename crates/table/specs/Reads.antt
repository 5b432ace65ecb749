-- The model that a table was read as, what its shape counts, and its edges by number: what the contracts of the accessors and the layers
-- above speak of.
use Rattle.std.specs.Prelude.{ℕ, ◌≡◌, List, length, get_or}
use Rattle.table.specs.Model.{Edge, Model}
use Rattle.table.specs.Reading.{accepted, read_table}
use Rattle.table.specs.Written.{shape_of}
use Rattle.table.specs.Access.{no_edge_struct, no_edge, edge_struct}
use Rattle.table.specs.declared.model.Edge.{Edge as EdgeStruct}
use Rattle.table.specs.declared.model.Shape.{Shape}

-- The table is accepted with this model, and this is its shape.
pub record Reads (table : List ℕ) (shape : Shape) (m : Model) : Type 0 where
  pub answer : read_table table ≡ accepted m
  pub shape_is : shape ≡ shape_of m

-- The numbers of a shape are those of the model, and its counts count the model's lists.
pub record Counts (shape : Shape) (m : Model) : Type 0 where
  pub clocks : shape.clocks ≡ m.clocks
  pub locations : shape.locations ≡ m.locations
  pub initial : shape.initial ≡ m.initial
  pub invariants : shape.invariants ≡ length m.invariants
  pub edges : shape.edges ≡ length m.edges

-- Edge e of a model; past the last, zeros with no atoms and no branches (a choice of ours).
abbrev pub edge_of : Model → ℕ → Edge
edge_of m e = get_or m.edges e no_edge

-- "The edge list is read by number: source, action and denominator together": edge e of the list is edge e of the model, for
-- every e.
abbrev pub Lists : Model → List EdgeStruct → Type 0
Lists m list = (e : ℕ) → get_or list e no_edge_struct ≡ edge_struct (edge_of m e)

-- The table is accepted with this model, and this is the place of its edge e.
pub record ReadsEdge (table : List ℕ) (place : ℕ) (m : Model) (e : ℕ) : Type 0 where
  pub answer : read_table table ≡ accepted m
  pub place_is : place ≡ (edge_of m e).place
