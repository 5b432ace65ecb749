-- A model of the code is that of a table that was read.
use Rattle.std.specs.Prelude.{ℕ, ◌≡◌, List}
use Rattle.table.specs.Model.{Model}
use Rattle.table.specs.Reads.{Reads, ReadsEdge}
use Rattle.table.specs.declared.model.Shape.{Shape}
use Rattle.regions.specs.declared.prepared.Prepared.{Prepared}

abbrev pub Of : Prepared → Model → Type 0
Of p m = Reads p.bytes.now p.shape m

-- And the record of edge e stands at a place.
abbrev pub OfEdge : Prepared → (place : ℕ) → Model → (e : ℕ) → Type 0
OfEdge p place m e = ReadsEdge p.bytes.now place m e

-- A model that is made of the table is such.
pub of-table : (p : Prepared) (bytes : List ℕ) (shape : Shape) (m : Model) → (p.bytes.now ≡ bytes) × (p.shape ≡ shape)
    → Reads bytes shape m → Of p m
of-table p bytes shape m (same, alike) reads = rw (same, alike) reads
