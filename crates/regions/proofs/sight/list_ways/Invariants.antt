-- `list_ways` meets its contract. The loop's invariant: the row has its first i branches. Assumes nothing.
use Prim.Native.Nat.{ℕ, ◌+◌}
use Rattle.table.specs.Model.{Model}
use Rattle.table.specs.Reads.{edge_of}
use Rattle.regions.specs.Of.{Of, OfEdge}
use Rattle.regions.specs.Explore.{regions_of}
use Rattle.regions.specs.Filling.{Before, Fitting}
use Rattle.regions.specs.Laws.Sight.{WaysTo}
use Rattle.regions.proofs.sight.list_ways.Given as goal

abbrev pub invariant-loop-i : goal.invariant-loop-i
invariant-loop-i l = Before (l.at + 3) l.initial.rows l.rows
    × ((m : Model) (e : ℕ) → Of l.marks.model.now m → OfEdge l.marks.model.now l.place m e → Fitting (edge_of m e)
    → WaysTo m (regions_of l.found) l.marks.region e l.at l.i l.rows)
