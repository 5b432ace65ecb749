-- `show_rows` meets its contract. The loop's invariant: the rows of the first e edges are stored. Assumes nothing.
use mathlib.Core.Path.{◌≡◌}
use lib.ListN.{length}
use Rattle.table.specs.Model.{Model}
use Rattle.regions.specs.Of.{Of}
use Rattle.regions.specs.Filling.{RowsTo}
use Rattle.regions.proofs.rows.show_rows.Given as goal

abbrev pub invariant-loop-e : goal.invariant-loop-e
invariant-loop-e l = (length l.rows ≡ length l.initial.rows) × ((m : Model) → Of l.model m → RowsTo m l.e l.rows)
