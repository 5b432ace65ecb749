-- `show_row` meets its contract. The loop's invariant: the row has its first i branches. Assumes nothing.
use Prim.Native.Nat.{ℕ}
use mathlib.Core.Path.{◌≡◌}
use Rattle.table.specs.Model.{Model}
use Rattle.table.specs.Reads.{ReadsEdge, edge_of}
use Rattle.regions.specs.Filling.{Before, Fitting, RowTo}
use Rattle.regions.proofs.rows.show_row.Given as goal

abbrev pub invariant-loop-i : goal.invariant-loop-i
invariant-loop-i l = Before l.at l.initial.rows l.rows
    × ((m : Model) (e : ℕ) → ReadsEdge l.bytes l.place m e → Fitting (edge_of m e) → l.fn.edge.action ≡ (edge_of m e).action
    → l.fn.edge.denominator ≡ (edge_of m e).denominator → RowTo (edge_of m e) l.at l.i l.rows)
