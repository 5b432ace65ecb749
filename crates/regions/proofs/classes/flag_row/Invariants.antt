-- `flag_row` meets its contract. The loop's invariant: the masks of the first i branches are flagged. Assumes nothing.
use Rattle.regions.specs.Filling.{Still, RowFlagged}
use Rattle.regions.proofs.classes.flag_row.Given as goal

abbrev pub invariant-loop-i : goal.invariant-loop-i
invariant-loop-i l = Still l.initial.used l.used × RowFlagged l.rows l.at l.i l.used
