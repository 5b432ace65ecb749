-- `flag_masks` meets its contract. The loop's invariant: the masks of the first e rows are flagged. Assumes nothing.
use Rattle.regions.specs.Filling.{Flagged}
use Rattle.regions.proofs.classes.flag_masks.Given as goal

abbrev pub invariant-loop-e : goal.invariant-loop-e
invariant-loop-e l = Flagged l.rows l.e l.used
