-- The lines of the labels that were met are put.
use Rattle.text.specs.Writing.{Puts}
use Rattle.totals.specs.Counts.{counted_lines}
use Rattle.totals.proofs.totals.put_labels.Given as goal

abbrev pub invariant-loop-label : goal.invariant-loop-label
invariant-loop-label l = Puts l.initial.text l.text (counted_lines l.regions l.blocks l.label)
