-- The counts are those of the labels that were met.
use Rattle.std.proofs.Common.{take}
use Rattle.totals.specs.Counts.{LabelCounts}
use Rattle.totals.proofs.totals.count_labels.Given as goal

abbrev pub invariant-loop-label : goal.invariant-loop-label
invariant-loop-label l = LabelCounts (take l.label-index l.labels) l.counts
