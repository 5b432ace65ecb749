-- No mask that was passed touches the item.
use Rattle.std.proofs.Common.{ℕ, ◌<◌}
use Rattle.rounds.specs.Changes.{UntouchedBy}
use Rattle.rounds.proofs.changes.is_touched.Given as goal

abbrev pub invariant-loop-mask : goal.invariant-loop-mask
invariant-loop-mask l = (m : ℕ) → m < l.mask → UntouchedBy l.graph l.used l.marks l.x m
