-- The masks of the edges that were passed are flagged.
use Rattle.std.proofs.Common.{ℕ, ◌<◌}
use Rattle.rounds.specs.Changes.{UsedBy}
use Rattle.rounds.proofs.changes.mark_masks.Given as goal

abbrev pub invariant-loop-e : goal.invariant-loop-e
invariant-loop-e l = (f : ℕ) → f < l.e → UsedBy l.graph l.used f
