-- The masks of the branches that were passed are flagged, and flags stay set.
use Rattle.std.proofs.Common.{ℕ, ◌<◌}
use Rattle.rounds.specs.Changes.{Kept, UsedAt}
use Rattle.rounds.proofs.changes.mark_edge_masks.Given as goal

abbrev pub invariant-loop-i : goal.invariant-loop-i
invariant-loop-i l = Kept l.initial.used l.used × ((j : ℕ) → j < l.i → UsedAt l.graph l.used l.e j)
