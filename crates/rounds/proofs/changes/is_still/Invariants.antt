-- The items that were passed rest where they are marked as still.
use Rattle.std.proofs.Common.{ℕ, ◌<◌}
use Rattle.rounds.specs.Changes.{StillAt}
use Rattle.rounds.proofs.changes.is_still.Given as goal

abbrev pub invariant-loop-x : goal.invariant-loop-x
invariant-loop-x l = (y : ℕ) → y < l.x → StillAt l.graph l.changed l.still y
