-- The branches that were passed are classed.
use Rattle.std.proofs.Common.{ℕ, ◌<◌}
use Rattle.rounds.specs.Changes.{BranchClassed}
use Rattle.rounds.proofs.changes.is_edge_classed.Given as goal

abbrev pub invariant-loop-i : goal.invariant-loop-i
invariant-loop-i l = (j : ℕ) → j < l.i → BranchClassed l.graph l.x l.e j
