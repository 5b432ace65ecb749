-- The branches that were passed lead to nothing that has changed.
use Rattle.std.proofs.Common.{ℕ, ◌≡◌, ◌<◌, get_or, false}
use Rattle.rounds.specs.Changes.{lands_at}
use Rattle.rounds.proofs.changes.is_edge_calm.Given as goal

abbrev pub invariant-loop-i : goal.invariant-loop-i
invariant-loop-i l = (j : ℕ) → j < l.i → get_or l.changed (lands_at l.graph l.x l.e j) false ≡ false
