-- The available edges that were passed, from the last down, lead to nothing that has changed.
use Rattle.std.proofs.Common.{ℕ, ◌<◌, ◌≤◌}
use Rattle.rounds.specs.Changes.{EdgeCalm}
use Rattle.comparison.specs.Laws.Down.{Down}
use Rattle.comparison.specs.Held.{is_open, Opened}
use Rattle.rounds.proofs.changes.are_edges_calm.Given as goal

abbrev pub invariant-loop-e : goal.invariant-loop-e
invariant-loop-e l = (l.e ≤ l.graph.k) × ((n : ℕ) → Opened n l.graph.k l.graph.flags.now → l.x < n
    → Down (is_open l.graph.flags.now l.x) (EdgeCalm l.graph l.changed l.x) l.graph.k l.e)

abbrev pub decreases-loop-e : goal.decreases-loop-e
decreases-loop-e l = l.e
