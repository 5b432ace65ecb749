-- The available edges that were passed, from the last down, are classed.
use Rattle.std.proofs.Common.{◌<◌, ◌≤◌}
use Rattle.rounds.specs.Changes.{EdgeClassed}
use Rattle.comparison.specs.Laws.Down.{Down}
use Rattle.comparison.specs.Held.{is_open, Opened}
use Rattle.rounds.proofs.changes.is_item_classed.Given as goal

abbrev pub invariant-loop-e : goal.invariant-loop-e
invariant-loop-e l = (l.e ≤ l.graph.k) × (Opened l.graph.n l.graph.k l.graph.flags.now → l.x < l.graph.n
    → Down (is_open l.graph.flags.now l.x) (EdgeClassed l.graph l.x) l.graph.k l.e)

abbrev pub decreases-loop-e : goal.decreases-loop-e
decreases-loop-e l = l.e
