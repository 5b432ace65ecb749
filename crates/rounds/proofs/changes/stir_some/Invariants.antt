-- The items that were passed are stirred, or rest.
use Rattle.std.proofs.Common.{ℕ, ◌<◌, get_or, false}
use Rattle.rounds.specs.Changes.{RestsAt}
use Rattle.comparison.specs.Held.{Opened}
use Rattle.rounds.proofs.changes.stir_some.Given as goal

abbrev pub invariant-loop-x : goal.invariant-loop-x
invariant-loop-x l = Opened l.graph.n l.graph.k l.graph.flags.now → (y : ℕ) → y < l.x
    → RestsAt l.graph l.changed l.used l.still l.marks y (get_or l.stirred y false)
