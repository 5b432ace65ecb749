-- The items that were passed are classed.
use Rattle.std.proofs.Common.{ℕ, ◌<◌}
use Rattle.rounds.specs.Changes.{ItemClassed}
use Rattle.comparison.specs.Held.{Opened}
use Rattle.rounds.proofs.changes.is_classed.Given as goal

abbrev pub invariant-loop-x : goal.invariant-loop-x
invariant-loop-x l = Opened l.graph.n l.graph.k l.graph.flags.now → (y : ℕ) → y < l.x → ItemClassed l.graph y
