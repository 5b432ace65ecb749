-- The blocks that x reaches are those that are marked and those of the items that are left.
use Rattle.comparison.specs.Laws.KeyLoops.{Marking}
use Rattle.comparison.proofs.Laws.Walks.{left-of}
use Rattle.comparison.proofs.held.Graph.delays_key.Given as goal

abbrev pub invariant-loop-item : goal.invariant-loop-item
invariant-loop-item l = Marking l.self.n l.list l.self.nexts.now l.x l.marks l.total (left-of l.item-iterator)
