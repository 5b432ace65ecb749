-- Both iterators have edges below k left.
use Rattle.std.proofs.Common.{◌≤◌, length}
use Rattle.comparison.proofs.held.Graph.may_be_paired.Given as goal

abbrev pub invariant-loop-e : goal.invariant-loop-e
invariant-loop-e l = (length l.e-iterator.flags.now ≤ l.self.k) × (length l.others.flags.now ≤ l.self.k)
