-- The last item so far stands in for x.
use Rattle.std.proofs.Common.{◌<◌}
use Rattle.comparison.specs.Graphs.{Onward, RunTo}
use Rattle.comparison.proofs.held.Graph.run_end.Given as goal

abbrev pub invariant-loop : goal.invariant-loop
invariant-loop l = Onward l.self → l.x < l.self.n → RunTo l.self l.list l.x l.last
