-- The items that were come to stand beside each other.
use Rattle.std.proofs.Common.{◌<◌, ◌≡◌, true}
use Rattle.bisimulation.specs.Finite.{related}
use Rattle.comparison.specs.Graphs.{Onward}
use Rattle.comparison.specs.Laws.Twins.{Beside}
use Rattle.comparison.proofs.held.Graph.runs_alike.Given as goal

abbrev pub invariant-loop : goal.invariant-loop
invariant-loop l =
    Onward l.self → l.x < l.self.n → l.y < l.self.n → related l.list l.x l.y ≡ true
    → Beside l.self.n l.list l.self.nexts.now l.x l.y l.one l.other
