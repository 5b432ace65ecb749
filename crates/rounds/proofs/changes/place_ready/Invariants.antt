-- Each item that was passed is placed at most once.
use Rattle.std.proofs.Common.{◌≤◌, ◌+◌}
use Rattle.rounds.proofs.changes.place_ready.Given as goal

abbrev pub invariant-loop-x : goal.invariant-loop-x
invariant-loop-x l = l.count + l.x ≤ l.start + l.graph.n
