-- Each pass places an item, or is the last one.
use Rattle.std.proofs.Common.{◌-◌}
use Rattle.rounds.proofs.changes.list_order.Given as goal

abbrev pub decreases-loop-count : goal.decreases-loop-count
decreases-loop-count l = l.graph.n - l.count
