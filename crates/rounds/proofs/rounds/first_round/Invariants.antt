-- The items that were passed have their leads, and the first item with each label among them is known.
use Rattle.std.proofs.Common.{◌≡◌, ◌≤◌, length}
use Rattle.bisimulation.specs.Finite.{related}
use Rattle.rounds.specs.Rounds.{Led, Seen}
use Rattle.rounds.proofs.rounds.first_round.Given as goal

abbrev pub invariant-loop-i : goal.invariant-loop-i
invariant-loop-i l = (length l.seen ≡ 65536) × (l.count ≤ l.i) × Led (related l.labels) l.list l.i l.count × Seen l.labels l.seen l.i
