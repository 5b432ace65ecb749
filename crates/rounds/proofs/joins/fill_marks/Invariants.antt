-- The items that were passed have their marks.
use Rattle.std.proofs.Common.{◌≡◌, length}
use Rattle.bisimulation.specs.Finite.{Finite, related, next}
use Rattle.rounds.specs.Rounds.{Anchored, MarkedTo, Step, KinsBelow, KeyedIn, EquippedIn}
use Rattle.rounds.specs.Changes.{Settled}
use Rattle.rounds.proofs.joins.fill_marks.Given as goal

abbrev pub invariant-loop-x : goal.invariant-loop-x
invariant-loop-x l = (length l.marks ≡ 4096) × KinsBelow l.x l.kins
    × ((F : Finite) → KeyedIn F l.graph l.before.names.now l.initial.keys
    → Settled (next F l.before.names.now) (related l.before.old.now) l.graph.n l.before.stirred.now
    → Anchored l.graph.n l.before.old.now l.before.stirred.now l.before.anchors.now
    → Step (next F l.before.names.now) l.graph.n l.before.old.now
    → MarkedTo l.x (next F l.before.names.now) l.before.anchors.now l.before.old.now l.marks
    × EquippedIn F l.graph l.before.names.now l.keys l.shelf)
