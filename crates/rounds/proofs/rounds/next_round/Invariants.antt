-- The items that were passed have their leads.
use Rattle.std.proofs.Common.{◌≤◌}
use Rattle.bisimulation.specs.Finite.{Finite, related, next}
use Rattle.rounds.specs.Rounds.{Led, Sorted, Chains, KinsBelow, KeyedIn, EquippedIn}
use Rattle.rounds.proofs.rounds.next_round.Given as goal

abbrev pub invariant-loop-x : goal.invariant-loop-x
invariant-loop-x l = (l.count ≤ l.x) × KinsBelow l.x l.kins
    × ((F : Finite) → KeyedIn F l.graph l.sorting.names.now l.initial.keys
    → Sorted (next F l.sorting.names.now) l.graph.n l.sorting.marks.now l.sorting.mid.now
    → Led (next F l.sorting.names.now) l.new l.x l.count
    × Chains (next F l.sorting.names.now) (related l.sorting.mid.now) l.links l.x
    × EquippedIn F l.graph l.sorting.names.now l.keys l.shelf)
