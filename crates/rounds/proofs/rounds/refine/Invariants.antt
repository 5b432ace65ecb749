-- The second list is the rep map of the last round that was made.
use Rattle.std.proofs.Common.{◌≤◌, ◌-◌}
use Rattle.bisimulation.specs.Structures.{Closed}
use Rattle.bisimulation.specs.Finite.{Finite, structure}
use Rattle.rounds.specs.Rounds.{HeldIn, Turned, Prepared}
use Rattle.rounds.proofs.rounds.refine.Given as goal

abbrev pub invariant-loop-count : goal.invariant-loop-count
invariant-loop-count l = (l.count ≤ l.graph.n) × (l.made ≤ l.count) × ((F : Finite) → HeldIn F l.graph → Closed (structure F)
    → Turned F l.second l.count l.made × Prepared F l.graph l.second l.carried)

abbrev pub decreases-loop-count : goal.decreases-loop-count
decreases-loop-count l = l.graph.n - l.count
