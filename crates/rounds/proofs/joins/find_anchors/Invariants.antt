-- Of the items that were passed, the first of each block that is not stirred is its anchor.
use Rattle.std.proofs.Common.{ℕ, ◌≡◌, length}
use Rattle.bisimulation.specs.Finite.{related}
use Rattle.bisimulation.specs.Below.{Reps}
use Rattle.rounds.specs.Rounds.{Anchored}
use Rattle.rounds.proofs.joins.find_anchors.Given as goal

abbrev pub invariant-loop-x : goal.invariant-loop-x
invariant-loop-x l = (length l.anchors ≡ 4096)
    × ((n : ℕ) → length l.old ≡ n → Reps (related l.old) n l.old → Anchored l.x l.old l.stirred l.anchors)
