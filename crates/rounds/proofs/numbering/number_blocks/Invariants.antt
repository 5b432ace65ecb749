-- The items that were passed have the numbers of their blocks.
use Rattle.std.proofs.Common.{ℕ, ◌≡◌, ◌≤◌, length}
use Rattle.bisimulation.specs.Finite.{related}
use Rattle.bisimulation.specs.Below.{Reps}
use Rattle.rounds.specs.Rounds.{Numbered}
use Rattle.rounds.proofs.numbering.number_blocks.Given as goal

abbrev pub invariant-loop-i : goal.invariant-loop-i
invariant-loop-i l = (l.count ≤ l.i) × ((n : ℕ) → length l.initial.list ≡ n → Reps (related l.initial.list) n l.initial.list
    → Numbered (related l.initial.list) l.initial.list l.list l.i l.count)
