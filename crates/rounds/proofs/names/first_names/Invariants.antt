-- The items that were passed have their tags and names.
use Rattle.std.proofs.Common.{ℕ, ◌≡◌, ◌<◌, get_or}
use Rattle.rounds.proofs.names.first_names.Given as goal

abbrev pub invariant-loop-x : goal.invariant-loop-x
invariant-loop-x l = ((y : ℕ) → y < l.x → get_or l.tags y 0 ≡ y) × ((y : ℕ) → y < l.x → get_or l.names y 0 ≡ get_or l.reps y 0)
