-- The leaders that were passed, and those that led before, have their tags.
use Rattle.std.proofs.Common.{ℕ, ◌≡◌, length}
use Rattle.rounds.specs.Names.{LeadersKept, Tagged, TaggedIn, Reached}
use Rattle.rounds.proofs.names.tag_leaders.Given as goal

abbrev pub invariant-loop-x : goal.invariant-loop-x
invariant-loop-x l = (n : ℕ) → length l.new ≡ n → LeadersKept n l.old l.new → Tagged n l.old l.initial.tags
    → TaggedIn n (Reached l.old l.new l.x) l.tags
