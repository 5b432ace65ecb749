-- The leaders that were passed are not related to the item.
use Rattle.std.proofs.Common.{ℕ, ◌≡◌, ◌<◌, ◌-◌, get_or, List}
use Rattle.bisimulation.specs.Finite.{Finite, related, next}
use Rattle.rounds.specs.Rounds.{EquippedIn, Step, Chains, Walked}
use Rattle.rounds.proofs.rounds.search_lead.Given as goal

abbrev pub invariant-loop-links : goal.invariant-loop-links
invariant-loop-links l = (l.links ≡ l.initial.links)
    × ((F : Finite) (mid : List ℕ) → EquippedIn F l.graph l.names l.initial.keys l.initial.shelf
    → Step (next F l.names) l.graph.n mid → Chains (next F l.names) (related mid) l.links l.x → l.x < l.graph.n
    → l.start ≡ get_or mid l.x 0 → l.start < l.x
    → Walked (next F l.names) (related mid) l.x l.y × EquippedIn F l.graph l.names l.keys l.shelf)

abbrev pub decreases-loop-links : goal.decreases-loop-links
decreases-loop-links l = 65536 - l.y
