-- The search has come to a link.
use Rattle.std.proofs.Common.{◌≡◌, get_or}
use Rattle.rounds.specs.Firsts.{Looking}
use Rattle.rounds.specs.Links.{link_to}
use Rattle.rounds.proofs.judging.find_first.Given as goal

abbrev pub invariant-loop-next : goal.invariant-loop-next
invariant-loop-next l = (l.number ≡ get_or l.proposal l.x 0) × Looking l.proposal l.x (link_to l.next)

abbrev pub decreases-loop-next : goal.decreases-loop-next
decreases-loop-next l = link_to l.next
