-- `number` meets its contract. The loop's invariant: the best so far is the lowest entry at or past the link that is the region.
-- The measure is the link, since links fall. Assumes nothing.
use Rattle.regions.specs.Laws.Reach.{Lowest}
use Rattle.regions.proofs.index.Listed.number.Given as goal

abbrev pub invariant-loop-link : goal.invariant-loop-link
invariant-loop-link l = Lowest l.self.entries.now l.self.links.now.count l.q l.link l.best

abbrev pub decreases-loop-link : goal.decreases-loop-link
decreases-loop-link l = l.link
