-- `find` meets its contract. The loop's invariant: an entry that is the region is below the link, and the link is to an entry
-- of the region's bucket. The measure is the link, since links fall. Assumes nothing.
use Rattle.regions.specs.Index.{Walking}
use Rattle.regions.proofs.index.Listed.find.Given as goal

abbrev pub invariant-loop-link : goal.invariant-loop-link
invariant-loop-link l = Walking l.self.entries.now l.self.links.now.count l.r l.link

abbrev pub decreases-loop-link : goal.decreases-loop-link
decreases-loop-link l = l.link
