-- `find` meets its contract. The loop's invariant: an entry that is the region is below the link, and the link is to an entry
-- of the region's bucket. The measure is the link, since links fall. Assumes nothing.
use Rattle.std.proofs.Common.{rules}
use Rattle.regions.specs.Index.{walking_start, walking_on, next-falls}
use Rattle.regions.proofs.index.Listed.find.Goals as goal

pub loop-link-init : goal.loop-link-init
loop-link-init c =
    let self = c.args.self in
    let links = self.links.now in
    rw c.hash_of.ensures.0 (walking_start self.entries.now links.heads links.nexts links.count c.args.r self.index)

pub loop-link-smaller : goal.loop-link-smaller
loop-link-smaller c =
    let self = c.args.self in
    let links = self.links.now in
    let loop = c.loop-link in
    rw c.from-j.ensures
    (next-falls self.entries.now links.heads links.nexts links.count c.args.r self.index loop.link loop.invariant
    c.loop-link-test.true)

pub loop-link-preserved : goal.loop-link-preserved
loop-link-preserved c =
    let self = c.args.self in
    let links = self.links.now in
    let loop = c.loop-link in
    rw c.from-j.ensures
    (walking_on self.entries.now links.heads links.nexts links.count c.args.r self.index loop.link loop.invariant
    c.loop-link-test.true (λ e. search rules))
