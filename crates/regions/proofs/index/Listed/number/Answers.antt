-- `number` meets its contract. The loop's invariant: the best so far is the lowest entry at or past the link that is the region.
-- The measure is the link, since links fall. Assumes nothing.
use mathlib.Core.Path.{sym, ◌∙◌, ap}
use Rattle.regions.specs.Entries.{region_at}
use Rattle.std.proofs.Common.{rules}
use Rattle.regions.specs.Laws.Reach.{lowest_start, lowest-falls, lowest-here, lowest-past, lowest-number}
use Rattle.regions.proofs.index.Listed.number.Goals as goal
use Rattle.regions.proofs.index.Listed.number.Goals.{then-eq, else-eq}

pub loop-link-init : goal.loop-link-init
loop-link-init c =
    let self = c.args.self in
    let links = self.links.now in
    rw c.hash_of.ensures.0 (lowest_start self.entries.now links.heads links.nexts links.count c.args.q self.index)

pub loop-link-smaller : goal.loop-link-smaller
loop-link-smaller c =
    let self = c.args.self in
    let links = self.links.now in
    let loop = c.loop-link in
    rw c.from-j.ensures
    (lowest-falls self.entries.now links.heads links.nexts links.count c.args.q self.index loop.link loop.best loop.invariant
    c.loop-link-test.true)

pub loop-link-preserved : goal.loop-link-preserved
loop-link-preserved c =
    let self = c.args.self in
    let links = self.links.now in
    let loop = c.loop-link in
    let join = c.if-eq in
    rw c.from-j.ensures
    (elim join.branch [
      | then-eq was ↦
          lowest-here self.entries.now links.heads links.nexts links.count c.args.q self.index loop.link loop.best loop.invariant
          c.loop-link-test.true join.best (was.best-is ∙ c.from-j.ensures)
          (sym (ap (region_at self.entries.now) c.from-j.ensures) ∙ sym c.read_entry.ensures ∙ search rules)
      | else-eq was ↦
          lowest-past self.entries.now links.heads links.nexts links.count c.args.q self.index loop.link loop.best loop.invariant
          c.loop-link-test.true join.best was.best-is (λ e. search rules)
    ])

pub returns-clause-value : goal.returns-clause-value
returns-clause-value c =
    let self = c.args.self in
    let loop = c.loop-link in
    lowest-number self.entries.now self.links.now.count c.args.q loop.link loop.best loop.invariant c.loop-link-test.false
