-- `meet_one` meets its contract: the region is known, or there is no room, or it is listed. Assumes nothing.
use native.Mathlib.Omega.{arith}
use mathlib.Core.Path.{sym, ◌∙◌}
use Rattle.regions.specs.Index.{Found}
use Rattle.regions.specs.Explore.{one_found, not_found, one-full, one-new}
use Rattle.regions.proofs.explore.meet_one.Goals as goal
use Rattle.regions.proofs.explore.meet_one.Goals.{After-is_some}

searched : (c : After-is_some) → Found c.args.found.now.entries.now c.args.found.now.links.count c.args.q c.find.result
searched c = rw (c.listed.ensures.0, c.listed.ensures.1) at c.find.ensures

pub returns-then-is_some-clause-all_met : goal.returns-then-is_some-clause-all_met
returns-then-is_some-clause-all_met c =
    let found = c.args.found.now in
    one_found found.cap found.entries.now found.links.count c.args.q c.find.result
    (searched (goal.at.returns-then-is_some-clause-all_met c).After-is_some) (sym c.is_some.ensures ∙ c.if-is_some.true)

pub returns-then-found-clause-all_met : goal.returns-then-found-clause-all_met
returns-then-found-clause-all_met c =
    let found = c.args.found.now in
    one-full found.cap found.entries.now found.links.count c.args.q
    (not_found found.cap found.entries.now found.links.count c.args.q c.find.result
    (searched (goal.at.returns-then-found-clause-all_met c).After-is_some) (sym c.is_some.ensures ∙ c.if-is_some.false))
    (omega (arith, c.if-found.true))

pub returns-clause-all_met : goal.returns-clause-all_met
returns-clause-all_met c =
    let found = c.args.found.now in
    let added = c.add.ensures.added in
    one-new found.cap found.entries.now found.links.count c.args.q
    (not_found found.cap found.entries.now found.links.count c.args.q c.find.result
    (searched (goal.at.returns-clause-all_met c).After-is_some) (sym c.is_some.ensures ∙ c.if-is_some.false))
    (omega (arith, c.if-found.false, found.room.room)) c.add.new.self.entries.now added.before added.entry c.add.new.self.links.count
    added.count
