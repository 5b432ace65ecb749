-- `add` meets its contract: the region is stored, and linked in. Assumes nothing.
use native.Mathlib.Omega.{arith}
use borrow.Author.Rules.{rules}
use Rattle.regions.specs.Entries.{Sized}
use Rattle.regions.specs.Index.{Added, added}
use Rattle.regions.proofs.index.Listing.add.Goals as goal
use Rattle.regions.proofs.index.Listing.add.Goals.{After-push}

is-added : (c : After-push) → Added c.args.r c.args.self.now.entries.now c.args.self.now.links c.write_entry.new.entries c.push.new.self
is-added c =
    let self = c.args.self.now in
    let sized : Sized c.args.r = record { whole = search rules; rank = search rules } in
    added self.entries.now self.links c.args.r self.room.index c.write_entry.new.entries c.push.new.self
    (omega (arith, self.room.few)) (omega (arith, self.room.fits)) (omega arith) sized c.write_entry.ensures c.push.ensures.0
    c.push.ensures.1 c.push.ensures.2

pub invariant_of-self : goal.invariant_of-self
invariant_of-self c =
    let room = c.args.self.now.room in
    let a = is-added c in
    record {
      room = record {
        index = a.index;
        room = omega (arith, a.count);
        few = room.few;
        fits = omega (arith, a.entries, room.fits);
      };
    }

pub returns-clause-added : goal.returns-clause-added
returns-clause-added c = is-added (goal.at.returns-clause-added c).After-push
