-- The share of the next block is put, and up to the one after it there is no other.
use Rattle.std.proofs.Common.{◌+◌, ◌*◌, get_or, List}
use Rattle.std.specs.Prelude.{ℕ, Bool}
use Rattle.text.specs.Laws.Writer.{puts_then, puts_none, puts_same}
use Rattle.listing.specs.Printed.{is_among}
use Rattle.listing.specs.Slices.{branches_at}
use Rattle.listing.specs.Laws.Rising.{next-passes, found_none, found-one, share_text, share-all}
use Rattle.listing.proofs.steps.put_shares.Goals as goal

pub loop-next-init : goal.loop-next-init
loop-next-init c =
    let list = c.args.blocks.list.now in
    let edge = c.args.edge in
    let p : ℕ → Bool = λ b. is_among list b c.args.targets.now in
    let f : ℕ → List ℕ = share_text list (get_or edge.rows.now (32 * edge.number + 2) 0) (branches_at edge.rows.now edge.number) in
    let next = c.next_of-next in (
      puts_same (found_none p f c.args.blocks.count next.result next.ensures) (puts_none c.args.text.now),
      next-passes p 0 c.args.blocks.count next.result next.ensures,
    )

pub loop-next-preserved : goal.loop-next-preserved
loop-next-preserved c =
    let list = c.args.blocks.list.now in
    let edge = c.args.edge in
    let p : ℕ → Bool = λ b. is_among list b c.args.targets.now in
    let f : ℕ → List ℕ = share_text list (get_or edge.rows.now (32 * edge.number + 2) 0) (branches_at edge.rows.now edge.number) in
    let next = c.next_of-next-in-Some in
    let before = rw c.in-Some.is at c.loop-next.invariant in
    let share = rw (c.weight_into.ensures.value, c.from.ensures, c.denominator.ensures) at c.put_share.ensures in (
      puts_same (found-one p f c.args.blocks.count c.in-Some.c next.result before.1.0 before.1.1 next.ensures) (puts_then before.0 share),
      next-passes p (c.in-Some.c + 1) c.args.blocks.count next.result next.ensures,
    )

pub returns : goal.returns
returns c =
    let list = c.args.blocks.list.now in
    let edge = c.args.edge in
    let before = rw c.in_default.is at c.loop-next.invariant in
    puts_same
    (share-all list (get_or edge.rows.now (32 * edge.number + 2) 0) (branches_at edge.rows.now edge.number) c.args.targets.now
    c.args.blocks.count c.requires)
    before.0
