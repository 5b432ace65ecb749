-- The next block is put, and up to the one after it there is no other.
use Rattle.std.proofs.Common.{◌+◌, eqb}
use Rattle.std.specs.Prelude.{ℕ, Bool, not, ◌&&◌}
use Rattle.text.specs.Text.{field}
use Rattle.text.specs.Laws.Writer.{puts_then, puts_none, puts_same}
use Rattle.listing.specs.Printed.{is_among}
use Rattle.listing.specs.Laws.Rising.{next-passes, found_none, found-one}
use Rattle.listing.proofs.steps.put_others.Goals as goal

pub loop-next-init : goal.loop-next-init
loop-next-init c =
    let p : ℕ → Bool = λ b. not (eqb b c.args.own) && is_among c.args.blocks.list.now b c.args.reached.now in
    let next = c.next_other-next in (
      puts_same (found_none p field c.args.blocks.count next.result next.ensures) (puts_none c.args.text.now),
      next-passes p 0 c.args.blocks.count next.result next.ensures,
    )

pub loop-next-preserved : goal.loop-next-preserved
loop-next-preserved c =
    let p : ℕ → Bool = λ b. not (eqb b c.args.own) && is_among c.args.blocks.list.now b c.args.reached.now in
    let next = c.next_other-next-in-Some in
    let before = rw c.in-Some.is at c.loop-next.invariant in (
      puts_same (found-one p field c.args.blocks.count c.in-Some.c next.result before.1.0 before.1.1 next.ensures)
          (puts_then before.0 c.put_field.ensures),
      next-passes p (c.in-Some.c + 1) c.args.blocks.count next.result next.ensures,
    )
