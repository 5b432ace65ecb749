-- The line is left out where no other block is reached.
use Rattle.std.proofs.Common.{◌∙◌, sym, eqb}
use Rattle.std.specs.Prelude.{ℕ, Bool, not, ◌&&◌}
use Rattle.text.specs.Laws.Writer.{puts_then, puts_none, puts_same}
use Rattle.listing.specs.Printed.{is_among}
use Rattle.listing.specs.Laws.Rising.{delay-none, delay-some}
use Rattle.listing.proofs.steps.put_delay.Goals as goal

pub returns-then-is_some : goal.returns-then-is_some
returns-then-is_some c =
    let p : ℕ → Bool = λ b. not (eqb b c.args.own) && is_among c.args.blocks.list.now b c.args.reached.now in
    let next = c.next_other in
    puts_same (delay-some p c.args.own c.args.blocks.count next.result next.ensures (sym c.is_some.ensures ∙ c.if-is_some.true))
    (puts_then c.put_named.ensures (puts_then c.put_others.ensures c.put.ensures))

pub returns-else-is_some : goal.returns-else-is_some
returns-else-is_some c =
    let p : ℕ → Bool = λ b. not (eqb b c.args.own) && is_among c.args.blocks.list.now b c.args.reached.now in
    let next = c.next_other in
    puts_same (delay-none p c.args.own c.args.blocks.count next.result next.ensures (sym c.is_some.ensures ∙ c.if-is_some.false))
    (puts_none c.args.text.now)
