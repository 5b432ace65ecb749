-- A branch that lands in the block adds its weight, and no other does.
use Rattle.std.proofs.Common.{◌≡◌, ◌∙◌, ◌+◌, ◌*◌, sym, arith, get_or}
use Rattle.listing.specs.Laws.Rising.{weight-hit, weight-miss}
use Rattle.listing.proofs.steps.Edge.weight_into.Goals as goal
use Rattle.listing.proofs.steps.Edge.weight_into.Goals.{then-of-c, else-of-c}

pub loop-i-preserved : goal.loop-i-preserved
loop-i-preserved c =
    let list = c.args.blocks.list.now in
    let rows = c.args.self.rows.now in
    let from = 32 * c.args.self.number + 4 in
    let i = c.loop-i.i in
    let lands : get_or list (get_or rows (from + 2 * i + 1) 0) 0 ≡ c.of.result =
    rw (← c.target.ensures, ← c.from.ensures) (sym c.of.ensures) in
    elim c.if-of-c.branch [
      | then-of-c w ↦
          let more = weight-hit list rows c.args.c from i (lands ∙ w.if-of-c.true) in
          (omega arith, omega arith)
      | else-of-c w ↦
          let same = weight-miss list rows c.args.c from i (λ e. w.if-of-c.false (sym lands ∙ e)) in
          (omega arith, omega arith)
    ]
