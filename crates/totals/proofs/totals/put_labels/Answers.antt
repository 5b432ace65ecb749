use Rattle.std.proofs.Common.{arith, ◌≡◌, length}
use Rattle.text.specs.Laws.Writer.{writing}
use Rattle.totals.proofs.totals.put_labels.Goals as goal

pub returns : goal.returns
returns c =
    let all : c.loop-label.label ≡ length c.args.regions.now = omega arith in
    grind (arith, writing)
