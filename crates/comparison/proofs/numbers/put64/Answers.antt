-- `put64` meets its contract. Assumes nothing.
use mathlib.Core.Path.{sym}
use lib.Seq.{set_out}
use Rattle.comparison.proofs.numbers.put64.Goals as goal

pub returns-else-i-list : goal.returns-else-i-list
returns-else-i-list c =
    let args = c.args in
    let if1 = c.if-i-list in
    sym (set_out args.list.now args.i args.number if1.false)
