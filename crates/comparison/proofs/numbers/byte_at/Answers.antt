-- `byte_at` meets its contract. Assumes nothing.
use native.Mathlib.Omega.{arith}
use mathlib.Core.Path.{sym}
use lib.ListN.{get_or-eq_default}
use Rattle.comparison.proofs.numbers.byte_at.Goals as goal

pub overflow_cast-result : goal.overflow_cast-result
overflow_cast-result c =
    let args = c.args in
    omega (arith, c.type_inv.list args.i)

pub returns-else-i-list : goal.returns-else-i-list
returns-else-i-list c =
    let args = c.args in
    sym (get_or-eq_default args.list.now 0 c.if-i-list.false)
