-- `is_clear` meets its contract. Assumes nothing.
use Prim.Native.Nat.{ℕ}
use mathlib.Core.Path.{sym, ap}
use lib.Dec.{eqb}
use lib.ListN.{get_or-eq_default}
use Rattle.comparison.proofs.numbers.is_clear.Goals as goal

pub returns-else-i-flags : goal.returns-else-i-flags
returns-else-i-flags c =
    let args = c.args in
    sym (ap (λ (v : ℕ). eqb v 0) (get_or-eq_default args.flags.now 0 c.if-i-flags.false))
