-- `told_at` meets its contract. Assumes nothing.
use mathlib.Core.Path.{sym}
use borrow.Author.Tests.{le-leb, lt-leb}
use Rattle.comparison.specs.Laws.Steps.{cond_yes, cond_no}
use Rattle.comparison.proofs.held.Graph.told_at.Goals as goal

pub returns-then-last-e : goal.returns-then-last-e
returns-then-last-e c =
    let args = c.args in
    let byte_at = c.byte_at-last in
    rw (← byte_at.ensures) (sym (cond_yes _ byte_at.result 0 (le-leb byte_at.result args.e c.if-last-e.true)))

pub returns-else-last-e : goal.returns-else-last-e
returns-else-last-e c =
    let args = c.args in
    let byte_at = c.byte_at-last in
    rw (← byte_at.ensures) (sym (cond_no _ byte_at.result 0 (lt-leb byte_at.result args.e c.if-last-e.false)))
