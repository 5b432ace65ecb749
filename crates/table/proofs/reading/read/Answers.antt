-- `read` meets its contract. The loop's invariant: reading on from here gives what reading from the start gives. The measure is
-- what is left of the table. Assumes nothing.
use mathlib.Core.Path.{sym, ◌∙◌, ap}
use native.Mathlib.Omega.{arith}
use Rattle.std.specs.Prelude.{Ok, Err, ◌≡◌}
use Rattle.std.proofs.Common.{rules}
use Rattle.table.proofs.Laws.Runs.{next-within}
use Rattle.table.proofs.Laws.Turns.{underway-next, underway-refused, underway-end, read-long}
use Rattle.table.proofs.reading.read.Goals as goal

pub returns-then-table-gt-MAX_BYTES : goal.returns-then-table-gt-MAX_BYTES
returns-then-table-gt-MAX_BYTES c =
    ap Err c.at.ensures ∙ sym (read-long c.args.table.now c.if-table-gt-MAX_BYTES.true)

pub returns-in_err-next : goal.returns-in_err-next
returns-in_err-next c =
    let loop = c.loop-next in
    let same : c.from_residual.result ≡ Err c.in_err-next.field-0.0 = search rules in
    same ∙ underway-refused c.args.table.now loop.progress loop.at _ loop.invariant (sym c.read_record.ensures ∙ c.in_err-next.was)

pub loop-next-smaller : goal.loop-next-smaller
loop-next-smaller c =
    let loop = c.loop-next in
    let within = next-within c.args.table.now loop.progress _ loop.at (sym c.read_record.ensures ∙ c.in_ok-next.was ∙ ap Ok c.in-Some.is) in
    omega (arith, c.pass-at.ensures)

pub loop-next-preserved : goal.loop-next-preserved
loop-next-preserved c =
    let shared-slice-known = c.type_inv.table in
    let loop = c.loop-next in
    rw c.pass-at.ensures
    (underway-next c.args.table.now loop.progress _ loop.at (λ i. omega (arith, shared-slice-known i)) loop.invariant
    (sym c.read_record.ensures ∙ c.in_ok-next.was ∙ ap Ok c.in-Some.is))

pub returns : goal.returns
returns c =
    let loop = c.loop-next in
    let ended = sym c.read_record.ensures ∙ c.in_ok-next.was ∙ ap Ok c.in_default.is in
    ap Ok c.shape.ensures ∙ underway-end c.args.table.now loop.progress loop.at loop.invariant ended
