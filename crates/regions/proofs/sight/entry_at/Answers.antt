-- `entry_at` meets its contract. Assumes nothing.
use native.Mathlib.Omega.{arith}
use borrow.Author.Tests.{lt-ltb, le-ltb}
use Rattle.regions.proofs.sight.entry_at.Goals as goal

pub returns-then-j-lt-MAX_ENTRIES : goal.returns-then-j-lt-MAX_ENTRIES
returns-then-j-lt-MAX_ENTRIES c =
    let args = c.args in
    let if1 = c.if-j-lt-MAX_ENTRIES in
    rw (lt-ltb args.j 4096 if1.true) c.read_entry.ensures

pub returns : goal.returns
returns c =
    let args = c.args in
    rw (le-ltb args.j 4096 (omega (arith, c.if-j-lt-MAX_ENTRIES.false)))
