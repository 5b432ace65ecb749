-- `open_edge` meets its contract. Assumes nothing.
use mathlib.Core.Path.{refl}
use borrow.Author.Tests.{lt-ltb, le-ltb, le-leb, lt-leb, eq-eqb, ne_eqb}
use Rattle.comparison.proofs.held.Graph.open_edge.Goals as goal

pub returns-then-x-ge4096 : goal.returns-then-x-ge4096
returns-then-x-ge4096 c = let args = c.args in rw (le-ltb args.x 4096 c.if-x-ge4096.true) refl

pub returns-then-e-gt128 : goal.returns-then-e-gt128
returns-then-e-gt128 c =
    let args = c.args in
    rw (lt-ltb args.x 4096 c.if-x-ge4096.false, lt-leb args.e 128 c.if-e-gt128.true) refl

pub returns-then-e-eq0 : goal.returns-then-e-eq0
returns-then-e-eq0 c =
    let args = c.args in
    rw (
      lt-ltb args.x 4096 c.if-x-ge4096.false,
      le-leb args.e 128 c.if-e-gt128.false,
      eq-eqb args.e 0 c.if-e-eq0.true,
    ) refl

pub returns : goal.returns
returns c =
    let args = c.args in
    let told_at = c.told_at in
    rw (
      lt-ltb args.x 4096 c.if-x-ge4096.false,
      le-leb args.e 128 c.if-e-gt128.false,
      ne_eqb args.e 0 c.if-e-eq0.false,
    ) told_at.ensures
