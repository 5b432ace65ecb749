-- Going on from here comes to where the whole walk comes to: a record of another kind ends it, and so does the count.
use Rattle.std.specs.Prelude.{◌≡◌, ◌+◌}
use mathlib.Core.Path.{sym, ◌∙◌, ap}
use native.Mathlib.Omega.{arith}
use borrow.Author.Tests.{eqb-true, eqb-false}
use Rattle.table.specs.Codes.{kind_code}
use Rattle.table.specs.Format.{body_length}
use Rattle.table.proofs.Laws.Walks.{walking_on, walked-other, walked_all}
use Rattle.table.proofs.access.walk.Goals as goal

pub returns-then-not-is_kind : goal.returns-then-not-is_kind
returns-then-not-is_kind c =
    let args = c.args in
    let loop = c.loop-passed in
    let walked = walked-other args.table.now args.first (kind_code args.kind) args.most loop.at loop.passed loop.invariant
    (eqb-false _ _ (sym c.is_kind.ensures ∙ c.if-not-is_kind.true)) in
    record { end = walked.0; count = walked.1 }

pub loop-passed-preserved : goal.loop-passed-preserved
loop-passed-preserved c =
    let args = c.args in
    let loop = c.loop-passed in
    let length = c.body_length-length.ensures.0 ∙ ap body_length c.code.ensures in
    let next : loop.at + (1 + c.body_length-length.result) ≡ loop.at + 1 + body_length (kind_code args.kind) = omega arith in
    rw next
    (walking_on args.table.now args.first (kind_code args.kind) args.most loop.at loop.passed loop.invariant c.loop-passed-test.true
    (eqb-true _ _ (sym c.is_kind.ensures ∙ c.if-not-is_kind.false)))

pub returns : goal.returns
returns c =
    let args = c.args in
    let loop = c.loop-passed in
    let walked = walked_all args.table.now args.first (kind_code args.kind) args.most loop.at loop.passed loop.invariant
    c.loop-passed-test.false in
    record { end = walked.0; count = omega (arith, walked.1, loop.invariant.few) }
