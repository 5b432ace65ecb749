-- Each outcome of the comparison is a case of the definition.
use Rattle.std.proofs.Common.{rules}
use Rattle.rounding.proofs.Laws.Rounding.{ten-thousandths-none, ten-thousandths-down, ten-thousandths-up, ten-thousandths-half}
use Rattle.listing.proofs.steps.ten_thousandths.Goals as goal

pub returns-then-denominator-eq0 : goal.returns-then-denominator-eq0
returns-then-denominator-eq0 c = ten-thousandths-none c.args.weight c.args.denominator c.if-denominator-eq0.true

pub returns-in-Less : goal.returns-in-Less
returns-in-Less c = ten-thousandths-down c.args.weight c.args.denominator c.if-denominator-eq0.false (search rules)

pub returns-in-Equal : goal.returns-in-Equal
returns-in-Equal c = ten-thousandths-half c.args.weight c.args.denominator c.if-denominator-eq0.false (search rules)

pub returns-in-Greater : goal.returns-in-Greater
returns-in-Greater c = ten-thousandths-up c.args.weight c.args.denominator c.if-denominator-eq0.false (search rules)
