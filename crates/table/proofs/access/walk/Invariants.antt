-- The loop's invariant: going on from here comes to where the whole walk comes to.
use Rattle.table.specs.Codes.{kind_code}
use Rattle.table.proofs.Laws.Walks.{Walking}
use Rattle.table.proofs.access.walk.Given as goal

abbrev pub invariant-loop-passed : goal.invariant-loop-passed
invariant-loop-passed l = Walking l.table l.first (kind_code l.fn.kind) l.most l.at l.passed
