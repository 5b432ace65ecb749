-- Loop: the edge stands first, and behind it the names of the branches so far.
use Rattle.signatures.specs.Laws.Raw.{Landing}
use Rattle.signatures.proofs.steps.raw_form.Given as goal

abbrev pub invariant-loop-branch : goal.invariant-loop-branch
invariant-loop-branch l = Landing l.graph l.names l.edge l.class l.raw.items l.branch
