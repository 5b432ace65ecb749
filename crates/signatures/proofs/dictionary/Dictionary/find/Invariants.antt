-- Loop: if the list is held, it stands before this link along its bucket. Measure: the links along a bucket fall.
use Rattle.signatures.specs.Dictionary.{entry_of, count_of}
use Rattle.signatures.specs.Laws.Chain.{Walking}
use Rattle.signatures.proofs.dictionary.Dictionary.find.Given as goal

abbrev pub invariant-loop-link : goal.invariant-loop-link
invariant-loop-link l =
    Walking (entry_of l.self-inside.index.now l.self-inside.numbers.now) (count_of l.self-inside.index.now) l.list l.link

abbrev pub decreases-loop-link : goal.decreases-loop-link
decreases-loop-link l = l.link
