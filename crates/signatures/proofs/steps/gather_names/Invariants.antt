-- Loop: the names so far are a set; these and the names that are left are those of all.
use Rattle.std.proofs.Common.{◌-◌, ◌≤◌, length}
use Rattle.signatures.specs.Walked.{Walked}
use Rattle.signatures.specs.Raw.{raw_names}
use Rattle.signatures.proofs.steps.gather_names.Given as goal

abbrev pub invariant-loop-name : goal.invariant-loop-name
invariant-loop-name l =
    Walked (raw_names l.raw 0 (length l.raw - 1)) l.names.items (raw_names l.raw l.name-index (length l.raw - 1 - l.name-index))
    × (length l.names.items ≤ l.name-index)
