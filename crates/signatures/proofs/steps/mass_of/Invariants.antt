-- Loop: the sum and the mass of the branches that are left are the mass of all.
use Rattle.std.proofs.Common.{◌≡◌, ◌+◌, ◌-◌, ◌*◌, ◌≤◌, length}
use Rattle.signatures.specs.Steps.{mass_of}
use Rattle.signatures.specs.Raw.{raw_branches}
use Rattle.signatures.proofs.steps.mass_of.Given as goal

abbrev pub invariant-loop-branch : goal.invariant-loop-branch
invariant-loop-branch l =
    (l.mass + mass_of l.name (raw_branches l.edges l.raw l.branch (length l.raw - 1 - l.branch))
    ≡ mass_of l.name (raw_branches l.edges l.raw 0 (length l.raw - 1))) × (l.mass ≤ 1073741823 * l.branch)
