-- Loop: behind the first number stand the shares of the names so far.
use Rattle.std.proofs.Common.{◌≡◌, ◌-◌, ◌++◌, length, take}
use Rattle.signatures.specs.Steps.{mass_of, shares_over}
use Rattle.signatures.specs.Raw.{raw_branches}
use Rattle.signatures.proofs.steps.step_of.Given as goal

abbrev pub invariant-loop-name : goal.invariant-loop-name
invariant-loop-name l =
    l.step.items ≡ l.initial.step.items ++ shares_over (λ m. mass_of m (raw_branches l.edges l.raw 0 (length l.raw - 1))) l.denominator
    (take l.name-index l.name-items)
