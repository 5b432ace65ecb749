-- The targets of the branches that were met are stored.
use Rattle.std.proofs.Common.{◌≡◌, take, ◌+◌, ◌*◌}
use Rattle.listing.specs.Printed.{targets_of}
use Rattle.listing.specs.Slices.{branches_from}
use Rattle.listing.proofs.steps.Edge.list_targets.Given as goal

abbrev pub invariant-loop-i : goal.invariant-loop-i
invariant-loop-i l = take l.i l.targets ≡ targets_of (branches_from l.self.rows.now (32 * l.self.number + 4) l.i)
