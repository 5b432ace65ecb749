-- The weights of the branches that were met are summed.
use Rattle.std.proofs.Common.{◌≡◌, ◌≤◌, ◌+◌, ◌*◌}
use Rattle.listing.specs.Printed.{weight_into}
use Rattle.listing.specs.Slices.{branches_from}
use Rattle.listing.proofs.steps.Edge.weight_into.Given as goal

abbrev pub invariant-loop-i : goal.invariant-loop-i
invariant-loop-i l =
    (l.total ≡ weight_into l.blocks.list.now l.c (branches_from l.self.rows.now (32 * l.self.number + 4) l.i))
    × (l.total ≤ 65535 * l.i)
