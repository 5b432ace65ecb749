-- The region is not among the entries looked at.
use Rattle.std.proofs.Common.{◌+◌, ◌≤◌, ◌≡◌, drop}
use Rattle.regions.specs.Entries.{max_entries}
use Rattle.regions.specs.Explore.{listed}
use Rattle.regions.specs.View.{number_in}
use Rattle.states.proofs.states.number_of.Given as goal

abbrev pub invariant-loop-j : goal.invariant-loop-j
invariant-loop-j l =
    l.n ≤ max_entries → number_in (listed l.entries l.n) l.region ≡ l.j + number_in (drop l.j (listed l.entries l.n)) l.region
