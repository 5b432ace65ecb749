-- Loop: there are no more regions than are listed in a pass.
use Rattle.std.proofs.Common.{◌≤◌, length}
use Rattle.signcheck.proofs.naming.Graph.run_naming.Given as goal

abbrev pub invariant-loop : goal.invariant-loop
invariant-loop g l = length l.lowest ≤ 4096
