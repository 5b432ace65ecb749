-- The sum so far is that of the branches so far.
use Rattle.std.proofs.Common.{◌*◌, ◌≤◌, ◌≡◌}
use Rattle.comparison.specs.Keys.{sum_below}
use Rattle.comparison.specs.Graphs.{landed_by}
use Rattle.comparison.proofs.shares.Landing.landed.Given as goal

abbrev pub invariant-loop-i : goal.invariant-loop-i
invariant-loop-i l =
    record {
      small : l.total ≤ 2147483628 * l.i;
      sum : l.total ≡ sum_below l.i (landed_by l.self.graph l.self.list.now l.self.x l.self.e);
    }
