-- The weight so far and that of the branches that are left make up the whole.
use Rattle.std.proofs.Common.{ℕ, ◌+◌, ◌*◌, ◌≤◌, ◌≡◌, get_or}
use Rattle.comparison.specs.Graphs.{weighed}
use Rattle.comparison.specs.Shares.{weighed_from}
use Rattle.comparison.proofs.shares.Landing.weigh.Given as goal

abbrev pub invariant-loop-i : goal.invariant-loop-i
invariant-loop-i l =
    record {
      small : l.total ≤ 65535 * l.i;
      rest : (c : ℕ) → l.v ≡ get_or l.self.list.now c 0
          → l.total + weighed_from l.self.graph l.self.list.now c l.self.x l.self.e l.i
          ≡ weighed l.self.graph l.self.list.now c l.self.x l.self.e;
    }
