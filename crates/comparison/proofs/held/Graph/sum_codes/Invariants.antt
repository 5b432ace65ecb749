-- The sum so far and that over the edges that are left make up all.
use Rattle.std.proofs.Common.{◌+◌, ◌*◌, ◌≤◌, ◌<◌, ◌≡◌, List, ℕ, length}
use Rattle.comparison.specs.Keys.{sum_below}
use Rattle.comparison.specs.Graphs.{Opened, Coded}
use Rattle.comparison.specs.Laws.KeyLoops.{added_by}
use Rattle.comparison.proofs.Laws.Walks.{Past}
use Rattle.comparison.proofs.held.Graph.sum_codes.Given as goal

abbrev pub invariant-loop-e : goal.invariant-loop-e
invariant-loop-e l =
    record {
      few : length l.e-iterator.flags.now ≤ l.self.k;
      small : l.total + 1099511627688 * length l.e-iterator.flags.now ≤ 140737488344064;
      met : Opened l.self → l.x < l.self.n → Past l.self l.x l.self.k (λ _. Unit {0}) l.e-iterator.flags.now;
      sum : (list : List ℕ) → Opened l.self → l.x < l.self.n → Coded l.self l.x list l.codes
          → sum_below l.self.k (added_by list l.self.flags.now l.self.resets.now l.self.spots.now l.self.rows.now l.x)
          ≡ l.total
          + sum_below (length l.e-iterator.flags.now)
          (added_by list l.self.flags.now l.self.resets.now l.self.spots.now l.self.rows.now l.x);
    }
