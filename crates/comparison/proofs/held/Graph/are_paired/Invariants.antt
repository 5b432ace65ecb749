-- The edges that were met on each side have an answer on the other.
use Rattle.std.proofs.Common.{◌≤◌, ◌<◌, ◌≡◌, length, true}
use Rattle.comparison.specs.Graphs.{Opened, some_answers}
use Rattle.comparison.proofs.Laws.Walks.{Past}
use Rattle.comparison.proofs.held.Graph.are_paired.Given as goal

abbrev pub invariant-loop-e : goal.invariant-loop-e
invariant-loop-e l =
    record {
      few : length l.e-iterator.flags.now ≤ l.self.k;
      few-others : length l.others.flags.now ≤ l.self.k;
      both : Opened l.self → l.x < l.self.n → l.y < l.self.n
          → Past l.self l.x l.self.k (λ e. some_answers l.self l.list l.x e l.y ≡ true) l.e-iterator.flags.now
          × Past l.self l.y l.self.k (λ f. some_answers l.self l.list l.y f l.x ≡ true) l.others.flags.now;
    }
