-- The edges that were met have an answer, and those that are marked.
use Rattle.std.proofs.Common.{◌≤◌, ◌<◌, ◌≡◌, length, true}
use Rattle.comparison.specs.Graphs.{Opened, Coded, Told, Own, Met, some_answers}
use Rattle.comparison.proofs.Laws.Walks.{Past}
use Rattle.comparison.proofs.held.Graph.edges_match.Given as goal

abbrev pub invariant-loop-e : goal.invariant-loop-e
invariant-loop-e l =
    record {
      few : length l.e-iterator.flags.now ≤ l.self.k;
      answered : Opened l.self → l.one.item < l.self.n → l.other.item < l.self.n
          → Coded l.self l.one.item l.list l.one.codes.now → Coded l.self l.other.item l.list l.other.codes.now
          → Told l.self l.list l.one.item l.other.item → Own l.self l.list l.one.item l.other.item l.own
          → Met l.self l.list l.other.item l.one.item l.initial.met
          → Past l.self l.one.item l.self.k (λ e. some_answers l.self l.list l.one.item e l.other.item ≡ true) l.e-iterator.flags.now
          × Met l.self l.list l.other.item l.one.item l.met;
    }
