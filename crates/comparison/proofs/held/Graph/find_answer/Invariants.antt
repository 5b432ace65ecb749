-- No edge that was met is an answer.
use Rattle.std.proofs.Common.{◌≤◌, ◌<◌, ◌≡◌, length, false}
use Rattle.comparison.specs.Graphs.{Opened, Coded, ToldBy, answers}
use Rattle.comparison.proofs.Laws.Walks.{Past}
use Rattle.comparison.proofs.held.Graph.find_answer.Given as goal

abbrev pub invariant-loop-f : goal.invariant-loop-f
invariant-loop-f l =
    record {
      few : length l.f-iterator.flags.now ≤ l.self.k;
      none : Opened l.self → l.other.item < l.self.n → Coded l.self l.other.item l.list l.other.codes.now
          → ToldBy l.self l.list l.x l.e l.other.item l.code
          → Past l.self l.other.item l.self.k (λ f. answers l.self l.list l.x l.e l.other.item f ≡ false) l.f-iterator.flags.now;
    }
