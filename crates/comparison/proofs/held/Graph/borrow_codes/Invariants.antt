-- The codes of the edges that were met are kept, and each marked edge is its own pair.
use Rattle.std.proofs.Common.{◌≤◌, ◌<◌, ◌≡◌, length, get_or}
use Rattle.comparison.specs.Held.{most_edges}
use Rattle.comparison.specs.Graphs.{Opened, Coded, Told, Own, code_of}
use Rattle.comparison.proofs.Laws.Walks.{Past}
use Rattle.comparison.proofs.held.Graph.borrow_codes.Given as goal

abbrev pub invariant-loop-e : goal.invariant-loop-e
invariant-loop-e l =
    record {
      few : length l.e-iterator.flags.now ≤ l.self.k;
      room : length l.codes ≡ length l.initial.codes;
      kept : Opened l.self → l.one.item < l.self.n → l.y < l.self.n → most_edges ≤ length l.initial.codes
          → Coded l.self l.one.item l.list l.one.codes.now → Told l.self l.list l.y l.one.item
          → Own l.self l.list l.one.item l.y l.initial.own
          → Past l.self l.y l.self.k (λ f. get_or l.codes f 0 ≡ code_of l.self l.list l.y f) l.e-iterator.flags.now
          × Own l.self l.list l.one.item l.y l.own;
    }
