-- The codes of the edges that were met are kept, and what stands past the edges stays.
use Rattle.std.proofs.Common.{ℕ, ◌≤◌, ◌<◌, ◌≡◌, length, get_or}
use Rattle.comparison.specs.Held.{most_edges}
use Rattle.comparison.specs.Graphs.{Opened, code_of}
use Rattle.comparison.proofs.Laws.Walks.{Past}
use Rattle.comparison.proofs.held.Graph.list_codes.Given as goal

abbrev pub invariant-loop-e : goal.invariant-loop-e
invariant-loop-e l =
    record {
      few : length l.e-iterator.flags.now ≤ l.self.k;
      room : length l.codes ≡ length l.initial.codes;
      kept : Opened l.self → l.x < l.self.n → most_edges ≤ length l.initial.codes
          → Past l.self l.x l.self.k (λ f. get_or l.codes f 0 ≡ code_of l.self l.list l.x f) l.e-iterator.flags.now;
      stays : (i : ℕ) → l.self.k ≤ i → get_or l.codes i 0 ≡ get_or l.initial.codes i 0;
    }
