-- The marks so far and those of the items that are left make up all.
use Rattle.std.proofs.Common.{ℕ, ◌<◌, ◌≡◌, cond, eqb, get_or, length}
use Rattle.bisimulation.specs.Finite.{any_of}
use Rattle.comparison.specs.Graphs.{reaches_number}
use Rattle.comparison.proofs.Laws.Walks.{left-of}
use Rattle.comparison.proofs.held.Graph.mark_delays.Given as goal

abbrev pub invariant-loop-item : goal.invariant-loop-item
invariant-loop-item l =
    record {
      room : length l.marks ≡ length l.initial.marks;
      rest : (v : ℕ) → v < length l.initial.marks
          → cond (any_of (λ u. eqb v (get_or l.list u 0)) (left-of l.item-iterator)) 1 (get_or l.marks v 0)
          ≡ cond (reaches_number l.self l.list v l.y) 1 (get_or l.initial.marks v 0);
    }
