-- The loop's invariant: storing the places from here on comes to what storing all places comes to, and the list keeps its length.
use mathlib.Core.Path.{◌≡◌}
use lib.ListN.{length}
use Rattle.table.proofs.Laws.Edges.{Comes}
use Rattle.table.proofs.edges.list_places.Given as goal

abbrev pub invariant-loop-i : goal.invariant-loop-i
invariant-loop-i l =
    Comes l.table l.fn.shape.edges l.initial.at (λ p. p) l.initial.places l.at l.i l.places × (length l.places ≡ length l.initial.places)
