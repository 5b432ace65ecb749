-- `link_edges` meets its contract. The loop's invariant: the edges from where the loop has come to are linked. Assumes nothing.
use mathlib.Core.Path.{◌≡◌}
use lib.ListN.{length, replicate}
use Rattle.table.specs.Model.{Model}
use Rattle.regions.specs.Edges.{ListsAll, LinkedFrom}
use Rattle.regions.proofs.edges.link_edges.Given as goal

abbrev pub invariant-loop-e : goal.invariant-loop-e
invariant-loop-e l = (length l.starts ≡ length l.initial.starts) × (length l.follows ≡ length l.initial.follows)
    × ((m : Model) → ListsAll m l.edges → l.initial.starts ≡ replicate 256 0 → length l.initial.follows ≡ 128
    → LinkedFrom m l.e l.starts l.follows)
