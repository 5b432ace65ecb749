-- `bounds_of` meets its contract. Assumes nothing.
use Prim.Native.Nat.{ℕ, max}
use mathlib.Core.Path.{◌∙◌, ap₂}
use mathlib.Core.List.{[], ◌∷◌}
use Rattle.table.proofs.Laws.Reads.{counts-read}
use Rattle.regions.specs.Graph.{bounds_of, largest_constant}
use Rattle.regions.proofs.bounds.bounds_of.Goals as goal

pub returns : goal.returns
unfolding bounds_of largest_constant
returns c =
    let args = c.args in
    λ m reads placed. ap₂ (λ (n b : ℕ). record { count = n; bound = b ∷ b ∷ b ∷ b ∷ [] })
    (counts-read args.bytes.now args.shape m reads).clocks
    (c.max-most.ensures ∙ ap₂ max (c.largest_invariant.ensures m reads)
    (c.largest_edge.ensures m reads.answer (counts-read args.bytes.now args.shape m reads).edges placed))
