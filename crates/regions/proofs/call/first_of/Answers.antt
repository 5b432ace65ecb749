-- `first_of` meets its contract. Assumes nothing.
use Prim.Native.Nat.{ℕ}
use mathlib.Core.Path.{ap}
use mathlib.Core.List.{[], ◌∷◌}
use Rattle.regions.specs.Graph.{first}
use Rattle.regions.proofs.call.first_of.Goals as goal

pub returns : goal.returns
unfolding first
returns c = λ m e. ap (λ (l : ℕ). record { location = l; whole = 0 ∷ 0 ∷ 0 ∷ 0 ∷ []; rank = 0 ∷ 0 ∷ 0 ∷ 0 ∷ [] }) e
