-- The next available edge.
use Rattle.std.specs.Prelude.{ℕ, ◌≤◌, ◌<◌, ◌≡◌, true, false, List}
use Rattle.graph.specs.Readers.{is_available}

-- The first rank from one on, below a count, whose edge is available, or the count.
pub record NextAvailable (graph : List ℕ) (x from count rank : ℕ) : Type 0 where
  pub after : from ≤ rank
  pub within : rank ≤ count
  pub none : (j : ℕ) → from ≤ j → j < rank → is_available graph x j ≡ false
  pub here : rank < count → is_available graph x rank ≡ true
