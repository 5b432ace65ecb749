-- Numbers gathered into a set, one after the other.
use Rattle.std.specs.Prelude.{ℕ, ◌⊎◌}
use mathlib.Core.List.{List, Memᴰ}
use Rattle.signatures.specs.Sets.{Rising}

-- Those so far, as a set, and those of the rest are those of the whole.
pub record Walked (whole so_far rest : List ℕ) : Type 0 where
  pub rises : Rising so_far
  pub to : (u : ℕ) → Memᴰ u so_far → Memᴰ u whole
  pub rest-to : (u : ℕ) → Memᴰ u rest → Memᴰ u whole
  pub from : (u : ℕ) → Memᴰ u whole → Memᴰ u so_far ⊎ Memᴰ u rest
