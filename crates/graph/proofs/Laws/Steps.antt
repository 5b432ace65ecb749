-- What follows from the definitions for the default of a list and for words that are cleared: laws that stand for a reader of the
-- definitions; the code needs none of them.
use Rattle.std.specs.Prelude.{ℕ, zero, suc, ◌+◌, ◌*◌, ◌%◌, ◌<◌, ◌≡◌, refl, List, [], ◌∷◌, length, get_or}
use Rattle.std.proofs.Common.{arith, ◌∙◌}
use Rattle.graph.specs.Columns.{most_regions, available}
use Rattle.graph.specs.Writers.{cleared_words}
use Rattle.graph.proofs.Laws.Columns.{store_length}

-- Within a list the default does not matter.
pub default-same : (l : List ℕ) (i d e : ℕ) → i < length l → get_or l i d ≡ get_or l i e
default-same [] i d e h = absurd (omega (arith, h))
default-same (x ∷ l) zero d e h = refl
default-same (x ∷ l) (suc i) d e h = default-same l i d e (omega (arith, h))

-- Words that are cleared leave the slice as long as it was.
pub cleared-length : (graph : List ℕ) (region words : ℕ) → length (cleared_words graph region words) ≡ length graph
unfolding cleared_words
cleared-length graph region zero = refl
cleared-length graph region (suc words) =
    store_length available (cleared_words graph region words) (8 * (region % most_regions) + words) 0 ∙ cleared-length graph region words
