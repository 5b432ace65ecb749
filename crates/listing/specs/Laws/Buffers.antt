-- A text in a buffer: what is said where it fits and where it does not, and what the buffer then holds.
use Rattle.std.specs.Prelude.{ℕ, ◌≤◌, ◌<◌, ◌≡◌, List, [], ◌∷◌, ◌++◌, leb, length, drop}
use Rattle.std.proofs.Common.{arith, le-leb}
use Rattle.std.proofs.lemmas.Bool.{lt-leb}
use Rattle.partition.specs.Passed.{cond_yes, cond_no}
use Rattle.listing.specs.Parts.{fitted, buffer_after}
use Rattle.listing.specs.declared.parts.Part.TheVariants as P

-- ---- What is said, and what the buffer then holds

pub fitted-written : (text : List ℕ) (room : ℕ) → 0 < length text → length text ≤ room → fitted text room ≡ P.Written (length text)
fitted-written [] room p q = absurd (omega (arith, p))
fitted-written (c ∷ l) room p q = cond_yes (leb (length (c ∷ l)) room) _ _ (le-leb (length (c ∷ l)) room q)

pub fitted_short : (text : List ℕ) (room : ℕ) → room < length text → fitted text room ≡ P.Short (length text)
fitted_short [] room q = absurd (omega (arith, q))
fitted_short (c ∷ l) room q = cond_no (leb (length (c ∷ l)) room) _ _ (lt-leb (length (c ∷ l)) room q)

pub after-written : (text buffer : List ℕ) → length text ≤ length buffer
    → buffer_after text buffer ≡ text ++ drop (length text) buffer
after-written text buffer h = cond_yes (leb (length text) (length buffer)) _ _ (le-leb (length text) (length buffer) h)

pub after-short : (text buffer : List ℕ) → length buffer < length text → buffer_after text buffer ≡ buffer
after-short text buffer h = cond_no (leb (length text) (length buffer)) _ _ (lt-leb (length text) (length buffer) h)
