-- What was printed, where the output didn't fail. No contract can say what is printed; these say how many bytes are counted.
use Rattle.std.specs.Prelude.{ℕ, ◌<◌, ◌≡◌, List, [], length}
use Rattle.text.specs.Text.{up_to}

-- The first parts of a listing have so many bytes, and none of them is empty.
pub record Begun (text : ℕ → List ℕ) (parts bytes : ℕ) : Type 0 where
  pub bytes-are : bytes ≡ length (up_to text parts)
  pub some : (part : ℕ) → part < parts → 0 < length (text part)

-- All parts of a listing have so many bytes: those before the first that is empty, which is how its end is told.
pub record Printed (text : ℕ → List ℕ) (bytes : ℕ) : Type 0 where
  pub parts : ℕ
  pub begun : Begun text parts bytes
  pub over : text parts ≡ []
