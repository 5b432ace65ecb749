-- How the code puts text together: bytes go one after the other to the front of a text, as many as it has room for.
use Rattle.std.specs.Prelude.{ℕ, ◌≤◌, min, ◌≡◌, List, ◌++◌, length, take, drop}
use Rattle.text.specs.declared.writing.Writer.{Writer}

-- The first `at` bytes of a text are what was put there, as far as there is room.
pub record Holds (text : List ℕ) (at : ℕ) (content : List ℕ) : Type 0 where
  pub count : at ≡ min (length content) (length text)
  pub is : take at text ≡ take (length text) content

-- Some bytes were put after the others: the text went from one to the other, and the place from `at` to `at'`. From there on the text is
-- as it was, and all of it where `at` is at its end or past it. (What the text then is, `adds-is` of Laws says in one equation.)
pub record Adds (text : List ℕ) (at : ℕ) (text' : List ℕ) (at' : ℕ) (bytes : List ℕ) : Type 0 where
  pub as_long : length text' ≡ length text
  pub holds : (content : List ℕ) → Holds text at content → Holds text' at' (content ++ bytes)
  pub onward : at ≤ at'
  pub rest : drop at' text' ≡ drop at' text
  pub full : length text ≤ at → (text' ≡ text) × (at' ≡ at)

-- `Adds`, of a writer's text and its place.
unfoldable pub Added : (old new : Writer) (bytes : List ℕ) → Type 0
Added old new bytes = Adds old.text.now old.at new.text.now new.at bytes

-- A writer put some bytes after the others, into the same slice.
pub record Puts (old new : Writer) (bytes : List ℕ) : Type 0 where
  pub same_reference : new.text.ghost_name ≡ old.text.ghost_name
  pub added : Added old new bytes
