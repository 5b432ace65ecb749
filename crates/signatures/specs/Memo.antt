-- A memo of steps. A cell holds the raw form of a step and the id of its list, in eleven numbers: the size of the raw form plus one (0 if
-- the cell is empty), the id, and the raw form.
use Rattle.std.specs.Prelude.{ℕ, ◌+◌, ◌-◌, ◌*◌, ◌≤◌, ◌<◌, ◌≡◌, List, length, get_or, set, take, drop}
use Rattle.std.proofs.Math.Seq.{paste}
use Rattle.std.specs.Prelude.{Result}
use Rattle.signatures.specs.declared.dictionary.NoRoom.{NoRoom}
use Rattle.signatures.specs.Book.{At}
use Rattle.signatures.specs.Dictionary.{Interns, entries_of}

abbrev pub cells : ℕ
cells = 4096

abbrev pub memo_size : ℕ
memo_size = 45056

-- The longest raw form.
abbrev pub max_raw : ℕ
max_raw = 9

-- The raw form in a cell.
unfoldable pub raw_of : List ℕ → ℕ → List ℕ
raw_of memo c = take (get_or memo (11 * c) 0 - 1) (drop (11 * c + 2) memo)

abbrev pub id_of : List ℕ → ℕ → ℕ
id_of memo c = get_or memo (11 * c + 1) 0

-- What the memo holds is right.
pub record Noted (meaning : List ℕ → List ℕ) (held : List (List ℕ)) (memo : List ℕ) : Type 0 where
  pub size : length memo ≡ memo_size
  pub short : (c : ℕ) → c < cells → get_or memo (11 * c) 0 ≤ max_raw + 1
  pub right : (c : ℕ) → c < cells → 0 < get_or memo (11 * c) 0 → At held (id_of memo c) (meaning (raw_of memo c))

-- A cell holds this raw form.
pub record Holds (memo : List ℕ) (c : ℕ) (raw : List ℕ) : Type 0 where
  pub some : 0 < get_or memo (11 * c) 0
  pub is : raw_of memo c ≡ raw

-- The memo with a cell written: what the code stores.
abbrev pub written : List ℕ → ℕ → List ℕ → ℕ → List ℕ
written memo c raw id = paste (set (set memo (11 * c) (length raw + 1)) (11 * c + 1) id) (11 * c + 2) raw (length raw)

-- The step has an id, or is refused, and the memo stays right. (Of the code this is said by `Told`, and by `Ready` of Pass.)
pub record Notes (meaning : List ℕ → List ℕ) (raw index numbers index' numbers' memo' : List ℕ) (answer : Result ℕ NoRoom) : Type 0 where
  pub interns : Interns (meaning raw) index numbers index' numbers' answer
  pub noted : Noted meaning (entries_of index' numbers') memo'
