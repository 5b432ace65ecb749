-- What a dictionary holds, seen from outside: a list of different lists, and how it grows.
use Rattle.std.specs.Prelude.{ℕ, ◌+◌, ◌≤◌, ◌<◌, ◌≡◌, List, [], ◌∷◌, ◌++◌, ◌⊎◌, length, get_or, Result, Ok, Err}
use Rattle.signatures.specs.declared.dictionary.NoRoom.{NoRoom}

-- How many lists and how many numbers there is room for.
abbrev pub max_ids : ℕ
max_ids = 8192

abbrev pub room : ℕ
room = 36864

-- List s has the id i.
abbrev pub At : List (List ℕ) → ℕ → List ℕ → Type 0
At held i s = (i < length held) × (get_or held i [] ≡ s)

abbrev pub Absent : List (List ℕ) → List ℕ → Type 0
Absent held s = (i : ℕ) → At held i s → ⊥

abbrev pub Different : List (List ℕ) → Type 0
Different held = (i j : ℕ) (s : List ℕ) → At held i s → At held j s → i ≡ j

-- The lists are different, and no more than there are ids.
pub record Sound (held : List (List ℕ)) : Type 0 where
  pub different : Different held
  pub few : length held ≤ max_ids

-- The numbers of all lists.
unfoldable pub numbers_in : List (List ℕ) → ℕ
numbers_in [] = 0
numbers_in (s ∷ held) = length s + numbers_in held

abbrev pub Fits : List (List ℕ) → List ℕ → Type 0
Fits held s = (length held < max_ids) × (numbers_in held + length s ≤ room)

-- There is no room.
abbrev pub full : Result ℕ NoRoom
full = Err (record {})

-- What `intern` answers for a list: its id, where it was there or is added at the end; or that there is no room for it.
abbrev pub Told : List ℕ → List (List ℕ) → List (List ℕ) → Result ℕ NoRoom → Type 0
Told s held held' (Ok i) = At held' i s × ((held' ≡ held) ⊎ ((held' ≡ held ++ (s ∷ [])) × Absent held s × Fits held s))
Told s held held' (Err _) = (held' ≡ held) × Absent held s × (Fits held s → ⊥)

-- A list is shut out: it is not held, and never will be.
pub record Shut (held : List (List ℕ)) (s : List ℕ) : Type 0 where
  pub absent : Absent held s
  pub large : Fits held s → ⊥

-- What later contents keep: ids stay, and what is shut out stays so.
pub record Grows (held held' : List (List ℕ)) : Type 0 where
  pub keeps : (i : ℕ) (s : List ℕ) → At held i s → At held' i s
  pub shuts : (s : List ℕ) → Shut held s → Shut held' s
