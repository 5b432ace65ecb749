-- Sets of numbers as strictly rising lists.
use Rattle.std.specs.Prelude.{ℕ, ◌+◌, ◌-◌, ◌≤◌, ◌<◌, ◌≡◌, cond, eqb, ltb, length, get_or, take}
use Rattle.std.specs.Prelude.{Result, Ok, Err}
use Rattle.std.specs.List.{insert}
use mathlib.Core.List.{List, [], ◌∷◌, Memᴰ}

-- A number put into a rising list, once.
abbrev pub put_in : ℕ → List ℕ → List ℕ
put_in v [] = v ∷ []
put_in v (x ∷ l) = cond (ltb v x) (v ∷ x ∷ l) (cond (eqb v x) (x ∷ l) (x ∷ put_in v l))

-- The set of the numbers of a list: equal exactly where the same numbers occur (`set_same`, `same_set`).
abbrev pub set_of : List ℕ → List ℕ
set_of [] = []
set_of (v ∷ l) = put_in v (set_of l)

abbrev pub Rising : List ℕ → Type 0
Rising [] = 0 < 1
Rising (x ∷ l) = ((u : ℕ) → Memᴰ u l → x < u) × Rising l

-- What a search for a number in a rising list says: it is there; or the place where it is to be put, so that the list is then the set with
-- it.
abbrev pub PutAt : (v : ℕ) → (l : List ℕ) → Result ℕ ℕ → Type 0
PutAt v l (Ok i) = l ≡ put_in v l
PutAt v l (Err i) = (i ≤ length l) × (insert l i v ≡ put_in v l)

-- ---- A set in the first numbers of a slice

-- Where a number goes among the first len of a list: what is from there on is above it, and what is just before is not.
pub record Place (v len : ℕ) (list : List ℕ) (i : ℕ) : Type 0 where
  pub within : i ≤ len
  pub above : (k : ℕ) → i ≤ k → k < len → v < get_or list k 0
  pub below : 0 < i → get_or list (i - 1) 0 ≤ v

-- The numbers from a place to len have moved up by one.
pub record Shifted (from len : ℕ) (list list' : List ℕ) : Type 0 where
  pub low : (k : ℕ) → k < from → get_or list' k 0 ≡ get_or list k 0
  pub high : (k : ℕ) → from < k → k ≤ len → get_or list' k 0 ≡ get_or list (k - 1) 0
  pub size : length list' ≡ length list

pub record Inserted (v len : ℕ) (list list' : List ℕ) (len' : ℕ) : Type 0 where
  pub put : take len' list' ≡ put_in v (take len list)
  pub short : len' ≤ len + 1
  pub size : length list' ≡ length list
