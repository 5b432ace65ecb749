-- The dictionary in two slices. The index holds the count, a head for each bucket, the place where each list starts and ends among the
-- numbers, and a link for each list; the other slice holds the numbers of all lists, one list after the other.
use Rattle.std.specs.Prelude.{ℕ, zero, suc, ◌+◌, ◌≤◌, ◌<◌, ◌≡◌, List, [], ◌∷◌, ◌++◌, Bool, true, false, length, get_or, set}
use Rattle.std.proofs.Math.Seq.{slice}
use Rattle.std.specs.Prelude.{Option, Some, None}
use Rattle.std.specs.Prelude.{Result}
use Rattle.signatures.specs.declared.dictionary.NoRoom.{NoRoom}
use Rattle.signatures.specs.Chain.{Chained}
use Rattle.signatures.specs.Book.{max_ids, room, Absent, Told}
use Rattle.signatures.specs.Book as book

abbrev pub index_size : ℕ
index_size = 24578

abbrev pub count_of : List ℕ → ℕ
count_of index = get_or index 0 0

abbrev pub head_of : List ℕ → ℕ → ℕ
head_of index bucket = get_or index (1 + bucket) 0

abbrev pub start_of : List ℕ → ℕ → ℕ
start_of index j = get_or index (8193 + j) 0

abbrev pub end_of : List ℕ → ℕ → ℕ
end_of index j = get_or index (8194 + j) 0

abbrev pub link_of : List ℕ → ℕ → ℕ
link_of index j = get_or index (16386 + j) 0

unfoldable pub entry_of : List ℕ → List ℕ → ℕ → List ℕ
entry_of index numbers j = slice (start_of index j) (end_of index j) numbers

-- The first n values of a function.
unfoldable pub listed : (ℕ → List ℕ) → ℕ → List (List ℕ)
listed f zero = []
listed f (suc n) = listed f n ++ (f n ∷ [])

-- The lists that it holds, in the order of their ids.
unfoldable pub entries_of : List ℕ → List ℕ → List (List ℕ)
entries_of index numbers = listed (entry_of index numbers) (count_of index)

pub record Dictionary (index numbers : List ℕ) : Type 0 where
  pub indexed : length index ≡ index_size
  pub roomy : length numbers ≡ room
  pub few : count_of index ≤ max_ids
  pub first : start_of index 0 ≡ 0
  pub rising : (j : ℕ) → j < count_of index → start_of index j ≤ end_of index j
  pub within : (j : ℕ) → j ≤ count_of index → start_of index j ≤ room
  pub chained : Chained (entry_of index numbers) (head_of index) (link_of index) (count_of index)
  pub different : (i j : ℕ) → i < count_of index → j < count_of index → entry_of index numbers i ≡ entry_of index numbers j → i ≡ j

-- What a search finds: a list's id, or that it is not held.
abbrev pub Found : List ℕ → List (List ℕ) → Option ℕ → Type 0
Found list held (Some i) = book.At held i list
Found list held None = Absent held list

pub record Interns (list index numbers index' numbers' : List ℕ) (answer : Result ℕ NoRoom) : Type 0 where
  pub kept : Dictionary index' numbers'
  pub told : Told list (entries_of index numbers) (entries_of index' numbers') answer

-- An answer tells whether something is so.
pub record Tells (answer : Bool) (Claim : Type 0) : Type 0 where
  pub holds : answer ≡ true → Claim
  pub fails : answer ≡ false → Claim → ⊥

-- The index with one list more, which has the id n, ends at a place and is in a bucket.
abbrev pub entered : (index : List ℕ) (n end bucket : ℕ) → List ℕ
entered index n end bucket =
    set (set (set (set index (8194 + n) end) (16386 + n) (head_of index bucket)) (1 + bucket) (n + 1)) 0 (n + 1)

-- Where the count, the heads and the first start are 0, nothing is held.
pub record Empty (index numbers : List ℕ) : Type 0 where
  pub kept : Dictionary index numbers
  pub none : entries_of index numbers ≡ []
