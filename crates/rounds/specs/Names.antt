-- Names of blocks that change as little as they may from round to round: of the parts of a block the largest keeps the name. Which one
-- keeps it is a choice for speed; what counts is that names tell the same items apart as the rep map does (`named-agree` in Laws/Names).
use Rattle.std.specs.Prelude.{ℕ, ◌<◌, ◌≤◌, ◌≡◌, Bool, false, List, ◌⊎◌, get_or}

-- Each leader of a rep map has a tag of its own, which is the number of a leader.
pub record Tagged (n : ℕ) (reps tags : List ℕ) : Type 0 where
  pub own : (l : ℕ) → l < n → get_or reps l 0 ≡ l → (get_or tags l 0 < n) × (get_or reps (get_or tags l 0) 0 ≡ get_or tags l 0)
  pub apart : (l m : ℕ) → l < n → m < n → get_or reps l 0 ≡ l → get_or reps m 0 ≡ m → get_or tags l 0 ≡ get_or tags m 0 → l ≡ m

-- An item's name is the tag of its lead.
pub record Named (n : ℕ) (reps tags names : List ℕ) : Type 0 where
  pub tagged : Tagged n reps tags
  pub name : (x : ℕ) → x < n → get_or names x 0 ≡ get_or tags (get_or reps x 0) 0

-- An item that is not marked as changed has the name that it had.
abbrev pub Changed : (n : ℕ) → (names names' : List ℕ) → (changed : List Bool) → Type 0
Changed n names names' changed = (x : ℕ) → x < n → get_or changed x false ≡ false → get_or names' x 0 ≡ get_or names x 0

-- ---- Tagging the leaders of the next round

-- What led before leads still.
abbrev pub LeadersKept : (n : ℕ) → (old new : List ℕ) → Type 0
LeadersKept n old new = (l : ℕ) → l < n → get_or old l 0 ≡ l → get_or new l 0 ≡ l

-- New leaders are tagged in rising order. At x these have their tags: those that led before, and those below x.
abbrev pub Reached : (old new : List ℕ) → (x l : ℕ) → Type 0
Reached old new x l = (get_or new l 0 ≡ l) × ((l < x) ⊎ (get_or old l 0 ≡ l))

-- Each of these numbers has a tag of its own, which is one of these numbers.
pub record TaggedIn (n : ℕ) (these : ℕ → Type 0) (tags : List ℕ) : Type 0 where
  pub own : (l : ℕ) → l < n → these l → (get_or tags l 0 < n) × these (get_or tags l 0)
  pub apart : (l m : ℕ) → l < n → m < n → these l → these m → get_or tags l 0 ≡ get_or tags m 0 → l ≡ m

-- ---- Renaming: the first i items have their new names, the rest of the list is as it was

pub record RenamedTo (new tags names₀ names : List ℕ) (changed : List Bool) (i : ℕ) : Type 0 where
  pub done : (x : ℕ) → x < i → get_or names x 0 ≡ get_or tags (get_or new x 0) 0
  pub same : (x : ℕ) → x < i → get_or changed x false ≡ false → get_or names x 0 ≡ get_or names₀ x 0
  pub rest : (x : ℕ) → i ≤ x → get_or names x 0 ≡ get_or names₀ x 0
