-- Numbering what is reached (document 01, "Regions"): "Region 0 is the initial location with all clocks 0. Regions are then taken
-- in number order .. A region met first gets the next number." Over any items with a test of sameness and, for each item, the list
-- of the items that it leads to, in the order in which they are met.
use Rattle.std.specs.Prelude.{ℕ, zero, suc, ◌<◌, ◌≡◌, Bool, false, cond, ◌||◌, ltb, length, get_or}
use mathlib.Core.List.{List, [], ◌∷◌, ◌++◌, Memᴰ}

-- What exploring comes to: all items, or as many as there is room for, where there are more.
pub data Found (X : Type 0) : Type 0 where
  complete : List X → Found X
  full : List X → Found X

-- Goes on with all items, unless there was no room.
abbrev pub and_then : {X : Type 0} → (List X → Found X) → Found X → Found X
and_then go (complete found) = go found
and_then go (full found) = full found

module _ {X : Type 0} (same : X → X → Bool) where
  abbrev pub known : X → List X → Bool
  known x [] = false
  known x (y ∷ l) = same x y || known x l

  -- Items that are met, one after the other: each that is not known gets the next number, while there is room.
  abbrev pub meet : ℕ → List X → List X → Found X
  meet cap found [] = complete found
  meet cap found (x ∷ l) =
      cond (known x found) (meet cap found l)
      (cond (ltb (length found) cap) (meet cap (found ++ (x ∷ [])) l) (full found))

module _ {X : Type 0} (same : X → X → Bool) (next : X → List X) where
  -- The items from number i on are taken in number order. A fuel of more than the room left is enough (`enough`).
  unfoldable pub explore_from : ℕ → ℕ → X → List X → ℕ → Found X
  explore_from zero cap d found i = complete found
  explore_from (suc fuel) cap d found i =
      cond (ltb i (length found))
      (and_then (λ more. explore_from fuel cap d more (suc i)) (meet same cap found (next (get_or found i d))))
      (complete found)

  -- All that is reached from a start, with room for `cap` items.
  unfoldable pub explore : ℕ → X → Found X
  explore cap start = cond (ltb 0 cap) (explore_from (suc cap) cap start (start ∷ []) 0) (full [])

-- What is reached, without a word of exploring.
pub data Reach {X : Type 0} (next : X → List X) (start : X) : X → Type 0 where
  here : Reach next start start
  on : {x y : X} → Reach next start x → Memᴰ y (next x) → Reach next start y

-- ---- Lists of items, and their order

module _ {X : Type 0} where
  -- A list that begins with another.
  pub record Begins (front l : List X) : Type 0 where
    pub rest : List X
    pub split : l ≡ front ++ rest

  -- No two numbers have the same item.
  abbrev pub Different : List X → Type 0
  Different l = (d : X) (i j : ℕ) → i < length l → j < length l → get_or l i d ≡ get_or l j d → i ≡ j

module _ {X : Type 0} (same : X → X → Bool) where
  -- The new ones of a list, in order: those that are neither among the known items nor earlier in the list.
  abbrev pub new_ones : List X → List X → List X
  new_ones found [] = []
  new_ones found (x ∷ l) = cond (known same x found) (new_ones found l) (x ∷ new_ones (found ++ (x ∷ [])) l)

module _ {X : Type 0} (same : X → X → Bool) (next : X → List X) where
  -- What is listed once the items with numbers below i were taken, in number order: the start at first; taking item i adds
  -- the new ones of what it leads to, in order, at the end.
  pub data Taken (start : X) : ℕ → List X → Type 0 where
    at_first : Taken start 0 (start ∷ [])
    and-next : {i : ℕ} {l : List X} → i < length l → Taken start i l
        → Taken start (suc i) (l ++ new_ones same l (next (get_or l i start)))

  -- A longer list that is such, and begins with this one.
  pub record Further (start : X) (found : List X) : Type 0 where
    pub count : ℕ
    pub list : List X
    pub taken : Taken start count list
    pub begins : Begins found list
    pub longer : length found < length list
