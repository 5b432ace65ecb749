-- What a change of names reaches. An item is calm where nothing that it leads to has changed its name: two calm items that were related
-- in this round stay so in the next (`calm-next` in Laws/Changes), and a calm item keeps its key (`key-calm`).
use Rattle.std.specs.Prelude.{ℕ, ◌+◌, ◌*◌, ◌<◌, ◌≡◌, Bool, true, false, ◌⊎◌, get_or}
use mathlib.Core.List.{List, Memᴰ}
use Rattle.comparison.specs.Held.{mask_room, most_items, chain, count_at, mask_at, target_at}
use Rattle.comparison.specs.Held.{is_open}
use Rattle.comparison.specs.declared.held.Graph.{Graph}

-- Branch i of edge e at item x leads to this item.
abbrev pub lands_at : Graph → (x e i : ℕ) → ℕ
lands_at g x e i = target_at g.resets.now g.spots.now g.rows.now x e i

-- The number of the clocks that those of item x become under a mask. Under mask 0 they stay as they are.
abbrev pub class_at : Graph → (x mask : ℕ) → ℕ
class_at g x mask = get_or g.resets.now (mask_room * x + mask) 0

pub record Calm (g : Graph) (changed : List Bool) (x : ℕ) : Type 0 where
  pub delays : (u : ℕ) → Memᴰ u (chain g.n g.nexts.now g.n x) → get_or changed u false ≡ false
  pub lands : (e i : ℕ) → e < g.k → is_open g.flags.now x e ≡ true → i < count_at g.rows.now e
      → get_or changed (lands_at g x e i) false ≡ false

-- Items that are not marked as stirred are calm.
abbrev pub Stirred : Graph → (changed stirred : List Bool) → Type 0
Stirred g changed stirred = (x : ℕ) → x < g.n → get_or stirred x false ≡ false → Calm g changed x

-- Items of one block that are not stirred are related in the next round: q is this round, d the next.
abbrev pub Settled : (d q : ℕ → ℕ → Bool) → (n : ℕ) → (stirred : List Bool) → Type 0
Settled d q n stirred =
    (x y : ℕ) → x < n → y < n → get_or stirred x false ≡ false → get_or stirred y false ≡ false → q x y ≡ true → d x y ≡ true

-- ---- How calm items are found

-- Of a branch: it leads to an item, its mask is one of four clocks, and the clocks of the target are those that the item's become under
-- the mask, by a number that there is a mark for. The code finds out once whether all branches are so: then changes are looked for by
-- clocks first, and along edges only for items that marked clocks touch; else every item counts as stirred.
pub record BranchClassed (g : Graph) (x e i : ℕ) : Type 0 where
  pub item : lands_at g x e i < g.n
  pub mask : mask_at g.rows.now e i < mask_room
  pub class : get_or g.resets.now (mask_room * lands_at g x e i) 0 ≡ class_at g x (mask_at g.rows.now e i)
  pub marked : class_at g x (mask_at g.rows.now e i) < most_items

-- All branches of an edge are so; all branches of the edges that are available at an item; those of all items.
abbrev pub EdgeClassed : Graph → (x e : ℕ) → Type 0
EdgeClassed g x e = (i : ℕ) → i < count_at g.rows.now e → BranchClassed g x e i

abbrev pub ItemClassed : Graph → (x : ℕ) → Type 0
ItemClassed g x = (e : ℕ) → e < g.k → is_open g.flags.now x e ≡ true → EdgeClassed g x e

abbrev pub Classed : Graph → Type 0
Classed g = (x : ℕ) → x < g.n → ItemClassed g x

-- An item has not changed, and what follows it by delay is marked as still, if anything follows.
abbrev pub RestsByDelay : Graph → (changed still : List Bool) → (x : ℕ) → Type 0
RestsByDelay g changed still x =
    (get_or changed x false ≡ false) × (get_or g.nexts.now x 0 < g.n → get_or still (get_or g.nexts.now x 0) false ≡ true)

-- Each item that is marked as still rests so.
abbrev pub StillAt : Graph → (changed still : List Bool) → (x : ℕ) → Type 0
StillAt g changed still x = get_or still x false ≡ true → RestsByDelay g changed still x

abbrev pub Still : Graph → (changed still : List Bool) → Type 0
Still g changed still = (x : ℕ) → x < g.n → StillAt g changed still x

-- Flags that were set stay so.
abbrev pub Kept : (old new : List Bool) → Type 0
Kept old new = (i : ℕ) → get_or old i false ≡ true → get_or new i false ≡ true

-- The clocks of each item that has changed are marked.
abbrev pub MarkedAt : Graph → (changed marks : List Bool) → (x : ℕ) → Type 0
MarkedAt g changed marks x =
    get_or changed x false ≡ true → get_or g.resets.now (mask_room * x) 0 < most_items
    → get_or marks (get_or g.resets.now (mask_room * x) 0) false ≡ true

abbrev pub Marked : Graph → (changed marks : List Bool) → Type 0
Marked g changed marks = (x : ℕ) → x < g.n → MarkedAt g changed marks x

-- The masks of all branches are flagged as used: of one branch, of an edge, of all.
abbrev pub UsedAt : Graph → (used : List Bool) → (e i : ℕ) → Type 0
UsedAt g used e i = mask_at g.rows.now e i < mask_room → get_or used (mask_at g.rows.now e i) false ≡ true

abbrev pub UsedBy : Graph → (used : List Bool) → (e : ℕ) → Type 0
UsedBy g used e = (i : ℕ) → i < count_at g.rows.now e → UsedAt g used e i

abbrev pub Used : Graph → (used : List Bool) → Type 0
Used g used = (e : ℕ) → e < g.k → UsedBy g used e

-- No clocks that those of x become under a mask in use are marked.
abbrev pub UntouchedBy : Graph → (used marks : List Bool) → (x mask : ℕ) → Type 0
UntouchedBy g used marks x mask = get_or used mask false ≡ true → get_or marks (class_at g x mask) false ≡ false

abbrev pub Untouched : Graph → (used marks : List Bool) → (x : ℕ) → Type 0
Untouched g used marks x = (mask : ℕ) → mask < mask_room → UntouchedBy g used marks x mask

-- Edge e at x leads to nothing that has changed; all edges that are available at x do so.
abbrev pub EdgeCalm : Graph → (changed : List Bool) → (x e : ℕ) → Type 0
EdgeCalm g changed x e = (i : ℕ) → i < count_at g.rows.now e → get_or changed (lands_at g x e i) false ≡ false

abbrev pub EdgesCalm : Graph → (changed : List Bool) → (x : ℕ) → Type 0
EdgesCalm g changed x = (e : ℕ) → e < g.k → is_open g.flags.now x e ≡ true → EdgeCalm g changed x e

-- An item that is not stirred is still; and it is untouched, or its available edges lead to nothing that has changed.
abbrev pub RestsAt : Graph → (changed used still marks : List Bool) → (x : ℕ) → (stirs : Bool) → Type 0
RestsAt g changed used still marks x stirs =
    stirs ≡ false → (get_or still x false ≡ true) × (Untouched g used marks x ⊎ EdgesCalm g changed x)

abbrev pub Rests : Graph → (changed used still marks stirred : List Bool) → Type 0
Rests g changed used still marks stirred = (x : ℕ) → x < g.n → RestsAt g changed used still marks x (get_or stirred x false)

-- No item with the clocks that those of x become under the mask of a branch has changed, where there is a mark for those clocks.
abbrev pub Unreached : Graph → (changed : List Bool) → (x : ℕ) → Type 0
Unreached g changed x =
    (e i t : ℕ) → e < g.k → i < count_at g.rows.now e → mask_at g.rows.now e i < mask_room → t < g.n
    → get_or g.resets.now (mask_room * t) 0 ≡ class_at g x (mask_at g.rows.now e i)
    → get_or g.resets.now (mask_room * t) 0 < most_items → get_or changed t false ≡ false

-- So an item that is not stirred is still; and it is unreached, or its available edges lead to nothing that has changed.
abbrev pub Spared : Graph → (changed still stirred : List Bool) → Type 0
Spared g changed still stirred =
    (x : ℕ) → x < g.n → get_or stirred x false ≡ false → (get_or still x false ≡ true) × (Unreached g changed x ⊎ EdgesCalm g changed x)
