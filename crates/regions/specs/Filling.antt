-- How the slices of the graph are filled: what is in place after some steps. A loop stores one number after the other, or one block
-- of numbers after the other. Sets of clocks stand in a list of entries of their own, as regions at location 0; the number of a set
-- is that of its entry.
use Rattle.std.specs.Prelude.{ℕ, ◌+◌, ◌*◌, ◌≤◌, ◌<◌, ◌≡◌, Bool, true, false, List, length, get_or, set}
use Rattle.table.specs.Model.{Model, Edge}
use Rattle.table.specs.Access.{no_branch}
use Rattle.table.specs.Reads.{edge_of}
use Rattle.clocks.specs.Packed.{after_reset}
use Rattle.regions.specs.Entries.{region_at}
use Rattle.clocks.specs.declared.region.Bounds.{Bounds}
use Rattle.clocks.specs.declared.region.Region.{Region}

-- ---- Numbers one after the other

-- The first k numbers from a place on are such.
abbrev pub Run : (base k : ℕ) → (ℕ → ℕ → Type 0) → List ℕ → Type 0
Run base k P l = (e : ℕ) → e < k → P e (get_or l (base + e) 0)

-- The first k numbers of each of the first n blocks are such.
abbrev pub Blocks : (width k n : ℕ) → (ℕ → ℕ → ℕ → Type 0) → List ℕ → Type 0
Blocks width k n P l = (x e : ℕ) → x < n → e < k → P x e (get_or l (width * x + e) 0)

-- The numbers before a place stay, and the length.
pub record Before (at : ℕ) (l l' : List ℕ) : Type 0 where
  pub as_long : length l' ≡ length l
  pub below : (k : ℕ) → k < at → get_or l' k 0 ≡ get_or l k 0

-- ---- Rows

-- Three numbers are stored from a place on.
abbrev pub three_set : List ℕ → (at a b c : ℕ) → List ℕ
three_set l at a b c = set (set (set l at a) (at + 1) b) (at + 2) c

-- The numbers of an edge fit in a row.
pub record Fitting (e : Edge) : Type 0 where
  pub action : e.action < 65536
  pub whole : e.denominator < 65536
  pub few : length e.branches ≤ 8
  pub weight : (i : ℕ) → i < length e.branches → (get_or e.branches i no_branch).weight < 65536
  pub mask : (i : ℕ) → i < length e.branches → (get_or e.branches i no_branch).mask < 16
  pub spot : (i : ℕ) → i < length e.branches → (get_or e.branches i no_branch).target < 64

-- The row of an edge, with its first i branches.
pub record RowTo (e : Edge) (at i : ℕ) (rows : List ℕ) : Type 0 where
  pub action : get_or rows at 0 ≡ e.action
  pub whole : get_or rows (at + 1) 0 ≡ e.denominator
  pub count : get_or rows (at + 2) 0 ≡ length e.branches
  pub weight : (j : ℕ) → j < i → get_or rows (at + 3 + 3 * j) 0 ≡ (get_or e.branches j no_branch).weight
  pub mask : (j : ℕ) → j < i → get_or rows (at + 4 + 3 * j) 0 ≡ (get_or e.branches j no_branch).mask
  pub spot : (j : ℕ) → j < i → get_or rows (at + 5 + 3 * j) 0 ≡ (get_or e.branches j no_branch).target

-- The rows of the first k edges.
abbrev pub RowsTo : Model → ℕ → List ℕ → Type 0
RowsTo m k rows = (e : ℕ) → e < k → RowTo (edge_of m e) (32 * e) (length (edge_of m e).branches) rows

-- ---- Masks in use

-- A mask is in use with the first k rows: 0, or the mask of a branch of one of them.
pub data InUse (rows : List ℕ) (k : ℕ) : ℕ → Type 0 where
  no-reset : InUse rows k 0
  by-branch : (e i : ℕ) → e < k → i < get_or rows (32 * e + 2) 0 → InUse rows k (get_or rows (32 * e + 4 + 3 * i) 0)

-- Flags that are set stay set, and the length.
pub record Still (l l' : List Bool) : Type 0 where
  pub as_long : length l' ≡ length l
  pub kept : (k : ℕ) → get_or l k false ≡ true → get_or l' k false ≡ true

-- The masks of the first i branches of the row at a place are flagged, where there is room for them.
abbrev pub RowFlagged : (rows : List ℕ) → (at i : ℕ) → (used : List Bool) → Type 0
RowFlagged rows at i used =
    (j : ℕ) → j < i → get_or rows (at + 4 + 3 * j) 0 < length used → get_or used (get_or rows (at + 4 + 3 * j) 0) false ≡ true

-- The masks in use are flagged.
pub record Flagged (rows : List ℕ) (k : ℕ) (used : List Bool) : Type 0 where
  pub as_long : length used ≡ 16
  pub first : get_or used 0 false ≡ true
  pub row : (e : ℕ) → e < k → RowFlagged rows (32 * e) (get_or rows (32 * e + 2) 0) used

-- ---- Sets of clocks

-- The clocks of a region, at location 0.
abbrev pub bare : Region → Region
bare r = record { location = 0; whole = r.whole; rank = r.rank }

-- The first n entries are different.
abbrev pub Apart : List ℕ → ℕ → Type 0
Apart es n = (i j : ℕ) → i < n → j < n → region_at es i ≡ region_at es j → i ≡ j

-- And they are at locations below 64.
pub record Distinct (es : List ℕ) (n : ℕ) : Type 0 where
  pub apart : Apart es n
  pub low : (x : ℕ) → x < n → (region_at es x).location < 64

-- A region is in a list of n entries, or was put there: it is entry `at`, and now there are `count`.
pub record Classed (q : Region) (es : List ℕ) (n : ℕ) (es' : List ℕ) (count at : ℕ) : Type 0 where
  pub inside : at < count
  pub is : region_at es' at ≡ q
  pub more : n ≤ count
  pub few : count ≤ n + 1
  pub before : (j : ℕ) → j < n → region_at es' j ≡ region_at es j
  pub apart : Apart es n → Apart es' count

-- The first x regions have their sets of clocks in the list, and stand in `spots` by set and location.
pub record Grouped (es : List ℕ) (n x : ℕ) (sets : List ℕ) (count : ℕ) (spots : List ℕ) : Type 0 where
  pub few : count ≤ x
  pub apart : Apart sets count
  pub covered : (y : ℕ) → y < x → (j : ℕ) × (j < count) × (region_at sets j ≡ bare (region_at es y))
  pub spotted : Distinct es n → (y j : ℕ) → y < x → j < count → region_at sets j ≡ bare (region_at es y)
      → get_or spots (64 * j + (region_at es y).location) 0 ≡ y

-- A number is that of the clocks of a region after a reset, where they are in the list.
abbrev pub Numbers : Bounds → Region → (sets : List ℕ) → (count mask v : ℕ) → Type 0
Numbers bounds r sets count mask v =
    (j : ℕ) → j < count → region_at sets j ≡ bare (after_reset bounds r mask)
    → (v < count) × (region_at sets v ≡ bare (after_reset bounds r mask))

-- The region with the clocks of region x after a reset by a mask in use is found in two steps.
abbrev pub Targeted : List ℕ → ℕ → Bounds → (rows : List ℕ) → (k : ℕ) → (resets spots : List ℕ) → Type 0
Targeted es n bounds rows k resets spots =
    (x mask t : ℕ) → x < n → mask < 16 → InUse rows k mask → t < n
    → bare (region_at es t) ≡ bare (after_reset bounds (region_at es x) mask)
    → get_or spots (64 * get_or resets (16 * x + mask) 0 + (region_at es t).location) 0 ≡ t
