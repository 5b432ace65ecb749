-- A finite structure in slices, as the code of this crate and of the rounds goes by it. For each item: its label, and what follows it by
-- delay; for each item and edge, the number after the last available edge up to there. Of each edge, one row: action, denominator, count
-- of branches, and for each branch its weight, its mask and its location. The target of a branch is found in two steps: what the clocks
-- of the item become under the mask, and the item with those clocks at the location.
use Rattle.std.specs.Prelude.{ℕ, zero, suc, ◌+◌, ◌*◌, ◌-◌, ◌≤◌, ◌<◌, ◌≡◌, Bool, true, cond, ◌&&◌, eqb, leb, ltb, get_or}
use mathlib.Core.List.{List, [], ◌∷◌, Memᴰ}
use Rattle.bisimulation.specs.Structures.{Branch}
use Rattle.bisimulation.specs.Finite.{Finite}

-- How many numbers each takes: flags of an item, masks of an item, locations of some clocks, the row of an edge. These four stand in
-- regions too (Shown), which this crate knows nothing of; partition joins the two (`shown-held` of Laws.Shown).
abbrev pub flag_room : ℕ
flag_room = 128

abbrev pub mask_room : ℕ
mask_room = 16

abbrev pub spot_room : ℕ
spot_room = 64

abbrev pub row_room : ℕ
row_room = 32

-- At most so many items and edges.
abbrev pub most_items : ℕ
most_items = 4096

abbrev pub most_edges : ℕ
most_edges = 128

-- ---- Delays: `nexts` holds what follows an item, and a number that is no item where nothing does

abbrev pub chain : (size : ℕ) → List ℕ → (more x : ℕ) → List ℕ
chain size nexts zero x = x ∷ []
chain size nexts (suc more) x = x ∷ cond (ltb (get_or nexts x 0) size) (chain size nexts more (get_or nexts x 0)) []

-- What comes after an item by delay reaches nothing that the item does not reach.
abbrev pub Onward : (n : ℕ) → (nexts : List ℕ) → Type 0
Onward n nexts =
    (x y : ℕ) → x < n → get_or nexts x 0 < n → Memᴰ y (chain n nexts n (get_or nexts x 0)) → Memᴰ y (chain n nexts n x)

-- ---- Available edges: `flags` holds at each edge the number after the last one up to it that is available, and 0 where none is

-- The number after the last of the numbers below e that pass, and 0 where none does. The same as `open_below` of regions (Shown), and
-- partition shows that the two agree (`same-open` of Laws.Shown).
unfoldable pub open_below : (ℕ → Bool) → ℕ → ℕ
open_below p zero = 0
open_below p (suc e) = cond (p e) (suc e) (open_below p e)

-- Is edge e available at item x? It is where the flag holds the number after e itself.
abbrev pub is_open : List ℕ → (x e : ℕ) → Bool
is_open flags x e = eqb (get_or flags (flag_room * x + e) 0) (suc e)

-- What the flags tell of the edges below e at item x: nothing, which is 0, where the number that stands there is past e. The same for
-- all numbers: 0 for edge 0 too, and past the items and edges that there may be.
abbrev pub told_at : List ℕ → (x e : ℕ) → ℕ
told_at flags x e =
    cond (leb (get_or flags (flag_room * x + (e - 1)) 0) e) (get_or flags (flag_room * x + (e - 1)) 0) 0

abbrev pub open_edge : List ℕ → (x e : ℕ) → ℕ
open_edge flags x e = cond (ltb x most_items && leb e most_edges) (cond (eqb e 0) 0 (told_at flags x e)) 0

abbrev pub Opened : (n k : ℕ) → (flags : List ℕ) → Type 0
Opened n k flags = (x e : ℕ) → x < n → e < k → get_or flags (flag_room * x + e) 0 ≡ open_below (is_open flags x) (suc e)

-- ---- Edges

abbrev pub action_at : List ℕ → ℕ → ℕ
action_at rows e = get_or rows (row_room * e) 0

abbrev pub whole_at : List ℕ → ℕ → ℕ
whole_at rows e = get_or rows (row_room * e + 1) 0

abbrev pub count_at : List ℕ → ℕ → ℕ
count_at rows e = get_or rows (row_room * e + 2) 0

-- Branch i of an edge.
abbrev pub weight_at : List ℕ → (e i : ℕ) → ℕ
weight_at rows e i = get_or rows (row_room * e + 3 + 3 * i) 0

abbrev pub mask_at : List ℕ → (e i : ℕ) → ℕ
mask_at rows e i = get_or rows (row_room * e + 4 + 3 * i) 0

abbrev pub spot_at : List ℕ → (e i : ℕ) → ℕ
spot_at rows e i = get_or rows (row_room * e + 5 + 3 * i) 0

-- Where it leads from item x.
abbrev pub target_at : (resets spots rows : List ℕ) → (x e i : ℕ) → ℕ
target_at resets spots rows x e i = get_or spots (spot_room * get_or resets (mask_room * x + mask_at rows e i) 0 + spot_at rows e i) 0

-- Is there an item x, an edge e and a branch i, by the most that there may be? Where there is not, a target is 0.
abbrev pub is_inside : (x e i : ℕ) → Bool
is_inside x e i = ltb x most_items && (ltb e most_edges && ltb i 65536)

abbrev pub target_of : (resets spots rows : List ℕ) → (x e i : ℕ) → ℕ
target_of resets spots rows x e i = cond (is_inside x e i) (target_at resets spots rows x e i) 0

-- So many branches of an edge at item x, from branch i on.
abbrev pub branches_from : (resets spots rows : List ℕ) → (x e i more : ℕ) → List (Branch ℕ)
branches_from resets spots rows x e i zero = []
branches_from resets spots rows x e i (suc more) =
    record { weight = weight_at rows e i; target = target_at resets spots rows x e i } ∷ branches_from resets spots rows x e (suc i) more

-- ---- The slices hold a structure with n items and k edges

pub record Held (F : Finite) (n k : ℕ) (labels nexts flags resets spots rows : List ℕ) : Type 0 where
  pub size : n ≡ F.size
  pub edges : k ≡ F.edges
  pub few : n ≤ most_items
  pub few-edges : k ≤ most_edges
  pub label : (x : ℕ) → x < n → get_or labels x 0 ≡ F.label x
  pub delays : (x : ℕ) → x < n → F.delays x ≡ chain n nexts n x
  pub onward : Onward n nexts
  pub opened : Opened n k flags
  pub available : (x e : ℕ) → x < n → e < k → F.available x e ≡ is_open flags x e
  pub action : (x e : ℕ) → x < n → e < k → F.action x e ≡ action_at rows e
  pub whole : (x e : ℕ) → x < n → e < k → F.whole x e ≡ whole_at rows e
  pub branches : (x e : ℕ) → x < n → e < k → F.available x e ≡ true
      → F.branches x e ≡ branches_from resets spots rows x e 0 (count_at rows e)
