-- The graph in slices, as the layer above goes by it: for each region its label, its delay region by number, and its available
-- edges; for each edge a row with its action, its denominator and its branches. Of the available edges `flags` holds at each edge the
-- number after the last one up to and with it: who starts at the last edge goes from one available edge to the one before, and meets no
-- other. The target of a branch is found in two steps: `resets` holds what the clocks of a region become under a mask, as the number of
-- a set of clocks, and `spots` the number of the region with those clocks at a location. How sets of clocks are numbered, and what
-- stands past the last region, edge or branch and for masks and locations that no available edge uses, is a choice of the code; what
-- every choice has in common is said here.
use Rattle.std.specs.Prelude.{ℕ, zero, suc, ◌+◌, ◌*◌, ◌≤◌, ◌<◌, ◌≡◌, Bool, true, cond, List, [], ◌∷◌, ltb, length, get_or}
use Rattle.table.specs.Model.{Model}
use Rattle.table.specs.Reads.{edge_of}
use Rattle.table.specs.Access.{no_branch}
use Rattle.table.specs.declared.model.Branch.{Branch}
use Rattle.regions.specs.Graph.{bounds_of, landing, available, first}
use Rattle.regions.specs.View.{number_in, label_of, delay_numbers}
use Rattle.clocks.specs.declared.region.Region.{Region}
use Rattle.regions.specs.declared.shown.GraphMut.{GraphMut}

-- How many numbers each takes: the flags of a region, the masks of a region, the locations of a set of clocks, the row of an edge. These
-- four stand in comparison too (Held), which knows nothing of regions; partition joins the two (`shown-held` of Laws.Shown).
abbrev pub flag_room : ℕ
flag_room = 128

abbrev pub mask_room : ℕ
mask_room = 16

abbrev pub spot_room : ℕ
spot_room = 64

abbrev pub row_room : ℕ
row_room = 32

-- The numbers that follow by delay: one, or none where the number is no region's.
abbrev pub followers : (size next : ℕ) → List ℕ
followers size next = cond (ltb next size) (next ∷ []) []

-- Region x of those found.
abbrev pub shown_region : Model → List Region → ℕ → Region
shown_region m found x = get_or found x (first m)

-- The number after the last of the numbers below e that pass, and 0 where none does. The same as `open_below` of comparison (Held), and
-- partition shows that the two agree (`same-open` of Laws.Shown).
unfoldable pub open_below : (ℕ → Bool) → ℕ → ℕ
open_below p zero = 0
open_below p (suc e) = cond (p e) (suc e) (open_below p e)

-- Branch i of edge e.
abbrev pub branch_of : Model → (e i : ℕ) → Branch
branch_of m e i = get_or (edge_of m e).branches i no_branch

pub record Shown (m : Model) (found : List Region) (labels nexts flags resets spots rows : List ℕ) : Type 0 where
  pub label : (x : ℕ) → x < length found → get_or labels x 0 ≡ label_of m (shown_region m found x)
  pub delay : (x : ℕ) → x < length found → delay_numbers m found (shown_region m found x) ≡ followers (length found) (get_or nexts x 0)
  pub flag : (x e : ℕ) → x < length found → e < length m.edges
      → get_or flags (flag_room * x + e) 0 ≡ open_below (λ f. available m (edge_of m f) (shown_region m found x)) (suc e)
  pub action : (e : ℕ) → e < length m.edges → get_or rows (row_room * e) 0 ≡ (edge_of m e).action
  pub whole : (e : ℕ) → e < length m.edges → get_or rows (row_room * e + 1) 0 ≡ (edge_of m e).denominator
  pub count : (e : ℕ) → e < length m.edges → get_or rows (row_room * e + 2) 0 ≡ length (edge_of m e).branches
  pub weight : (e i : ℕ) → e < length m.edges → i < length (edge_of m e).branches
      → get_or rows (row_room * e + 3 + 3 * i) 0 ≡ (branch_of m e i).weight
  pub mask : (e i : ℕ) → e < length m.edges → i < length (edge_of m e).branches
      → get_or rows (row_room * e + 4 + 3 * i) 0 ≡ (branch_of m e i).mask
  pub spot : (e i : ℕ) → e < length m.edges → i < length (edge_of m e).branches
      → get_or rows (row_room * e + 5 + 3 * i) 0 ≡ (branch_of m e i).target
  pub target : (x e i : ℕ) → x < length found → e < length m.edges → i < length (edge_of m e).branches
      → available m (edge_of m e) (shown_region m found x) ≡ true
      → get_or spots (spot_room * get_or resets (mask_room * x + (branch_of m e i).mask) 0 + (branch_of m e i).target) 0
      ≡ number_in found (landing (bounds_of m) (shown_region m found x) (branch_of m e i))

-- The slices are long enough for 4,096 regions and 128 edges.
pub record Roomy (labels nexts flags resets spots rows : List ℕ) : Type 0 where
  pub labels-room : 4096 ≤ length labels
  pub nexts-room : 4096 ≤ length nexts
  pub flags-room : 4096 * flag_room ≤ length flags
  pub resets-room : 4096 * mask_room ≤ length resets
  pub spots-room : 4096 * spot_room ≤ length spots
  pub rows-room : 128 * row_room ≤ length rows

-- ---- The slices as they are lent

-- What they hold.
abbrev pub ShownIn : Model → List Region → GraphMut → Type 0
ShownIn m found g = Shown m found g.labels.now g.nexts.now g.flags.now g.resets.now g.spots.now g.rows.now

-- They are long enough.
abbrev pub RoomyIn : GraphMut → Type 0
RoomyIn g = Roomy g.labels.now g.nexts.now g.flags.now g.resets.now g.spots.now g.rows.now

-- They are the same slices.
abbrev pub SameSlices : (before after : GraphMut) → Type 0
SameSlices g h =
    (h.labels.ghost_name ≡ g.labels.ghost_name)
    × (h.nexts.ghost_name ≡ g.nexts.ghost_name)
    × (h.flags.ghost_name ≡ g.flags.ghost_name)
    × (h.resets.ghost_name ≡ g.resets.ghost_name)
    × (h.spots.ghost_name ≡ g.spots.ghost_name)
    × (h.rows.ghost_name ≡ g.rows.ghost_name)

-- They are as long as before.
abbrev pub SameLengths : (before after : GraphMut) → Type 0
SameLengths g h =
    (length h.labels.now ≡ length g.labels.now)
    × (length h.nexts.now ≡ length g.nexts.now)
    × (length h.flags.now ≡ length g.flags.now)
    × (length h.resets.now ≡ length g.resets.now)
    × (length h.spots.now ≡ length g.spots.now)
    × (length h.rows.now ≡ length g.rows.now)

-- And they hold the same.
abbrev pub Unchanged : (before after : GraphMut) → Type 0
Unchanged g h =
    (h.labels.now ≡ g.labels.now)
    × (h.nexts.now ≡ g.nexts.now)
    × (h.flags.now ≡ g.flags.now)
    × (h.resets.now ≡ g.resets.now)
    × (h.spots.now ≡ g.spots.now)
    × (h.rows.now ≡ g.rows.now)
