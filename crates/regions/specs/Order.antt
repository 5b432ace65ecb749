-- The regions of the graph, and their numbers (document 01: "Region 0 is the initial location with all clocks 0. Regions are then taken
-- in number order: its delay region first, then its available edges in table order, branches in order. A region met first gets the next
-- number. N is their count."), said of lists without a word of exploring or of fuel.
use Rattle.std.specs.Prelude.{ℕ, ◌<◌, ◌≡◌, ◌↔◌, true, length, get_or}
use mathlib.Core.List.{List, Memᴰ}
use Rattle.table.specs.Model.{Model}
use Rattle.table.specs.Reading.{accepted, read_table}
use Rattle.regions.specs.Graph.{bounds_of, meets, next_of, first, Reached}
use Rattle.regions.specs.Worklist.{Different, Taken, Further}
use Rattle.regions.specs.Explore.{same_region}
use Rattle.clocks.specs.declared.region.Region.{Region}

-- ---- Which regions

-- A model that was read, and whose region 0 meets its invariant.
pub record Begun (table : List ℕ) : Type 0 where
  pub model : Model
  pub read : read_table table ≡ accepted model
  pub meets-first : meets (bounds_of model) model.invariants (first model) ≡ true

-- All regions that are reached, each once, region 0 first.
pub record AllRegions (m : Model) (found : List Region) : Type 0 where
  pub zeroth : (d : Region) → get_or found 0 d ≡ first m
  pub some : 0 < length found
  pub different : Different found
  pub all : (r : Region) → Reached m r ↔ Memᴰ r found

-- As many of them as there is room for, each once, region 0 first, and another one is reached.
pub record FirstRegions (m : Model) (cap : ℕ) (found : List Region) : Type 0 where
  pub zeroth : (d : Region) → 0 < cap → get_or found 0 d ≡ first m
  pub fills : length found ≡ cap
  pub different : Different found
  pub reached : (r : Region) → Memᴰ r found → Reached m r
  pub another : Region
  pub another-reached : Reached m another
  pub another-new : Memᴰ another found → ⊥

-- More different regions are reached than there is room for.
pub record MoreReached (m : Model) (cap : ℕ) : Type 0 where
  pub regions : List Region
  pub different : Different regions
  pub reached : (r : Region) → Memᴰ r regions → Reached m r
  pub many : cap < length regions

-- ---- Their numbers

-- The regions that are listed once those with numbers below i were taken: region 0 at first; then each region that is taken,
-- in number order, adds at the end those of `next_of` that are not listed yet, in order (`Taken`).
abbrev pub ListedAfter : Model → ℕ → List Region → Type 0
ListedAfter m i l = Taken same_region (next_of m) (first m) i l

-- All that is listed was taken.
abbrev pub InOrder : Model → List Region → Type 0
InOrder m found = ListedAfter m (length found) found

-- A list that begins a longer one with these numbers: the first regions.
abbrev pub FirstInOrder : Model → List Region → Type 0
FirstInOrder m found = Further same_region (next_of m) (first m) found
