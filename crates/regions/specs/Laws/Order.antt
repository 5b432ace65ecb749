-- The numbers of the regions (document 01: "Region 0 is the initial location with all clocks 0. Regions are then taken in
-- number order: its delay region first, then its available edges in table order, branches in order. A region met first gets
-- the next number."): at most one list is in that order (`order-one`), and the graph call lists that one (`whole-order`) or begins it
-- (`cut-order`).
use Rattle.std.specs.Prelude.{ℕ, ◌<◌, ◌≡◌, length, get_or}
use mathlib.Core.List.{List, Memᴰ}
use Rattle.table.specs.Model.{Model}
use Rattle.table.specs.Reading.{accepted, read_table}
use Rattle.regions.specs.Graph.{next_of, first}
use Rattle.regions.specs.Explore.{same_region}
use Rattle.regions.specs.Call.{cut, whole, outcome_of}
use Rattle.regions.specs.Order.{ListedAfter, InOrder, FirstInOrder}
use Rattle.regions.specs.Laws.Worklist.{taken-one, taken-all-one, taken-from, complete-taken, full-taken}
use Rattle.regions.specs.Laws.Call.{whole-explored, cut-explored}
use Rattle.clocks.specs.declared.region.Region.{Region}

module _ (m : Model) where
  -- At most one list is such.
  pub order-one : (a b : List Region) → InOrder m a → InOrder m b → a ≡ b
  order-one a b s t = taken-all-one same_region (next_of m) s t

  pub listed-one : (i : ℕ) (a b : List Region) → ListedAfter m i a → ListedAfter m i b → a ≡ b
  listed-one i a b s t = taken-one same_region (next_of m) s t

  -- A region with a number from 1 on is led to by one of smaller number.
  pub order_from : (found : List Region) → InOrder m found → (j : ℕ) → 0 < j → j < length found
      → (k : ℕ) × (k < j) × Memᴰ (get_or found j (first m)) (next_of m (get_or found k (first m)))
  order_from found s j p h = taken-from same_region (next_of m) s j p h

module _ (table : List ℕ) (cap : ℕ) (found : List Region) (m : Model) (read : read_table table ≡ accepted m) where
  -- N is answered: the regions have document 01's numbers.
  pub whole-order : outcome_of table cap ≡ whole found → InOrder m found
  whole-order e = complete-taken same_region (next_of m) cap (first m) found (whole-explored table cap found m e read)

  -- 15 is answered: they begin a longer list with document 01's numbers.
  pub cut-order : outcome_of table cap ≡ cut found → FirstInOrder m found
  cut-order e = full-taken same_region (next_of m) cap (first m) found (cut-explored table cap found m e read)
