-- The region of a state (document 01: "A state lies in the region that has its location and, clock by clock, what its values give:
-- over, or the integer part and rank."), for any bounds of the clocks.
use Rattle.std.specs.Prelude.{ℕ, ◌*◌, ◌/◌, ◌%◌, cond, List, [], ◌∷◌, ltb, get_or}
use Rattle.clocks.specs.Cells.{Cell, over, at, close}
use Rattle.clocks.specs.Packed.{pack}
use Rattle.states.specs.States.{State}
use Rattle.clocks.specs.declared.region.Bounds.{Bounds}
use Rattle.clocks.specs.declared.region.Region.{Region}

-- A clock at v/d: above its bound it is over, else it has an integer part, and a fraction that is a numerator over d.
abbrev pub value_cell : (d bound v : ℕ) → Cell
value_cell d bound v = cond (ltb (bound * d) v) (over bound) (at bound (v / d) (v % d))

-- Clock i of a state. A clock beyond the count takes no part: it counts as over.
unfoldable pub state_cell : Bounds → State → ℕ → Cell
state_cell bounds s i =
    cond (ltb i bounds.count) (value_cell s.denominator (get_or bounds.bound i 0) (get_or s.values i 0)) (over 0)

abbrev pub state_cells : Bounds → State → List Cell
state_cells bounds s = state_cell bounds s 0 ∷ state_cell bounds s 1 ∷ state_cell bounds s 2 ∷ state_cell bounds s 3 ∷ []

-- The region that a state lies in. Fractions become ranks.
unfoldable pub placed : Bounds → State → Region
placed bounds s = pack bounds s.location (close (state_cells bounds s))
