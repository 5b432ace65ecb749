-- The model that a table describes: all that an accepted table says, and where each edge's record begins, which refusal 12
-- and the accessors go by.
-- The atoms and branches are the structs of the code: Invariant (location, clock, comparison, constant),
-- Guard (clock, comparison, constant), Branch (weight, target, mask).
use Rattle.std.specs.Prelude.{ℕ, ◌+◌, ◌/◌, ◌%◌, ◌^◌, Bool, eqb, List, [], ◌∷◌}
use Rattle.table.specs.declared.model.Invariant.{Invariant}
use Rattle.table.specs.declared.model.Guard.{Guard}
use Rattle.table.specs.declared.model.Branch.{Branch}

-- An edge: `place` is where its record begins, `denominator` is document 01's W.
pub record Edge : Type 0 where
  pub place : ℕ
  pub source : ℕ
  pub action : ℕ
  pub denominator : ℕ
  pub guards : List Guard
  pub branches : List Branch

-- `clocks` is document 01's n, and `locations` the header's count. "Locations, clocks and edges are numbered from 0": label l
-- of the list is that of location l, edge e of the list is edge e.
pub record Model : Type 0 where
  pub clocks : ℕ
  pub locations : ℕ
  pub initial : ℕ
  pub labels : List ℕ
  pub invariants : List Invariant
  pub edges : List Edge

-- "In a mask bit 0 is clock 0, and a set bit resets that clock."
unfoldable pub reset_in : ℕ → ℕ → Bool
reset_in mask clock = eqb (mask / 2 ^ clock % 2) 1

-- The sum of the weights of branches.
abbrev pub total : List Branch → ℕ
total [] = 0
total (b ∷ l) = b.weight + total l
