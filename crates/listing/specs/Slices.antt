-- One item of a graph in slices, as the code of a block's lines goes by it: the items that it reaches by delay, and its edges in rows
-- of 32 numbers: 1 where the edge is available, its action, its denominator, how many branches it has, and of each its weight and
-- its target. And the next of the blocks that a line names.
use Rattle.std.specs.Prelude.{ℕ, ◌+◌, ◌*◌, ◌≤◌, ◌<◌, ◌≡◌, Bool, true, false, cond, List, [], eqb, get_or, Option, Some, None}
pub use Rattle.partition.specs.Passed.{row_room}
pub use Rattle.partition.specs.View.{branches_from, branches_at}
use Rattle.listing.specs.Printed.{StepRecord, step_of, step_line}

-- The step of edge e, and the line of it where it is available.
abbrev pub step_at : (list rows : List ℕ) → (count e : ℕ) → StepRecord
step_at list rows count e =
    step_of list count (get_or rows (row_room * e + 1) 0) (get_or rows (row_room * e + 2) 0) (branches_at rows e)

abbrev pub step_text_at : (list rows : List ℕ) → (count own e : ℕ) → List ℕ
step_text_at list rows count own e = cond (eqb (get_or rows (row_room * e) 0) 1) (step_line own (step_at list rows count e)) []

-- A number is the next from some one on, below a count, that passes a test.
pub record IsNext (p : ℕ → Bool) (from count c : ℕ) : Type 0 where
  pub below : c < count
  pub on : from ≤ c
  pub passes : p c ≡ true
  pub between : (j : ℕ) → from ≤ j → j < c → p j ≡ false

-- The next number from some one on, below a count, that passes a test, where there is one.
abbrev pub Next : (p : ℕ → Bool) (from count : ℕ) → Option ℕ → Type 0
Next p from count None = (j : ℕ) → from ≤ j → j < count → p j ≡ false
Next p from count (Some c) = IsNext p from count c
