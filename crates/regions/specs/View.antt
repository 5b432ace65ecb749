-- The graph as the layers above see it: the label of a region, the number of its delay region if there is one, and its available
-- edges with action, denominator and, for each branch, weight and the number of the target region.
use Rattle.std.specs.Prelude.{ℕ, suc, cond, List, [], ◌∷◌, map, length, get_or}
use Rattle.table.specs.Model.{Model, Edge}
use Rattle.table.specs.Reading.{Answer, refusal, accepted}
use Rattle.table.specs.declared.model.Branch.{Branch}
use Rattle.regions.specs.Graph.{bounds_of, landing, available, delay_next}
use Rattle.regions.specs.Explore.{same_region}
use Rattle.clocks.specs.declared.region.Bounds.{Bounds}
use Rattle.clocks.specs.declared.region.Region.{Region}

-- The number of a region in a list: the place where it stands first, and the list's length where it is not there.
unfoldable pub number_in : List Region → Region → ℕ
number_in [] r = 0
number_in (q ∷ l) r = cond (same_region r q) 0 (suc (number_in l r))

-- The label of a region is that of its location.
unfoldable pub label_of : Model → Region → ℕ
label_of m r = get_or m.labels r.location 0

-- The numbers of the regions that follow by delay: one or none.
unfoldable pub delay_numbers : Model → List Region → Region → List ℕ
delay_numbers m found r = map (number_in found) (delay_next m r)

-- A branch as a step takes it.
pub record Way : Type 0 where
  pub weight : ℕ
  pub target : ℕ

-- An available edge as a step.
pub record Step : Type 0 where
  pub action : ℕ
  pub denominator : ℕ
  pub ways : List Way

abbrev pub way_of : Model → List Region → Region → Branch → Way
way_of m found r b = record { weight = b.weight; target = number_in found (landing (bounds_of m) r b) }

abbrev pub step_of : Model → List Region → Region → Edge → Step
step_of m found r e =
    record { action = e.action; denominator = e.denominator; ways = map (way_of m found r) e.branches }

abbrev pub steps_from : Model → List Region → Region → List Edge → List Step
steps_from m found r [] = []
steps_from m found r (e ∷ l) = cond (available m e r) (step_of m found r e ∷ steps_from m found r l) (steps_from m found r l)

-- The steps of a region: its available edges in table order, branches in order.
unfoldable pub steps_of : Model → List Region → Region → List Step
steps_of m found r = steps_from m found r m.edges

-- The bounds of the clocks of the model that a table was read as; a table that is refused has no clocks (a choice of ours).
abbrev pub bounds_read : Answer → Bounds
bounds_read (refusal reason place) = record { count = 0; bound = 0 ∷ 0 ∷ 0 ∷ 0 ∷ [] }
bounds_read (accepted m) = bounds_of m

-- How many edges a table that was read has; a table that is refused has none (a choice of ours).
abbrev pub edges_read : Answer → ℕ
edges_read (refusal reason place) = 0
edges_read (accepted m) = length m.edges
