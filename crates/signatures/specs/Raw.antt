-- The raw form of a step: an edge, and the names that its branches land in, in the edge's order. It determines the step's list.
use Rattle.std.specs.Prelude.{ℕ, zero, suc, ◌+◌, ◌-◌, ◌≤◌, ◌<◌, ◌≡◌, List, [], ◌∷◌, length, get_or}
use Rattle.bisimulation.specs.Structures.{Branch}
use Rattle.graph.specs.Readers.{branch_count, branch_slot, landing_of, action_of, denominator_of, low_of}
use Rattle.signatures.specs.Steps.{name_of, step_list}

-- The edge of a raw form.
abbrev pub raw_edge : List ℕ → ℕ
raw_edge raw = get_or raw 0 0

-- The branches from one on, and the names that they land in.
abbrev pub raw_branches : (edges raw : List ℕ) → (i left : ℕ) → List (Branch ℕ)
raw_branches edges raw i zero = []
raw_branches edges raw i (suc left) =
    record { weight = low_of edges (raw_edge raw) i; target = get_or raw (1 + i) 0 } ∷ raw_branches edges raw (suc i) left

abbrev pub raw_names : List ℕ → (i left : ℕ) → List ℕ
raw_names raw i zero = []
raw_names raw i (suc left) = get_or raw (1 + i) 0 ∷ raw_names raw (suc i) left

-- The list of the step.
unfoldable pub raw_step : (edges raw : List ℕ) → List ℕ
raw_step edges raw =
    step_list (action_of edges (raw_edge raw)) (denominator_of edges (raw_edge raw)) (raw_branches edges raw 0 (length raw - 1))

-- The first numbers of a slice are the raw form of an edge from the regions of a class.
pub record Landed (graph names : List ℕ) (edge class : ℕ) (raw : List ℕ) (size : ℕ) : Type 0 where
  pub edge-is : raw_edge raw ≡ edge
  pub size_is : size ≡ branch_count graph edge + 1
  pub few : size ≤ 9
  pub names-are : (i : ℕ) → i < branch_count graph edge
      → get_or raw (1 + i) 0 ≡ name_of names (landing_of graph class (branch_slot graph edge i))
