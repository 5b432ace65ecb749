-- The slices of a graph as a finite structure, read off the readers of `graph`: for any contents.
use Rattle.std.specs.Prelude.{ℕ, zero, suc, ◌<◌, cond, ◌&&◌, List, [], ◌∷◌, ltb}
use Rattle.bisimulation.specs.Structures.{Branch}
use Rattle.bisimulation.specs.Finite.{Finite}
use Rattle.signatures.specs.Steps.{named, step_list}
use Rattle.graph.specs.Columns.{most_edges}
use Rattle.graph.specs.Readers.{label_of, edge_count, edge_at, branch_count, branch_slot, action_of, denominator_of, low_of}
use Rattle.graph.specs.Readers.{class_of, location_of, delay_of, is_available, landing_of}

-- What follows an item, itself included, by a successor function: the items below n, up to so many steps.
abbrev pub chain_from : (next : ℕ → ℕ) (n steps x : ℕ) → List ℕ
chain_from next n zero x = []
chain_from next n (suc steps) x = cond (ltb x n) (x ∷ chain_from next n steps (next x)) []

-- A successor function leads from one item below n to another, in any number of steps, by items below n alone.
pub data Reaches (next : ℕ → ℕ) (n : ℕ) : (x y : ℕ) → Type 0 where
  here : {x : ℕ} → x < n → Reaches next n x x
  onward : {x y : ℕ} → x < n → Reaches next n (next x) y → Reaches next n x y

-- The edge of a rank at a region.
abbrev pub edge_of : List ℕ → (x rank : ℕ) → ℕ
edge_of graph x rank = edge_at graph (location_of graph x) rank

-- The branches of an edge from one on, in the edge's order, from the regions of a class. Of a branch's two weights the low one is taken:
-- in a plain edge low and high are equal.
abbrev pub branches_from : (graph edges : List ℕ) → (class edge i left : ℕ) → List (Branch ℕ)
branches_from graph edges class edge i zero = []
branches_from graph edges class edge i (suc left) =
    record { weight = low_of edges edge i; target = landing_of graph class (branch_slot graph edge i) }
    ∷ branches_from graph edges class edge (suc i) left

-- Edges are numbered by rank among those of the region's location. Any slice may hold a cycle of delays: n steps are enough for all that
-- is reached (`reach-in`, `reach-from`).
unfoldable pub structure_of : ℕ → (graph edges : List ℕ) → Finite
structure_of n graph edges =
    record {
      size = n;
      label = λ x. label_of graph (location_of graph x);
      delays = chain_from (delay_of graph) n n;
      edges = most_edges;
      available = λ x rank. ltb rank (edge_count graph (location_of graph x)) && is_available graph x rank;
      action = λ x rank. action_of edges (edge_of graph x rank);
      whole = λ x rank. denominator_of edges (edge_of graph x rank);
      branches = λ x rank. branches_from graph edges (class_of graph x) (edge_of graph x rank) 0
          (branch_count graph (edge_of graph x rank));
    }

-- The step of an edge from the regions of a class.
unfoldable pub step_at : (graph edges names : List ℕ) → (class edge : ℕ) → List ℕ
step_at graph edges names class edge =
    step_list (action_of edges edge) (denominator_of edges edge)
    (named names (branches_from graph edges class edge 0 (branch_count graph edge)))
