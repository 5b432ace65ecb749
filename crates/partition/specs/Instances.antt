-- The two structures of a model (document 01, "Bisimulation and rounds": "The items are the regions of the graph or all
-- states of the model"): the region graph, as a finite structure, and all states. A state is placed at its region's number.
use Rattle.std.specs.Prelude.{ℕ, ◌<◌, ◌≡◌, true, ◌⊎◌, List, map, length, get_or}
use Rattle.regions.specs.Passed.{Model, edge_of, Branch as ModelBranch, Region}
use Rattle.regions.specs.Graph.{bounds_of, landing, available, first}
unfoldable pub use Rattle.regions.specs.Sight.{delays_from}
use Rattle.regions.specs.View.{number_in, label_of}
use Rattle.states.specs.States.{State, IsState, Same, Delays, target, enabled}
use Rattle.states.specs.Alike.{region_in}
use Rattle.bisimulation.specs.Structures.{Branch, Structure}
use Rattle.bisimulation.specs.Finite.{Finite, last_blocks}

-- ---- The region graph: `found` lists its regions by number

-- The region with a number; past the last, region 0 (a choice of ours).
abbrev pub region_of : Model → List Region → ℕ → Region
region_of m found x = get_or found x (first m)

-- A branch of an edge at a region: its weight, and the number of the region that it lands in.
abbrev pub lands_at : Model → List Region → Region → ModelBranch → Branch ℕ
lands_at m found r b = record { weight = b.weight; target = number_in found (landing (bounds_of m) r b) }

-- Items are the numbers of regions. As many steps of delay as there are regions are enough: more would pass a region twice.
abbrev pub graph : Model → List Region → Finite
graph m found =
    record {
      size = length found;
      label = λ x. label_of m (region_of m found x);
      delays = λ x. map (number_in found) (delays_from m (length found) (region_of m found x));
      edges = length m.edges;
      available = λ x e. available m (edge_of m e) (region_of m found x);
      action = λ x e. (edge_of m e).action;
      whole = λ x e. (edge_of m e).denominator;
      branches = λ x e. map (lands_at m found (region_of m found x)) (edge_of m e).branches;
    }

-- ---- All states of the model

-- A branch of an edge at a state: its weight, and the state that it leads to.
abbrev pub leads_to : State → ModelBranch → Branch State
leads_to s b = record { weight = b.weight; target = target s b }

-- All states, "whether reached or not"; "equal values at one location are one state". The label is that of the location.
abbrev pub states : Model → Structure State
states m =
    record {
      Item = IsState m;
      Same = Same;
      label = λ s. get_or m.labels s.location 0;
      Delay = λ s t. IsState m t × Delays m s t;
      Edge = λ s e. (e < length m.edges) × (enabled m (edge_of m e) s ≡ true);
      action = λ s e. (edge_of m e).action;
      whole = λ s e. (edge_of m e).denominator;
      branches = λ s e. map (leads_to s) (edge_of m e).branches;
    }

-- The same with a zero delay for every state, also for one that breaks its invariant, for readers who read "adding one fraction, 0 or
-- more, .. where its invariant then holds" so. To what is said of states in regions of the graph it makes no difference
-- (`zero-delay-alike` of Laws.ZeroDelay).
abbrev pub states_zero : Model → Structure State
states_zero m =
    record {
      Item = IsState m;
      Same = Same;
      label = λ s. get_or m.labels s.location 0;
      Delay = λ s t. IsState m t × (Delays m s t ⊎ Same s t);
      Edge = λ s e. (e < length m.edges) × (enabled m (edge_of m e) s ≡ true);
      action = λ s e. (edge_of m e).action;
      whole = λ s e. (edge_of m e).denominator;
      branches = λ s e. map (leads_to s) (edge_of m e).branches;
    }

-- ---- The place and the block of a state

-- The number of the region that a state lies in; the count of regions where that is not of the graph.
abbrev pub place_in : Model → List Region → State → ℕ
place_in m found s = number_in found (region_in m s)

-- The block number of a state: that of its region, among the blocks of the last round.
abbrev pub block_in : Model → List Region → State → ℕ
block_in m found s = get_or (last_blocks (graph m found)) (place_in m found s) 0
