-- What it is that a region leads as a state does (demand 2; document 01, "Regions"): "A region leads by some delay or edge to another
-- exactly when each of its states, with fractions as clock values, does so under the automaton's own rules". That it is so is the region
-- theorem (RegionTheorem of Laws).
use Rattle.std.specs.Prelude.{◌↔◌, ◌≡◌, true, ◌&&◌}
use mathlib.Core.List.{Memᴰ}
use Rattle.table.specs.Model.{Model, Edge}
use Rattle.table.specs.declared.model.Branch.{Branch}
use Rattle.regions.specs.Graph.{bounds_of, fits, lands, landing, available, DelaysTo}
use Rattle.states.specs.States.{State, IsState, Delays, enabled, target}
use Rattle.states.specs.Placing.{placed}
use Rattle.states.specs.Covering.{Waits}
use Rattle.clocks.specs.declared.region.Bounds.{Bounds}
use Rattle.clocks.specs.declared.region.Region.{Region}

-- The region that a state of the model lies in.
abbrev pub region_in : Model → State → Region
region_in m s = placed (bounds_of m) s

-- The state delays into the region: to some state in it.
abbrev pub DelaysInto : Bounds → Model → State → Region → Type 0
DelaysInto bounds m s q = (t : State) × IsState m t × Delays m s t × (placed bounds t ≡ q)

-- A region leads as a state does: by some delay to the same regions, and by each branch of each edge to the same region.
pub record LeadsAlike (m : Model) (r : Region) (s : State) : Type 0 where
  pub delays : (q : Region) → DelaysTo m r q ↔ DelaysInto (bounds_of m) m s q
  pub edges : (e : Edge) → Memᴰ e m.edges → (b : Branch) → Memᴰ b e.branches → (q : Region)
      → ((available m e r ≡ true) × (landing (bounds_of m) r b ≡ q)) ↔ ((enabled m e s ≡ true) × (region_in m (target s b) ≡ q))

-- The same for any bounds of the clocks.
pub record LeadsAlikeAny (bounds : Bounds) (m : Model) (r : Region) (s : State) : Type 0 where
  pub delays : (q : Region) → Waits bounds m r q ↔ DelaysInto bounds m s q
  pub edges : (e : Edge) → Memᴰ e m.edges → (b : Branch) → Memᴰ b e.branches → (q : Region)
      → (((fits bounds e r && lands bounds m.invariants e r) ≡ true) × (landing bounds r b ≡ q))
      ↔ ((enabled m e s ≡ true) × (placed bounds (target s b) ≡ q))

-- ---- "By some delay or edge"

-- A region leads to a region by some delay, or by a branch of an edge that is available there.
pub data RegionLeads (m : Model) (r q : Region) : Type 0 where
  region-delays : DelaysTo m r q → RegionLeads m r q
  region-steps : (e : Edge) → Memᴰ e m.edges → (b : Branch) → Memᴰ b e.branches
      → available m e r ≡ true → landing (bounds_of m) r b ≡ q → RegionLeads m r q

-- A state leads into a region: it delays into it, or takes an edge, a branch of which leads into it.
pub data StateLeads (m : Model) (s : State) (q : Region) : Type 0 where
  state-delays : DelaysInto (bounds_of m) m s q → StateLeads m s q
  state-steps : (e : Edge) → Memᴰ e m.edges → (b : Branch) → Memᴰ b e.branches
      → enabled m e s ≡ true → region_in m (target s b) ≡ q → StateLeads m s q
