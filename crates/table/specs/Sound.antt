-- What is sound in every model that was read, so that no layer above looks into the reading again.
use Rattle.std.specs.Prelude.{ℕ, ◌≤◌, ◌<◌, ◌^◌, ◌≡◌, List, [], ◌∷◌, length}
use Rattle.table.specs.Format.{max_clocks, max_locations, max_constant, max_denominator, max_invariants}
use Rattle.table.specs.Format.{max_edges, max_guards, max_branches, last_bound, last_comparison}
use Rattle.table.specs.Model.{Edge, Model, total}
use Rattle.table.specs.declared.model.Invariant.{Invariant}
use Rattle.table.specs.declared.model.Guard.{Guard}
use Rattle.table.specs.declared.model.Branch.{Branch}

-- Each element of a list is such.
pub data All {A : Type 0} (P : A → Type 0) : List A → Type 0 where
  none : All P []
  also : {a : A} {l : List A} → P a → All P l → All P (a ∷ l)

pub record SoundInvariant (clocks locations : ℕ) (a : Invariant) : Type 0 where
  pub location : a.location < locations
  pub clock : a.clock < clocks
  pub comparison : a.comparison ≤ last_bound
  pub constant : a.constant ≤ max_constant

pub record SoundGuard (clocks : ℕ) (g : Guard) : Type 0 where
  pub clock : g.clock < clocks
  pub comparison : g.comparison ≤ last_comparison
  pub constant : g.constant ≤ max_constant

-- The mask has no bit from the count of clocks on.
pub record SoundBranch (clocks locations : ℕ) (b : Branch) : Type 0 where
  pub weight : 1 ≤ b.weight
  pub target : b.target < locations
  pub mask : b.mask < 2 ^ clocks

pub record SoundEdge (clocks locations : ℕ) (e : Edge) : Type 0 where
  pub source : e.source < locations
  pub positive : 1 ≤ e.denominator
  pub denominator : e.denominator ≤ max_denominator
  pub few-guards : length e.guards ≤ max_guards
  pub guards : All (SoundGuard clocks) e.guards
  pub few-branches : length e.branches ≤ max_branches
  pub branches : All (SoundBranch clocks locations) e.branches
  pub sum : total e.branches ≡ e.denominator

pub record Sound (m : Model) : Type 0 where
  pub clocks : m.clocks ≤ max_clocks
  pub some-location : 1 ≤ m.locations
  pub locations : m.locations ≤ max_locations
  pub initial : m.initial < m.locations
  pub labels : length m.labels ≡ m.locations
  pub few-invariants : length m.invariants ≤ max_invariants
  pub invariants : All (SoundInvariant m.clocks m.locations) m.invariants
  pub few-edges : length m.edges ≤ max_edges
  pub edges : All (SoundEdge m.clocks m.locations) m.edges

-- "Label (0 to 255)", "action (0 to 255)": so in every model that was read from bytes.
pub record ByteSized (m : Model) : Type 0 where
  pub labels : All (λ (x : ℕ). x < 256) m.labels
  pub actions : All (λ (e : Edge). e.action < 256) m.edges
