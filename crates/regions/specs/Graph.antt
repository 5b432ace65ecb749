-- The region graph of a model (document 01, "Regions"): bounds, invariants, available edges, what a region leads to, and what is
-- reached. A region here is that of the code, in nine bytes.
use Rattle.std.specs.Prelude.{ℕ, max, ◌≡◌, Bool, true, false, cond, not, ◌&&◌, ◌||◌, eqb, Option, Some, None}
use mathlib.Core.List.{List, [], ◌∷◌, ◌++◌, Memᴰ}
use Rattle.table.specs.Model.{Model, Edge}
use Rattle.table.specs.declared.model.Branch.{Branch}
use Rattle.table.specs.declared.model.Guard.{Guard}
use Rattle.table.specs.declared.model.Invariant.{Invariant}
pub use Rattle.regions.specs.Lists.{every}
use Rattle.clocks.specs.Atoms.{atom}
use Rattle.clocks.specs.Packed.{cell_of, clock_at, delayed, after_reset}
use Rattle.clocks.specs.declared.region.Bounds.{Bounds}
use Rattle.clocks.specs.declared.region.Region.{Region}

-- ---- Bounds

-- The largest of the numbers of the items of a list.
abbrev pub largest_of : {A : Type 0} → (A → ℕ) → List A → ℕ
largest_of f [] = 0
largest_of f (x ∷ l) = max (f x) (largest_of f l)

abbrev pub constant_of : Invariant → ℕ
constant_of a = a.constant

abbrev pub guard_constant : Guard → ℕ
guard_constant g = g.constant

abbrev pub edge_constant : Edge → ℕ
edge_constant e = largest_of guard_constant e.guards

-- "M is the largest constant of the table, 0 if there is none."
unfoldable pub largest_constant : Model → ℕ
largest_constant m = max (largest_of constant_of m.invariants) (largest_of edge_constant m.edges)

-- Every clock has that bound.
unfoldable pub bounds_of : Model → Bounds
bounds_of m =
    record {
      count = m.clocks;
      bound = largest_constant m ∷ largest_constant m ∷ largest_constant m ∷ largest_constant m ∷ [];
    }

-- ---- Atoms on a region

abbrev pub is_holds : Option Bool → Bool
is_holds (Some holds) = holds
is_holds None = false

-- An atom holds at a region.
abbrev pub holds : Bounds → Region → (clock comparison constant : ℕ) → Bool
holds bounds r clock comparison constant = is_holds (atom comparison constant (cell_of (clock_at bounds r clock)))

-- An invariant atom is of another location, or holds.
abbrev pub allows : Bounds → Region → Invariant → Bool
allows bounds r a = not (eqb a.location r.location) || holds bounds r a.clock a.comparison a.constant

-- The region meets its location's invariant.
unfoldable pub meets : Bounds → List Invariant → Region → Bool
meets bounds atoms r = every (allows bounds r) atoms

abbrev pub satisfies : Bounds → Region → Guard → Bool
satisfies bounds r g = holds bounds r g.clock g.comparison g.constant

-- ---- Edges

-- "The location is its source, the guard holds": the edge fits.
unfoldable pub fits : Bounds → Edge → Region → Bool
fits bounds e r = eqb e.source r.location && every (satisfies bounds r) e.guards

-- The target region of a branch: the region after its reset, at its target.
unfoldable pub landing : Bounds → Region → Branch → Region
landing bounds r b =
    record {
      location = b.target;
      whole = (after_reset bounds r b.mask).whole;
      rank = (after_reset bounds r b.mask).rank;
    }

-- "Every branch's target region meets the target's invariant": the edge lands.
unfoldable pub lands : Bounds → List Invariant → Edge → Region → Bool
lands bounds atoms e r = every (λ b. meets bounds atoms (landing bounds r b)) e.branches

-- "An edge is available where the location is its source, the guard holds, and every branch's target region meets the target's
-- invariant."
abbrev pub available : Model → Edge → Region → Bool
available m e r = fits (bounds_of m) e r && lands (bounds_of m) m.invariants e r

-- ---- What a region leads to

-- What follows, if it meets its invariant.
abbrev pub if_meets : Model → Option Region → List Region
if_meets m None = []
if_meets m (Some q) = cond (meets (bounds_of m) m.invariants q) (q ∷ []) []

-- "Delay stops before a region that breaks its location's invariant."
unfoldable pub delay_next : Model → Region → List Region
delay_next m r = if_meets m (delayed (bounds_of m) r)

-- One region or none.
abbrev pub at_most_one : Option Region → List Region
at_most_one None = []
at_most_one (Some q) = q ∷ []

-- What the items of a list give, one after the other.
abbrev pub gather : {A : Type 0} → (A → List Region) → List A → List Region
gather g [] = []
gather g (x ∷ l) = g x ++ gather g l

-- The target regions of an edge, where it is available.
unfoldable pub edge_next : Model → Region → Edge → List Region
edge_next m r e = cond (available m e r) (gather (λ b. landing (bounds_of m) r b ∷ []) e.branches) []

-- "Its delay region first, then its available edges in table order, branches in order."
unfoldable pub next_of : Model → Region → List Region
next_of m r = delay_next m r ++ gather (edge_next m r) m.edges

-- "Region 0 is the initial location with all clocks 0."
unfoldable pub first : Model → Region
first m = record { location = m.initial; whole = 0 ∷ 0 ∷ 0 ∷ 0 ∷ []; rank = 0 ∷ 0 ∷ 0 ∷ 0 ∷ [] }

-- ---- Some delay

-- "Whatever r reaches by delay (zero included)": regions that follow one another, and every region passed meets the
-- invariant. (Invariants bound clocks from above, so a region that breaks its own reaches nothing, not even by zero delay: no
-- region of the graph does.)
pub data DelaysTo (m : Model) : Region → Region → Type 0 where
  stays : {r : Region} → meets (bounds_of m) m.invariants r ≡ true → DelaysTo m r r
  goes : {r p q : Region} → Memᴰ p (delay_next m r) → DelaysTo m p q → DelaysTo m r q

-- ---- What is reached, without a word of exploring

-- One step: a delay to the region that follows, or a branch of an available edge.
pub data Leads (m : Model) (r : Region) : Region → Type 0 where
  by-delay : {q : Region} → Memᴰ q (delay_next m r) → Leads m r q
  by-edge : {q : Region} {e : Edge} → Memᴰ e m.edges → Memᴰ q (edge_next m r e) → Leads m r q

-- What document 01 calls reached: region 0, and whatever a reached region leads to. The regions of the graph are these (`whole-graph` of
-- Laws.Call).
pub data Reached (m : Model) : Region → Type 0 where
  begun : Reached m (first m)
  led : {r q : Region} → Reached m r → Leads m r q → Reached m q
