-- Bounds of the clocks that are enough for a model, and reaching by some delay for any bounds. The region theorem holds for all
-- such bounds. Document 01 has one M for all clocks, the largest constant, which is such.
use Rattle.std.specs.Prelude.{◌≤◌, ◌≡◌, true, get_or, Some}
use mathlib.Core.List.{Memᴰ}
use Rattle.table.specs.Model.{Model, Edge}
use Rattle.table.specs.declared.model.Guard.{Guard}
use Rattle.table.specs.declared.model.Invariant.{Invariant}
use Rattle.clocks.specs.Packed.{delayed}
use Rattle.regions.specs.Graph.{meets}
use Rattle.regions.specs.Formed.{Small}
use Rattle.clocks.specs.declared.region.Bounds.{Bounds}
use Rattle.clocks.specs.declared.region.Region.{Region}

-- The bounds are at least each constant that their clocks are compared with.
pub record Covers (bounds : Bounds) (m : Model) : Type 0 where
  pub small : Small bounds
  pub count : bounds.count ≡ m.clocks
  pub invariants : (a : Invariant) → Memᴰ a m.invariants → a.constant ≤ get_or bounds.bound a.clock 0
  pub guards : (e : Edge) → Memᴰ e m.edges → (g : Guard) → Memᴰ g e.guards
      → g.constant ≤ get_or bounds.bound g.clock 0

-- "Whatever r reaches by delay (zero included)": regions that follow one another, and every region passed meets the
-- invariant, as for `DelaysTo`.
pub data Waits (bounds : Bounds) (m : Model) : Region → Region → Type 0 where
  still : {r : Region} → meets bounds m.invariants r ≡ true → Waits bounds m r r
  onward : {r p q : Region} → delayed bounds r ≡ Some p → meets bounds m.invariants p ≡ true → Waits bounds m p q
      → Waits bounds m r q
