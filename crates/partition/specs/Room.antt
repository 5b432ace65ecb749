-- The graph of a table in slices, as the region layer leaves it in the arrays of a room and as the layer of rounds goes by it.
use Rattle.std.specs.Prelude.{ℕ, ◌≡◌, List}
use Rattle.regions.specs.Passed.{Model, Region}
use Rattle.regions.specs.Shown.{Shown, Roomy}
use Rattle.bisimulation.specs.Finite.{Finite}
use Rattle.comparison.specs.Held.{Held}
use Rattle.comparison.specs.declared.held.Graph.{Graph}
use Rattle.partition.specs.declared.room.Room.{Room}

-- The arrays are long enough for 4,096 regions and 128 edges.
abbrev pub RoomyIn : Room → Type 0
RoomyIn r = Roomy r.labels r.nexts r.flags r.resets r.spots r.rows

-- They hold the graph of a model, whose regions are `found`.
abbrev pub ShownIn : Model → List Region → Room → Type 0
ShownIn m found r = Shown m found r.labels r.nexts r.flags r.resets r.spots r.rows

-- The slices hold a finite structure.
abbrev pub HeldIn : Finite → Graph → Type 0
HeldIn F g = Held F g.n g.k g.labels.now g.nexts.now g.flags.now g.resets.now g.spots.now g.rows.now

-- The arrays are lent as slices, with n items and k edges.
pub record Lends (r : Room) (n k : ℕ) (g : Graph) : Type 0 where
  pub items : g.n ≡ n
  pub edges : g.k ≡ k
  pub labels : g.labels.now ≡ r.labels
  pub nexts : g.nexts.now ≡ r.nexts
  pub flags : g.flags.now ≡ r.flags
  pub resets : g.resets.now ≡ r.resets
  pub spots : g.spots.now ≡ r.spots
  pub rows : g.rows.now ≡ r.rows
