-- `list_steps` meets its contract. The loop's invariant: the rows of the first e edges are stored. Assumes nothing.
use Prim.Native.Nat.{ℕ, ◌<◌}
use mathlib.Core.Path.{◌≡◌}
use lib.ListN.{length}
use Rattle.table.specs.Model.{Model}
use Rattle.regions.specs.Of.{Of}
use Rattle.regions.specs.Explore.{regions_of}
use Rattle.regions.specs.Sight.{Stepping}
use Rattle.regions.proofs.sight.list_steps.Given as goal

abbrev pub invariant-loop-e : goal.invariant-loop-e
invariant-loop-e l = record {
  long : length l.rows ≡ length l.initial.rows;
  model : l.marks.model.now ≡ l.fn.model;
  region : l.marks.region ≡ l.fn.r;
  steps : (m : Model) → Of l.fn.model m → (j : ℕ) → j < l.e → Stepping m (regions_of l.found) l.fn.r j l.rows;
}
