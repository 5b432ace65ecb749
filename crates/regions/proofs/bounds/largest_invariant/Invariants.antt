-- `largest_invariant` meets its contract. Assumes nothing.
use Prim.Native.Nat.{max}
use mathlib.Core.Path.{◌≡◌}
use lib.ListN.{drop}
use Rattle.table.specs.Model.{Model}
use Rattle.table.specs.Reads.{Reads}
use Rattle.regions.specs.Graph.{largest_of, constant_of}
use Rattle.regions.proofs.bounds.largest_invariant.Given as goal

abbrev pub invariant-loop-i : goal.invariant-loop-i
invariant-loop-i l = (m : Model) → Reads l.bytes l.shape m → max l.best (largest_of constant_of (drop l.i m.invariants)) ≡ largest_of
    constant_of m.invariants
