-- `list_limits` meets its contract. Assumes nothing.
use mathlib.Core.Path.{◌≡◌}
use lib.ListN.{length, take, replicate}
use Rattle.table.specs.Model.{Model}
use Rattle.table.specs.Reads.{Reads}
use Rattle.regions.specs.Limits.{no_limit, Holding}
use Rattle.regions.proofs.limits.list_limits.Given as goal

abbrev pub invariant-loop-i : goal.invariant-loop-i
invariant-loop-i l = (length l.limits ≡ length l.initial.limits)
    × ((m : Model) → Reads l.bytes l.shape m → l.initial.limits ≡ replicate 1024 no_limit → Holding (take l.i m.invariants) l.limits)
