-- Loop: the walk from here with the steps that are left finds what the whole walk finds.
use Prim.Native.Nat.{◌-◌, ◌<◌}
use mathlib.Core.Path.{◌≡◌}
use Rattle.graph.specs.Readers.{walk, region_at}
use Rattle.graph.proofs.index.region_at.Given as goal

abbrev pub invariant-loop-step : goal.invariant-loop-step
invariant-loop-step l =
    (walk l.graph (4096 - l._step) l.region l.class ≡ region_at l.graph l.class l.location) × (l.region < 65536)
