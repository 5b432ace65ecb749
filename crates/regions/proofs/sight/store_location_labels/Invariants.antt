-- The first i numbers of the slice are the labels of the first i locations.
use mathlib.Core.Path.{◌≡◌}
use lib.ListN.{take}
use Rattle.table.specs.Model.{Model}
use Rattle.table.specs.Reads.{Reads}
use Rattle.regions.specs.Sight.{location_labels}
use Rattle.regions.proofs.sight.store_location_labels.Given as goal

abbrev pub invariant-loop-i : goal.invariant-loop-i
invariant-loop-i l =
    ((m : Model) → Reads l.bytes l.shape m → take l.i l.labels ≡ location_labels m l.i)
