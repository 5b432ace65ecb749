-- The labels of the regions that were met are stored.
use Rattle.std.proofs.Common.{◌≡◌, length, take}
use Rattle.partition.specs.Passed.{Model, listed}
use Rattle.partition.specs.Instances.{graph}
use Rattle.partition.specs.View.{location_labels}
use Rattle.listing.specs.Labels.{labels_to}
use Rattle.listing.proofs.labels.store_labels.Given as goal

abbrev pub invariant-loop-x : goal.invariant-loop-x
invariant-loop-x l =
    (m : Model) → l.locations ≡ location_labels m 256
    → take l.x l.labels ≡ labels_to (graph m (listed l.entries (length l.initial.labels))) l.x
