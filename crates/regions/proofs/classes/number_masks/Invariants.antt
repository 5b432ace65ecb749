-- `number_masks` meets its contract. The loop's invariant: the numbers of the first masks are stored. Assumes nothing.
use mathlib.Core.Path.{◌≡◌}
use mathlib.Core.Bool.{true, false}
use lib.ListN.{get_or}
use Rattle.regions.specs.Explore.{size_of}
use Rattle.regions.specs.Filling.{Run, Before, Numbers}
use Rattle.regions.proofs.classes.number_masks.Given as goal

abbrev pub invariant-loop-mask : goal.invariant-loop-mask
invariant-loop-mask l = Before l.base l.initial.resets l.resets × Run l.base l.mask (λ k v.
    get_or l.used k false ≡ true → Numbers l.bounds l.r l.sets.entries.now (size_of l.sets) k v) l.resets
