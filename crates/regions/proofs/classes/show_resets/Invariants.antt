-- `show_resets` meets its contract. The loop's invariant: the numbers of the first x regions are stored. Assumes nothing.
use mathlib.Core.Path.{◌≡◌}
use mathlib.Core.Bool.{true, false}
use lib.ListN.{length, get_or}
use Rattle.regions.specs.Explore.{region_of, size_of}
use Rattle.regions.specs.Filling.{Blocks, Numbers}
use Rattle.regions.proofs.classes.show_resets.Given as goal

abbrev pub invariant-loop-x : goal.invariant-loop-x
invariant-loop-x l = (length l.resets ≡ length l.initial.resets) × Blocks 16 16 l.x (λ y mask v.
    get_or l.used mask false ≡ true → Numbers l.bounds (region_of l.found y) l.sets.entries.now (size_of l.sets) mask v) l.resets
