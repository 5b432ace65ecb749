-- `show_labels` meets its contract. Assumes nothing.
use Prim.Native.Nat.{ℕ}
use mathlib.Core.Path.{◌≡◌, refl, ◌∙◌, ap}
use lib.ListN.{get_or}
use Rattle.std.proofs.Common.{rules}
use Rattle.clocks.specs.declared.region.Region.{Region}
use Rattle.regions.specs.Explore.{region_of}
use Rattle.regions.specs.View.{label_of}
use Rattle.regions.specs.Laws.Filling.{each_on}
use Rattle.regions.proofs.moves.show_labels.Goals as goal

pub loop-x-preserved : goal.loop-x-preserved
unfolding label_of
loop-x-preserved c =
    let loop = c.loop-x in
    λ m reads. each_on loop.x (λ y v. v ≡ label_of m (region_of c.args.found y)) loop.labels _ c.from.result (search rules) refl
    (loop.invariant m reads)
    (c.from.ensures
    ∙ c.label_at.ensures.value_2 m reads
    ∙ ap (λ (l : ℕ). get_or m.labels l 0) (c.from-location.ensures ∙ ap (λ (q : Region). q.location) c.region.ensures))
