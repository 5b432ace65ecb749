-- `show_flags` meets its contract. Assumes nothing.
use native.Mathlib.Omega.{arith}
use Prim.Native.Nat.{suc}
use mathlib.Core.Path.{◌≡◌, ◌∙◌, ap}
use lib.ListN.{length}
use Rattle.table.specs.Reads.{edge_of}
use Rattle.table.proofs.Laws.Reads.{sound-read}
use Rattle.clocks.specs.declared.region.Region.{Region}
use Rattle.regions.specs.Graph.{available}
use Rattle.regions.specs.Explore.{region_of}
use Rattle.regions.specs.Shown.{open_below}
use Rattle.regions.specs.Laws.Filling.{blocks-on}
use Rattle.regions.proofs.moves.show_flags.Goals as goal

pub loop-x-preserved : goal.loop-x-preserved
loop-x-preserved c =
    let loop = c.loop-x in
    let made = c.mark_edges.ensures in (
      made.before.as_long ∙ loop.invariant.0,
      λ m reads.
          blocks-on 128 (length m.edges) loop.x
          (λ y j v. v ≡ open_below (λ f. available m (edge_of m f) (region_of c.args.found y)) (suc j)) loop.flags
          c.mark_edges.new.flags (omega (arith, (sound-read _ _ m reads).few-edges)) made.before (loop.invariant.1 m reads)
          (λ j less. made.run m reads j less
          ∙ ap (λ (q : Region). open_below (λ f. available m (edge_of m f) q) (suc j)) c.region.ensures),
    )

pub returns : goal.returns
returns c =
    λ m reads x e h less. c.loop-x.invariant.1 m reads x e (omega (arith, h, c.loop-x-test.false, c.count-x-end.ensures.count)) less
