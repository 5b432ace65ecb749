-- `list_sets` meets its contract. Assumes nothing.
use native.Mathlib.Omega.{arith}
use Prim.Native.Nat.{ℕ, ◌+◌, ◌*◌, ◌<◌}
use mathlib.Core.Path.{◌∙◌, ap, subst}
use lib.ListN.{length, length-set, set}
use Rattle.clocks.specs.declared.region.Region.{Region}
use Rattle.regions.specs.Explore.{size_of}
use Rattle.regions.specs.Filling.{bare, Classed}
use Rattle.regions.specs.Laws.Filling.{grouped-on}
use Rattle.regions.proofs.classes.list_sets.Goals as goal

pub loop-x-preserved : goal.loop-x-preserved
loop-x-preserved c =
    let found = c.args.found in
    let loop = c.loop-x in
    let before = loop.invariant in
    let sets = loop.sets in
    let now = c.group_of-at.new.sets in
    let made = c.group_of-at.ensures in
    let is = c.bare_of.ensures ∙ ap bare c.region-r.ensures in
    let less : loop.x < size_of found = omega (arith, c.loop-x-test.true, c.count-x-end.ensures.count) in
    record {
      slice = made.slice ∙ before.slice;
      cap = made.cap ∙ before.cap;
      spots = ap length c.put.ensures ∙ length-set loop.spots _ _ ∙ before.spots;
      grouped = grouped-on found.entries.now (size_of found) loop.x less found.index.few sets.entries.now loop.spots sets.links.count
          before.grouped now.entries.now c.group_of-at.result now.links.count
          (subst (λ (q : Region). Classed q sets.entries.now sets.links.count now.entries.now now.links.count c.group_of-at.result) is
          made.classed)
          (omega (arith, c.requires.2, before.spots)) c.put.new.list
          (c.put.ensures
          ∙ ap (λ (l : ℕ). set loop.spots (64 * c.group_of-at.result + l) loop.x)
          (c.from.ensures ∙ ap (λ (r : Region). r.location) c.region-r.ensures));
    }
