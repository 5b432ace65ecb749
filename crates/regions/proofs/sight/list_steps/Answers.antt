-- `list_steps` meets its contract. Assumes nothing.
use native.Mathlib.Omega.{arith}
use Prim.Native.Nat.{◌<◌}
use mathlib.Core.Path.{sym, ◌∙◌, subst}
use lib.ListN.{length}
use Rattle.clocks.specs.declared.region.Region.{Region}
use Rattle.regions.specs.declared.prepared.Prepared.{Prepared}
use Rattle.regions.specs.Of.{Of}
use Rattle.regions.specs.Explore.{regions_of}
use Rattle.regions.specs.Sight.{Stepping}
use Rattle.regions.specs.Laws.Sight.{steps_on}
use Rattle.regions.proofs.sight.list_steps.Goals as goal

pub loop-e-preserved : goal.loop-e-preserved
loop-e-preserved c =
    let loop = c.loop-e in
    let before = loop.invariant in
    let made = c.list_step.ensures in
    record {
      long = made.before.as_long ∙ before.long;
      model = made.same.0 ∙ before.model;
      region = made.same.1 ∙ before.region;
      steps = λ m reads.
          let here : loop.e < length m.edges = omega (arith, c.loop-e-test.true, c.edge_count-e-end.ensures.count m reads) in
          let still = subst (λ (p : Prepared). Of p m) (sym before.model) reads in
          steps_on m (regions_of c.args.found) c.args.r loop.e loop.rows c.list_step.new.rows
          (c.args.model.now.suits m reads).fitting here made.before
          (before.steps m reads)
          (subst (λ (q : Region). Stepping m (regions_of c.args.found) q loop.e c.list_step.new.rows) before.region
          (made.stepping m still here));
    }
