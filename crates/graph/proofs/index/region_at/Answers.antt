-- Loop: the walk from here with the steps that are left finds what the whole walk finds.
use Prim.Native.Nat.{ℕ, ◌+◌}
use Prim.Native.Nat.{◌-◌}
use mathlib.Core.Path.{sym, ◌∙◌, ap}
use native.Mathlib.Omega.{arith}
use Rattle.graph.specs.Readers.{walk}
use Rattle.graph.proofs.Laws.Walks.{walk_start, walk_ends, walk_here, walk-on, walk-over}
use Rattle.graph.proofs.index.region_at.Goals as goal

pub loop-step-init : goal.loop-step-init
loop-step-init c =
    let args = c.args in (
      ap (λ (x : ℕ). walk args.graph.now 4096 x args.class) c.region_head-region.ensures.0 ∙ walk_start args.graph.now args.class
          args.location,
      c.region_head-region.ensures.1,
    )

pub returns-then-region-eq-NOTHING : goal.returns-then-region-eq-NOTHING
returns-then-region-eq-NOTHING c =
    let args = c.args in
    let loop = c.loop-step in (
      walk_ends args.graph.now args.class loop._step loop.region c.loop-step-test.true c.if-region-eq-NOTHING.true
          ∙ loop.invariant.0,
      omega arith,
    )

pub returns-then-class_of-class : goal.returns-then-class_of-class
returns-then-class_of-class c =
    let args = c.args in
    let loop = c.loop-step in
    let loop-test = c.loop-step-test in
    let if1 = c.if-region-eq-NOTHING in (
      walk_here args.graph.now args.class loop._step loop.region loop-test.true if1.false (sym c.class_of.ensures.0
          ∙ c.if-class_of-class.true) ∙ loop.invariant.0,
      loop.invariant.1,
    )

pub loop-step-preserved : goal.loop-step-preserved
loop-step-preserved c =
    let args = c.args in
    let loop = c.loop-step in
    let loop-test = c.loop-step-test in
    let if1 = c.if-region-eq-NOTHING in
    let class-of = c.class_of in (
      ap (λ (x : ℕ). walk args.graph.now (4096 - (loop._step + 1)) x args.class) c.region_link-region.ensures.0 ∙ walk-on args.graph.now
          args.class loop._step loop.region loop-test.true if1.false (λ e. c.if-class_of-class.false (class-of.ensures.0 ∙ e))
          ∙ loop.invariant.0,
      c.region_link-region.ensures.1,
    )

pub returns : goal.returns
returns c =
    let args = c.args in
    let loop = c.loop-step in
    (walk-over args.graph.now args.class loop._step loop.region c.loop-step-test.false ∙ loop.invariant.0, omega arith)
