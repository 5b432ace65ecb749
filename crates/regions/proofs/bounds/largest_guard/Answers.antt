-- `largest_guard` meets its contract. Assumes nothing.
use Prim.Native.Nat.{max}
use mathlib.Core.Path.{◌∙◌, ap}
use native.Mathlib.Omega.{arith}
use Rattle.table.specs.Access.{no_guard}
use Rattle.table.specs.Reads.{edge_of}
use Rattle.regions.specs.Graph.{guard_constant}
use Rattle.regions.specs.Laws.Every.{largest-on, largest-over}
use Rattle.table.specs.declared.model.Guard.{Guard}
use Rattle.regions.proofs.bounds.largest_guard.Goals as goal

pub loop-i-init : goal.loop-i-init
loop-i-init c = λ m e reads. omega arith

pub loop-i-preserved : goal.loop-i-preserved
loop-i-preserved c =
    let guard-count = c.guard_count-i-end in
    let loop = c.loop-i in
    let loop-test = c.loop-i-test in
    let max-best = c.max-best in
    λ m e reads. let few = guard-count.ensures.value_2 m e reads in largest-on guard_constant (edge_of m e).guards loop.i loop.best
    no_guard (loop.invariant m e reads) (omega (arith, loop-test.true)) max-best.result
    (max-best.ensures ∙ ap (λ (g : Guard). max loop.best g.constant) (c.guard_at.ensures.value_2 m e reads))

pub returns : goal.returns
returns c =
    let guard-count = c.guard_count-i-end in
    let loop = c.loop-i in
    λ m e reads. let few = guard-count.ensures.value_2 m e reads in largest-over guard_constant (edge_of m e).guards loop.i loop.best
    no_guard (loop.invariant m e reads) (omega (arith, c.loop-i-test.false))
