-- `largest_invariant` meets its contract. Assumes nothing.
use Prim.Native.Nat.{max}
use mathlib.Core.Path.{◌∙◌, ap}
use native.Mathlib.Omega.{arith}
use Rattle.table.specs.Access.{no_invariant}
use Rattle.table.proofs.Laws.Reads.{counts-read}
use Rattle.regions.specs.Graph.{constant_of}
use Rattle.regions.specs.Laws.Every.{largest-on, largest-over}
use Rattle.table.specs.declared.model.Invariant.{Invariant}
use Rattle.regions.proofs.bounds.largest_invariant.Goals as goal

pub loop-i-init : goal.loop-i-init
loop-i-init c = λ m reads. omega arith

pub loop-i-preserved : goal.loop-i-preserved
loop-i-preserved c =
    let args = c.args in
    let loop = c.loop-i in
    let loop-test = c.loop-i-test in
    let max-best = c.max-best in
    λ m reads. let few = (counts-read args.bytes.now args.shape m reads).invariants in largest-on constant_of m.invariants
    loop.i loop.best no_invariant (loop.invariant m reads) (omega (arith, loop-test.true)) max-best.result
    (max-best.ensures ∙ ap (λ (a : Invariant). max loop.best a.constant) (c.invariant_at.ensures.value_2 m reads))

pub returns : goal.returns
returns c =
    let args = c.args in
    let loop = c.loop-i in
    λ m reads. let few = (counts-read args.bytes.now args.shape m reads).invariants in largest-over constant_of m.invariants
    loop.i loop.best no_invariant (loop.invariant m reads) (omega (arith, c.loop-i-test.false))
