-- `meets_guards` meets its contract. Assumes nothing.
use mathlib.Core.Path.{refl, sym, ◌∙◌, ap}
use native.Mathlib.Omega.{arith}
use Rattle.table.specs.Access.{no_guard}
use Rattle.table.specs.Reads.{edge_of}
use Rattle.regions.specs.Graph.{satisfies}
use Rattle.regions.specs.Laws.Every.{every-on, every-fails, every-over}
use Rattle.regions.proofs.guards.meets_guards.Goals as goal

pub loop-i-init : goal.loop-i-init
loop-i-init c = λ m e reads. refl

pub returns-then-not-is_satisfied : goal.returns-then-not-is_satisfied
returns-then-not-is_satisfied c =
    let guard-count = c.guard_count-i-end in
    let loop = c.loop-i in
    let args = c.args in
    let loop-test = c.loop-i-test in
    let guard-at = c.guard_at in
    let is-satisfied = c.is_satisfied in
    λ m e reads. let few = guard-count.ensures.value_2 m e reads in sym
    (loop.invariant m e reads ∙ every-fails (satisfies args.bounds args.r) (edge_of m e).guards loop.i no_guard
    (omega (arith, loop-test.true))
    (sym (ap (satisfies args.bounds args.r) (guard-at.ensures.value_2 m e reads)) ∙ sym is-satisfied.ensures
    ∙ c.if-not-is_satisfied.true))

pub loop-i-preserved : goal.loop-i-preserved
loop-i-preserved c =
    let guard-count = c.guard_count-i-end in
    let loop = c.loop-i in
    let args = c.args in
    let loop-test = c.loop-i-test in
    let guard-at = c.guard_at in
    let is-satisfied = c.is_satisfied in
    λ m e reads. let few = guard-count.ensures.value_2 m e reads in loop.invariant m e reads
    ∙ every-on (satisfies args.bounds args.r) (edge_of m e).guards loop.i no_guard (omega (arith, loop-test.true))
    (sym (ap (satisfies args.bounds args.r) (guard-at.ensures.value_2 m e reads)) ∙ sym is-satisfied.ensures
    ∙ c.if-not-is_satisfied.false)

pub returns : goal.returns
returns c =
    let guard-count = c.guard_count-i-end in
    let loop = c.loop-i in
    let args = c.args in
    λ m e reads. let few = guard-count.ensures.value_2 m e reads in sym
    (loop.invariant m e reads ∙ every-over (satisfies args.bounds args.r) (edge_of m e).guards loop.i no_guard
    (omega (arith, c.loop-i-test.false)))
