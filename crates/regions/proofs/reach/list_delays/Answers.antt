-- `list_delays` meets its contract. Assumes nothing.
use native.Mathlib.Omega.{arith}
use mathlib.Core.Path.{refl}
use Rattle.std.proofs.Common.{rules}
use Rattle.regions.specs.Explore.{size_of}
use Rattle.regions.specs.Laws.Reach.{reaching-start, reaching-on, reaching-none, reaching-over}
use Rattle.regions.proofs.reach.list_delays.Goals as goal

pub loop-i-init : goal.loop-i-init
loop-i-init c =
    let found = c.args.found in
    λ m reads. reaching-start m found.entries.now (size_of found) found.index.few c.args.r c.args.delays.now _ c.number.result
    (search rules) refl c.number.ensures.value

pub returns-in_default : goal.returns-in_default
returns-in_default c =
    let found = c.args.found in
    let loop = c.loop-i in
    λ m reads. reaching-none m found.entries.now (size_of found) found.index.few c.args.r loop.at loop.i _ loop.delays
    (loop.invariant m reads) c.args.delays.now c.number.result refl
    (omega (arith, c.loop-i-test.true, c.count-i-end.ensures.count)) (c.in_default.ensures m reads)

pub loop-i-preserved : goal.loop-i-preserved
loop-i-preserved c =
    let found = c.args.found in
    let loop = c.loop-i in
    λ m reads. reaching-on m found.entries.now (size_of found) found.index.few c.args.r loop.at loop.i _ loop.delays
    (loop.invariant m reads) c.in-Some.q c.number-in-loop-i.result _
    (omega (arith, c.loop-i-test.true, c.count-i-end.ensures.count)) (search rules) (c.in-Some.ensures m reads)
    c.number-in-loop-i.ensures.value refl

pub returns : goal.returns
returns c =
    let found = c.args.found in
    let loop = c.loop-i in
    λ m reads.
    let done = reaching-over m found.entries.now (size_of found) found.index.few c.args.r loop.at loop.i _ loop.delays
    (loop.invariant m reads) c.args.delays.now c.number.result refl
    (omega (arith, loop.auto.i-end, c.count-i-end.ensures.count))
    (omega (arith, c.loop-i-test.false, c.count-i-end.ensures.count)) in
    (omega (arith, done.0, c.count.ensures.count), done.1)
