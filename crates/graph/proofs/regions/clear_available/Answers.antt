-- Loop: the first words are cleared, and nothing else has changed.
use mathlib.Core.Path.{◌∙◌}
use native.Mathlib.Omega.{arith}
use Prim.Native.Nat.{◌+◌, ◌*◌, ◌%◌}
use Rattle.std.specs.Prelude.{◌≡◌}
use Rattle.std.proofs.Math.Nat.{mod-eq_of_lt}
use Rattle.graph.proofs.Laws.Walks.{cleared-none, cleared_more, cleared-all}
use Rattle.graph.proofs.regions.clear_available.Goals as goal

pub loop-word-init : goal.loop-word-init
loop-word-init c = cleared-none c.args.graph.now c.args.region

pub loop-word-preserved : goal.loop-word-preserved
loop-word-preserved c =
    let args = c.args in
    let loop = c.loop-word in
    let i = 8 * (args.region % 4096) + loop.word in
    let e : i % 32768 ≡ i = mod-eq_of_lt (omega arith) in
    c.set.ensures ∙ rw e (cleared_more args.graph.now args.region loop.graph loop.word loop.invariant)

pub returns : goal.returns
returns c =
    let loop = c.loop-word in
    loop.invariant ∙ cleared-all c.args.graph.now c.args.region loop.word (omega arith) (omega arith)
