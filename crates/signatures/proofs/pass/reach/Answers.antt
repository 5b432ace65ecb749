-- Loop: the names so far are a set; these and those of the rest are those of the whole.
use Rattle.std.proofs.Common.{arith}
use Rattle.signatures.specs.Named.{items_in, jump_of}
use Rattle.signatures.specs.Laws.Insert.{put-size}
use Rattle.signatures.specs.Laws.Delays.{going-turn, going-stop, going-over}
use Rattle.signatures.proofs.pass.reach.Goals as goal

pub returns-then-n-y : goal.returns-then-n-y
unfolding items_in
returns-then-n-y c =
    let args = c.args in
    let loop = c.loop-i in
    going-stop args.names.now args.x loop.delays.items loop.y loop._i loop.invariant.0 c.loop-i-test.true c.if-n-y.true

pub insert-requires : goal.insert-requires
unfolding items_in
insert-requires c =
    let loop = c.loop-i in
    (omega arith, (loop.invariant.0.rises, omega (arith, loop.invariant.1)))

pub loop-i-preserved : goal.loop-i-preserved
unfolding items_in jump_of
loop-i-preserved c =
    let args = c.args in
    let loop = c.loop-i in
    rw c.insert.ensures (
      going-turn args.names.now args.x loop.delays.items loop.y loop._i loop.invariant.0 c.from.result c.from-y.result
          c.loop-i-test.true (omega arith) c.from.ensures c.from-y.ensures,
      omega (arith, put-size c.from.result loop.delays.items, loop.invariant.1),
    )

pub returns : goal.returns
unfolding items_in
returns c =
    let args = c.args in
    let loop = c.loop-i in
    going-over args.names.now args.x loop.delays.items loop.y loop._i loop.invariant.0 c.loop-i-test.false
