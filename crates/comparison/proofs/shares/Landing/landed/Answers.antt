-- `landed` is the sum over the branches.
use Rattle.std.proofs.Common.{arith, sym}
use Rattle.comparison.specs.Keys.{landed}
use Rattle.comparison.specs.Graphs.{count, landed_by}
use Rattle.comparison.specs.Laws.KeyLoops.{sum-none, sum-next, sum_done}
use Rattle.comparison.proofs.shares.Landing.landed.Goals as goal

pub loop-i-init : goal.loop-i-init
loop-i-init c =
    let s = c.args.self.now in
    record { small = omega arith; sum = sym (sum-none (landed_by s.graph s.list.now s.x s.e)) }

pub loop-i-preserved : goal.loop-i-preserved
loop-i-preserved c =
    let s = c.args.self.now in
    let loop = c.loop-i in
    let branch = c.branch_code-total in
    record {
      small = omega arith;
      sum = sum-next loop.i (landed_by s.graph s.list.now s.x s.e) loop.total branch.result loop.invariant.sum
          (branch.ensures.value (omega arith));
    }

pub returns : goal.returns
unfolding landed
returns c =
    let s = c.args.self.now in
    let loop = c.loop-i in
    sum_done (count s.graph s.e) loop.i (landed_by s.graph s.list.now s.x s.e) loop.total (omega arith) (omega arith) loop.invariant.sum
