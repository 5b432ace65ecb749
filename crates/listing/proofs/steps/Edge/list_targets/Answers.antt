-- One target more is stored.
use Rattle.std.proofs.Common.{◌+◌, ◌*◌, arith, length}
use Rattle.listing.specs.Laws.Rising.{targets-one, targets-all}
use Rattle.listing.proofs.steps.Edge.list_targets.Goals as goal

pub loop-i-preserved : goal.loop-i-preserved
loop-i-preserved c =
    targets-one c.args.self.rows.now (32 * c.args.self.number + 4) c.loop-i.i c.target.result c.loop-i.targets
    (omega (arith, c.loop-i-test.true, c.loop-i.auto.targets)) c.target.ensures c.loop-i.invariant

pub returns : goal.returns
returns c =
    targets-all c.args.self.rows.now (32 * c.args.self.number + 4) c.loop-i.i (length c.args.targets.now) c.loop-i.targets
    c.loop-i.auto.targets c.loop-i-test.false c.loop-i.auto.i-end c.loop-i.invariant
