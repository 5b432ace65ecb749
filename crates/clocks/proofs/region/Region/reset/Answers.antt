-- Restart, then close up.
use Rattle.clocks.specs.Packed.{reset-done}
use Rattle.clocks.proofs.region.Region.reset.Goals as goal

pub returns : goal.returns
returns c =
    reset-done c.args.bounds c.args.self c.clocks-clocks.result c.clocks-clocks.ensures c.args.mask c.restart_all.result
    c.close_all.result c.with_clocks.result c.restart_all.ensures c.close_all.ensures c.with_clocks.ensures
