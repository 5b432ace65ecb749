-- `see_steps` meets its contract. Assumes nothing.
use Rattle.regions.specs.Explore.{size_of}
use Rattle.regions.specs.Laws.Sight.{sighted}
use Rattle.regions.proofs.sight.see_steps.Goals as goal

pub returns : goal.returns
returns c =
    let found = c.args.found in
    λ m reads. sighted m found.entries.now (size_of found) c.args.x c.region-r.result c.list_delays.result c.args.delays.now
    c.list_delays.new.delays c.list_steps.new.rows c.region-r.ensures (c.list_delays.ensures m reads)
    (c.list_steps.ensures m reads)
