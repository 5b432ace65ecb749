-- `landing_of` meets its contract. Assumes nothing.
use mathlib.Core.Path.{ap}
use Rattle.regions.specs.Graph.{landing}
use Rattle.clocks.specs.declared.region.Region.{Region}
use Rattle.regions.proofs.guards.landing_of.Goals as goal

pub returns : goal.returns
unfolding landing
returns c =
    ap (λ (x : Region). record { location = c.args.b.target; whole = x.whole; rank = x.rank })
    c.reset-q.ensures
