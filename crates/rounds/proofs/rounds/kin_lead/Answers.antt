-- A kin has the lead of the item.
use Rattle.std.proofs.Common.{arith, ◌∙◌}
use Rattle.bisimulation.specs.Finite.{next}
use Rattle.rounds.specs.Laws.Rounds.{led-by-kin}
use Rattle.rounds.proofs.rounds.kin_lead.Goals as goal

pub returns : goal.returns
returns c =
    let args = c.args in
    λ F held closed classes hx reps known first.
    let (hz, t) = c.in_ok-kin.ensures F held closed hx known first in
    let (own, below) = led-by-kin (next F args.names.now) args.graph.n args.x c.in_ok-kin.kin args.new.now classes hx hz reps t in
    (c.at.ensures ∙ own, omega (arith, c.at.ensures, below))
