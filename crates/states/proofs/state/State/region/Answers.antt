-- The bytes of the four clocks are those of the state's region.
use Rattle.std.proofs.Common.{◌≡◌, ◌∙◌, ap, ap₂, arith, ℕ}
use Rattle.std.proofs.lemmas.Grind.{common_steps}
use Rattle.states.specs.Spots.{spot_fractions, spot_wholes, fraction_ranks}
use Rattle.states.specs.Taken.{state_of}
use Rattle.states.specs.Laws.Spots.{region-is}
use Rattle.states.proofs.state.State.region.Goals as goal

pub returns : goal.returns
returns c =
    let args = c.args in
    let spots = c.spots-spots in
    let fractions : c.map.result ≡ spot_fractions spots.result = grind (arith, common_steps) in
    region-is args.bounds (state_of args.self) spots.result c.wholes_of.result c.ranks_of.result spots.ensures
    (c.wholes_of.ensures ∙ ap (λ (n : ℕ). spot_wholes n spots.result) c.from-count.ensures)
    (c.ranks_of.ensures ∙ ap₂ fraction_ranks c.from-count.ensures fractions)
