-- What is plainly alike is alike in the next round.
use Rattle.std.proofs.Common.{sym, ◌∙◌}
use Rattle.comparison.specs.Laws.Compare.{next-held}
use Rattle.rounds.specs.Laws.Rounds.{judged-next}
use Rattle.rounds.proofs.judging.is_alike.Goals as goal

pub returns-then-is_twin : goal.returns-then-is_twin
returns-then-is_twin c =
    let args = c.args in
    let g = args.graph in
    λ F held closed below hx hy r.
    let meets = c.is_twin.ensures.y_value c.if-is_twin.true held.onward held.opened hx hy in
    c.if-is_twin.true ∙ sym meets
    ∙ next-held F g.n g.k args.list.now g.labels.now g.nexts.now g.flags.now g.resets.now g.spots.now g.rows.now held closed args.x args.y
    hx hy
    ∙ judged-next F args.list.now args.x args.y
    (sym (held.label args.x hx) ∙ sym c.at.ensures ∙ c.if-at.true ∙ c.at-2.ensures ∙ held.label args.y hy) r
