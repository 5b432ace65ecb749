-- One more item is alike to its lead; or one is not.
use Rattle.std.proofs.Common.{get_or, arith, sym, ap, ◌∙◌}
use Rattle.bisimulation.specs.Finite.{related}
use Rattle.bisimulation.proofs.Laws.Leads.{lead_low}
use Rattle.rounds.specs.Rounds.{judged_with}
use Rattle.rounds.specs.Laws.Rounds.{lead-alike, judged-not, judged-on, judged-all, reps-below}
use Rattle.rounds.proofs.judging.judge_firsts.Goals as goal

pub returns-then-not-is_alike : goal.returns-then-not-is_alike
returns-then-not-is_alike c =
    let firsts = c.args.firsts.now in
    let x = c.loop-x.x in
    let y = get_or firsts x 0 in
    λ F held closed reps.
    let is = reps.rep x c.loop-x-test.true in
    let judged = c.is_alike.ensures F held closed (reps-below c.args.graph.n (related firsts) firsts held.few reps) c.loop-x-test.true
    (omega (arith, is, lead_low (related firsts) x, c.loop-x-test.true)) (lead-alike firsts x y is) in
    sym (judged-not F closed firsts x (omega (arith, held.size, c.loop-x-test.true))
    (ap (judged_with F firsts x) (sym is) ∙ sym judged ∙ c.if-not-is_alike.true))

pub loop-x-preserved : goal.loop-x-preserved
loop-x-preserved c =
    let firsts = c.args.firsts.now in
    let x = c.loop-x.x in
    let y = get_or firsts x 0 in
    λ F held closed reps.
    let is = reps.rep x c.loop-x-test.true in
    let judged = c.is_alike.ensures F held closed (reps-below c.args.graph.n (related firsts) firsts held.few reps) c.loop-x-test.true
    (omega (arith, is, lead_low (related firsts) x, c.loop-x-test.true)) (lead-alike firsts x y is) in
    judged-on F firsts x y (c.loop-x.invariant F held closed reps) is (sym judged ∙ c.if-not-is_alike.false)

pub returns : goal.returns
returns c =
    λ F held closed reps. sym (judged-all F closed c.args.firsts.now c.args.graph.n held.size
    (λ x h. c.loop-x.invariant F held closed reps x (omega (arith, h, c.loop-x-test.false))))
