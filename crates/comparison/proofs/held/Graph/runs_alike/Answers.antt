-- `runs_alike` goes from run to run along both delays, until they meet or end.
use Rattle.std.proofs.Common.{sym, ◌∙◌}
use Rattle.comparison.specs.Laws.Twins.{beside-ends, beside-met, beside-over, beside-on}
use Rattle.comparison.proofs.Laws.Walks.{after-some, after-none}
use Rattle.comparison.proofs.held.Graph.runs_alike.Goals as goal

pub returns-then-last-stop : goal.returns-then-last-stop
returns-then-last-stop c =
    let g = c.args.self in
    let args = c.args in
    let last = c.run_end-last in
    let stop = c.run_end-stop in
    λ _ onward hx hy t. beside-met g.n args.list.now g.nexts.now args.x args.y last.result stop.result
    (beside-ends g.n args.list.now g.nexts.now args.x args.y c.loop.one c.loop.other last.result stop.result onward
    (c.loop.invariant onward hx hy t) last.ensures stop.ensures) c.if-last-stop.true

pub returns-in-None-None : goal.returns-in-None-None
returns-in-None-None c =
    let g = c.args.self in
    let args = c.args in
    let last = c.run_end-last in
    let stop = c.run_end-stop in
    λ _ onward hx hy t. beside-over g.n args.list.now g.nexts.now args.x args.y last.result stop.result
    (beside-ends g.n args.list.now g.nexts.now args.x args.y c.loop.one c.loop.other last.result stop.result onward
    (c.loop.invariant onward hx hy t) last.ensures stop.ensures)
    (after-none g last.result (sym c.after.ensures ∙ c.in-None-None.is-0))
    (after-none g stop.result (sym c.after-in-loop.ensures ∙ c.in-None-None.is-1))

pub loop-preserved : goal.loop-preserved
loop-preserved c =
    let g = c.args.self in
    let args = c.args in
    let last = c.run_end-last in
    let stop = c.run_end-stop in
    let next = c.in-Some-Some.next in
    let follow = c.in-Some-Some.follow in
    let (at, below) = after-some g last.result next (sym c.after.ensures ∙ c.in-Some-Some.is-0) in
    let (at', below') = after-some g stop.result follow (sym c.after-in-loop.ensures ∙ c.in-Some-Some.is-1) in
    λ onward hx hy t. beside-on g.n args.list.now g.nexts.now args.x args.y last.result stop.result next follow onward
    (beside-ends g.n args.list.now g.nexts.now args.x args.y c.loop.one c.loop.other last.result stop.result onward
    (c.loop.invariant onward hx hy t) last.ensures stop.ensures)
    at below at' below' (sym c.is_related.ensures ∙ c.if-is_related.true)
