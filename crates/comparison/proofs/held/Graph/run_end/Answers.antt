-- `run_end` goes on to what follows, as long as the number stays.
use Rattle.std.proofs.Common.{sym, ◌∙◌}
use Rattle.comparison.specs.Laws.Twins.{run_on}
use Rattle.comparison.proofs.Laws.Walks.{after-some}
use Rattle.comparison.proofs.held.Graph.run_end.Goals as goal

pub loop-preserved : goal.loop-preserved
loop-preserved c =
    let g = c.args.self in
    let args = c.args in
    let (at, below) = after-some g c.loop.last c.in-Some.next (sym c.after.ensures ∙ c.in-Some.is) in
    λ onward h. run_on g.n args.list.now g.nexts.now args.x c.loop.last c.in-Some.next onward (c.loop.invariant onward h) at below
    (sym c.is_related.ensures ∙ c.if-is_related.true)
