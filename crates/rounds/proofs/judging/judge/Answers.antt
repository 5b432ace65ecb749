-- A proposal and its rep map relate the same items.
use Rattle.std.proofs.Common.{◌∙◌}
use Rattle.bisimulation.proofs.Laws.Leads.{related-equivalence, reps-own, reps-agree}
use Rattle.rounds.specs.Laws.Rounds.{accepts-agree}
use Rattle.rounds.proofs.judging.judge.Goals as goal

pub returns-then-graph-le-MOST_ITEMS-clause-value : goal.returns-then-graph-le-MOST_ITEMS-clause-value
returns-then-graph-le-MOST_ITEMS-clause-value c =
    λ F held closed.
    let reps = c.list_firsts.ensures in
    let classes = related-equivalence c.args.graph.n c.args.proposal.now in
    c.judge_firsts.ensures F held closed (reps-own classes reps)
    ∙ accepts-agree F closed c.list_firsts.result c.args.proposal.now (rw (← held.size) (reps-agree classes reps))
