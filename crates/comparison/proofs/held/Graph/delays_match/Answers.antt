-- `delays_match` marks the numbers that y reaches, and looks for those that x reaches.
use Rattle.std.proofs.Common.{ℕ, ◌∙◌, ap, cond}
use Rattle.std.proofs.lemmas.List.{length-replicate, get_or-replicate}
use Rattle.comparison.specs.Graphs.{reaches_number}
use Rattle.comparison.specs.Laws.Compare.{marked-answers}
use Rattle.comparison.proofs.held.Graph.delays_match.Goals as goal

pub returns : goal.returns
returns c =
    let args = c.args in
    let graph = c.args.self in
    let marks = c.mark_delays in
    λ below hx. c.are_marked.ensures
    ∙ marked-answers graph.n args.list.now graph.nexts.now marks.new.marks args.x args.y below hx
    (λ v h. marks.ensures v (rw (length-replicate {A = ℕ} 4096 0) h)
    ∙ ap (λ (m : ℕ). cond (reaches_number graph args.list.now v args.y) 1 m) (get_or-replicate {A = ℕ} 4096 v 0 0 h))
