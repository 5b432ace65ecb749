-- `code_of` is the code of a landing of this graph, list and edge.
use Rattle.std.proofs.Common.{◌∙◌, ◌≡◌}
use Rattle.comparison.specs.Graphs.{code_of}
use Rattle.comparison.proofs.held.Graph.code_of.Goals as goal

pub returns : goal.returns
returns c =
    let one = c.new.ensures in
    let at = c.new.result in
    let args = c.args in
    let same : code_of at.graph at.list.now at.x at.e ≡ code_of args.self args.list.now args.x args.e =
    λ i. code_of (one.0 i) (one.1 i).now (one.2 i) (one.3 i) in
    (c.code.ensures.0 ∙ same, c.code.ensures.1)
