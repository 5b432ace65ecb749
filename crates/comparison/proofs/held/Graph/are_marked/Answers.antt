-- `are_marked` tells whether the number of each item along the chain is marked.
use Rattle.std.proofs.Common.{rules, ℕ, eqb, get_or}
use Rattle.std.proofs.lemmas.Iterator.Consumers.{YieldsList-from_first}
use Rattle.std.proofs.lemmas.Iterator.Search.{all_from_yields_List}
use Rattle.comparison.specs.Graphs.{chain}
use Rattle.comparison.proofs.Laws.Walks.{left-of}
use Rattle.comparison.proofs.held.Graph.are_marked.Goals as goal

pub returns : goal.returns
returns c =
    let args = c.args in
    all_from_yields_List (λ (x : ℕ). eqb (get_or args.marks.now (get_or args.list.now x 0) 0) 1) c.all.new.self _ _ c.all.ensures.ran
    (YieldsList-from_first (λ x. x) left-of {s = c.delays.result} (chain args.self args.x) c.delays.ensures) (λ x b q k. search rules)
