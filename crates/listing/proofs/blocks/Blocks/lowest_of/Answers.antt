use Rattle.std.proofs.Common.{rules, ◌∙◌, eqb, tests, ap}
use Rattle.std.specs.Prelude.{Option, unwrap_or, ℕ}
use Rattle.std.proofs.lemmas.Iterator.{YieldsList-from_slice}
use Rattle.std.proofs.lemmas.Iterator.Search.{position_from_yields_List}
use Rattle.listing.specs.Laws.Blocks.{position_lowest}
use Rattle.listing.proofs.blocks.Blocks.lowest_of.Goals as goal

pub returns-clause-value : goal.returns-clause-value
returns-clause-value c =
    let list = c.args.self.list.now in
    c.unwrap_or.ensures
    ∙ ap (λ (r : Option ℕ). unwrap_or r 0)
    (position_from_yields_List (λ x. eqb x c.args.b) _ _ _ c.position.ensures.ran (YieldsList-from_slice list cc)
    (λ x b q k. search (rules, tests)))
    ∙ position_lowest list c.args.b
