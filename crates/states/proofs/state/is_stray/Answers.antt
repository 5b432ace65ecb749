-- The values from n on.
use Rattle.std.proofs.Common.{rules, eqb, not, ◌∙◌}
use Rattle.std.proofs.lemmas.Iterator.{YieldsList-from_slice}
use Rattle.std.proofs.lemmas.Iterator.Adapters.{YieldsList-from_skip}
use Rattle.std.proofs.lemmas.Iterator.Search.{any_from_yields_List}
use Rattle.states.specs.Laws.StateCall.{strays-any}
use Rattle.states.proofs.state.is_stray.Goals as goal

pub returns : goal.returns
returns c =
    any_from_yields_List (λ v. not (eqb v 0)) _ _ c.any.result c.any.ensures.ran
    (YieldsList-from_skip {s = c.skip.result} c.args.n (YieldsList-from_slice c.args.values cc) cc) (λ x b q k. search rules)
    ∙ strays-any c.args.n c.args.values
