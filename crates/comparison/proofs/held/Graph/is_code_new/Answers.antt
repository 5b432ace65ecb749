-- `is_code_new` tells whether no lower available edge has the code.
use Rattle.std.proofs.Common.{rules, ◌≡◌, get_or, inl, inr, sym, ◌∙◌, ap, not, true}
use borrow.Author.Tests.{tests}
use Rattle.bisimulation.specs.Finite.{some_below}
use Rattle.bisimulation.proofs.Laws.Tests.{below-some}
use Rattle.comparison.specs.Laws.KeyLoops.{has_code, code-hit, code-miss, code-none}
use Rattle.comparison.proofs.Laws.Opens.{all-open}
use Rattle.comparison.proofs.Laws.Walks.{past-first}
use Rattle.comparison.proofs.held.Graph.is_code_new.Goals as goal

pub returns : goal.returns
returns c =
    let g = c.args.self in
    let args = c.args in
    let has = has_code g.flags.now args.codes.now args.x args.code in
    λ opened hx he.
    elim (all-open _ g args.x args.e (λ f. ¬ (get_or args.codes.now f 0 ≡ args.code)) (some_below args.e has ≡ true) _ c.all.new.self
    c.all.result
    (λ f q h ready k. search (rules, tests))
    (λ f q h ready k. below-some args.e has f h (code-hit g.flags.now args.codes.now args.x args.code f ready (search (rules, tests))))
    (past-first opened hx he c.open_before.ensures.0) c.all.ensures.ran) [
      | inl (t, none) ↦
          t
          ∙ sym (ap not (code-none g.flags.now args.codes.now args.x args.code args.e
          (λ f h ready. code-miss g.flags.now args.codes.now args.x args.code f (none f h ready))))
      | inr (f, some) ↦ f ∙ sym (ap not some)
    ]
