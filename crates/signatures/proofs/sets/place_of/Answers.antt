-- What is at most the last number, and not it, is searched for.
use Rattle.std.specs.Prelude.{refl}
use Rattle.std.proofs.Common.{arith, le_refl}
use Rattle.signatures.specs.Laws.Insert.{past_last, at_last, searched_put}
use Rattle.signatures.proofs.sets.place_of.Goals.{then-n-eq0-via-then-n-eq0, then-n-eq0-via-else-n-eq0+then-list-n}
use Rattle.signatures.proofs.sets.place_of.Goals as goal

pub returns-then-n-eq0 : goal.returns-then-n-eq0
returns-then-n-eq0 c =
    let args = c.args in
    elim c.then-n-eq0.branch [
      | then-n-eq0-via-then-n-eq0 w ↦
          (le_refl _, past_last args.number args.list.now c.requires _ refl (λ some. absurd (omega (arith, some, w.if-n-eq0.true))))
      | then-n-eq0-via-else-n-eq0+then-list-n w ↦
          (le_refl _, past_last args.number args.list.now c.requires _ refl (λ some. w.if-list-n.true))
    ]

pub returns-then-list-n-2 : goal.returns-then-list-n-2
returns-then-list-n-2 c =
    at_last c.args.number c.args.list.now c.requires _ (omega (arith, c.if-n-eq0.false)) refl c.if-list-n-2.true

pub returns : goal.returns
returns c = searched_put c.args.number c.args.list.now c.requires _ c.binary_search.ensures.position
