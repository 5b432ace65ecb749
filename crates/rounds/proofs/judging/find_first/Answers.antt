-- The search goes on along the bucket until it comes to the number.
use Rattle.std.proofs.Common.{ℕ, suc, ◌%◌, get_or, arith, sym, ap, ◌∙◌}
use Rattle.rounds.specs.Firsts.{bucket_prime, Looking}
use Rattle.rounds.specs.Links.{link_to}
use Rattle.rounds.specs.Laws.Firsts.{looking-start, looking-on, looking-found, looking-none, next-falls}
use Rattle.rounds.proofs.judging.find_first.Goals as goal

pub loop-next-init : goal.loop-next-init
loop-next-init c =
    let list = c.args.proposal.now in (
      c.at-number.ensures,
      rw (c.newest-next.ensures
          ∙ ap (λ (b : ℕ). get_or c.args.index.now.heads b 0) (c.bucket_of.ensures ∙ ap (λ (v : ℕ). v % bucket_prime) c.at-number.ensures))
          (looking-start list c.args.index.now c.args.x c.requires),
    )

pub loop-next-smaller : goal.loop-next-smaller
loop-next-smaller c =
    let at : Looking c.args.proposal.now c.args.x (suc c.in-Some.y) = rw c.in-Some.is at c.loop-next.invariant.1 in
    omega (
      arith,
      c.before-next.ensures,
      next-falls c.args.proposal.now c.args.index.now c.args.x c.requires c.in-Some.y at,
      ap link_to c.in-Some.is,
    )

pub loop-next-preserved : goal.loop-next-preserved
loop-next-preserved c =
    let at : Looking c.args.proposal.now c.args.x (suc c.in-Some.y) = rw c.in-Some.is at c.loop-next.invariant.1 in (
      c.loop-next.invariant.0,
      rw c.before-next.ensures
          (looking-on c.args.proposal.now c.args.index.now c.args.x c.requires c.in-Some.y at
          (λ e. c.if-at-number.false (c.at.ensures ∙ e ∙ sym c.loop-next.invariant.0))),
    )

pub returns-then-at-number : goal.returns-then-at-number
returns-then-at-number c =
    let at : Looking c.args.proposal.now c.args.x (suc c.in-Some.y) = rw c.in-Some.is at c.loop-next.invariant.1 in (
      looking-found c.args.proposal.now c.args.index.now c.args.x c.requires c.in-Some.y at
          (sym c.at.ensures ∙ c.if-at-number.true ∙ c.loop-next.invariant.0),
      omega (arith, at.within),
    )

pub returns-in_default : goal.returns-in_default
returns-in_default c =
    let at : Looking c.args.proposal.now c.args.x 0 = rw c.in_default.is at c.loop-next.invariant.1 in
    rw c.in_default.is (looking-none c.args.proposal.now c.args.index.now c.args.x c.requires at)
