-- `follower` meets its contract: the region that follows is given, breaks its invariant, or there is none. Assumes nothing.
use mathlib.Core.Path.{sym, ◌∙◌, ap}
use Rattle.clocks.specs.Packed.{delayed}
use Rattle.clocks.specs.declared.region.Bounds.{Bounds}
use Rattle.regions.specs.Laws.Graph.{delay-none, delay-breaks, delay-some}
use Rattle.regions.proofs.prepared.Prepared.follower.Goals as goal

pub returns-in-Some : goal.returns-in-Some
returns-in-Some c =
    let r = c.args.r in
    λ m reads. delay-some m r c.in-Some.q
    (ap (λ (x : Bounds). delayed x r) (sym (c.args.self.now.suits m reads).bounds_are) ∙ sym c.in-Some.ensures)
    (sym (c.meets_invariant.ensures m reads) ∙ c.if-meets_invariant.true)

pub returns-in_default : goal.returns-in_default
returns-in_default c =
    let r = c.args.r in
    λ m reads. delay-breaks m r c.in-Some.q
    (ap (λ (x : Bounds). delayed x r) (sym (c.args.self.now.suits m reads).bounds_are) ∙ sym c.in-Some.ensures)
    (sym (c.meets_invariant.ensures m reads) ∙ c.if-meets_invariant.false)

pub returns-in_default-2 : goal.returns-in_default-2
returns-in_default-2 c =
    let r = c.args.r in
    λ m reads. delay-none m r
    (ap (λ (x : Bounds). delayed x r) (sym (c.args.self.now.suits m reads).bounds_are) ∙ sym c.in_default.ensures)
