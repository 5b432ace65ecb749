-- `block_code` mixes the number of the block with its share, where a weight lands there.
use Rattle.std.proofs.Common.{arith, ℕ, ◌%◌, sym, ◌∙◌, ap, ap₂, eq-eqb, ne_eqb, refl}
use Rattle.comparison.specs.Held.{most_items}
use Rattle.comparison.specs.Keys.{block_code, mixed, share_of}
use Rattle.comparison.specs.Graphs.{weighed}
use Rattle.comparison.proofs.shares.Landing.block_code.Goals as goal

pub returns-in-0-clause-value : goal.returns-in-0-clause-value
unfolding block_code
returns-in-0-clause-value c =
    let s = c.args.self.now in
    λ b h. rw (eq-eqb (weighed s.graph s.list.now b s.x s.e) 0 (sym (c.weigh.ensures.value b h) ∙ c.in-0.is)) refl

pub returns-in_default-clause-value : goal.returns-in_default-clause-value
unfolding block_code
returns-in_default-clause-value c =
    let s = c.args.self.now in
    λ b h.
    rw (ne_eqb (weighed s.graph s.list.now b s.x s.e) 0 (λ z. omega (arith, c.weigh.ensures.value b h)))
    (c.mix_of.ensures.0
    ∙ ap₂ (λ (m t : ℕ). mixed m t) (ap (λ (u : ℕ). u % most_items) h)
    (c.share_of.ensures.0 ∙ ap₂ (λ (w t : ℕ). share_of w t) (c.weigh.ensures.value b h) c.whole_at.ensures.0))
