-- `meets_invariant` meets its contract, by the limits of the model. Assumes nothing.
use mathlib.Core.Path.{◌∙◌, ap}
use Rattle.table.proofs.Laws.Reads.{sound-read}
use Rattle.clocks.specs.declared.region.Bounds.{Bounds}
use Rattle.regions.specs.Graph.{meets}
use Rattle.regions.specs.Limits.{limits-tell}
use Rattle.regions.proofs.prepared.Prepared.meets_invariant.Goals as goal

pub returns : goal.returns
returns c =
    let self = c.args.self.now in
    λ m reads.
    let suits = self.suits m reads in
    c.is_under_all.ensures
    ∙ limits-tell m self.limits (record { sound = sound-read self.bytes.now self.shape m reads; limit = suits.limits_are })
    self.bounds c.args.r
    ∙ ap (λ (x : Bounds). meets x m.invariants c.args.r) suits.bounds_are
