-- `is_available` meets its contract: the source, then the guards, then where the branches land. Assumes nothing.
use mathlib.Core.Path.{sym, ◌∙◌, ap}
use Rattle.std.proofs.Common.{eqb-true}
use Rattle.table.specs.Reads.{edge_of}
use Rattle.clocks.specs.declared.region.Bounds.{Bounds}
use Rattle.regions.specs.Graph.{every, satisfies}
use Rattle.regions.specs.Laws.Graph.{not-source, not-guards, when-fits}
use Rattle.regions.proofs.marks.Marks.is_available.Goals as goal
use Rattle.regions.proofs.marks.Marks.is_available.Goals.{then-source-self, else-source-self}

pub returns-then-meets_guards-clause-value : goal.returns-then-meets_guards-clause-value
returns-then-meets_guards-clause-value c =
    let self = c.args.self.now in
    λ m e reads edge from.
    elim c.if-source-self.branch [
      | then-source-self w ↦
          c.lands_all.ensures.value m e reads edge
          ∙ sym (when-fits m (edge_of m e) self.region (sym from ∙ w.if-source-self.true)
          (ap (λ (x : Bounds). every (satisfies x self.region) (edge_of m e).guards) (sym (self.model.now.suits m reads).bounds_are)
          ∙ sym (w.meets_guards.ensures m e edge)
          ∙ sym w.value-is
          ∙ c.if-meets_guards.true))
      | else-source-self w ↦
          absurd (w.if-source-self.false (eqb-true c.args.source self.region.location (sym w.value-is ∙ c.if-meets_guards.true)))
    ]

pub returns-else-meets_guards-clause-value : goal.returns-else-meets_guards-clause-value
returns-else-meets_guards-clause-value c =
    let self = c.args.self.now in
    λ m e reads edge from.
    c.if-meets_guards.false
    ∙ elim c.if-source-self.branch [
      | then-source-self w ↦
          sym
          (not-guards m (edge_of m e) self.region (sym from ∙ w.if-source-self.true)
          (ap (λ (x : Bounds). every (satisfies x self.region) (edge_of m e).guards) (sym (self.model.now.suits m reads).bounds_are)
          ∙ sym (w.meets_guards.ensures m e edge)
          ∙ sym w.value-is
          ∙ c.if-meets_guards.false))
      | else-source-self w ↦ sym (not-source m (edge_of m e) self.region (λ h. w.if-source-self.false (from ∙ h)))
    ]
