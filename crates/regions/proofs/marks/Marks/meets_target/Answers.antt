-- `meets_target` meets its contract: a mark tells what was found, and is set to what is found now. Assumes nothing.
use Prim.Native.Nat.{ℕ}
use mathlib.Core.Path.{sym, ◌∙◌, ap, subst}
use lib.ListN.{get_or, set}
use Rattle.std.specs.Prelude.{map}
use Rattle.std.proofs.Math.ListN.{get_or-map}
use Rattle.std.proofs.lemmas.List.{map-set}
use Rattle.clocks.specs.declared.region.Bounds.{Bounds}
use Rattle.regions.specs.Graph.{bounds_of, meets, landing}
use Rattle.regions.specs.declared.marks.Mark.TheVariants.{Untested}
use Rattle.regions.specs.Marks.{Tested, answer_of, mark_place, tested-on}
use Rattle.regions.proofs.marks.Marks.meets_target.Goals as goal

pub returns-in-Some-clause-value : goal.returns-in-Some-clause-value
returns-in-Some-clause-value c =
    let self = c.args.self.now in
    let b = c.args.b in
    λ m reads.
    self.told.told m reads c.in-Some.meets b
    (get_or-map answer_of self.tested (mark_place b) Untested
    ∙ ap (λ (k : ℕ). answer_of (get_or self.tested k Untested)) (sym c.mark_place-at.ensures)
    ∙ ap answer_of (sym c.at.ensures)
    ∙ sym c.in-Some.ensures)
    ∙ ap (λ (x : Bounds). meets (bounds_of m) m.invariants (landing x self.region b)) (self.model.now.suits m reads).bounds_are

pub invariant_of-self : goal.invariant_of-self
invariant_of-self c =
    let self = c.args.self.now in
    let b = c.args.b in
    let meets-is = c.meets_invariant-meets in
    record {
      told = subst (Tested self.model.now self.region)
          (sym
          (ap (map answer_of) c.put.ensures
          ∙ map-set answer_of self.tested c.mark_place-at.result c.of.result
          ∙ ap (λ (k : ℕ). set (map answer_of self.tested) k (answer_of c.of.result)) c.mark_place-at.ensures
          ∙ ap (set (map answer_of self.tested) (mark_place b)) c.of.ensures))
          (tested-on self.model.now self.region (map answer_of self.tested) self.told b meets-is.result
          (λ m reads. meets-is.ensures m reads ∙ ap (meets (bounds_of m) m.invariants) c.landing_of-q.ensures));
    }
