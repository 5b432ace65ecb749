-- `lands_all` meets its contract. The loop's invariant: the first i branches land where they may. Assumes nothing.
use mathlib.Core.Path.{sym, ◌∙◌, ap, subst}
use mathlib.Core.Bool.{Bool}
use native.Mathlib.Omega.{arith}
use Rattle.table.specs.Access.{no_branch}
use Rattle.table.specs.Reads.{ReadsEdge, edge_of}
use Rattle.table.specs.declared.model.Branch.{Branch}
use Rattle.clocks.specs.declared.region.Region.{Region}
use Rattle.regions.specs.Of.{Of}
use Rattle.regions.specs.declared.prepared.Prepared.{Prepared}
use Rattle.regions.specs.Graph.{bounds_of, meets, landing, lands}
use Rattle.regions.specs.Laws.Every.{every-fails, every-over}
use Rattle.regions.proofs.marks.Marks.lands_all.Goals as goal

pub returns-then-not-meets_target-clause-value : goal.returns-then-not-meets_target-clause-value
unfolding lands
returns-then-not-meets_target-clause-value c =
    let self = c.args.self.now in
    let loop = c.loop-i in
    λ m e reads edge.
    let made = c.new-branches in
    let here : ReadsEdge made.result.table.now made.result.place m e = rw (made.ensures.0, made.ensures.1) edge in
    let few = c.count-i-end.ensures.value_2 m e here in
    let P : Branch → Bool = λ b. meets (bounds_of m) m.invariants (landing (bounds_of m) self.region b) in
    let still = subst (λ (p : Prepared). Of p m) (sym loop.invariant.0) reads in
    let value = c.meets_target.ensures.value m still in
    sym
    (loop.invariant.2 m e reads edge
    ∙ every-fails P (edge_of m e).branches loop.i no_branch (omega (arith, c.loop-i-test.true))
    (ap P (sym (c.at.ensures.value_2 m e here))
    ∙ ap (λ (r : Region). meets (bounds_of m) m.invariants (landing (bounds_of m) r c.at.result)) (sym loop.invariant.1)
    ∙ sym value
    ∙ c.if-not-meets_target.true))

pub returns-clause-value : goal.returns-clause-value
unfolding lands
returns-clause-value c =
    let self = c.args.self.now in
    let loop = c.loop-i in
    λ m e reads edge.
    let made = c.new-branches in
    let here : ReadsEdge made.result.table.now made.result.place m e = rw (made.ensures.0, made.ensures.1) edge in
    let few = c.count-i-end.ensures.value_2 m e here in
    sym
    (loop.invariant.2 m e reads edge
    ∙ every-over (λ (b : Branch). meets (bounds_of m) m.invariants (landing (bounds_of m) self.region b)) (edge_of m e).branches
    loop.i no_branch (omega (arith, c.loop-i-test.false)))
