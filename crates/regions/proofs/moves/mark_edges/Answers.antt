-- `mark_edges` meets its contract. Assumes nothing.
use native.Mathlib.Omega.{arith}
use native.Mathlib.Numerals.{add-one}
use Prim.Native.Nat.{ℕ, suc, ◌+◌, ◌<◌}
use mathlib.Core.Path.{◌≡◌, refl, sym, ◌∙◌, ap, subst}
use lib.ListN.{length, set}
use Rattle.std.proofs.Common.{rules}
use Rattle.table.specs.Model.{Model}
use Rattle.table.specs.Reads.{edge_of}
use Rattle.clocks.specs.declared.region.Region.{Region}
use Rattle.regions.specs.declared.prepared.Prepared.{Prepared}
use Rattle.regions.specs.Of.{Of, OfEdge}
use Rattle.regions.specs.Graph.{available}
use Rattle.regions.specs.Edges.{link_from, link_here, link-other, link-past}
use Rattle.regions.specs.Shown.{open_below}
use Rattle.regions.specs.Laws.Graph.{not-source}
use Rattle.regions.specs.Laws.Filling.{run_on, before-none, before_on, open-past}
use Rattle.regions.proofs.moves.mark_edges.Goals as goal
use Rattle.regions.proofs.moves.mark_edges.Goals.{then-link-e, else-link-e}

pub loop-e-init : goal.loop-e-init
unfolding open_below
loop-e-init c =
    record {
      before = before-none _ _;
      model = c.new-marks.ensures.0;
      region = c.new-marks.ensures.1;
      linked = λ m reads.
          c.first_link-link.ensures ∙ (c.args.model.now.suits m reads).linked.start c.args.r.location (search rules);
      last_is = λ m reads. refl;
      run = λ m reads j h. absurd (omega arith);
    }

pub loop-e-preserved : goal.loop-e-preserved
loop-e-preserved c =
    let r = c.args.r in
    let model = c.args.model.now in
    let loop = c.loop-e in
    let e : ℕ = loop.e in
    let at : ℕ = c.args.base + e in
    let room : at < length loop.flags = search rules in
    elim c.if-link-e.branch [
      | then-link-e w ↦
          let made = w.open_after-last in
          let next : (m : Model) → Of model m → made.result ≡ open_below (λ f. available m (edge_of m f) r) (suc e) = λ m reads.
          let here : e < length m.edges = omega (arith, c.loop-e-test.true, c.edge_count-e-end.ensures.count m reads) in
          let mine = link_here m r.location e here (sym (loop.invariant.linked m reads) ∙ w.if-link-e.true ∙ add-one e) in
          let still = subst (λ (p : Prepared). Of p m) (sym loop.invariant.model) reads in
          let edge = subst (λ (p : Prepared). OfEdge p w.place.result m e) (sym loop.invariant.model)
          (w.place.ensures m reads here) in
          let same = loop.invariant.region in
          let from = ap (λ (q : Region). q.location) same ∙ sym mine in
          made.ensures.value m still edge from
          (loop.invariant.last_is m reads ∙ ap (λ (q : Region). open_below (λ f. available m (edge_of m f) q) e) (sym same))
          ∙ ap (λ (q : Region). open_below (λ f. available m (edge_of m f) q) (suc e)) same in
          rw (w.marks-is, w.last-is, w.link-is) (record {
            before = before_on c.args.base at made.result c.args.flags.now loop.flags (set loop.flags at made.result) (omega arith) refl
                loop.invariant.before;
            model = made.ensures.same.0 ∙ loop.invariant.model;
            region = made.ensures.same.1 ∙ loop.invariant.region;
            linked = λ m reads.
                let here : e < length m.edges = omega (arith, c.loop-e-test.true, c.edge_count-e-end.ensures.count m reads) in
                let mine = link_here m r.location e here (sym (loop.invariant.linked m reads) ∙ w.if-link-e.true ∙ add-one e) in
                w.next_link-link.ensures
                ∙ (model.suits m reads).linked.follow e here
                ∙ ap (λ (k : ℕ). link_from m k (suc e)) mine
                ∙ ap (link_from m r.location) (sym (add-one e));
            last_is = λ m reads. next m reads ∙ ap (open_below (λ f. available m (edge_of m f) r)) (sym (add-one e));
            run = λ m reads.
                run_on c.args.base e (λ j v. v ≡ open_below (λ f. available m (edge_of m f) r) (suc j)) loop.flags
                (set loop.flags at made.result) made.result room refl (loop.invariant.run m reads) (next m reads);
          })
      | else-link-e w ↦
          let next : (m : Model) → Of model m → loop.last ≡ open_below (λ f. available m (edge_of m f) r) (suc e) = λ m reads.
          let here : e < length m.edges = omega (arith, c.loop-e-test.true, c.edge_count-e-end.ensures.count m reads) in
          let link = loop.invariant.linked m reads in
          let other = link-other m r.location e here (λ h. w.if-link-e.false (link ∙ h ∙ sym (add-one e))) in
          loop.invariant.last_is m reads
          ∙ sym (open-past (λ f. available m (edge_of m f) r) e (not-source m (edge_of m e) r other)) in
          rw (w.marks-is, w.last-is, w.link-is) (record {
            before = before_on c.args.base at loop.last c.args.flags.now loop.flags (set loop.flags at loop.last) (omega arith) refl
                loop.invariant.before;
            model = loop.invariant.model;
            region = loop.invariant.region;
            linked = λ m reads.
                let here : e < length m.edges = omega (arith, c.loop-e-test.true, c.edge_count-e-end.ensures.count m reads) in
                let link = loop.invariant.linked m reads in
                let other = link-other m r.location e here (λ h. w.if-link-e.false (link ∙ h ∙ sym (add-one e))) in
                link ∙ sym (link-past m r.location e here other) ∙ ap (link_from m r.location) (sym (add-one e));
            last_is = λ m reads. next m reads ∙ ap (open_below (λ f. available m (edge_of m f) r)) (sym (add-one e));
            run = λ m reads.
                run_on c.args.base e (λ j v. v ≡ open_below (λ f. available m (edge_of m f) r) (suc j)) loop.flags
                (set loop.flags at loop.last) loop.last room refl (loop.invariant.run m reads) (next m reads);
          })
    ]

pub returns-clause-run : goal.returns-clause-run
returns-clause-run c =
    λ m reads j h. c.loop-e.invariant.run m reads j (omega (arith, h, c.loop-e-test.false, c.edge_count-e-end.ensures.count m reads))
