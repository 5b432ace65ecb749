-- `meet_edges` meets its contract. The loop's invariant: what the first edges lead to was met, and the link is that of the next edge
-- with the region's location as its source. Assumes nothing.
use Prim.Native.Nat.{ℕ, suc, ◌<◌}
use native.Mathlib.Numerals.{add-one}
use native.Mathlib.Omega.{arith}
use mathlib.Core.Path.{◌≡◌, refl, sym, ◌∙◌, ap, subst}
use lib.ListN.{length, get_or}
use Rattle.std.specs.Prelude.{Result, Err}
use Rattle.std.proofs.Common.{rules}
use Rattle.table.specs.Model.{Model}
use Rattle.table.specs.Access.{no_edge}
use Rattle.table.specs.Reads.{edge_of}
use Rattle.clocks.specs.declared.region.Region.{Region}
use Rattle.regions.specs.declared.explore.Full.{Full}
use Rattle.regions.specs.declared.index.Listing.{Listing}
use Rattle.regions.specs.declared.prepared.Prepared.{Prepared}
use Rattle.regions.specs.Of.{Of, OfEdge}
use Rattle.regions.specs.Edges.{link_from, link_here, link-other, link-past}
use Rattle.regions.specs.Graph.{edge_next}
use Rattle.regions.specs.Laws.Graph.{edge-elsewhere}
use Rattle.regions.specs.Marks.{Visited, visited-none}
use Rattle.regions.specs.Worklist.{Found, meet}
use Rattle.regions.specs.Explore.{AllMet, same_region, so_far, found_of, kept-none, kept_on, loop-on, loop-past, loop-full}
use Rattle.regions.proofs.explore.meet_edges.Goals as goal
use Rattle.regions.proofs.explore.meet_edges.Goals.{then-link-e+in_ok-meet_edge, else-link-e}

-- What one edge leads to was met, from the same region and with the same room.
one-met : (m : Model) (r q : Region) (e : ℕ) (cap : ℕ) (l l' : Listing) (result : Result Unit Full) (f : Found Region) → q ≡ r → l.cap ≡ cap
    → AllMet (edge_next m q (edge_of m e)) l l' result → found_of result (so_far l') ≡ f
    → meet same_region cap (so_far l) (edge_next m r (get_or m.edges e no_edge)) ≡ f
one-met m r q e cap l l' result f same room all is =
    ap (λ (k : ℕ). meet same_region k (so_far l) (edge_next m r (edge_of m e))) (sym room)
    ∙ ap (λ (x : Region). meet same_region l.cap (so_far l) (edge_next m x (edge_of m e))) (sym same)
    ∙ all
    ∙ is

pub loop-e-init : goal.loop-e-init
loop-e-init c =
    let found = c.args.found.now in
    let model = c.args.model.now in
    record {
      slice = refl;
      kept = kept-none found;
      model = c.new-marks.ensures.0;
      region = c.new-marks.ensures.1;
      visited = visited-none model.bounds c.args.r found.entries.now found.links.count;
      linked = λ m reads. c.first_link-link.ensures ∙ (model.suits m reads).linked.start c.args.r.location (search rules);
      met = λ m reads. refl;
    }

pub returns-in_err-meet_edge-clause-all_met : goal.returns-in_err-meet_edge-clause-all_met
returns-in_err-meet_edge-clause-all_met c =
    let r = c.args.r in
    let found = c.args.found.now in
    let loop = c.loop-e in
    let now = c.meet_edge.new.found in
    let same : c.from_residual.result ≡ Err c.in_err-meet_edge.field-0.0 = search rules in
    λ m reads.
    let here : loop.e < length m.edges = omega (arith, c.loop-e-test.true, c.edge_count-e-end.ensures.count m reads) in
    let mine = link_here m r.location loop.e here (sym (loop.invariant.linked m reads) ∙ c.if-link-e.true ∙ add-one loop.e) in
    let still = subst (λ (p : Prepared). Of p m) (sym loop.invariant.model) reads in
    let edge = subst (λ (p : Prepared). OfEdge p c.place.result m loop.e) (sym loop.invariant.model)
    (c.place.ensures m reads here) in
    let from = ap (λ (x : Region). x.location) loop.invariant.region ∙ sym mine in
    loop-full (edge_next m r) m.edges loop.e no_edge found.cap (so_far found) (so_far loop.found) (loop.invariant.met m reads) here
    (so_far now)
    (one-met m r loop.marks.region loop.e found.cap loop.found now c.meet_edge.result _ loop.invariant.region loop.invariant.kept.cap
    (c.meet_edge.ensures.all_met m loop.e still edge from)
    (ap (λ (x : Result Unit Full). found_of x (so_far now)) c.in_err-meet_edge.was))
    ∙ sym (ap (λ (x : Result Unit Full). found_of x (so_far now)) same)

pub loop-e-preserved : goal.loop-e-preserved
loop-e-preserved c =
    let r = c.args.r in
    let model = c.args.model.now in
    let found = c.args.found.now in
    let loop = c.loop-e in
    elim c.if-link-e.branch [
      | then-link-e+in_ok-meet_edge w ↦
          let now = w.meet_edge.new.found in
          let made = w.meet_edge.ensures in
          rw (w.found-is, w.marks-is, w.visited-is, w.link-is) (record {
            slice = made.slice ∙ loop.invariant.slice;
            kept = kept_on found loop.found now loop.invariant.kept made.kept;
            model = made.same.0 ∙ loop.invariant.model;
            region = made.same.1 ∙ loop.invariant.region;
            visited = subst (λ (q : Region). Visited model.bounds q now.entries.now now.links.count w.meet_edge.new.visited)
                loop.invariant.region
                (subst (λ (p : Prepared). Visited p.bounds loop.marks.region now.entries.now now.links.count w.meet_edge.new.visited)
                loop.invariant.model made.visited);
            linked = λ m reads.
                let here : loop.e < length m.edges = omega (arith, c.loop-e-test.true, c.edge_count-e-end.ensures.count m reads) in
                let mine = link_here m r.location loop.e here (sym (loop.invariant.linked m reads) ∙ w.if-link-e.true ∙ add-one loop.e) in
                w.next_link-link.ensures
                ∙ (model.suits m reads).linked.follow loop.e here
                ∙ ap (λ (k : ℕ). link_from m k (suc loop.e)) mine
                ∙ ap (link_from m r.location) (sym (add-one loop.e));
            met = λ m reads.
                let here : loop.e < length m.edges = omega (arith, c.loop-e-test.true, c.edge_count-e-end.ensures.count m reads) in
                let mine = link_here m r.location loop.e here (sym (loop.invariant.linked m reads) ∙ w.if-link-e.true ∙ add-one loop.e) in
                let still = subst (λ (p : Prepared). Of p m) (sym loop.invariant.model) reads in
                let edge = subst (λ (p : Prepared). OfEdge p w.place.result m loop.e) (sym loop.invariant.model)
                (w.place.ensures m reads here) in
                let from = ap (λ (x : Region). x.location) loop.invariant.region ∙ sym mine in
                loop-on (edge_next m r) m.edges loop.e no_edge found.cap (so_far found) (so_far loop.found) (loop.invariant.met m reads)
                here (so_far now)
                (one-met m r loop.marks.region loop.e found.cap loop.found now w.meet_edge.result _ loop.invariant.region
                loop.invariant.kept.cap (made.all_met m loop.e still edge from)
                (ap (λ (x : Result Unit Full). found_of x (so_far now)) w.in_ok-meet_edge.was));
          })
      | else-link-e w ↦
          rw (w.found-is, w.marks-is, w.visited-is, w.link-is) (record {
            slice = loop.invariant.slice;
            kept = loop.invariant.kept;
            model = loop.invariant.model;
            region = loop.invariant.region;
            visited = loop.invariant.visited;
            linked = λ m reads.
                let here : loop.e < length m.edges = omega (arith, c.loop-e-test.true, c.edge_count-e-end.ensures.count m reads) in
                let link = loop.invariant.linked m reads in
                let other = link-other m r.location loop.e here (λ h. w.if-link-e.false (link ∙ h ∙ sym (add-one loop.e))) in
                link ∙ sym (link-past m r.location loop.e here other) ∙ ap (link_from m r.location) (sym (add-one loop.e));
            met = λ m reads.
                let here : loop.e < length m.edges = omega (arith, c.loop-e-test.true, c.edge_count-e-end.ensures.count m reads) in
                let link = loop.invariant.linked m reads in
                let other = link-other m r.location loop.e here (λ h. w.if-link-e.false (link ∙ h ∙ sym (add-one loop.e))) in
                loop-past (edge_next m r) m.edges loop.e no_edge found.cap (so_far found) (so_far loop.found) (loop.invariant.met m reads)
                here (edge-elsewhere m (edge_of m loop.e) r other);
          })
    ]
