-- The search comes to a leader that is related to the item, or to the last one.
use Rattle.std.proofs.Common.{ℕ, get_or, length, List, arith, refl, sym, ap, ◌∙◌}
use Rattle.bisimulation.specs.Finite.{next, related}
use Rattle.rounds.specs.Rounds.{Chains}
use Rattle.rounds.specs.Laws.Rounds.{walk_start, walk-on, walk-hit, walk_end, placed-known, placed-new}
use Rattle.rounds.proofs.rounds.search_lead.Goals as goal

pub loop-links-init : goal.loop-links-init
loop-links-init c =
    let args = c.args in (
      refl,
      λ F mid equipped step chains hx e h. (walk_start (next F args.names.now) args.graph.n mid step args.x args.start hx e h, equipped),
    )

pub returns-then-next-y : goal.returns-then-next-y
returns-then-next-y c =
    let loop = c.loop-links in
    let args = c.args in
    let n = args.graph.n in
    λ F mid equipped step chains zero hx e h.
    let d = next F args.names.now in
    let chains' : Chains d (related mid) loop.links args.x = rw (loop.invariant.0) chains in
    let (w, known) = loop.invariant.1 F mid equipped step chains' hx e h in
    let (told, known') = c.is_keyed_next.ensures.value F known (omega (arith, w.below, hx)) hx in
    let last = walk_end d n mid step loop.links args.x hx chains' loop.y c.from-next.result w (sym told ∙ c.loop-links-test.true)
    (c.from-next.ensures ∙ c.at.ensures) c.if-next-y.true in
    let (own, linked) = placed-new d n mid step loop.links args.x hx chains' loop.y last
    (ap (λ (l : List ℕ). get_or l args.x 0) loop.invariant.0 ∙ zero)
    (omega (arith, ap length loop.invariant.0, c.told-links, c.requires)) in
    (own, rw c.put.ensures linked, known')

pub loop-links-preserved : goal.loop-links-preserved
loop-links-preserved c =
    let loop = c.loop-links in
    let args = c.args in
    let n = args.graph.n in (
      loop.invariant.0,
      λ F mid equipped step chains hx e h.
          let d = next F args.names.now in
          let (w, known) = loop.invariant.1 F mid equipped step chains hx e h in
          let (told, known') = c.is_keyed_next.ensures.value F known (omega (arith, w.below, hx)) hx in (
            walk-on d n mid step loop.links args.x hx chains loop.y c.from-next.result w (sym told ∙ c.loop-links-test.true)
                (c.from-next.ensures ∙ c.at.ensures) c.if-next-y.false,
            known',
          ),
    )

pub returns : goal.returns
returns c =
    let loop = c.loop-links in
    let args = c.args in
    let n = args.graph.n in
    λ F mid equipped step chains zero hx e h.
    let d = next F args.names.now in
    let chains' : Chains d (related mid) loop.links args.x = rw (loop.invariant.0) chains in
    let (w, known) = loop.invariant.1 F mid equipped step chains' hx e h in
    let (told, known') = c.is_keyed_next.ensures.value F known (omega (arith, w.below, hx)) hx in
    let (own, linked) = placed-known d n mid step loop.links args.x hx chains' loop.y
    (walk-hit d n mid step args.x loop.y hx w (sym told ∙ c.loop-links-test.false)) w.below in
    (own, linked, known')
