-- `is_next` tests both conditions both ways.
use Rattle.std.proofs.Common.{arith, ℕ, sym, ◌∙◌}
use Rattle.std.proofs.lemmas.List.{length-replicate}
use Rattle.bisimulation.proofs.Laws.Tests.{clash}
use Rattle.comparison.specs.Laws.Compare.{next-held}
use Rattle.comparison.specs.Laws.Codes.{answers-tell, own-none, next-fails, next-edges}
use Rattle.comparison.proofs.held.Graph.is_next.Goals as goal
use Rattle.comparison.proofs.held.Graph.is_next.Goals.{then-not-has-via-then-not-has, then-not-has-via-else-not-has+then-not-may_be_next}

pub returns-then-not-has-clause-value : goal.returns-then-not-has-clause-value
returns-then-not-has-clause-value c =
    let g = c.args.self in
    let args = c.args in
    let list = args.list.now in
    λ F held closed below hx hy.
    elim c.then-not-has.branch [
      | then-not-has-via-then-not-has w ↦ absurd (clash (c.has.ensures.1 (held.few, held.few-edges, hx, hy)) w.if-not-has.true)
      | then-not-has-via-else-not-has+then-not-may_be_next w ↦
          sym (next-fails g.n g.k list g.nexts.now g.flags.now g.resets.now g.spots.now g.rows.now args.x args.y
          (sym (w.may_be_next.ensures below held.onward hx hy) ∙ w.if-not-may_be_next.true))
          ∙ next-held F g.n g.k list g.labels.now g.nexts.now g.flags.now g.resets.now g.spots.now g.rows.now held closed args.x args.y
          hx hy
    ]

pub returns-clause-value : goal.returns-clause-value
returns-clause-value c =
    let g = c.args.self in
    let args = c.args in
    let list = args.list.now in
    λ F held closed below hx hy.
    let there = answers-tell F g.n g.k list g.labels.now g.nexts.now g.flags.now g.resets.now g.spots.now g.rows.now held closed args.x
    args.y hx hy in
    let back = answers-tell F g.n g.k list g.labels.now g.nexts.now g.flags.now g.resets.now g.spots.now g.rows.now held closed args.y
    args.x hy hx in
    let ones = c.list_codes.ensures.coded held.opened hx (omega (arith, length-replicate {A = ℕ} 128 0)) in
    let (others, own) = c.borrow_codes.ensures held.opened hx hy (omega (arith, length-replicate {A = ℕ} 128 0)) ones back
    (own-none g.k list g.flags.now g.resets.now g.spots.now g.rows.now args.x args.y 128) in
    c.edges_agree.ensures held.opened hx hy ones others there back own
    ∙ sym (next-edges g.n g.k list g.nexts.now g.flags.now g.resets.now g.spots.now g.rows.now args.x args.y
    (sym (c.may_be_next.ensures below held.onward hx hy) ∙ c.if-not-may_be_next.false))
    ∙ next-held F g.n g.k list g.labels.now g.nexts.now g.flags.now g.resets.now g.spots.now g.rows.now held closed args.x args.y hx hy
