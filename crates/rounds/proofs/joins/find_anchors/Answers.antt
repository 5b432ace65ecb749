-- The first item of its block that is not stirred becomes the anchor.
use Rattle.std.proofs.Common.{◌≡◌, List, ap, ℕ, ◌<◌, ◌+◌, get_or, length, length-set, arith, refl, ◌∙◌}
use Rattle.bisimulation.specs.Finite.{related}
use Rattle.bisimulation.proofs.Laws.Leads.{lead_low}
use Rattle.comparison.specs.Laws.Steps.{zeros-at}
use Rattle.rounds.specs.Laws.Joins.{anchored-none, anchored-stirred, anchored-known, anchored-new}
use Rattle.rounds.specs.Laws.Rounds.{linked-some}
use Rattle.rounds.proofs.joins.find_anchors.Goals.{then-not-stirred-x+then-is_none, else-not-stirred-x}
use Rattle.rounds.proofs.joins.find_anchors.Goals.{else-not-stirred-x-via-then-not-stirred-x+else-is_none}
use Rattle.rounds.proofs.joins.find_anchors.Goals.{else-not-stirred-x-via-else-not-stirred-x}
use Rattle.rounds.proofs.joins.find_anchors.Goals as goal

pub loop-x-init : goal.loop-x-init
loop-x-init c =
    let cleared : (b : ℕ) → get_or c.fill.new.self b 0 ≡ 0 =
    λ b. ap (λ (l : List ℕ). get_or l b 0) (c.fill.ensures.after (λ y e. e)) ∙ zeros-at _ b in
    (c.fill.ensures.len ∙ c.told-anchors, λ n size reps. anchored-none c.args.old.now c.args.stirred.now c.fill.new.self cleared)

pub loop-x-preserved : goal.loop-x-preserved
loop-x-preserved c =
    let old = c.args.old.now in
    let stirred = c.args.stirred.now in
    let loop = c.loop-x in
    let x = loop.x in
    elim c.if-not-stirred-x.branch [
      | then-not-stirred-x+then-is_none w ↦ rw (w.anchors-is, w.link.ensures) (
        length-set loop.anchors (get_or old x 0) (x + 1) ∙ loop.invariant.0,
        λ n size reps.
            let inside : get_or old x 0 < length loop.anchors = omega (
              arith,
              reps.rep x (omega (arith, size, c.loop-x-test.true)),
              lead_low (related old) x,
              c.loop-x-test.true,
              loop.invariant.0,
              c.requires,
            ) in
            anchored-new old stirred loop.anchors x (loop.invariant.1 n size reps) (get_or old x 0) refl inside w.if-not-stirred-x.true,
      )
      | else-not-stirred-x w ↦ rw w.anchors-is (
        loop.invariant.0,
        λ n size reps.
            let anchored = loop.invariant.1 n size reps in
            elim w.else-not-stirred-x.branch [
              | else-not-stirred-x-via-then-not-stirred-x+else-is_none v ↦ anchored-known old stirred loop.anchors x anchored
                  (λ z. linked-some v.linked.result v.is_none.result v.is_none.ensures v.if-is_none.false (v.linked.ensures ∙ z))
              | else-not-stirred-x-via-else-not-stirred-x v ↦ anchored-stirred old stirred loop.anchors x anchored v.if-not-stirred-x.false
            ],
      )
    ]
