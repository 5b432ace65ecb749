-- Where a kin stands for the item, or it is plainly alike to the anchor, it need not be compared.
use Rattle.std.proofs.Common.{ℕ, suc, ◌≡◌, get_or, sym, ap, ◌∙◌}
use Rattle.bisimulation.specs.Finite.{next}
use Rattle.comparison.specs.Laws.Keyed.{twins-meet}
use Rattle.rounds.specs.Laws.Joins.{anchor-of, joined-some, joined-calm, kin-joined}
use Rattle.rounds.specs.Laws.Rounds.{linked-below}
use Rattle.rounds.proofs.joins.is_joined.Goals as goal

pub returns-then-not-stirred-x-clause-value : goal.returns-then-not-stirred-x-clause-value
returns-then-not-stirred-x-clause-value c =
    let args = c.args in
    let b = args.before in
    λ F equipped settled anchored step marked known hx. (
      sym (joined-calm (next F b.names.now) args.graph.n b.old.now b.stirred.now b.anchors.now anchored settled args.x hx
          c.if-not-stirred-x.true),
      equipped,
    )

pub returns-then-is_twin-clause-value : goal.returns-then-is_twin-clause-value
returns-then-is_twin-clause-value c =
    let args = c.args in
    let b = args.before in
    let a = c.in-Some.anchor in
    λ F equipped settled anchored step marked known hx.
    let d = next F b.names.now in
    let link : suc a ≡ get_or b.anchors.now (get_or b.old.now args.x 0) 0 =
    c.in-Some.ensures ∙ ap (λ (z : ℕ). get_or b.anchors.now z 0) c.at.ensures in
    let below = (anchor-of d args.graph.n b.old.now b.stirred.now b.anchors.now anchored args.x a link).below in
    let held = equipped.keyed.held in (
      sym (joined-some d args.graph.n b.old.now b.stirred.now b.anchors.now anchored args.x a link
          ∙ twins-meet held equipped.keyed.closed b.names.now a args.x below hx
          (c.is_twin.ensures.y_value c.if-is_twin.true held.onward held.opened below hx)),
      equipped,
    )

pub returns-in-Some-find_kin-clause-value : goal.returns-in-Some-find_kin-clause-value
returns-in-Some-find_kin-clause-value c =
    let args = c.args in
    let b = args.before in
    let kin = c.in-Some-find_kin.kin in
    λ F equipped settled anchored step marked known hx.
    let newest = linked-below args.kins.now.heads args.x c.sign_of-sign.result c.newest.result c.newest.ensures known.heads in
    let (hz, t) = c.in-Some-find_kin.ensures F equipped.keyed.held equipped.keyed.closed hx known newest in (
      kin-joined (next F b.names.now) args.graph.n b.old.now b.stirred.now b.anchors.now anchored step.classes step.finer
          args.marks.now kin args.x c.at-in-Some-find_kin.result hz hx t marked c.at-in-Some-find_kin.ensures,
      equipped,
    )

pub returns-clause-value : goal.returns-clause-value
returns-clause-value c =
    let args = c.args in
    let b = args.before in
    let a = c.in-Some.anchor in
    λ F equipped settled anchored step marked known hx.
    let d = next F b.names.now in
    let link : suc a ≡ get_or b.anchors.now (get_or b.old.now args.x 0) 0 =
    c.in-Some.ensures ∙ ap (λ (z : ℕ). get_or b.anchors.now z 0) c.at.ensures in
    let below = (anchor-of d args.graph.n b.old.now b.stirred.now b.anchors.now anchored args.x a link).below in
    let (same, equipped') = c.is_keyed_next-joins.ensures.value F equipped below hx in
    (same ∙ sym (joined-some d args.graph.n b.old.now b.stirred.now b.anchors.now anchored args.x a link), equipped')
