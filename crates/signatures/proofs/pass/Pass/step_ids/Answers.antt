-- Loop: the ids of the steps of the ranks so far are a set.
use Rattle.std.proofs.Common.{[], ◌≡◌, ◌∙◌, ap, sym, refl, arith}
use Rattle.std.proofs.lemmas.Result.{err_from_is_err_and}
use Rattle.graph.specs.Readers.{edge_count, location_of, is_available}
use Rattle.signatures.specs.Pass.{State}
use Rattle.signatures.specs.Named.{items_in, steps_from}
use Rattle.signatures.specs.Laws.Named.{partial-none, partial-rises}
use Rattle.signatures.specs.Laws.Available.{rank-past, rank-turn, rank-full, steps-end}
use Rattle.signatures.proofs.pass.Pass.step_ids.Goals as goal
use Rattle.signatures.proofs.pass.Pass.step_ids.Goals.{then-is_available+in_ok-id, else-is_available}

pub loop-rank-init : goal.loop-rank-init
loop-rank-init c = (refl, rw (← c.self.view_is) c.self.invariant.sound, rw c.new-ids.ensures (partial-none c.args.self.now.held []))

pub returns-in_err-id-clause-listed : goal.returns-in_err-id-clause-listed
unfolding steps_from
returns-in_err-id-clause-listed c =
    let x = c.args.x in
    let s = c.args.self.now in
    let loop = c.loop-rank in
    let count : c.edge_count-rank-end.result ≡ edge_count s.graph (location_of s.graph x) =
    c.edge_count-rank-end.ensures.0 ∙ ap (edge_count c.self.inside.graph.now) c.location_of-location.ensures.0
    ∙ ap (λ (p : State). edge_count p.graph (location_of p.graph x)) c.self.view_is in
    let here = ap (λ (p : State). is_available p.graph x loop.rank) (sym c.self.view_is) ∙ sym c.is_available.ensures
    ∙ c.if-is_available.true in
    let told = rw loop.invariant.0 at c.in_err-id.ensures.told in
    let exit = err_from_is_err_and c.from_residual.result c.from_residual.ensures.1 in
    rw exit.1 (rank-full (items_in s.names) s.graph s.edges s.names x loop.invariant.2 c.edge_count-rank-end.result count
    c.loop-rank-test.true here c.step_id.new.self.held told)

pub insert-requires : goal.insert-requires
insert-requires c = let p = c.loop-rank.invariant.2 in (omega arith, (partial-rises p, omega (arith, p.short)))

pub loop-rank-preserved : goal.loop-rank-preserved
loop-rank-preserved c =
    let x = c.args.x in
    let s = c.args.self.now in
    let loop = c.loop-rank in
    let count : c.edge_count-rank-end.result ≡ edge_count s.graph (location_of s.graph x) =
    c.edge_count-rank-end.ensures.0 ∙ ap (edge_count c.self.inside.graph.now) c.location_of-location.ensures.0
    ∙ ap (λ (p : State). edge_count p.graph (location_of p.graph x)) c.self.view_is in
    let is = ap (λ (p : State). is_available p.graph x loop.rank) (sym c.self.view_is) ∙ sym c.is_available.ensures in
    elim c.if-is_available.branch [
      | then-is_available+in_ok-id w ↦ rw (w.self-is, w.ids-is) (
        w.in_ok-id.ensures.keeps.stays ∙ ap (λ (p : State). record p { held = w.step_id.new.self.held }) loop.invariant.0,
        w.in_ok-id.ensures.keeps.sound,
        rw (w.insert.ensures, w.from.ensures)
            (rank-turn (items_in s.names) s.graph s.edges s.names x loop.invariant.2 c.edge_count-rank-end.result count
            c.loop-rank-test.true (is ∙ w.if-is_available.true) w.step_id.new.self.held w.in_ok-id.id
            (rw loop.invariant.0 at w.in_ok-id.ensures.told)),
      )
      | else-is_available w ↦ rw (w.self-is, w.ids-is) (
        loop.invariant.0,
        loop.invariant.1,
        rank-past (items_in s.names) s.graph s.edges s.names x loop.invariant.2 c.edge_count-rank-end.result count
            c.loop-rank-test.true (is ∙ w.if-is_available.false),
      )
    ]

pub returns-clause-listed : goal.returns-clause-listed
unfolding steps_from
returns-clause-listed c =
    let x = c.args.x in
    let s = c.args.self.now in
    let loop = c.loop-rank in
    let count : c.edge_count-rank-end.result ≡ edge_count s.graph (location_of s.graph x) =
    c.edge_count-rank-end.ensures.0 ∙ ap (edge_count c.self.inside.graph.now) c.location_of-location.ensures.0
    ∙ ap (λ (p : State). edge_count p.graph (location_of p.graph x)) c.self.view_is in
    steps-end (items_in s.names) s.graph s.edges s.names x loop.invariant.2 c.edge_count-rank-end.result count (omega arith) (omega arith)
