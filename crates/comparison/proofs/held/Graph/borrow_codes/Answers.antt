-- `borrow_codes` keeps the code of each edge that it meets, borrowed or computed.
use Rattle.std.proofs.Common.{arith, ap, ◌∙◌, refl, length, length-set, true}
use Rattle.comparison.specs.Graphs.{code_of}
use Rattle.comparison.specs.Laws.Codes.{own_on, own-told}
use Rattle.comparison.proofs.Laws.Walks.{past-first, past-at, past-over}
use Rattle.comparison.proofs.Laws.Opens.{past-put}
use Rattle.comparison.proofs.held.Graph.borrow_codes.Goals as goal

pub loop-e-init : goal.loop-e-init
loop-e-init c =
    let began = c.into_iter-e-iterator.ensures.into_iter_gives in
    record {
      few = rw began c.open-e-items.ensures.1;
      room = refl;
      kept = λ opened hx hy room coded told own. (
        past-first opened hy (omega arith) (ap (λ s. s.flags.now) began ∙ c.open-e-items.ensures.0),
        own,
      );
    }

pub loop-e-preserved-then-is_own_pair : goal.loop-e-preserved-then-is_own_pair
loop-e-preserved-then-is_own_pair c =
    let g = c.args.self in
    let list = c.args.list.now in
    let one = c.args.one.item in
    let y = c.args.y in
    let loop = c.loop-e in
    let step = c.in-Some.ensures.steps in
    let e = c.in-Some.e in
    let answer = c.is_own_pair.ensures c.if-is_own_pair.true in
    record {
      few = omega arith;
      room = ap length c.put.ensures ∙ length-set loop.codes e c.at.result ∙ loop.invariant.room;
      kept = λ opened hx hy room coded told own.
          let (past, own') = loop.invariant.kept opened hx hy room coded told own in
          let ready = past-at past step in (
            rw c.put.ensures
                (past-put (code_of g list y) loop.codes c.at.result past step
                (c.at.ensures
                ∙ own-told g.k list g.flags.now g.resets.now g.spots.now g.rows.now one y e c.args.one.codes.now coded told (omega arith)
                ready answer)
                (omega (arith, loop.invariant.room, loop.invariant.few, room))),
            rw c.put-then-is_own_pair.ensures
                (own_on g.k list g.flags.now g.resets.now g.spots.now g.rows.now one y e true loop.own own' ready (λ _. answer)),
          );
    }

pub loop-e-preserved : goal.loop-e-preserved
loop-e-preserved c =
    let loop = c.loop-e in
    let step = c.in-Some.ensures.steps in
    let e = c.in-Some.e in
    let put = c.put-else-is_own_pair.ensures in
    record {
      few = omega arith;
      room = ap length put ∙ length-set loop.codes e c.code_of.result ∙ loop.invariant.room;
      kept = λ opened hx hy room coded told own.
          let (past, own') = loop.invariant.kept opened hx hy room coded told own in (
            rw put
                (past-put (code_of c.args.self c.args.list.now c.args.y) loop.codes c.code_of.result past step c.code_of.ensures.0
                (omega (arith, loop.invariant.room, loop.invariant.few, room))),
            own',
          );
    }

pub returns : goal.returns
returns c =
    λ opened hx hy room coded told own.
    let (past, own') = c.loop-e.invariant.kept opened hx hy room coded told own in
    (past-over past c.in-None.ensures.steps, own')
