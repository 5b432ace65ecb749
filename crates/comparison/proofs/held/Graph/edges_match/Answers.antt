-- `edges_match` looks for an answer to each edge.
use Rattle.std.proofs.Common.{arith, ap, sym, ◌∙◌}
use Rattle.comparison.specs.Laws.Codes.{one-answers, one-unanswered, all-answered, met-on}
use Rattle.comparison.proofs.Laws.Walks.{past-first, past-at, past-on, past-over}
use Rattle.comparison.proofs.held.Graph.edges_match.Goals as goal

pub loop-e-init : goal.loop-e-init
loop-e-init c =
    let began = c.into_iter-e-iterator.ensures.into_iter_gives in
    record {
      few = rw began c.open-e-items.ensures.1;
      answered = λ opened hx hy coded coded' told own met. (
        past-first opened hx (omega arith) (ap (λ s. s.flags.now) began ∙ c.open-e-items.ensures.0),
        met,
      );
    }

pub returns-in-None-seek_answer : goal.returns-in-None-seek_answer
returns-in-None-seek_answer c =
    let g = c.args.self in
    let args = c.args in
    let step = c.in-Some.ensures.steps in
    λ opened hx hy coded coded' told own met.
    let (past, met') = c.loop-e.invariant.answered opened hx hy coded coded' told own met in
    let ready = past-at past step in (
      sym (one-unanswered g.k args.list.now g.flags.now g.resets.now g.spots.now g.rows.now args.one.item args.other.item c.in-Some.e
          (omega arith) ready (c.in-None-seek_answer.ensures opened hy ready coded coded' told own)),
      met',
    )

pub loop-e-preserved : goal.loop-e-preserved
loop-e-preserved c =
    let g = c.args.self in
    let args = c.args in
    let list = args.list.now in
    let one = args.one.item in
    let other = args.other.item in
    let e = c.in-Some.e in
    let step = c.in-Some.ensures.steps in
    record {
      few = omega arith;
      answered = λ opened hx hy coded coded' told own met.
          let (past, met') = c.loop-e.invariant.answered opened hx hy coded coded' told own met in
          let ready = past-at past step in
          let (below, answer) = c.in-Some-seek_answer.ensures opened hy ready coded coded' told own in (
            past-on past step
                (one-answers g.k list g.flags.now g.resets.now g.spots.now g.rows.now one e other c.in-Some-seek_answer.f below answer),
            rw c.put.ensures
                (met-on g.k list g.flags.now g.resets.now g.spots.now g.rows.now one e other c.in-Some-seek_answer.f c.loop-e.met met'
                (omega arith) ready answer),
          );
    }

pub returns : goal.returns
returns c =
    let g = c.args.self in
    let args = c.args in
    λ opened hx hy coded coded' told own met.
    let (past, met') = c.loop-e.invariant.answered opened hx hy coded coded' told own met in (
      sym (all-answered g.k args.list.now g.flags.now g.resets.now g.spots.now g.rows.now args.one.item args.other.item
          (past-over past c.in-None.ensures.steps)),
      met',
    )
