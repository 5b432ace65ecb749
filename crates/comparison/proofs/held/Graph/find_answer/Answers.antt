-- `find_answer` compares the edges that have the code.
use Rattle.std.proofs.Common.{arith, ap, sym, ◌∙◌}
use Rattle.comparison.specs.Laws.Compare.{answers-on}
use Rattle.comparison.specs.Laws.Codes.{other-code, none_answers}
use Rattle.comparison.proofs.Laws.Walks.{past-first, past-at, past-on, past-over}
use Rattle.comparison.proofs.held.Graph.find_answer.Goals as goal
use Rattle.comparison.proofs.held.Graph.find_answer.Goals.{else-at-code-via-then-at-code+else-is_answer, else-at-code-via-else-at-code}

pub loop-f-init : goal.loop-f-init
loop-f-init c =
    let began = c.into_iter-f-iterator.ensures.into_iter_gives in
    record {
      few = rw began c.open-f-items.ensures.1;
      none = λ opened hy coded told. past-first opened hy (omega arith) (ap (λ s. s.flags.now) began ∙ c.open-f-items.ensures.0);
    }

pub returns-then-is_answer : goal.returns-then-is_answer
returns-then-is_answer c =
    let g = c.args.self in
    let args = c.args in
    let step = c.in-Some.ensures.steps in
    λ opened hy coded told. (
      omega arith,
      answers-on args.list.now g.flags.now g.resets.now g.spots.now g.rows.now args.x args.e args.other.item c.in-Some.f
          (past-at (c.loop-f.invariant.none opened hy coded told) step)
          ∙ sym c.is_answer.ensures
          ∙ c.if-is_answer.true,
    )

pub loop-f-preserved : goal.loop-f-preserved
loop-f-preserved c =
    let g = c.args.self in
    let args = c.args in
    let f = c.in-Some.f in
    let step = c.in-Some.ensures.steps in
    elim c.else-at-code.branch [
      | else-at-code-via-then-at-code+else-is_answer w ↦
          record {
            few = omega arith;
            none = λ opened hy coded told.
                let past = c.loop-f.invariant.none opened hy coded told in
                past-on past step
                (answers-on args.list.now g.flags.now g.resets.now g.spots.now g.rows.now args.x args.e args.other.item f
                (past-at past step)
                ∙ sym w.is_answer.ensures
                ∙ w.if-is_answer.false);
          }
      | else-at-code-via-else-at-code w ↦
          record {
            few = omega arith;
            none = λ opened hy coded told.
                let past = c.loop-f.invariant.none opened hy coded told in
                past-on past step
                (other-code g.k args.list.now g.flags.now g.resets.now g.spots.now g.rows.now args.x args.e args.other.item args.code
                args.other.codes.now coded told f (omega arith) (past-at past step) (λ s. w.if-at-code.false (c.at.ensures ∙ s)));
          }
    ]

pub returns : goal.returns
returns c =
    let g = c.args.self in
    let args = c.args in
    λ opened hy coded told.
    none_answers g.k args.list.now g.flags.now g.resets.now g.spots.now g.rows.now args.x args.e args.other.item
    (past-over (c.loop-f.invariant.none opened hy coded told) c.in-None.ensures.steps)
