-- `are_paired` goes over the available edges of both items side by side.
use Rattle.std.proofs.Common.{arith, ap, not, ◌∙◌}
use Rattle.comparison.specs.Laws.Codes.{all-answered}
use Rattle.comparison.proofs.Laws.Shares.{paired-answers}
use Rattle.comparison.proofs.Laws.Walks.{past-first, past-at, past-on, past-over, step-none}
use Rattle.comparison.proofs.held.Graph.are_paired.Goals as goal

pub loop-e-init : goal.loop-e-init
loop-e-init c =
    let began = c.into_iter-e-iterator.ensures.into_iter_gives in
    record {
      few = rw began c.open-e-items.ensures.1;
      few-others = c.open-others.ensures.1;
      both = λ opened hx hy. (
        past-first opened hx (omega arith) (ap (λ s. s.flags.now) began ∙ c.open-e-items.ensures.0),
        past-first opened hy (omega arith) c.open-others.ensures.0,
      );
    }

pub loop-e-preserved : goal.loop-e-preserved
loop-e-preserved c =
    let args = c.args in
    let step = c.in-Some.ensures.steps in
    let step' = c.in-Some-next.ensures.steps in
    record {
      few = omega arith;
      few-others = omega arith;
      both = λ opened hx hy.
          let (there, back) = c.loop-e.invariant.both opened hx hy in
          let (one, other) =
          paired-answers args.self args.list.now args.x c.in-Some.e args.y c.in-Some-next.f (omega arith) (omega arith)
          (past-at there step) (past-at back step') (c.is_paired.ensures c.if-is_paired.true) in
          (past-on there step one, past-on back step' other);
    }

pub returns : goal.returns
returns c =
    let args = c.args in
    let g = c.args.self in
    λ t opened hx hy.
    let (there, back) = c.loop-e.invariant.both opened hx hy in (
      all-answered g.k args.list.now g.flags.now g.resets.now g.spots.now g.rows.now args.x args.y
          (past-over there c.in-None.ensures.steps),
      all-answered g.k args.list.now g.flags.now g.resets.now g.spots.now g.rows.now args.y args.x
          (past-over back (step-none c.loop-e.others.flags.now c.next-2.new.self.flags.now c.next-2.result (c.is_none.ensures ∙ ap not t) c.next-2.ensures.steps)),
    )
