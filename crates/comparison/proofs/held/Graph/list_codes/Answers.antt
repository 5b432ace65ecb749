-- `list_codes` keeps the code of each edge that it meets.
use Rattle.std.proofs.Common.{arith, ap, ◌∙◌, refl, length, length-set, get_or-set_other}
use Rattle.comparison.specs.Graphs.{code_of}
use Rattle.comparison.proofs.Laws.Walks.{past-first, past-over}
use Rattle.comparison.proofs.Laws.Opens.{past-put}
use Rattle.comparison.proofs.held.Graph.list_codes.Goals as goal

pub loop-e-init : goal.loop-e-init
loop-e-init c =
    let began = c.into_iter-e-iterator.ensures.into_iter_gives in
    record {
      few = rw began c.open-e-items.ensures.1;
      room = refl;
      kept = λ opened hx room. past-first opened hx (omega arith) (ap (λ s. s.flags.now) began ∙ c.open-e-items.ensures.0);
      stays = λ i h. refl;
    }

pub loop-e-preserved : goal.loop-e-preserved
loop-e-preserved c =
    let loop = c.loop-e in
    let step = c.in-Some.ensures.steps in
    let e = c.in-Some.e in
    let code = c.code_of.result in
    record {
      few = omega arith;
      room = ap length c.put.ensures ∙ length-set loop.codes e code ∙ loop.invariant.room;
      kept = λ opened hx room.
          rw c.put.ensures
          (past-put (code_of c.args.self c.args.list.now c.args.x) loop.codes code (loop.invariant.kept opened hx room) step
          c.code_of.ensures.0 (omega (arith, loop.invariant.room, loop.invariant.few, room)));
      stays = λ i h.
          rw c.put.ensures (get_or-set_other loop.codes e i code 0 (λ s. absurd (omega (arith, s, h, step.2, loop.invariant.few)))
          ∙ loop.invariant.stays i h);
    }

pub returns-clause-coded : goal.returns-clause-coded
returns-clause-coded c = λ opened hx room. past-over (c.loop-e.invariant.kept opened hx room) c.in-None.ensures.steps
