-- `mark_delays` marks the number of each item along the chain.
use Rattle.std.proofs.Common.{arith, ℕ, List, eqb, get_or, ap, sym, ◌∙◌, length, length-set, cond, set}
use Rattle.bisimulation.specs.Finite.{any_of}
use Rattle.comparison.proofs.Laws.Walks.{left-of, mark-one}
use Rattle.comparison.proofs.held.Graph.mark_delays.Goals as goal

pub loop-item-preserved : goal.loop-item-preserved
loop-item-preserved c =
    let loop = c.loop-item in
    let number = get_or c.args.list.now c.in-Some.item 0 in
    let put = c.put.ensures ∙ ap (λ (u : ℕ). set loop.marks u 1) c.at.ensures in
    record {
      room = ap length put ∙ length-set loop.marks number 1 ∙ loop.invariant.room;
      rest = λ v h.
          let among = λ (l : List ℕ). any_of (λ u. eqb v (get_or c.args.list.now u 0)) l in
          ap (λ (m : List ℕ). cond (among (left-of c.next.new.self)) 1 (get_or m v 0)) put
          ∙ sym (mark-one (among (left-of c.next.new.self)) v number loop.marks (omega (arith, loop.invariant.room)))
          ∙ ap (λ (l : List ℕ). cond (among l) 1 (get_or loop.marks v 0)) (sym c.in-Some.ensures.steps)
          ∙ loop.invariant.rest v h;
    }
