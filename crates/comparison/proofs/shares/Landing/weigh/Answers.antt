-- `weigh` meets its contract.
use Rattle.std.proofs.Common.{arith, sym, ◌∙◌}
use Rattle.comparison.proofs.Laws.Shares.{weighed-first, weighed-hit, weighed-miss}
use Rattle.comparison.proofs.shares.Landing.weigh.Goals as goal
use Rattle.comparison.proofs.shares.Landing.weigh.Goals.{then-number-v, else-number-v}

pub loop-i-init : goal.loop-i-init
loop-i-init c =
    let s = c.args.self.now in
    record { small = omega arith; rest = λ b h. let first = weighed-first s.graph s.list.now b s.x s.e in omega arith }

pub loop-i-preserved : goal.loop-i-preserved
loop-i-preserved c =
    let s = c.args.self.now in
    let number = c.number in
    let below = c.loop-i-test.true in
    elim c.if-number-v.branch [
      | then-number-v w ↦
          record {
            small = omega arith;
            rest = λ b h.
                let hit = weighed-hit s.graph s.list.now b s.x s.e c.loop-i.i (omega arith)
                (sym (number.ensures (omega arith)) ∙ w.if-number-v.true ∙ h) in
                omega (arith, c.loop-i.invariant.rest b h);
          }
      | else-number-v w ↦
          record {
            small = omega arith;
            rest = λ b h.
                let miss = weighed-miss s.graph s.list.now b s.x s.e c.loop-i.i (omega arith)
                (λ same. w.if-number-v.false (number.ensures (omega arith) ∙ same ∙ sym h)) in
                omega (arith, c.loop-i.invariant.rest b h);
          }
    ]
