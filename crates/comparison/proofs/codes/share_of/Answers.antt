-- `share_of` divides by the denominator, or by 1 where it is 0.
use Rattle.std.proofs.Common.{arith, ap, sym, ◌∙◌, ne_eqb, ℕ, zero, suc, ◌*◌, ◌/◌, ◌≡◌, max, cond, Bool, refl}
use Rattle.std.proofs.Math.Nat.{div-le_self}
use Rattle.comparison.specs.Keys.{share_of, divisor}
use Rattle.comparison.proofs.codes.share_of.Goals as goal

divisor-is : (w : ℕ) → max w 1 ≡ divisor w
divisor-is zero = refl
divisor-is (suc w) =
    let same : max (suc w) 1 ≡ suc w = omega arith in
    same ∙ sym (ap (λ (b : Bool). cond b 1 (suc w)) (ne_eqb (suc w) 0 (λ z. absurd (omega arith))))

pub returns : goal.returns
unfolding share_of
returns c =
    let most = div-le_self (c.args.weight * 2147483648) c.max.result in
    (ap (λ (d : ℕ). c.args.weight * 2147483648 / d) (c.max.ensures ∙ divisor-is c.args.whole), omega arith)
