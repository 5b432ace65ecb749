-- One more number is looked at.
use Rattle.std.proofs.Common.{◌≡◌, ◌≤◌, ◌-◌, ◌+◌, ◌∙◌, ap, sym, arith}
use Rattle.clocks.specs.Cells.{rank, rank_found, rank_absent}
use Rattle.clocks.proofs.clock.rank_of.Goals as goal
use Rattle.clocks.proofs.clock.rank_of.Goals.{then-contains, else-contains}

pub loop-k-preserved : goal.loop-k-preserved
loop-k-preserved c =
    let fs = c.args.fractions in
    let k = c.loop-k.k-counter in
    let found = sym c.contains.ensures.value in
    let counts : (c.if-contains.rank ≡ rank fs k) × (c.if-contains.rank ≤ c.loop-k.rank + 1) =
    elim c.if-contains.branch [
      | then-contains w ↦ (omega (arith, rank_found fs k (omega arith) (found ∙ w.if-contains.true)), omega arith)
      | else-contains w ↦ (omega (arith, rank_absent fs k (omega arith) (found ∙ w.if-contains.false)), omega arith)
    ] in
    let back : k ≡ k + 1 - 1 = omega arith in
    (counts.0 ∙ ap (rank fs) back, omega arith, omega arith)

pub returns-after-contains : goal.returns-after-contains
returns-after-contains c =
    let fs = c.args.fractions in
    let k = c.loop-k.k-counter in
    let found = sym c.contains.ensures.value in
    let counts : (c.if-contains.rank ≡ rank fs k) × (c.if-contains.rank ≤ c.loop-k.rank + 1) =
    elim c.if-contains.branch [
      | then-contains w ↦ (omega (arith, rank_found fs k (omega arith) (found ∙ w.if-contains.true)), omega arith)
      | else-contains w ↦ (omega (arith, rank_absent fs k (omega arith) (found ∙ w.if-contains.false)), omega arith)
    ] in
    let last : k ≡ c.args.fraction = omega arith in
    (counts.0 ∙ ap (rank fs) last, omega arith)
