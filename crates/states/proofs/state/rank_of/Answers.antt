-- One more fraction is looked at: it counts where it is from 1 to the fraction and none of those after it.
use Rattle.std.proofs.Common.{arith, ◌+◌, ◌≡◌, ◌≤◌, ◌∙◌, sym, ap, drop, get_or, ℕ, List}
use Rattle.std.proofs.Common.{eqb}
use Rattle.std.specs.List.{list_any}
use Rattle.clocks.specs.Cells.{rank}
use Rattle.states.specs.Spots.{fresh_count}
use Rattle.states.specs.Laws.Spots.{rank-rest, rank-end, rest-of, fresh-one, fresh-zero, fresh-above, fresh-met, fresh-most}
use Rattle.states.proofs.state.rank_of.Goals as goal
use Rattle.states.proofs.state.rank_of.Goals.{then-other-gt0+then-other-fraction+then-not-contains, else-other-gt0}
use Rattle.states.proofs.state.rank_of.Goals.{else-other-gt0-via-then-other-gt0+then-other-fraction+else-not-contains}
use Rattle.states.proofs.state.rank_of.Goals.{else-other-gt0-via-then-other-gt0+else-other-fraction, else-other-gt0-via-else-other-gt0}

pub loop-i-preserved : goal.loop-i-preserved
loop-i-preserved c =
    let f = c.args.fraction in
    let fs = c.args.fractions in
    let i = c.loop-i.i in
    let x = get_or fs i 0 in
    let later = drop (i + 1) fs in
    let rest = rank-rest f fs i (omega arith) in
    let after = ap (λ (l : List ℕ). list_any (λ y. eqb y x) l) (rest-of fs i (omega arith)) in
    let adds : c.if-other-gt0.rank ≡ c.loop-i.rank + fresh_count f x later =
    elim c.if-other-gt0.branch [
      | then-other-gt0+then-other-fraction+then-not-contains w ↦
          omega (
            arith,
            w.rank-is,
            fresh-one f x later w.if-other-gt0.true w.if-other-fraction.true
                (sym after ∙ sym w.contains.ensures.value ∙ w.if-not-contains.true),
          )
      | else-other-gt0 w ↦
          elim w.else-other-gt0.branch [
            | else-other-gt0-via-then-other-gt0+then-other-fraction+else-not-contains w' ↦
                omega (arith, w.rank-is, fresh-met f x later (sym after ∙ sym w'.contains.ensures.value ∙ w'.if-not-contains.false))
            | else-other-gt0-via-then-other-gt0+else-other-fraction w' ↦
                omega (arith, w.rank-is, fresh-above f x later w'.if-other-fraction.false)
            | else-other-gt0-via-else-other-gt0 w' ↦
                omega (arith, w.rank-is, fresh-zero f x later w'.if-other-gt0.false)
          ]
    ] in
    let most : fresh_count f x later ≤ 1 = fresh-most f x later in
    (omega (arith, adds, rest), omega (arith, adds, most))

pub returns : goal.returns
returns c =
    let f = c.args.fraction in
    let fs = c.args.fractions in
    let none : rank (drop c.loop-i.i fs) f ≡ 0 = rank-end f fs c.loop-i.i (omega arith) in
    omega (arith, c.loop-i.invariant.0, none)
