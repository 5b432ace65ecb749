-- One more item has its new name.
use Rattle.std.proofs.Common.{ℕ, ◌≡◌, ◌<◌, get_or, length, true, false, ◌⊎◌, inl, inr, arith, rules, ap, ◌∙◌}
use Rattle.rounds.specs.Laws.Names.{renamed-on}
use Rattle.std.proofs.Math.Dec.{eqb}
use mathlib.Core.Bool.{not}
use Rattle.std.proofs.Common.{eqb-true}
use Rattle.bisimulation.proofs.Laws.Tests.{both, clash}
use Rattle.std.proofs.Common.{length-set}
use Rattle.rounds.proofs.names.rename.Goals as goal

same : (a b : ℕ) → not (eqb a b) ≡ false → a ≡ b
same a b f = go (both (eqb a b))
  where
    go : (eqb a b ≡ true) ⊎ (eqb a b ≡ false) → a ≡ b
    go (inl t) = eqb-true a b t
    go (inr g) = absurd (clash (ap not g) f)

pub loop-x-preserved : goal.loop-x-preserved
loop-x-preserved c =
    let loop = c.loop-x in
    let named : loop.x < length loop.names = search rules in (
      length-set loop.changed loop.x _ ∙ loop.invariant.0,
      renamed-on c.args.new.now c.args.tags.now c.args.names.now loop.names loop.changed loop.x c.from-name.result _ named
          (omega (arith, loop.invariant.0, c.loop-x-test.true, c.requires)) loop.invariant.1
          (c.from-name.ensures ∙ c.at.ensures) (same c.from-name.result (get_or loop.names loop.x 0)),
    )
