-- `open_after` meets its contract. Assumes nothing.
use mathlib.Core.Path.{sym, ◌∙◌}
use Rattle.regions.specs.Laws.Filling.{open-here, open-past}
use Rattle.regions.proofs.moves.open_after.Goals as goal

pub returns-then-is_available-clause-value : goal.returns-then-is_available-clause-value
returns-then-is_available-clause-value c =
    λ m reads edge from old. sym (open-here _ c.args.e
    (sym (c.is_available.ensures.value m c.args.e reads edge from) ∙ c.if-is_available.true))

pub returns-else-is_available-clause-value : goal.returns-else-is_available-clause-value
returns-else-is_available-clause-value c =
    λ m reads edge from old. old ∙ sym (open-past _ c.args.e
    (sym (c.is_available.ensures.value m c.args.e reads edge from) ∙ c.if-is_available.false))
