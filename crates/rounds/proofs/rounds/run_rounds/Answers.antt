-- The numbers of a rep map of the last round are the last blocks.
use Rattle.std.proofs.Common.{◌∙◌}
use Rattle.rounds.specs.Laws.Rounds.{last-own, last-numbered}
use Rattle.rounds.proofs.rounds.run_rounds.Goals as goal

pub returns : goal.returns
returns c =
    let args = c.args in
    let n = args.graph.n in
    let first = c.refine-counted.new.first in
    let second = c.refine-counted.new.second in
    λ F held closed.
    let rested = c.refine-counted.ensures F held closed in (
      c.number_blocks.ensures n (c.refine-counted.auto.first ∙ c.requires.0) (last-own F closed first n held.size rested.first)
          ∙ last-numbered F closed first n held.size rested.first,
      c.number_blocks-2.ensures n (c.refine-counted.auto.second ∙ c.requires.1) (last-own F closed second n held.size rested.second)
          ∙ last-numbered F closed second n held.size rested.second,
      rested.counted,
      rested.made,
    )
