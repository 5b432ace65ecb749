-- The step lines of the edges that were met are put.
use Rattle.text.specs.Text.{up_to}
use Rattle.text.specs.Writing.{Puts}
use Rattle.listing.specs.Slices.{step_text_at}
use Rattle.listing.proofs.steps.put_steps.Given as goal

abbrev pub invariant-loop-number : goal.invariant-loop-number
invariant-loop-number l = Puts l.initial.text l.text (up_to (step_text_at l.blocks.list.now l.rows l.blocks.count l.own) l.number)
