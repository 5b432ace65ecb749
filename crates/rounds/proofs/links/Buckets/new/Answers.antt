-- Cleared arrays link to nothing.
use Rattle.comparison.specs.Laws.Steps.{zeros-at}
use Rattle.rounds.proofs.links.Buckets.new.Goals as goal

pub returns : goal.returns
returns c = λ b. (zeros-at 4096 b, zeros-at 4096 b)
