-- Loop: the first words are cleared, and nothing else has changed.
use mathlib.Core.Path.{◌≡◌}
use Rattle.graph.specs.Writers.{cleared_words}
use Rattle.graph.proofs.regions.clear_available.Given as goal

abbrev pub invariant-loop-word : goal.invariant-loop-word
invariant-loop-word l = l.graph ≡ cleared_words l.initial.graph l.region l.word
