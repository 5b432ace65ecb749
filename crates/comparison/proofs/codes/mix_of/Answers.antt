-- `mix_of` is `mixed`.
use Rattle.std.proofs.Common.{arith}
use Rattle.comparison.specs.Keys.{mixed}
use Rattle.comparison.proofs.codes.mix_of.Goals as goal

pub returns : goal.returns
unfolding mixed
returns c = let cube = c.cube_of.ensures in (cube.0, omega arith)
