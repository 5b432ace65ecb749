-- `cube_of` is the third power modulo the prime.
use Rattle.std.proofs.Common.{arith, mod-lt, refl}
use Rattle.comparison.specs.Keys.{cube}
use Rattle.comparison.proofs.codes.cube_of.Goals as goal

pub returns : goal.returns
unfolding cube
returns c = (refl, mod-lt _ (omega arith))
