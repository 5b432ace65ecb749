-- `scatter_of` is `scatter`.
use Rattle.std.proofs.Common.{arith, mod-lt, refl}
use Rattle.comparison.specs.Keys.{scatter}
use Rattle.comparison.proofs.codes.scatter_of.Goals as goal

pub returns : goal.returns
unfolding scatter
returns c = (refl, mod-lt _ (omega arith))
