-- `joined_of` is `joined`.
use Rattle.std.proofs.Common.{arith, mod-lt, refl}
use Rattle.comparison.specs.Keys.{joined}
use Rattle.comparison.proofs.codes.joined_of.Goals as goal

pub returns : goal.returns
unfolding joined
returns c = (refl, mod-lt _ (omega arith))
