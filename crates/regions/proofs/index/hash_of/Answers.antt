-- `hash_of` meets its contract: the location, then the integer parts, then the ranks. Assumes nothing.
use Rattle.regions.specs.Index.{hash_of}
use Rattle.regions.proofs.index.hash_of.Goals as goal

pub returns : goal.returns
unfolding hash_of
returns c = (rw (c.mix_four-2.ensures.0, c.mix_four.ensures.0, c.from.ensures), c.mix_four-2.ensures.1)
