-- Where the search finds the number, it is there; and where it does not, it names the number's place.
use Rattle.std.proofs.Common.{◌∙◌}
use Rattle.signatures.proofs.sets.insert.Goals as goal

pub returns-in-Err : goal.returns-in-Err
returns-in-Err g c = c.insert.ensures.items ∙ (rw (c.as_slice.ensures.value, c.in-Err.is) at c.place_of.ensures).1

pub returns-in_default : goal.returns-in_default
returns-in_default g c = rw (c.as_slice.ensures.value, c.in_default.is) at c.place_of.ensures
