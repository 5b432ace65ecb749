-- Laws on the definitions of this crate:
--   Changes   items whose successors kept their names: what they keep, and the steps of the loops that find them
--   Rounds    what the code of the rounds and the judge keeps, one law for each turn of a loop
--   Joins     anchors and marks: items that need no search in a round
--   Names     names tell items apart as the rep map does, and what the code that gives them keeps
--   Prepared  names, keys and stirred items from round to round
--   Firsts    what the index of first items keeps
pub mod Changes
pub mod Rounds
pub mod Joins
pub mod Names
pub mod Prepared
pub mod Firsts
