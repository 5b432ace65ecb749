-- The rounds over a finite structure in slices, and judging a proposal:
--   Links    links to items in stored lists
--   Names    names of blocks that change as little as they may
--   Changes  what a change of names reaches
--   Rounds   what the code of the rounds and the judge keeps
--   Firsts   the first item with each number of a proposal, by an index
-- Laws on these stand in Laws.
pub mod Links
pub mod Names
pub mod Changes
pub mod Rounds
pub mod Firsts
pub mod Laws
