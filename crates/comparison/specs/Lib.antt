-- Comparing two items of a finite structure in slices:
--   Held     a finite structure in slices, as the code goes by it
--   Compare  comparing two items, computed over those slices
--   Twins    items that are plainly alike
--   Keys     numbers that are equal for items that the next round relates
-- Laws on these stand in Laws.
pub mod Held
pub mod Walks
pub mod Graphs
pub mod Shares
pub mod Compare
pub mod Twins
pub mod Keys
pub mod Laws
