-- The totals at the foot of the listing, in the words of document 02, Job 1:
--   Totals  counts of labels, and the lines over them
--   Counts  what the code's arrays of counts hold, and the lines that go by them
-- Laws on these stand in Laws.
pub mod Totals
pub mod Counts
pub mod Laws
