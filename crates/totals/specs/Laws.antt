-- Laws on the totals:
--   Totals  what the lines say: which labels have one, and that the last line sums those above
--   Counts  for the code: counts one label at a time, lines one label at a time, and how long they are
pub mod Totals
pub mod Counts
