-- Laws on the totals, beneath:
--   Steps      the line of one label more, and all lines, as texts that are put
pub mod Steps
