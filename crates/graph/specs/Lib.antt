-- The definitions of the graph in slices:
--   Columns    the two slices: columns, where they begin, and the rows of edges
--   Readers    what is read, for all numbers and all contents
--   Writers    what is stored
-- Laws on these stand in Laws of proofs/.
pub mod Columns
pub mod Readers
pub mod Writers
