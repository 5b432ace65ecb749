-- Laws on the definitions of the region layer, beneath:
--   Marked     what the marks on branches say, and what one more entry keeps
--   Steps      what tells whether two regions are equal, and what follows by delay, test by test
--   Shown      what the slices of the graph of a table of bytes hold
--   Listed     the first entry in an index, and what one more entry keeps in lists of any length
--   Sets       sets of clocks in a list with an index, in lists of any length
--   Limits     what the marks on branches say, by any bounds and any limits of a model
pub mod Marked
pub mod Steps
pub mod Shown
pub mod Listed
pub mod Sets
pub mod Limits
