-- The definitions of the region layer, beneath, in the words of document 01:
--   Cells      a clock as a cell; ranks and closing up; reset and delay
--   Atoms      guard and invariant atoms on a clock
--   Packed     a region as the code holds it, and the cells that it stands for
-- Laws on these stand in Laws of proofs/.
pub mod Cells
pub mod Atoms
pub mod Packed
