-- Laws on the definitions of the region layer, beneath:
--   Cells      reset and delay keep cells within their bounds, and ranks without gaps
--   Steps      what follows of one clock, of four numbers and of an atom
pub mod Cells
pub mod Steps
