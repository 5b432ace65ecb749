-- Shares in ten-thousandths (document 02, Job 7):
--   Rounding  what it means that a share is rounded to a number, and the number that is printed
-- Laws on these stand in Laws of proofs/.
pub mod Rounding
