-- Definitions that the contracts of the reader's parts cite:
--   Models     the shape that the code makes of what it remembers
--   Turns      the counts while a table is read
-- The theorems stand in Laws of proofs/.
pub mod Models
pub mod Turns
