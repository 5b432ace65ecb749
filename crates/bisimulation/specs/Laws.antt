-- Definitions that those of other crates cite:
--   Blocks     what an item leads to
-- The theorems stand in Laws of proofs/.
pub mod Blocks
