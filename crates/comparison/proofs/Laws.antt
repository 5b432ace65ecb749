-- Lemmas of the proofs:
--   Walks   what the iterators over available edges and delays give
--   Runs    `all` and `any` over iterators and ranges
--   Opens   loops over available edges
--   Shares  weights that land in a block
--   Steps   what the loop along delays keeps, by the item that it is at
pub mod Walks
pub mod Runs
pub mod Shares
pub mod Opens
pub mod Steps
