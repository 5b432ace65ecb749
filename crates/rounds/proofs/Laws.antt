-- Laws on the definitions of this crate, beneath:
--   Steps      lists filled from the front, links as numbers, searches, tags that are swapped, keys that are forgotten, what is stored in
--              the index of first items
--   Prepared   what the loop over the rounds keeps, where keys are forgotten only before the next round
pub mod Steps
pub mod Prepared
