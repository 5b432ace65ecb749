-- The theory of the coarsest bisimulation (document 01, "Bisimulation and rounds"), over any structure with labels, delays and
-- weighted edges. It knows no automaton: regions and states are two instances.
--   Structures     a structure: items, labels, delays, edges with weighted branches
--   Shares         the share that a class gets; equal shares
--   Bisimulations  bisimulations, and the rounds
--   Finite         finite structures: rounds as block lists, the count of rounds, judging a proposal
--   Below          tests that are equivalences on the numbers below n, and their leads
--   Placings       items of a structure placed among those of a finite one
-- Laws on these stand in Laws of proofs/. Laws here says what an item leads to, which definitions of other crates cite.
pub mod Structures
pub mod Shares
pub mod Bisimulations
pub mod Finite
pub mod Below
pub mod Placings
pub mod Laws
