-- The definitions of the C interface, and the three demands as closed statements:
--   Answers    the numbers that a call's answer is given in
--   Version    the library's version
--   Calls      what a host sees of each exported call: its contract, as one record
--   Rows       document 01's refusal list as each call goes through it, and what the lent memory then holds
--   Demand1    every call answers by the list
--   Demand2    graph, numbers, blocks, rounds and listing are those defined; regions lead as their states do; proposals
--   Demand3    the block numbers decide which states a bisimulation relates
-- Laws on these stand in Laws of proofs/, the theorems that the demands hold in Demand1, Demand2 and Demand3 of proofs/.
pub mod Answers
pub mod Version
pub mod Calls
pub mod Rows
pub mod Demand1
pub mod Demand2
pub mod Demand3
