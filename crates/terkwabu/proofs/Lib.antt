-- What is proved of the calls for C hosts, beside the proofs of the functions:
--   Laws     laws on the definitions of specs/
--   Demand1  every call answers by the list: `demand-1`
--   Demand2  graph, numbers, blocks, rounds and listing are those defined: `demand-2`; blocks are coarsest at every level: `coarsest-any`
--   Demand3  the block numbers decide which states a bisimulation relates: `demand-3`; for relations at every level: `demand-3-at`
pub mod Laws
pub mod Demand1
pub mod Demand2
pub mod Demand3
