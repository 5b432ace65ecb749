-- Laws on the definitions of this layer:
--   Delays     the regions listed as reached by delay are those that are
--   Instances  both structures are closed, and the region of a state is a placing
--   Shown      the slices that the region layer fills hold the region graph
--   Calls      what the answers of the calls say, and how the steps of their code are put together
--   Success    when the calls succeed; one model and one list of regions; the pair call agrees with the lists
--   View       what is said of one item of the graph
--   Numbers    the numbers that the calls refuse with, none of which is 0
--   Left       what a partition call that succeeded left, for the layer above
--   LeftBlocks  the numbers that it left are document 01's blocks
--   Bisimilar  two states have different block numbers exactly when no bisimulation over all states relates them
--   ZeroDelay  whether a state that breaks its invariant has a zero delay does not matter to that
--   LeftStates  the numbers that it left say which states some bisimulation relates
--   Promised   demand 3, entire, from what the partition call and the pair call promise
--   Judging    a proposal is accepted exactly when it is a bisimulation, from what the judging call promises
--   Example    demand 3 at document 01's printed model: two states related, two parted
pub mod Delays
pub mod Instances
pub mod Shown
pub mod Calls
pub mod Success
pub mod View
pub mod Numbers
pub mod Left
pub mod LeftBlocks
pub mod Bisimilar
pub mod ZeroDelay
pub mod LeftStates
pub mod Promised
pub mod Judging
pub mod Example
