-- The partition layer: the region graph and the states of a model as structures, the partition call, the pair call and the judging
-- call, and what the blocks say about states:
--   Instances  the region graph of a model as a finite structure, all its states as one, and the block number of a state
--   Passed     what the layer above needs of the layers beneath
--   View       one region of the graph by itself, for the layer above
--   Room       the graph of a table in slices, as both layers beneath see it
--   Calls      the three calls: their answers, and what the lent lists then hold
--   Promises   what each call promises, in one record
--   Left       what a partition call that succeeded left
-- Laws on these stand in Laws.
pub mod Instances
pub mod Passed
pub mod View
pub mod Room
pub mod Calls
pub mod Promises
pub mod Left
pub mod Laws
