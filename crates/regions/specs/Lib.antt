-- The definitions of the region layer, in the words of document 01:
--   Lists      a test of all items of a list
--   Graph      bounds, invariants, available edges, what a region leads to, and what is reached
--   Edges      the edges of a model by number and by source
--   Limits     invariants as one limit for each location and clock, as exploring tests them
--   Entries    regions in a list of bytes, nine to an entry
--   Index      a chained hash index over the first entries
--   Worklist   numbering what is reached, in the order in which it is met, with a cap
--   Explore    exploring into entries, step by step
--   Marks      what is known of where the branches of one region lead
--   Order      the regions of the graph and their numbers, without a word of exploring
--   Formed     well-formed regions
--   Call       the graph call: its answer, and what the lent entries then hold
--   Passed     what the layers above need of the layers beneath
--   View       the graph as the layers above see it: labels, delays and steps by number
--   Shown      the graph in slices, as the layer above goes by it
--   Sight      one region by itself, as the layer above asks for it
--   Filling    how the slices of Shown are filled, step by step
--   Example    document 01's printed model: its table, and the model that it is read as
-- Laws on these stand in Laws.
pub mod Lists
pub mod Graph
pub mod Edges
pub mod Limits
pub mod Prepared
pub mod Of
pub mod Entries
pub mod Index
pub mod Worklist
pub mod Explore
pub mod Marks
pub mod Order
pub mod Formed
pub mod Call
pub mod Passed
pub mod View
pub mod Shown
pub mod Sight
pub mod Filling
pub mod Example
pub mod Laws
