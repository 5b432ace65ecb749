-- Laws on the definitions of this crate:
--   Steps     small steps that loops share
--   Compare   comparing two items over slices that hold a structure is comparing them in it
--   Open      going from one available edge to the one before
--   Down      loops that go over the available edges of an item from the last down
--   Keys      items that the next round relates have equal keys
--   Codes     edges are matched by their codes; the shelf
--   Twins     items that are plainly alike are related in the next round
--   KeyLoops  what the loops that compute keys keep
--   Keyed     comparing by keys
--   Kept      an item keeps its key where nothing that it leads to has another number
pub mod Steps
pub mod Compare
pub mod Open
pub mod Down
pub mod Keys
pub mod Codes
pub mod Twins
pub mod KeyLoops
pub mod Keyed
pub mod Kept
