-- Laws on the definitions of the graph in slices:
--   Columns    loading after storing
--   Latest     chains: the latest of those that pass
--   Index      the region of a clock class and a location
--   Bits       available edges
--   Walks      the cases of what the code does step by step
--   Bounds     what is read is within bounds
--   Stores     what each writer stores, and what it leaves as it was
--   Chains     chains by buckets; the index of clock classes
--   Keys       the slots by mask and target
--   Prepared   what a prepared model stores is read back
--   Others     what a prepared model stores leaves every other location, edge, branch and slot
--   Kept       a column that is kept is read as before
--   Sources    the resets backwards
--   Resets     the resets both ways
--   Steps      the default of a list, and words that are cleared
pub mod Columns
pub mod Latest
pub mod Index
pub mod Bits
pub mod Walks
pub mod Bounds
pub mod Stores
pub mod Sources
pub mod Prepared
pub mod Others
pub mod Kept
pub mod Chains
pub mod Keys
pub mod Resets
pub mod Steps
