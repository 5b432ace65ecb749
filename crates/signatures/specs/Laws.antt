-- Laws on the definitions of signatures:
--   Order       numbers are equal or not, below or not
--   Sets        equal lists exactly for equal sets
--   Insert      a number put into a set in a slice
--   Walked      gathering numbers into a set
--   Chain       searching along a bucket
--   Book        how a dictionary grows
--   Dictionary  searching, one list more
--   Shares      equal numbers exactly for equal cross products
--   Steps       equal lists exactly for edges that are alike
--   Branches    the branches of an edge
--   Raw         raw forms, and the loops over them
--   Memo        the memo stays right
--   Named       what ids of signatures tell
--   Delays      names gathered along delays
--   Available   available edges, one after the other
--   Reached     walks along delays, by single ones and by jumps
--   Passes      a pass over items
--   Tells       what the ids of a pass tell of the next round
--   Signatures  equal exactly for items that are related in the next round
pub mod Order
pub mod Sets
pub mod Insert
pub mod Walked
pub mod Chain
pub mod Book
pub mod Dictionary
pub mod Shares
pub mod Steps
pub mod Signatures
pub mod Branches
pub mod Raw
pub mod Memo
pub mod Named
pub mod Delays
pub mod Available
pub mod Reached
pub mod Passes
pub mod Tells
