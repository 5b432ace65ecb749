-- Signatures of regions:
--   Sets        sets of numbers as rising lists
--   Walked      numbers gathered into a set
--   Chain       an index of lists by hashes
--   Book        what a dictionary holds
--   Dictionary  it, in two slices
--   Shares      a share as two numbers
--   Steps       an edge over names of blocks, as a list
--   Signatures  the signature of an item
--   Structure   the slices of a graph as a finite structure
--   Raw         the raw form of a step
--   Memo        ids of steps by their raw forms
--   Available   the next available edge
--   Named       signatures over a dictionary
--   Pass        what a pass works over
-- Laws on these stand in Laws.
pub mod Sets
pub mod Walked
pub mod Chain
pub mod Book
pub mod Dictionary
pub mod Shares
pub mod Steps
pub mod Signatures
pub mod Structure
pub mod Raw
pub mod Memo
pub mod Available
pub mod Named
pub mod Pass
pub mod Laws
