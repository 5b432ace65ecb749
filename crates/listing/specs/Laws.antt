-- Laws on the definitions of this layer:
--   Texts    the clocks of a region, one after the other
--   Buffers  a text in a buffer
--   Joined   the parts of the listing, joined, are the listing
--   Sense    what the definitions fall back on never occurs in what a call left
--   Shares   the shares of a step in what a call left
--   Totals   the totals of what is printed, and in what a call left
--   Labels   for the code of the labels that the totals are taken over
--   Lengths  how long texts are
--   Blocks   blocks in a list of block numbers
--   Rising   the loops of a block's lines: the numbers that pass a test, and the branches of a row
--   Parts    for the code of the parts
pub mod Texts
pub mod Buffers
pub mod Joined
pub mod Sense
pub mod Shares
pub mod Totals
pub mod Labels
pub mod Lengths
pub mod Blocks
pub mod Rising
pub mod Parts
