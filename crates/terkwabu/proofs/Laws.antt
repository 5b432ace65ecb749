-- Laws on the calls for C hosts:
--   Host     what a host reads off the answers, and how it comes by the listing
--   Bridges  from what an exported call answered without a refusal back to what the layer beneath promises
--   Rows     the answer of each call is by document 01's list
--   Only     at most one answer fits that list
--   States   from a state to its block: what the state call, the partition call and the pair call say together
--   Listing  what the part calls of a host left in its buffers, joined, is the listing
--   Example  the demands at document 01's printed model: their hypotheses are met
pub mod Host
pub mod Bridges
pub mod Rows
pub mod States
pub mod Only
pub mod Listing
pub mod Example
