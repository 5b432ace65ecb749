-- Laws on the definitions of this layer:
--   Shares     the weight that lands in a class, and equal shares, over lists of branches
--   Rounds     the rounds are equivalences that get finer; bisimulations are within them; a round at rest is a bisimulation
--   Transfer   placed items are in one block of the round at rest exactly where some bisimulation relates them
--   Tests      what the tests of finite structures tell
--   Leads      numbering: the lowest item of a block, block numbers, rep maps, finer relations
--   Matches    the conditions computed over a block list are the conditions
--   Blocks     block lists tell the rounds; the count of rounds; the last blocks are the coarsest bisimulation
--   Judging    a proposal is accepted exactly when it is a bisimulation; comparing with the first item is enough
--   Agree      structures that agree have equal rounds, blocks and judgements
--   Deciding   the last blocks decide which placed items some bisimulation relates
--   Example    document 01's printed model as a finite structure, and its point on equal shares, computed
--   ExampleTransfer  infinitely many items placed in the printed model: related and parted as its blocks say
pub mod Shares
pub mod Rounds
pub mod Transfer
pub mod Tests
pub mod Leads
pub mod Matches
pub mod Blocks
pub mod Judging
pub mod Agree
pub mod Deciding
pub mod Example
pub mod ExampleTransfer
