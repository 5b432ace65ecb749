-- Laws on states:
--   Fractions  reset, delay and atoms on the fractions of a state are those on the ranks of its region
--   States     equal states are alike; the atoms, edges and delays of a state are those of its region
--   Filled     every well-formed region has a state in it
--   RegionTheorem  a region leads by delays and edges exactly where each state in it does
--   Spots      for the code that places a state
--   StateCall  for the code of the state call
--   Steps      what follows of one clock, of four fractions, of one value and of an answer
--   Placed     what the answer of the state call says about the state's region
pub mod Fractions
pub mod States
pub mod Filled
pub mod RegionTheorem
pub mod Spots
pub mod StateCall
pub mod Steps
pub mod Placed
