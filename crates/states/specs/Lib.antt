-- The definitions on states, in the words of document 01:
--   States     states of a model, and how they move: the automaton's own rules on fractions
--   Placing    the region of a state
--   Covering   bounds that are enough for a model, and reaching by some delay for any bounds
--   Alike      what it is that a region leads as a state does
--   StateCall  the state call: its answer
--   Taken      the state that the code holds
--   Spots      how the code places a state
-- Laws on these stand in Laws.
pub mod States
pub mod Placing
pub mod Covering
pub mod Alike
pub mod StateCall
pub mod Taken
pub mod Spots
pub mod Laws
