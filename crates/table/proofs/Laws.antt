-- Theorems on the definitions of the table layer, and laws for the proofs of its code:
--   Lengths    bodies are short
--   Runs       what an accepted table went through, record by record; the fuel of a run does not matter
--   Models     an accepted table's model is sound, its table is the one that was read, its edges' places and counts are right
--   ReadBack   every sound model is read back from its table: the accepted tables are exactly the tables of sound models
--   Numbers    a table is refused with a reason of number 1 to 13, at a place within it or at its end
--   Sized      labels and actions of a model that was read from bytes are bytes
--   Items      on the table of a model the accessors give the items of the model
--   Edges      what is stored from number 0 on, and the loops that list the edges and their places
--   Reads      from the answer of `read` to the model, and to what the accessors then give
--   Masks      the bits of a reset mask
--   Turns      for the loop that reads a table
--   Walks      for the loop that walks over records of one kind
--   Steps      what follows for a number that is no kind, for the record that a walk comes to, and for loops that have not begun
pub mod Lengths
pub mod Runs
pub mod Models
pub mod ReadBack
pub mod Numbers
pub mod Sized
pub mod Items
pub mod Edges
pub mod Reads
pub mod Masks
pub mod Turns
pub mod Walks
pub mod Steps
