-- The definitions of the table layer, in the words of document 01: what a table is, and what reading one gives. A reader who
-- wants to know what is proved reads these, in this order:
--   Format     the numbers of the format: body lengths, limits
--   Model      the model that a table describes
--   Records    a record as bytes, and the record at a place of a table
--   Codes      the bytes of kinds and of comparisons
--   Reasons    the numbers of the reasons of refusals, passed on from Refusals
--   Refusals   the numbers of the reasons; refusals 2 to 13: the rows of each record, in document 01's order
--   Reading    reading a table record by record, with refusal 1, and its answer
--   Written    the table that a model is written as, and what the code keeps of it
--   Answer     the answer as the code gives it
--   Sound      what is sound in every model that was read
--   Access     what the accessors give
--   Edges      what the edge list holds
--   Reads      the model that a table was read as, and its edges by number
-- The theorems on these definitions, and laws for the proofs of the code, stand in Laws of proofs/; Laws here has two definitions that
-- contracts cite.
pub mod Format
pub mod Model
pub mod Records
pub mod Codes
pub mod Reasons
pub mod Refusals
pub mod Reading
pub mod Written
pub mod Answer
pub mod Sound
pub mod Access
pub mod Edges
pub mod Reads
pub mod Laws
