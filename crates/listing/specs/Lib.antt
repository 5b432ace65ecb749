-- The definitions of the listing layer, in the words of document 01, "The printed model":
--   Printed  records of regions and blocks, each line over them, and the listing of a table
--   Parts    the listing in parts: the text of a part, and the part call
--   Slices   one item of a graph in slices, as the code of a block's lines goes by it
--   Labels   the labels of the records, as the code lists them
--   Points   the points that document 01 marks ★, of all layers, as document 02 changes them
-- Laws on these stand in Laws.
pub mod Printed
pub mod Slices
pub mod Labels
pub mod Parts
pub mod Points
pub mod Laws
