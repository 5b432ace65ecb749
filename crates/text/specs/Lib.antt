-- Text as bytes, and how code puts it together:
--   Text     signs, words and decimal numbers; texts one after the other
--   Writing  bytes that are put to the front of a slice, as far as there is room, and what a writer puts
-- Laws on these stand in Laws.
pub mod Text
pub mod Writing
pub mod Laws
