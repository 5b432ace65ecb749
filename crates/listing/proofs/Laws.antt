-- Laws on the definitions of the listing, beneath:
--   Steps      one turn more of what a listing is put together of: blocks of regions, numbers that pass a test, shares, edges
--   Items      a text that is put together or copied, counts of what is lent, the record of an entry, an item that is seen
pub mod Steps
pub mod Items
