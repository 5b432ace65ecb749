-- Laws on the definitions of this layer, beneath:
--   Steps      the lists and answers of the calls, by their tests; one region by itself
pub mod Steps
