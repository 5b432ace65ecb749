-- Laws on the definitions of text:
--   Writing  bytes put one after the other
--   Writer   the same of a writer
--   Decimal  the digits of a number
--   Texts    texts one after the other, and the numbers that pass a test
--   Lengths  how long texts are
pub mod Writing
pub mod Writer
pub mod Decimal
pub mod Texts
pub mod Lengths
