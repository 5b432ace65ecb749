-- Laws on the definitions of this theory:
--   Rounding  exactly one number is a share rounded to, the one printed; what code goes by
pub mod Rounding
