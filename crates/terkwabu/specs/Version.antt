-- The version of the library, as the macros of include/terkwabu.h say it. Every change of an answer raises it.
use Rattle.std.specs.Prelude.{ℕ, ◌+◌, ◌*◌}

abbrev pub major : ℕ
major = 1

abbrev pub minor : ℕ
minor = 2

abbrev pub patch : ℕ
patch = 0

-- In one number, so that a later version is a larger one.
abbrev pub version : ℕ
version = 1000000 * major + (1000 * minor + patch)
