-- Links to items in stored lists of numbers.
use Rattle.std.specs.Prelude.{ℕ, suc, Option, None, Some}

-- Link y + 1 tells item y, and 0 tells none.
abbrev pub link_to : Option ℕ → ℕ
link_to None = 0
link_to (Some y) = suc y
