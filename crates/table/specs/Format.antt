-- The numbers of the format: body lengths, limits, numbers of two bytes (document 01, "The model table").
use Rattle.std.specs.Prelude.{ℕ, ◌+◌, ◌*◌, List, [], ◌∷◌, get_or}

-- "The body lengths for kinds 1 to 7 are 3, 1, 4, 4, 3, 4 and 0", indexed by kind. No other number is a kind; its
-- length is 0 here.
unfoldable pub body_lengths : List ℕ
body_lengths = 0 ∷ 3 ∷ 1 ∷ 4 ∷ 4 ∷ 3 ∷ 4 ∷ 0 ∷ []

unfoldable pub body_length : ℕ → ℕ
unfolding body_lengths
body_length kind = get_or body_lengths kind 0

-- "Two-byte numbers have the low byte first."
abbrev pub two_bytes : ℕ → ℕ → ℕ
two_bytes low high = low + 256 * high

-- The longest table that is looked at (refusal 1).
abbrev pub max_bytes : ℕ
max_bytes = 16384

-- "Clocks n (0 to 4), locations (1 to 64)"; "constants are 0 to 15"; "denominator W in two bytes (1 to 60,000)"; "at most 128 invariant
-- atoms and 128 edges, and 8 guard atoms and 8 branches to an edge".
abbrev pub max_clocks : ℕ
max_clocks = 4

abbrev pub max_locations : ℕ
max_locations = 64

abbrev pub max_constant : ℕ
max_constant = 15

abbrev pub max_denominator : ℕ
max_denominator = 60000

abbrev pub max_invariants : ℕ
max_invariants = 128

abbrev pub max_edges : ℕ
max_edges = 128

-- To an edge.
abbrev pub max_guards : ℕ
max_guards = 8

-- To an edge.
abbrev pub max_branches : ℕ
max_branches = 8

-- The last comparison of an invariant atom: "0 is <, 1 is ≤".
abbrev pub last_bound : ℕ
last_bound = 1

-- The last comparison of a guard atom: "0 is <, 1 is ≤, 2 is >, 3 is ≥ and 4 is =".
abbrev pub last_comparison : ℕ
last_comparison = 4
