-- How the code places a state: each clock by its whole part and fraction, and the ranks by counting the different fractions.
use Rattle.std.specs.Prelude.{ℕ, Bool, cond, not, ◌&&◌, List, [], ◌∷◌, map, eqb, leb, get_or}
use Rattle.clocks.specs.Cells.{Cell, fraction_of, member, rank}
use Rattle.clocks.specs.Packed.{over_part, clock_of, byte_at}
use Rattle.states.specs.declared.state.Spot.{Spot}

-- What the code holds of a cell.
abbrev pub spot_of : Cell → Spot
spot_of c = record { whole = (clock_of c).whole; fraction = fraction_of c }

-- A clock that takes no part.
abbrev pub no_spot : Spot
no_spot = record { whole = over_part; fraction = 0 }

-- The integer parts of four clocks as bytes of a region, and the ranks of their fractions.
abbrev pub spot_wholes : ℕ → List Spot → List ℕ
spot_wholes count ss =
    byte_at count 0 (get_or ss 0 no_spot).whole ∷ byte_at count 1 (get_or ss 1 no_spot).whole
    ∷ byte_at count 2 (get_or ss 2 no_spot).whole ∷ byte_at count 3 (get_or ss 3 no_spot).whole ∷ []

abbrev pub spot_fractions : List Spot → List ℕ
spot_fractions ss = map (λ (s : Spot). s.fraction) ss

abbrev pub fraction_ranks : ℕ → List ℕ → List ℕ
fraction_ranks count fs =
    byte_at count 0 (rank fs (get_or fs 0 0)) ∷ byte_at count 1 (rank fs (get_or fs 1 0))
    ∷ byte_at count 2 (rank fs (get_or fs 2 0)) ∷ byte_at count 3 (rank fs (get_or fs 3 0)) ∷ []

abbrev pub spot_ranks : ℕ → List Spot → List ℕ
spot_ranks count ss = fraction_ranks count (spot_fractions ss)

-- A fraction is from 1 to f, and none of some others.
abbrev pub is_fresh : ℕ → ℕ → List ℕ → Bool
is_fresh f x l = (not (eqb x 0) && leb x f) && not (member x l)

-- What it adds to a rank.
abbrev pub fresh_count : ℕ → ℕ → List ℕ → ℕ
fresh_count f x l = cond (is_fresh f x l) 1 0
