-- The state call (document 01, "Refusal list"): where a state lies in the graph. The rows are those of the graph call (1 to 15),
-- then 20, then 21; the lent entries hold what the graph call leaves.
use Rattle.std.specs.Prelude.{ℕ, suc, Bool, false, cond, not, ◌&&◌, ◌||◌, List, [], ◌∷◌, eqb, leb, ltb, length, take, Result, Ok, Err}
use Rattle.table.specs.Model.{Model}
use Rattle.table.specs.Reading.{Answer, refusal, accepted, read_table}
use Rattle.regions.specs.Graph.{bounds_of}
use Rattle.states.specs.States.{State}
use Rattle.states.specs.Placing.{placed}
use Rattle.regions.specs.Call.{Outcome, refused, cut, whole, from_answer}
use Rattle.regions.specs.View.{number_in}
use Rattle.table.specs.Reasons.{refusal_at}
use Rattle.table.specs.declared.refusals.Reason.TheVariants.{TooManyRegions, BadState, Unreached}
use Rattle.table.specs.declared.refusals.Refusal.{Refusal}

-- The state that a call asks for: four values over a denominator at a location.
abbrev pub asked : (location v₀ v₁ v₂ v₃ d : ℕ) → State
asked location v₀ v₁ v₂ v₃ d = record { location = location; values = v₀ ∷ v₁ ∷ v₂ ∷ v₃ ∷ []; denominator = d }

-- The largest denominator that the call takes.
abbrev pub most_denominator : ℕ
most_denominator = 1000000

-- "A clock beyond n is not 0", among the values from clock i on.
abbrev pub strays : (n i : ℕ) → List ℕ → Bool
strays n i [] = false
strays n i (v ∷ vs) = (leb n i && not (eqb v 0)) || strays n (suc i) vs

-- What the call does not take: "20. A state's location is not below the count, its denominator is 0 or above 1,000,000, or a
-- clock beyond n is not 0." It may be a state all the same: 1/2,000,000 is a value of one.
unfoldable pub is_not_taken : Model → State → Bool
is_not_taken m s =
    leb m.locations s.location
    || (eqb s.denominator 0 || (ltb most_denominator s.denominator || strays m.clocks 0 s.values))

-- The state that is asked for: the call takes four values, and the model has n clocks.
unfoldable pub own_state : Model → State → State
own_state m s = record { location = s.location; values = take m.clocks s.values; denominator = s.denominator }

-- "21. The state's region was not reached." Otherwise its number.
abbrev pub numbered : (count number : ℕ) → Result ℕ Refusal
numbered count number = cond (ltb number count) (Ok number) (Err (refusal_at Unreached 0))

abbrev pub placed_among : Model → State → Outcome → Result ℕ Refusal
placed_among m s (refused reason place) = Err (refusal_at reason place)
placed_among m s (cut found) = Err (refusal_at TooManyRegions 0)
placed_among m s (whole found) =
    cond (is_not_taken m s) (Err (refusal_at BadState 0)) (numbered (length found) (number_in found (placed (bounds_of m) (own_state m s))))

abbrev pub placed_from : (cap : ℕ) → State → Answer → Result ℕ Refusal
placed_from cap s (refusal reason place) = Err (refusal_at reason place)
placed_from cap s (accepted m) = placed_among m s (from_answer cap (accepted m))

-- The answer of the call, for a table, room for so many regions, and four values over a denominator at a location.
unfoldable pub place_of : List ℕ → (cap : ℕ) → State → Result ℕ Refusal
place_of table cap s = placed_from cap s (read_table table)
