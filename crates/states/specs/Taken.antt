-- The state that the code holds, and the one that a call asks for by its four values in a list.
use Rattle.std.specs.Prelude.{ℕ, List}
use Rattle.states.specs.States.{State}
use Rattle.states.specs.declared.state.State as S

abbrev pub state_of : S.State → State
state_of s = record { location = s.location; values = s.values; denominator = s.denominator }

abbrev pub asked_with : (location : ℕ) → List ℕ → (d : ℕ) → State
asked_with location values d = record { location = location; values = values; denominator = d }
