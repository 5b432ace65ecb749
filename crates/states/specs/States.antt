-- States of a model, and how they move (document 01, "Regions", from "A state is" on, and "The model table"): the automaton's own
-- rules on fractions. A reader finds the automaton here, and nothing of how the graph is made.
use Rattle.std.specs.Prelude.{ℕ, suc, ◌+◌, ◌*◌, ◌≤◌, ◌<◌, ◌≡◌, Bool, true, false, cond, not, ◌&&◌, ◌||◌}
use Rattle.std.specs.Prelude.{List, [], ◌∷◌, map, eqb, leb, ltb, length, get_or}
use Rattle.table.specs.Model.{Model, Edge, reset_in}
use Rattle.table.specs.declared.model.Branch.{Branch}
use Rattle.table.specs.declared.model.Guard.{Guard}
use Rattle.table.specs.declared.model.Invariant.{Invariant}
use Rattle.regions.specs.Lists.{every}

-- "Each value is a whole number, 0 or more, over one denominator, 1 or more."
pub record State : Type 0 where
  pub location : ℕ
  pub values : List ℕ
  pub denominator : ℕ

-- "A state is any location of the model with any n clock values, whether reached or not."
pub record IsState (m : Model) (s : State) : Type 0 where
  pub location : s.location < m.locations
  pub values : length s.values ≡ m.clocks
  pub denominator : 1 ≤ s.denominator

-- "Equal values at one location are one state": the cross products are equal, clock by clock.
pub record Same (s t : State) : Type 0 where
  pub location : s.location ≡ t.location
  pub values : map (λ v. v * t.denominator) s.values ≡ map (λ v. v * s.denominator) t.values

-- ---- Atoms

-- A clock at v/d against a constant: "0 is <, 1 is ≤, 2 is >, 3 is ≥ and 4 is =". No other number is a comparison of a model that
-- was read.
unfoldable pub compares : (comparison v d constant : ℕ) → Bool
compares comparison v d constant =
    cond (eqb comparison 0) (ltb v (constant * d))
    (cond (eqb comparison 1) (leb v (constant * d))
    (cond (eqb comparison 2) (ltb (constant * d) v)
    (cond (eqb comparison 3) (leb (constant * d) v)
    (cond (eqb comparison 4) (eqb v (constant * d)) false))))

-- An atom holds of a state. (No atom of a model that was read names a clock that is not there.)
abbrev pub is_true : State → (clock comparison constant : ℕ) → Bool
is_true s clock comparison constant = compares comparison (get_or s.values clock 0) s.denominator constant

-- An invariant atom is of another location, or holds.
abbrev pub permits : State → Invariant → Bool
permits s a = not (eqb a.location s.location) || is_true s a.clock a.comparison a.constant

-- The state meets its location's invariant.
unfoldable pub inside : Model → State → Bool
inside m s = every (permits s) m.invariants

-- ---- Delay

-- The fraction p/q is added to each clock: v/d + p/q.
unfoldable pub later : State → (p q : ℕ) → State
later s p q =
    record {
      location = s.location;
      values = map (λ v. v * q + p * s.denominator) s.values;
      denominator = s.denominator * q;
    }

-- "A state delays by adding one fraction, 0 or more, to each clock where its invariant then holds." So the zero delay of a
-- state that breaks its invariant is no delay: such a state lies in no region of the graph.
pub record Delays (m : Model) (s t : State) : Type 0 where
  pub numerator : ℕ
  pub denominator : ℕ
  pub positive : 1 ≤ denominator
  pub arrives : Same (later s numerator denominator) t
  pub meets : inside m t ≡ true

-- ---- Edges: "it takes edges as a region does, branch by branch"

-- The values from clock i on, with those of the mask at 0.
abbrev pub cleared : (mask i : ℕ) → List ℕ → List ℕ
cleared mask i [] = []
cleared mask i (v ∷ vs) = cond (reset_in mask i) 0 v ∷ cleared mask (suc i) vs

-- Where a branch leads.
unfoldable pub target : State → Branch → State
target s b =
    record {
      location = b.target;
      values = cleared b.mask 0 s.values;
      denominator = s.denominator;
    }

abbrev pub guarded : State → Guard → Bool
guarded s g = is_true s g.clock g.comparison g.constant

-- "An edge is available where the location is its source, the guard holds, and every branch's target" meets its invariant.
unfoldable pub enabled : Model → Edge → State → Bool
enabled m e s =
    (eqb e.source s.location && every (guarded s) e.guards) && every (λ b. inside m (target s b)) e.branches
