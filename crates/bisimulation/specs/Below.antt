-- Tests that are equivalences on the numbers below n, and lists that name the lead of each number.
use Rattle.std.specs.Prelude.{ℕ, ◌<◌, ◌≡◌, Bool, true, List, get_or}
use Rattle.bisimulation.specs.Finite.{lead}

-- An equivalence on the numbers below n.
pub record EquivalenceBelow (n : ℕ) (r : ℕ → ℕ → Bool) : Type 0 where
  pub reflexive : (x : ℕ) → x < n → r x x ≡ true
  pub symmetric : (x y : ℕ) → x < n → y < n → r x y ≡ true → r y x ≡ true
  pub transitive : (x y z : ℕ) → x < n → y < n → z < n → r x y ≡ true → r y z ≡ true → r x z ≡ true

-- Two relations agree on the numbers below n; one is finer than the other there.
abbrev pub AgreeBelow : ℕ → (r q : ℕ → ℕ → Bool) → Type 0
AgreeBelow n r q = (x y : ℕ) → x < n → y < n → r x y ≡ q x y

abbrev pub FinerBelow : ℕ → (r q : ℕ → ℕ → Bool) → Type 0
FinerBelow n r q = (x y : ℕ) → x < n → y < n → r x y ≡ true → q x y ≡ true

-- A rep map: each number's lead.
pub record Reps (r : ℕ → ℕ → Bool) (n : ℕ) (p : List ℕ) : Type 0 where
  pub rep : (x : ℕ) → x < n → get_or p x 0 ≡ lead r x
