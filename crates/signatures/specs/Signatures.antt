-- The signature of an item over names of blocks: its name, the names reached by delay, and its steps. In a closed structure whose
-- denominators are below 2^30 the next round relates two items exactly if their signatures are equal (`signature-tells`).
use Rattle.std.specs.Prelude.{ℕ, zero, suc, ◌≡◌, cond}
use mathlib.Core.List.{List, [], ◌∷◌, Memᴰ}
use Rattle.bisimulation.specs.Finite.{Finite}
use Rattle.signatures.specs.Sets.{set_of}
use Rattle.signatures.specs.Steps.{name_of, step_of}

-- The names of items.
abbrev pub names_of : List ℕ → List ℕ → List ℕ
names_of names [] = []
names_of names (x ∷ l) = name_of names x ∷ names_of names l

-- The steps of the available edges below k, and of all.
abbrev pub steps_below : Finite → List ℕ → (x k : ℕ) → List (List ℕ)
steps_below F names x zero = []
steps_below F names x (suc k) = cond (F.available x k) (step_of F names x k ∷ steps_below F names x k) (steps_below F names x k)

abbrev pub steps_of : Finite → List ℕ → ℕ → List (List ℕ)
steps_of F names x = steps_below F names x F.edges

-- Two items have the same signature. Steps are compared as lists, and as sets: how often one occurs, and where, does not matter.
pub record SameSignature (F : Finite) (names : List ℕ) (x y : ℕ) : Type 0 where
  pub name : name_of names x ≡ name_of names y
  pub delays : set_of (names_of names (F.delays x)) ≡ set_of (names_of names (F.delays y))
  pub steps-to : (s : List ℕ) → Memᴰ s (steps_of F names x) → Memᴰ s (steps_of F names y)
  pub steps-from : (s : List ℕ) → Memᴰ s (steps_of F names y) → Memᴰ s (steps_of F names x)
