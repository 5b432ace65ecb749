-- Items that are plainly alike: their delays pass through the same blocks in the same order, and their available edges, one by one from
-- the last down, have the same action, denominator and weights and lead to related items. That is enough for the next round to relate
-- them (`next_in`); it is not needed, and only speed depends on how often it holds.
use Rattle.std.specs.Prelude.{ℕ, ◌<◌, ◌≡◌, true, List}
use Rattle.bisimulation.specs.Finite.{related}
use Rattle.comparison.specs.Held.{action_at, whole_at, count_at, weight_at}
use Rattle.comparison.specs.Compare.{delays_answered, edges_alike}

-- Item z stands in for x, as the last item of a run of equal numbers along a delay from x does: what answers to z answers to x, and what
-- z answers to x answers to.
pub record RunTo (n : ℕ) (list nexts : List ℕ) (x z : ℕ) : Type 0 where
  pub inside : z < n
  pub same : related list x z ≡ true
  pub there : (y : ℕ) → related list x y ≡ true → delays_answered n list nexts z y ≡ true → delays_answered n list nexts x y ≡ true
  pub back : (y : ℕ) → delays_answered n list nexts y z ≡ true → delays_answered n list nexts y x ≡ true

-- Both delay conditions, and both edges alike, from one to the other and back.
abbrev pub DelaysAgree : (n : ℕ) → (list nexts : List ℕ) → (x y : ℕ) → Type 0
DelaysAgree n list nexts x y = (delays_answered n list nexts x y ≡ true) × (delays_answered n list nexts y x ≡ true)

abbrev pub BothAlike : (list resets spots rows : List ℕ) → (x e y f : ℕ) → Type 0
BothAlike list resets spots rows x e y f =
    (edges_alike list resets spots rows x e y f ≡ true) × (edges_alike list resets spots rows y f x e ≡ true)

-- Two edges have the same action, the same denominator, as many branches, and the same weights one by one.
pub record SameRow (rows : List ℕ) (e f : ℕ) : Type 0 where
  pub action : action_at rows e ≡ action_at rows f
  pub whole : whole_at rows e ≡ whole_at rows f
  pub count : count_at rows e ≡ count_at rows f
  pub weight : (i : ℕ) → i < count_at rows e → weight_at rows e i ≡ weight_at rows f i
