-- States and what a partition call left: a state lies in the region of an entry exactly where it lies in a region of the graph, and in one
-- alone (`left-lies`, `left-lies-one`); the number of that entry, in the lent list, is the state's block (`left-number`). So two numbers
-- say whether some bisimulation over all states relates the two states (`left-given`, `left-equal`).
use Rattle.std.specs.Prelude.{ℕ, ◌<◌, ◌≡◌, ◌↔◌, length, get_or}
use Rattle.std.proofs.Common.{arith, sym, ◌∙◌, ap, subst}
use mathlib.Core.List.{List, Memᴰ}
use Rattle.regions.specs.Passed.{Region}
use Rattle.regions.specs.Entries.{region_at}
use Rattle.regions.specs.Explore.{listed_at}
use Rattle.regions.specs.Graph.{first, Reached}
use Rattle.regions.specs.Order.{AllRegions, InOrder}
use Rattle.regions.specs.View.{number_in}
use Rattle.regions.specs.Laws.Call.{whole-model}
use Rattle.regions.specs.Laws.Order.{whole-order}
use Rattle.regions.specs.Laws.View.{has-number, number_at}
use Rattle.regions.specs.Laws.Worklist.{member}
use Rattle.states.specs.States.{State, IsState}
use Rattle.states.specs.Alike.{region_in}
use Rattle.bisimulation.specs.Bisimulations.{Bisimulation}
use Rattle.bisimulation.specs.Finite.{last_blocks}
use Rattle.partition.specs.Instances.{graph, states, states_zero, place_in, block_in}
use Rattle.partition.specs.Left.{Left}
use Rattle.partition.specs.Laws.Left.{left_at}
use Rattle.partition.specs.Laws.Bisimilar.{related-states, parted-states}
use Rattle.partition.specs.Laws.ZeroDelay.{zero-delay-alike}

module _ {table : List ℕ} {cap n b k : ℕ} {entries list : List ℕ} (left : Left table cap n b k entries list) where
  -- The entries are all regions reached, in document 01's order.
  pub left-all : AllRegions left.from.model left.from.found
  left-all = (whole-model table cap left.from.found left.from.model left.from.out left.from.read).0

  pub left-order : InOrder left.from.model left.from.found
  left-order = whole-order table cap left.from.found left.from.model left.from.read left.from.out

  size : (x : ℕ) → x < n → x < length left.from.found
  size x h = omega (arith, h, left.regions-are)

  -- Entry x is region x.
  pub left-entry : (x : ℕ) (d : Region) → x < n → region_at entries x ≡ get_or left.from.found x d
  left-entry x d h = sym (listed_at entries n x d h) ∙ ap (λ (l : List Region). get_or l x d) left.entries-hold

  -- ---- A state

  module _ (s : State) where
    -- The region of the state is that of entry x.
    abbrev pub LiesAt : ℕ → Type 0
    LiesAt x = (x < n) × (region_at entries x ≡ region_in left.from.model s)

    found_at : (x : ℕ) → LiesAt x → get_or left.from.found x (first left.from.model) ≡ region_in left.from.model s
    found_at x at = sym (left-entry x (first left.from.model) at.0) ∙ at.1

    place_is : (x : ℕ) → LiesAt x → place_in left.from.model left.from.found s ≡ x
    place_is x at =
        ap (number_in left.from.found) (sym (found_at x at))
        ∙ number_at left.from.found left-all.different (first left.from.model) x (size x at.0)

    reached : (x : ℕ) → LiesAt x → Reached left.from.model (region_in left.from.model s)
    reached x at =
        (left-all.all (region_in left.from.model s)).1
        (subst (λ (r : Region). Memᴰ r left.from.found) (found_at x at)
        (member (first left.from.model) left.from.found x (size x at.0)))

    pub left-lies : Reached left.from.model (region_in left.from.model s) ↔ ((x : ℕ) × LiesAt x)
    left-lies = (
      λ r.
          let at = has-number left.from.found (region_in left.from.model s) ((left-all.all _).0 r) in
          let x : ℕ = place_in left.from.model left.from.found s in
          let h : x < n = omega (arith, at.inside, left.regions-are) in
          (x, (h, left-entry x (first left.from.model) h ∙ at.is (first left.from.model))),
      λ t. reached t.0 t.1,
    )

    pub left-lies-one : (x y : ℕ) → LiesAt x → LiesAt y → x ≡ y
    left-lies-one x y at bt = sym (place_is x at) ∙ place_is y bt

    -- The number of the entry in the list is the state's block.
    pub left-number : (x : ℕ) → LiesAt x → get_or list x 0 ≡ block_in left.from.model left.from.found s
    left-number x at =
        left_at left x at.0
        ∙ ap (λ (p : ℕ). get_or (last_blocks (graph left.from.model left.from.found)) p 0) (sym (place_is x at))

  -- ---- Two states

  module _ (s t : State) (is : IsState left.from.model s) (it : IsState left.from.model t)
      (x y : ℕ) (at : LiesAt s x) (bt : LiesAt t y) where
    -- Where the numbers are equal, a bisimulation over all states that relates the two is given.
    pub left-given : get_or list x 0 ≡ get_or list y 0
        → (R : State → State → Type 0) × Bisimulation (states left.from.model) R × R s t
    left-given e =
        related-states table cap left.from.found left.from.out left.from.model left.from.read s t is it (reached s x at)
        (reached t y bt) (sym (left-number s x at) ∙ e ∙ left-number t y bt)

    -- Whatever bisimulation over all states relates the two, at any level: the numbers are equal.
    pub left-equal {ℓ} : (R : State → State → Type ℓ) → Bisimulation (states left.from.model) R → R s t
        → get_or list x 0 ≡ get_or list y 0
    left-equal R w r =
        left-number s x at
        ∙ parted-states table cap left.from.found left.from.out left.from.model left.from.read s t is it (reached s x at)
        (reached t y bt) R w r
        ∙ sym (left-number t y bt)

    -- The numbers differ exactly when none relates them.
    pub left-differ : (¬ (get_or list x 0 ≡ get_or list y 0))
        ↔ ((R : State → State → Type 0) → Bisimulation (states left.from.model) R → ¬ R s t)
    left-differ = (λ n R w r. n (left-equal R w r), λ none e. let (R, w, r) = left-given e in none R w r)

    -- With a zero delay for every state none does in the same cases.
    pub left-zero : ((R : State → State → Type 0) → Bisimulation (states left.from.model) R → ¬ R s t)
        ↔ ((R : State → State → Type 0) → Bisimulation (states_zero left.from.model) R → ¬ R s t)
    left-zero =
        zero-delay-alike table cap left.from.found left.from.out left.from.model left.from.read s t is it (reached s x at)
        (reached t y bt)
