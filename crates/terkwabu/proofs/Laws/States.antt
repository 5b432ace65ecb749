-- From a state to its block: the state call's value is the number of the state's region in what a partition call left (`place-number`); the
-- numbers of two states' regions, in the list that a call left, say whether some bisimulation over all states relates them
-- (`numbers-differ`, `numbers-given`, `numbers-equal`).
use Rattle.std.specs.Prelude.{ℕ, ◌<◌, ◌≡◌, refl, ◌↔◌, List, length, get_or}
use Rattle.std.proofs.Common.{arith, sym, ◌∙◌, ap, subst}
use Rattle.regions.specs.Passed.{Model, Answer as Read, refusal, read_table, accepted, Region}
use Rattle.regions.specs.Call.{room_for}
use Rattle.regions.specs.Entries.{region_at}
use Rattle.regions.specs.Explore.{listed}
use Rattle.regions.specs.Graph.{first, Reached}
use Rattle.states.specs.States.{State, IsState}
use Rattle.states.specs.Alike.{region_in}
use Rattle.states.specs.StateCall.{asked, own_state}
use Rattle.states.specs.Laws.Placed.{own-state}
use Rattle.bisimulation.specs.Bisimulations.{Bisimulation}
use Rattle.partition.specs.Instances.{states, states_zero, block_in}
use Rattle.partition.specs.Left.{Left}
use Rattle.partition.specs.Laws.Success.{one_found}
use Rattle.partition.specs.Laws.LeftStates.{left-entry, left-lies, left-lies-one, left-number}
use Rattle.partition.specs.Laws.LeftStates.{left-given, left-equal, left-differ, left-zero}
use Rattle.terkwabu.specs.Calls.{PlaceCall}
use Rattle.terkwabu.specs.Rows.{state_asked}
use Rattle.terkwabu.proofs.Laws.Rows.{asked_is}
use Rattle.terkwabu.proofs.Laws.Bridges.{place_found}
use Rattle.terkwabu.specs.declared.answer.Answer.{Answer}

-- ---- A table is read as one model

abbrev model_in : Model → Read → Model
model_in other (refusal reason place) = other
model_in other (accepted m) = m

pub read_one : (table : List ℕ) (m m' : Model) → read_table table ≡ accepted m → read_table table ≡ accepted m' → m ≡ m'
read_one table m m' read read' = ap (model_in m) (sym read ∙ read')

pub model-one : {table : List ℕ} {cap n b k : ℕ} {entries list : List ℕ} (left : Left table cap n b k entries list)
    → (m : Model) → read_table table ≡ accepted m → left.from.model ≡ m
model-one {table} left m read = read_one table left.from.model m left.from.read read

-- ---- States and the entries and a list that a call left

module _ {table : List ℕ} {cap n b k : ℕ} {entries list : List ℕ} (left : Left table cap n b k entries list)
    (m : Model) (read : read_table table ≡ accepted m) where
  -- A state that lies in a region of the graph lies in that of one entry, and of no other.
  pub number_of : (s : State) → Reached m (region_in m s)
      → (i : ℕ) × (i < n) × (region_at entries i ≡ region_in m s) × ((j : ℕ) → j < n → region_at entries j ≡ region_in m s → j ≡ i)
  number_of =
      subst
      (λ (x : Model).
      (s : State) → Reached x (region_in x s)
      → (i : ℕ) × (i < n) × (region_at entries i ≡ region_in x s) × ((j : ℕ) → j < n → region_at entries j ≡ region_in x s → j ≡ i))
      (model-one left m read)
      (λ s r.
      let t = (left-lies left s).0 r in
      (t.0, t.1.0, t.1.1, λ j g f. left-lies-one left s j t.0 (g, f) t.1))

  -- Only such a state does.
  pub reached-from : (s : State) (i : ℕ) → i < n → region_at entries i ≡ region_in m s → Reached m (region_in m s)
  reached-from =
      subst (λ (x : Model). (s : State) (i : ℕ) → i < n → region_at entries i ≡ region_in x s → Reached x (region_in x s))
      (model-one left m read) (λ s i h e. (left-lies left s).1 (i, (h, e)))

  -- Its number in the list is the state's block.
  pub numbers-block : (s : State) (i : ℕ) → i < n → region_at entries i ≡ region_in m s → get_or list i 0 ≡ block_in m (listed entries n) s
  numbers-block =
      subst
      (λ (x : Model).
      (s : State) (i : ℕ) → i < n → region_at entries i ≡ region_in x s → get_or list i 0 ≡ block_in x (listed entries n) s)
      (model-one left m read)
      (λ s i h e.
      left-number left s i (h, e) ∙ ap (λ (found : List Region). block_in left.from.model found s) (sym left.entries-hold))

  module _ (s t : State) (is : IsState m s) (it : IsState m t) (i j : ℕ) (hi : i < n) (at : region_at entries i ≡ region_in m s)
      (hj : j < n) (bt : region_at entries j ≡ region_in m t) where
    -- The numbers of their regions differ exactly when no bisimulation over all states relates the two.
    pub numbers-differ : (¬ (get_or list i 0 ≡ get_or list j 0))
        ↔ ((R : State → State → Type 0) → Bisimulation (states m) R → ¬ R s t)
    numbers-differ =
        subst
        (λ (x : Model).
        IsState x s → IsState x t → region_at entries i ≡ region_in x s → region_at entries j ≡ region_in x t
        → (¬ (get_or list i 0 ≡ get_or list j 0)) ↔ ((R : State → State → Type 0) → Bisimulation (states x) R → ¬ R s t))
        (model-one left m read) (λ is it at bt. left-differ left s t is it i j (hi, at) (hj, bt)) is it at bt

    -- Where they are equal one is given.
    pub numbers-given : get_or list i 0 ≡ get_or list j 0 → (R : State → State → Type 0) × Bisimulation (states m) R × R s t
    numbers-given =
        subst
        (λ (x : Model).
        IsState x s → IsState x t → region_at entries i ≡ region_in x s → region_at entries j ≡ region_in x t
        → get_or list i 0 ≡ get_or list j 0 → (R : State → State → Type 0) × Bisimulation (states x) R × R s t)
        (model-one left m read) (λ is it at bt. left-given left s t is it i j (hi, at) (hj, bt)) is it at bt

    -- Where one relates the two, at any level, they are equal.
    pub numbers-equal {ℓ} : (R : State → State → Type ℓ) → Bisimulation (states m) R → R s t → get_or list i 0 ≡ get_or list j 0
    numbers-equal =
        subst
        (λ (x : Model).
        IsState x s → IsState x t → region_at entries i ≡ region_in x s → region_at entries j ≡ region_in x t
        → (R : State → State → Type ℓ) → Bisimulation (states x) R → R s t → get_or list i 0 ≡ get_or list j 0)
        (model-one left m read) (λ is it at bt. left-equal left s t is it i j (hi, at) (hj, bt)) is it at bt

    -- With a zero delay for every state none does in the same cases.
    pub numbers-zero : ((R : State → State → Type 0) → Bisimulation (states m) R → ¬ R s t)
        ↔ ((R : State → State → Type 0) → Bisimulation (states_zero m) R → ¬ R s t)
    numbers-zero =
        subst
        (λ (x : Model).
        IsState x s → IsState x t → region_at entries i ≡ region_in x s → region_at entries j ≡ region_in x t
        → ((R : State → State → Type 0) → Bisimulation (states x) R → ¬ R s t)
        ↔ ((R : State → State → Type 0) → Bisimulation (states_zero x) R → ¬ R s t))
        (model-one left m read) (λ is it at bt. left-zero left s t is it i j (hi, at) (hj, bt)) is it at bt

-- ---- The state call and what a partition call left

-- Where the state call answers a number and the partition call succeeds, whatever was lent to each: it takes a state of the model, and
-- entry `value` of what the partition call left is the state's region. So number `value` of the list is its block (`numbers-block`).
pub place-number : {table : List ℕ} {cap n b k : ℕ} {entries list : List ℕ} (left : Left table cap n b k entries list)
    → (entries₁ : List ℕ) (location v₀ v₁ v₂ v₃ denominator : ℕ) (answer : Answer) (entries₁' : List ℕ)
    → PlaceCall table entries₁ location v₀ v₁ v₂ v₃ denominator answer entries₁' → answer.refusal ≡ 0
    → (m : Model) → read_table table ≡ accepted m
    → IsState m (state_asked m location v₀ v₁ v₂ v₃ denominator)
    × (answer.value < n) × (region_at entries answer.value ≡ region_in m (state_asked m location v₀ v₁ v₂ v₃ denominator))
place-number {table} {cap} {n} {b} {k} {entries} {list} left entries₁ location v₀ v₁ v₂ v₃ denominator answer entries₁' call none m read =
    let s : State = asked location v₀ v₁ v₂ v₃ denominator in
    let (a, taken, below, is) = place_found table entries₁ location v₀ v₁ v₂ v₃ denominator answer entries₁' call none in
    let same : a.model ≡ m = read_one table a.model m a.read read in
    let found : a.found ≡ left.from.found = one_found table (room_for (length entries₁)) cap a left.from in
    let own : own_state m s ≡ state_asked m location v₀ v₁ v₂ v₃ denominator = asked_is m location v₀ v₁ v₂ v₃ denominator in
    let here : answer.value < n = omega (arith, below, ap length found, left.regions-are) in (
      subst (IsState m) own (subst (λ (x : Model). IsState x (own_state x s)) same (own-state table a.model a.read s refl taken)),
      here,
      left-entry left answer.value (first m) here
          ∙ sym (ap (λ (l : List Region). get_or l answer.value (first m)) found)
          ∙ is (first m)
          ∙ ap (λ (x : Model). region_in x (own_state x s)) same
          ∙ ap (region_in m) own,
    )
