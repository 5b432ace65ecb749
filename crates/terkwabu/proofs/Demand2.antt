-- Demand 2 holds, entire: the statement is `Demand2` (specs/Demand2.antt). For bisimulations of the region graph at every level,
-- `coarsest-any`.
use Rattle.std.specs.Prelude.{ℕ, ◌<◌, ◌≡◌, refl, Bool, true, ◌↔◌, List, length, get_or}
use Rattle.std.proofs.Common.{sym, ap, ap₂, subst}
use Rattle.regions.specs.Passed.{Model, read_table, accepted, Region}
use Rattle.regions.specs.Entries.{region_at}
use Rattle.regions.specs.Graph.{DelaysTo}
use Rattle.regions.specs.Order.{AllRegions, InOrder}
use Rattle.regions.specs.Explore.{listed}
use Rattle.regions.specs.Laws.Order.{order-one}
use Rattle.states.specs.Laws.RegionTheorem.{region-theorem, reached-state, each-state-leads}
use Rattle.bisimulation.specs.Structures.{Structure}
use Rattle.bisimulation.specs.Bisimulations.{Bisimulation}
use Rattle.bisimulation.specs.Finite.{structure}
use Rattle.partition.specs.Instances.{graph}
use Rattle.partition.specs.Left.{Left}
use Rattle.partition.specs.Laws.LeftBlocks.{left-rests, left-least, left-few, left-related, left-before, left-under, left-each}
use Rattle.partition.specs.Laws.LeftBlocks.{left-bisimulation, left-coarsest}
use Rattle.partition.specs.Laws.LeftStates.{left-all, left-order}
use Rattle.terkwabu.specs.Answers.{result_as}
use Rattle.terkwabu.specs.Calls.{ReduceCall}
use Rattle.terkwabu.proofs.Laws.Bridges.{graph-accepted, graph-value, graph-entries, graph-all, graph-order}
use Rattle.terkwabu.proofs.Laws.Bridges.{graph-label, graph-available, graph-branches, graph-delays, first-left, second-left}
use Rattle.terkwabu.proofs.Laws.Rows.{judge-iff}
use Rattle.terkwabu.proofs.Laws.States.{read_one, model-one}
use Rattle.terkwabu.proofs.Laws.Listing.{host-joined, host-end, host-some, host-refused}
use Rattle.terkwabu.specs.declared.answer.Answer.{Answer}
use Rattle.terkwabu.specs.Demand2.{graph_in, StructureAt, BlockNumbers, Demand2}

module _ {table : List ℕ} {cap n b k : ℕ} {entries list : List ℕ} (left : Left table cap n b k entries list) where
  -- What a partition call left is such.
  made : BlockNumbers (graph_in left.from.model entries n) n b k list
  made =
      subst (λ (found : List Region). BlockNumbers (structure (graph left.from.model found)) n b k list) (sym left.entries-hold)
      (record {
        rests = left-rests left;
        least = left-least left;
        few = left-few left;
        relates = left-related left;
        lowest = left-before left;
        below = left-under left;
        taken = left-each left;
        bisimulation = left-bisimulation left;
      })

  most {ℓ} : (m : Model) → read_table table ≡ accepted m → (R : ℕ → ℕ → Type ℓ) → Bisimulation (graph_in m entries n) R
      → (x y : ℕ) → x < n → y < n → R x y → get_or list x 0 ≡ get_or list y 0
  most m read R w =
      left-coarsest left R
      (subst (λ (S : Structure ℕ). Bisimulation S R)
      (ap₂ (λ (x : Model) (found : List Region). structure (graph x found)) (sym (model-one left m read)) left.entries-hold) w)

-- So in both lists that a call left.
pub both-made : {table : List ℕ} {cap n b k : ℕ} {entries first second : List ℕ} → Left table cap n b k entries first
    → Left table cap n b k entries second
    → (m : Model) × (read_table table ≡ accepted m) × AllRegions m (listed entries n) × InOrder m (listed entries n)
    × BlockNumbers (graph_in m entries n) n b k first × BlockNumbers (graph_in m entries n) n b k second
both-made {n = n} {b} {k} {entries} {second = second} one two = (
  one.from.model,
  one.from.read,
  subst (AllRegions one.from.model) (sym one.entries-hold) (left-all one),
  subst (InOrder one.from.model) (sym one.entries-hold) (left-order one),
  made one,
  subst (λ (x : Model). BlockNumbers (graph_in x entries n) n b k second) (model-one two one.from.model one.from.read) (made two),
)

-- Bisimulations of the region graph at any level relate no more than the blocks.
pub coarsest-any {ℓ} : (table entries first second : List ℕ) (answer : Answer) (entries' first' second' : List ℕ)
    → ReduceCall table entries first second answer entries' first' second' → answer.refusal ≡ 0
    → (m : Model) → read_table table ≡ accepted m
    → (R : ℕ → ℕ → Type ℓ) → Bisimulation (graph_in m entries' answer.value) R
    → (x y : ℕ) → x < answer.value → y < answer.value → R x y
    → (get_or first' x 0 ≡ get_or first' y 0) × (get_or second' x 0 ≡ get_or second' y 0)
coarsest-any table entries first second answer entries' first' second' call none m read R w x y hx hy r =
    let one = first-left table entries first second answer entries' first' second' call none in
    let two = second-left table entries first second answer entries' first' second' call none in
    (most one m read R w x y hx hy r, most two m read R w x y hx hy r)

pub demand-2 : Demand2
demand-2 =
    record {
      regions = λ table entries answer entries' call none.
          let a = graph-accepted table entries answer entries' call none in
          let order = graph-order table entries answer entries' call none in
          (a.model, a.read, graph-all table entries answer entries' call none, order, λ other o. order-one a.model other _ o order);
      leads = λ table m read r h. (
        each-state-leads table m read r h,
        λ s is e. region-theorem table m read s is r e,
        reached-state table m read r h,
      );
      structure-is = λ table entries answer entries' call none m read x hx.
          let a = graph-accepted table entries answer entries' call none in
          subst (λ (k : Model). StructureAt k entries' answer.value x) (read_one table a.model m a.read read) (
            graph-label table entries answer entries' call none x hx,
            λ e. ap (λ (b : Bool). (e < length a.model.edges) × (b ≡ true))
                (graph-available table entries answer entries' call none x e hx),
            λ e. refl,
            λ e. refl,
            λ e. graph-branches table entries answer entries' call none x e hx,
          );
      delays = λ table entries answer entries' call none m read x y hx hy.
          let a = graph-accepted table entries answer entries' call none in
          subst
          (λ (k : Model).
          (graph_in k entries' answer.value).Delay x y ↔ DelaysTo k (region_at entries' x) (region_at entries' y))
          (read_one table a.model m a.read read) (graph-delays table entries answer entries' call none x y hx hy);
      blocks = λ table entries first second answer entries' first' second' call none.
          both-made (first-left table entries first second answer entries' first' second' call none)
          (second-left table entries first second answer entries' first' second' call none);
      coarsest = λ table entries first second answer entries' first' second' call none m read R w.
          coarsest-any table entries first second answer entries' first' second' call none m read R w;
      proposals = λ table entries answer entries' call none m read proposal judged entries'' judge.
          let a = graph-accepted table entries answer entries' call none in
          let same : a.model ≡ m = read_one table a.model m a.read read in
          let held = graph-entries table entries answer entries' call none in
          subst
          (λ (x : Model).
          (judged ≡ result_as 1 0 0)
          ↔ ((length proposal ≡ answer.value)
          × Bisimulation (graph_in x entries' answer.value) (λ x y. get_or proposal x 0 ≡ get_or proposal y 0))) same
          (subst
          (λ (found : List Region).
          (judged ≡ result_as 1 0 0)
          ↔ ((length proposal ≡ answer.value)
          × Bisimulation (structure (graph a.model found)) (λ x y. get_or proposal x 0 ≡ get_or proposal y 0))) (sym held)
          (subst
          (λ (n : ℕ).
          (judged ≡ result_as 1 0 0)
          ↔ ((length proposal ≡ n)
          × Bisimulation (structure (graph a.model a.found)) (λ x y. get_or proposal x 0 ≡ get_or proposal y 0)))
          (sym (graph-value table entries answer entries' call none)) (judge-iff table entries proposal judged entries'' judge a)));
      parts = λ table entries first second answer entries' first' second' call none list either.
          host-joined table entries first second answer entries' first' second' call none list either;
      ends = λ table entries first second answer entries' first' second' call none list either p buffer said buffer' asked. (
        host-end table entries first second answer entries' first' second' call none list either p buffer said buffer' asked,
        host-some table entries first second answer entries' first' second' call none list either p buffer said buffer' asked,
      );
      refused = λ table entries first second answer entries' first' second' call.
          host-refused table entries first second answer entries' first' second' call;
    }
