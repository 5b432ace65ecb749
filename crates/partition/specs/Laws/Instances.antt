-- Both structures of a model are closed (`states-closed`, `graph-closed`), what is one state behaves as one
-- (`states-respect`), and the number of its region is a placing of each state (`placing`), since a region leads as each of its
-- states does. Then the same for a model that the graph call accepts, and when two of its states have one block number
-- (`one_block`).
use Rattle.std.specs.Prelude.{ℕ, ◌+◌, ◌≤◌, ◌<◌, ◌≡◌, refl, true, ◌↔◌, length, get_or}
use Rattle.std.proofs.Common.{sym, ◌∙◌, ap, ap₂, subst, eq-eqb, eqb-true}
use mathlib.Core.List.{List, [], ◌∷◌, map, Memᴰ}
use Rattle.regions.specs.Passed.{Model, edge_of, read_table, accepted, Branch as ModelBranch, total as model_total, Region}
use Rattle.regions.specs.Graph.{bounds_of, meets, first, landing, available, Reached}
use Rattle.regions.specs.View.{number_in, label_of}
use Rattle.states.specs.States.{State, IsState, Same, Delays, target, enabled}
use Rattle.regions.specs.Call.{whole, outcome_of}
use Rattle.regions.specs.Laws.Call.{whole-model}
use Rattle.regions.specs.Order.{AllRegions}
use Rattle.states.specs.Laws.States.{same_refl, same-sym, same-trans, same-delays, same-enabled, same_target}
use Rattle.states.specs.Laws.States.{delays-location, delays-within, label-placed}
use Rattle.regions.specs.Laws.View.{NumberOf, has-number, number-listed, number_at, landing-number}
use Rattle.regions.specs.Laws.View.{delays-label}
use Rattle.states.specs.Laws.RegionTheorem.{equal-states, region-theorem, enabled-alike, target-alike}
use Rattle.states.specs.Alike.{region_in}
use Rattle.states.specs.Laws.RegionTheorem.{edge-there, edge-sum, edge-positive, edge-target}
use Rattle.bisimulation.specs.Structures.{Branch, Closed, total}
use Rattle.bisimulation.specs.Bisimulations.{Round}
use Rattle.bisimulation.specs.Finite.{structure, rounds}
use Rattle.bisimulation.proofs.Laws.Blocks.{last-round}
use Rattle.bisimulation.specs.Placings.{SameBranches, none, also, Respects, Placing, placed_branch}
use Rattle.partition.specs.Instances.{region_of, lands_at, graph, leads_to, states, place_in, block_in}
use Rattle.partition.specs.Laws.Delays.{from-map, numbered-reached, delays-are}

-- Branches that keep their weights keep the sum.
total_kept : {X : Type 0} (f : ModelBranch → X) (l : List ModelBranch)
    → total (map (λ b. record { weight = b.weight; target = f b }) l) ≡ model_total l
total_kept f [] = refl
total_kept f (b ∷ l) = ap (λ n. b.weight + n) (total_kept f l)

module _ (table : List ℕ) (m : Model) (read : read_table table ≡ accepted m) where
  -- ---- All states

  pub states-closed : Closed (states m)
  states-closed =
      record {
        delays = λ is d. d.0;
        targets = λ {x = s} {e} is a b n.
            let (c, k, p) = from-map (leads_to s) (edge_of m e).branches n in
            subst (λ (x : Branch State). IsState m x.target) (sym p) (edge-target table m read e a.0 c k s is);
        positive = λ {x = s} {e} is a. edge-positive table m read e a.0;
        sums = λ {x = s} {e} is a. total_kept (target s) (edge_of m e).branches ∙ edge-sum table m read e a.0;
        labels = λ is d. ap (λ (l : ℕ). get_or m.labels l 0) (delays-location d.1);
      }

  same-branches : {s t : State} → IsState m s → IsState m t → Same s t → (l : List ModelBranch)
      → SameBranches Same (map (leads_to s) l) (map (leads_to t) l)
  same-branches is it e [] = none
  same-branches is it e (b ∷ l) = also refl (same_target is.denominator it.denominator e b) (same-branches is it e l)

  pub states-respect : Respects (states m)
  states-respect =
      record {
        reflexive = λ {x = s} is. same_refl s;
        symmetric = λ is it e. same-sym e;
        transitive = λ is it iu e f. same-trans it.denominator e f;
        labels = λ is it e. ap (λ (l : ℕ). get_or m.labels l 0) e.location;
        delays = λ {x = s} {y = t} {x' = s'} is it e d.
            let h : 1 ≤ s'.denominator = d.0.denominator in
            ∣ (s', (d.0, same-delays is.denominator it.denominator h h e (same_refl s') d.1), same_refl s') ∣₁;
        edges = λ {x = s} {y = t} {e = n} is it e a.
            (a.0, sym (same-enabled is.denominator it.denominator e m (edge_of m n)) ∙ a.1);
        actions = λ is it e a. refl;
        wholes = λ is it e a. refl;
        branches = λ {x = s} {y = t} {e = n} is it e a. same-branches is it e (edge_of m n).branches;
      }

  module _ (found : List Region) (all : AllRegions m found) (fine : meets (bounds_of m) m.invariants (first m) ≡ true) where
    -- ---- The region graph

    -- A region of the graph has a number.
    pub reached-number : (r : Region) → Reached m r → NumberOf found r (number_in found r)
    reached-number r h = has-number found r ((all.all r).0 h)

    landing-in : (x : ℕ) → x < length found → (e : ℕ) → e < length m.edges
        → available m (edge_of m e) (region_of m found x) ≡ true → (b : ModelBranch) → Memᴰ b (edge_of m e).branches
        → number_in found (landing (bounds_of m) (region_of m found x) b) < length found
    landing-in x h e k a b n =
        (landing-number m found all (region_of m found x) (edge_of m e) b
        ((all.all (region_of m found x)).0 (numbered-reached m found all fine x h)) (edge-there table m read e k) a n).inside

    pub graph-closed : Closed (structure (graph m found))
    graph-closed =
        record {
          delays = λ {x} {y} h n. ((delays-are m found all fine x y h).0 n).0;
          targets = λ {x} {e} h a b n.
              let (c, k, p) = from-map (lands_at m found (region_of m found x)) (edge_of m e).branches n in
              subst (λ (z : Branch ℕ). z.target < length found) (sym p) (landing-in x h e a.0 a.1 c k);
          positive = λ {x} {e} h a. edge-positive table m read e a.0;
          sums = λ {x} {e} h a.
              total_kept (λ b. number_in found (landing (bounds_of m) (region_of m found x) b)) (edge_of m e).branches
              ∙ edge-sum table m read e a.0;
          labels = λ {x} {y} h n.
              delays-label m (region_of m found x) (region_of m found y) ((delays-are m found all fine x y h).0 n).1;
        }

    -- ---- States are placed in it

    -- A state that has a place lies in the region of that number, and a state of a region of the graph has a place.
    pub place-region : (s : State) → place_in m found s < length found → region_of m found (place_in m found s) ≡ region_in m s
    place-region s h = (has-number found (region_in m s) (number-listed found (region_in m s) h)).is (first m)

    pub place-reached : (s : State) → place_in m found s < length found ↔ Reached m (region_in m s)
    place-reached s = (
      λ h. (all.all (region_in m s)).1 (number-listed found (region_in m s) h),
      λ h. (reached-number (region_in m s) h).inside,
    )

    placed-branches : (s : State) → IsState m s → (l : List ModelBranch)
        → map (lands_at m found (region_in m s)) l ≡ map (placed_branch (place_in m found)) (map (leads_to s) l)
    placed-branches s is [] = refl
    placed-branches s is (b ∷ l) =
        ap₂ (λ (x : ℕ) (k : List (Branch ℕ)). record { weight = b.weight; target = x } ∷ k)
        (ap (number_in found) (sym (target-alike table m read s is b))) (placed-branches s is l)

    module _ {s : State} (is : IsState m s) (h : place_in m found s < length found) where
      place-available : (e : ℕ) → e < length m.edges
          → enabled m (edge_of m e) s ≡ available m (edge_of m e) (region_of m found (place_in m found s))
      place-available e k =
          enabled-alike table m read s is (edge_of m e) (edge-there table m read e k)
          ∙ ap (available m (edge_of m e)) (sym (place-region s h))

      place-forth : (t : State) → IsState m t → Delays m s t
          → Memᴰ (place_in m found t) ((graph m found).delays (place_in m found s))
      place-forth t it d =
          let to = ((region-theorem table m read s is (region_in m s) refl).delays (region_in m t)).1 (t, it, d, refl) in
          let there = (place-reached t).1 (delays-within m (region_in m s) (region_in m t) ((place-reached s).0 h) to) in
          (delays-are m found all fine (place_in m found s) (place_in m found t) h).1
          (there, rw (place-region s h, place-region t there) to)

      place-back : (p : ℕ) → Memᴰ p ((graph m found).delays (place_in m found s))
          → (t : State) × (IsState m t × Delays m s t) × (place_in m found t ≡ p)
      place-back p n =
          let (k, d) = (delays-are m found all fine (place_in m found s) p h).0 n in
          let (t, it, w, q) = ((region-theorem table m read s is (region_of m found (place_in m found s)) (sym (place-region s h))
          ).delays (region_of m found p)).0 d in
          (t, (it, w), ap (number_in found) q ∙ number_at found all.different (first m) p k)

    -- The number of a state's region is a placing.
    pub placing : Placing (states m) (graph m found) (place_in m found)
    placing =
        record {
          same = λ {x = s} {y = t} is it e. ap (number_in found) (equal-states m s t is it e);
          labels = λ {x = s} is h. sym (ap (label_of m) (place-region s h) ∙ label-placed m (bounds_of m) s);
          forth = λ {x = s} {y = t} is h d. place-forth is h t d.0 d.1;
          back = λ is h p n. ∣ place-back is h p n ∣₁;
          edges-forth = λ {x = s} {e} is h a. (a.0, sym (place-available is h e a.0) ∙ a.1);
          edges-back = λ {x = s} {e} is h k a. (k, place-available is h e k ∙ a);
          actions = λ is h a. refl;
          wholes = λ is h a. refl;
          branches = λ {x = s} {e} is h a.
              ap (λ (r : Region). map (lands_at m found r) (edge_of m e).branches) (place-region s h)
              ∙ placed-branches s is (edge_of m e).branches;
        }

-- ---- For a model that the graph call accepts, with the entries lent

module _ (table : List ℕ) (cap : ℕ) (found : List Region) (out : outcome_of table cap ≡ whole found)
    (m : Model) (read : read_table table ≡ accepted m) where
  pub call-closed : Closed (structure (graph m found))
  call-closed = let (all, fine) = whole-model table cap found m out read in graph-closed table m read found all fine

  pub call-placing : Placing (states m) (graph m found) (place_in m found)
  call-placing = let (all, fine) = whole-model table cap found m out read in placing table m read found all fine

  -- A state has a place exactly where it lies in a region of the graph.
  pub call-placed : (s : State) → place_in m found s < length found ↔ Reached m (region_in m s)
  call-placed = let (all, fine) = whole-model table cap found m out read in place-reached table m read found all fine

  -- Two states of the graph have one block number exactly when the last round relates their regions.
  pub one_block : (a b : State) → Reached m (region_in m a) → Reached m (region_in m b)
      → (block_in m found a ≡ block_in m found b)
      ↔ Round (structure (graph m found)) (rounds (graph m found)) (place_in m found a) (place_in m found b)
  one_block a b ra rb =
      let pa = (call-placed a).1 ra in
      let pb = (call-placed b).1 rb in
      let last = last-round (graph m found) call-closed (place_in m found a) (place_in m found b) pa pb in (
        λ e. last.0 (eq-eqb (block_in m found a) (block_in m found b) e),
        λ r. eqb-true (block_in m found a) (block_in m found b) (last.1 r),
      )
