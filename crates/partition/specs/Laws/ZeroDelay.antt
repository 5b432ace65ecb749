-- Whether a state that breaks its invariant has a zero delay does not matter: over the states with that delay (`states_zero`) and over
-- those without (`states`) two states in regions of the graph are related by some bisimulation in the same cases (`zero-delay-alike`). The
-- number of its region is a placing of each state in both, since a region of the graph meets its invariant, and so reaches itself.
use Rattle.std.specs.Prelude.{ℕ, ◌<◌, ◌≡◌, ◌↔◌, length, get_or}
use Rattle.std.proofs.Common.{sym, ap, subst, inl, inr, ⊎_elim}
use mathlib.Core.List.{List, Memᴰ}
use Rattle.std.proofs.Math.Logic.{∥∥₁_map}
use Rattle.regions.specs.Passed.{Model, read_table, accepted, Region}
use Rattle.regions.specs.Call.{whole, outcome_of}
use Rattle.regions.specs.Graph.{Reached, stays}
use Rattle.regions.specs.Laws.Call.{whole-model, reached-meets}
use Rattle.states.specs.States.{State, IsState, Same, Delays}
use Rattle.states.specs.Alike.{region_in}
use Rattle.states.specs.Laws.States.{same_refl, same-sym, same-trans}
use Rattle.bisimulation.specs.Structures.{Closed}
use Rattle.bisimulation.specs.Bisimulations.{Bisimulation}
use Rattle.bisimulation.specs.Finite.{rounds}
use Rattle.bisimulation.proofs.Laws.Blocks.{last-rests}
use Rattle.bisimulation.proofs.Laws.Transfer.{transfer-related, transfer-parted}
use Rattle.bisimulation.specs.Placings.{Respects, Placing}
use Rattle.partition.specs.Instances.{graph, states, states_zero, place_in, block_in}
use Rattle.partition.specs.Laws.Delays.{delays-are, numbered-reached}
use Rattle.partition.specs.Laws.Instances.{states-closed, states-respect, call-closed, call-placing, call-placed, one_block}
use Rattle.partition.specs.Laws.Bisimilar.{related-states, parted-states}

module _ (table : List ℕ) (m : Model) (read : read_table table ≡ accepted m) where
  zero-closed : Closed (states_zero m)
  zero-closed =
      let closed = states-closed table m read in
      record {
        delays = λ is d. d.0;
        targets = λ {x} {e} is a. closed.targets {x = x} {e = e} is a;
        positive = λ {x} {e} is a. closed.positive {x = x} {e = e} is a;
        sums = λ {x} {e} is a. closed.sums {x = x} {e = e} is a;
        labels = λ {x = s} {y = t} is d.
            ⊎_elim (λ (w : Delays m s t). closed.labels {x = s} {y = t} is (d.0, w))
            (λ (e : Same s t). ap (λ (l : ℕ). get_or m.labels l 0) (sym e.location)) d.1;
      }

  zero-respect : Respects (states_zero m)
  zero-respect =
      let respect = states-respect table m read in
      record {
        reflexive = respect.reflexive;
        symmetric = respect.symmetric;
        transitive = respect.transitive;
        labels = respect.labels;
        delays = λ {x = s} {y = t} {x' = s'} is it e d.
            ⊎_elim
            (λ (w : Delays m s s').
            ∥∥₁_map (respect.delays {x = s} {y = t} {x' = s'} is it e (d.0, w)) (λ q. (q.0, (q.1.0, inl q.1.1), q.2)))
            (λ (z : Same s s').
            ∣ (s', (d.0, inr (same-trans is.denominator (same-sym e) z)), same_refl s') ∣₁) d.1;
        edges = respect.edges;
        actions = respect.actions;
        wholes = respect.wholes;
        branches = respect.branches;
      }

module _ (table : List ℕ) (cap : ℕ) (found : List Region) (out : outcome_of table cap ≡ whole found)
    (m : Model) (read : read_table table ≡ accepted m) where
  -- A region of the graph reaches itself.
  self : (s : State) → place_in m found s < length found → Memᴰ (place_in m found s) ((graph m found).delays (place_in m found s))
  self s h =
      let (all, fine) = whole-model table cap found m out read in
      (delays-are m found all fine (place_in m found s) (place_in m found s) h).1
      (h, stays (reached-meets m _ fine (numbered-reached m found all fine (place_in m found s) h)))

  zero-placing : Placing (states_zero m) (graph m found) (place_in m found)
  zero-placing =
      let placing = call-placing table cap found out m read in
      record {
        same = placing.same;
        labels = placing.labels;
        forth = λ {x = s} {y = t} is h d.
            ⊎_elim (λ (w : Delays m s t). placing.forth {x = s} {y = t} is h (d.0, w))
            (λ (e : Same s t).
            subst (λ (p : ℕ). Memᴰ p ((graph m found).delays (place_in m found s))) (placing.same {x = s} {y = t} is d.0 e)
            (self s h)) d.1;
        back = λ {x = s} is h p n. ∥∥₁_map (placing.back {x = s} is h p n) (λ q. (q.0, (q.1.0, inl q.1.1), q.2));
        edges-forth = λ {x} {e} is h a. placing.edges-forth {x = x} {e = e} is h a;
        edges-back = λ {x} {e} is h k a. placing.edges-back {x = x} {e = e} is h k a;
        actions = λ {x} {e} is h a. placing.actions {x = x} {e = e} is h a;
        wholes = λ {x} {e} is h a. placing.wholes {x = x} {e = e} is h a;
        branches = λ {x} {e} is h a. placing.branches {x = x} {e = e} is h a;
      }

  -- Two states in regions of the graph.
  module _ (a b : State) (ia : IsState m a) (ib : IsState m b)
      (ra : Reached m (region_in m a)) (rb : Reached m (region_in m b)) where
    pa : place_in m found a < length found
    pa = (call-placed table cap found out m read a).1 ra

    pb : place_in m found b < length found
    pb = (call-placed table cap found out m read b).1 rb

    -- Where their block numbers are equal, a bisimulation over the states with that delay is given.
    pub zero-related : block_in m found a ≡ block_in m found b
        → (R : State → State → Type 0) × Bisimulation (states_zero m) R × R a b
    zero-related e =
        transfer-related (states_zero m) (zero-closed table m read) (graph m found) (call-closed table cap found out m read)
        (place_in m found) zero-placing (zero-respect table m read) (rounds (graph m found))
        (last-rests (graph m found) (call-closed table cap found out m read)) ia ib pa pb
        ((one_block table cap found out m read a b ra rb).0 e)

    -- Whatever one relates the two, at any level: the numbers are equal.
    pub zero-parted {ℓ} : (R : State → State → Type ℓ) → Bisimulation (states_zero m) R → R a b
        → block_in m found a ≡ block_in m found b
    zero-parted R w r =
        (one_block table cap found out m read a b ra rb).1
        (transfer-parted (states_zero m) (zero-closed table m read) (graph m found) (call-closed table cap found out m read)
        (place_in m found) zero-placing (zero-respect table m read) (rounds (graph m found))
        (last-rests (graph m found) (call-closed table cap found out m read)) ia ib pa pb R w r)

    -- So no bisimulation relates them over the one exactly where none does over the other.
    pub zero-delay-alike : ((R : State → State → Type 0) → Bisimulation (states m) R → ¬ R a b)
        ↔ ((R : State → State → Type 0) → Bisimulation (states_zero m) R → ¬ R a b)
    zero-delay-alike = (
      λ none R w r.
          let (Q, v, q) = related-states table cap found out m read a b ia ib ra rb (zero-parted R w r) in none Q v q,
      λ none R w r.
          let (Q, v, q) = zero-related (parted-states table cap found out m read a b ia ib ra rb R w r) in none Q v q,
    )
