-- The region theorem (demand 2; document 01, "Regions"): "A region leads by some delay or edge to another exactly when each of its states,
-- with fractions as clock values, does so under the automaton's own rules" (`each-state-leads`; `each-state-delays` and
-- `each-state-steps` say more). So a reader may think of states, and the program goes by regions. Every well-formed region
-- has a state (`formed-state`), and the region of a state stands in one entry of the graph, or in none (`one_entry`, `no-entry`).
use Rattle.std.specs.Prelude.{ℕ, ◌≤◌, ◌<◌, ◌↔◌, ◌≡◌, refl, true, length}
use Rattle.std.proofs.Common.{sym, ◌∙◌, subst}
use mathlib.Core.List.{List, Memᴰ}
use Rattle.table.specs.Access.{no_edge}
use Rattle.table.proofs.Laws.Models.{sound}
use Rattle.table.specs.Model.{Model, Edge, total}
use Rattle.table.specs.Reading.{accepted, read_table}
use Rattle.table.specs.Reads.{edge_of}
use Rattle.table.specs.Sound.{Sound}
use Rattle.table.specs.declared.model.Branch.{Branch}
use Rattle.regions.specs.Graph.{bounds_of, landing, available, DelaysTo, Reached}
use Rattle.states.specs.States.{State, IsState, Same, Delays, enabled, target}
use Rattle.states.specs.Placing.{placed}
use Rattle.states.specs.Covering.{Covers}
use Rattle.regions.specs.Entries.{region_at}
use Rattle.regions.specs.Call.{whole, outcome_of, entries_after}
use Rattle.states.specs.Laws.States.{same-placed, enabled-placed, target-placed, delays-state, delays-placed}
use Rattle.states.specs.Laws.States.{bounds-cover, waits-iff, delays-within, steps-within, branch-state, placed-formed}
use Rattle.regions.specs.Laws.Bounds.{all-at}
use Rattle.regions.specs.Laws.Bytes.{entry_whole}
use Rattle.regions.specs.Laws.Call.{whole-model}
use Rattle.states.specs.Laws.Filled.{state_in, filled-location, filled-denominator, filled-placed, filled-values}
use Rattle.regions.specs.Laws.Formed.{read-formed}
use Rattle.regions.specs.Formed.{Formed}
use Rattle.regions.specs.Laws.Locations.{reached-location}
use Rattle.regions.specs.Laws.Worklist.{place, member}
use Rattle.clocks.specs.declared.region.Bounds.{Bounds}
use Rattle.clocks.specs.declared.region.Region.{Region}
use Rattle.states.specs.Alike.{region_in, DelaysInto, LeadsAlike, LeadsAlikeAny}
use Rattle.states.specs.Alike.{RegionLeads, region-delays, region-steps, StateLeads, state-delays, state-steps}

-- ---- For any bounds that are at least each constant that their clocks are compared with

leads_any : (bounds : Bounds) (m : Model) → Covers bounds m → Sound m → (s : State) → IsState m s
    → LeadsAlikeAny bounds m (placed bounds s) s
leads_any bounds m covers ok s is =
    record {
      delays = delays-placed bounds m covers ok s is;
      edges = λ e n b k q.
          let same = enabled-placed bounds m covers ok e n s is.denominator in
          let there = target-placed bounds s b covers.small is.denominator in
          (λ h. (same ∙ h.0, there ∙ h.1), λ h. (sym same ∙ h.0, sym there ∙ h.1));
    }

-- A region leads as each state in it does.
pub region-theorem-any : (bounds : Bounds) (m : Model) → Covers bounds m → Sound m → (s : State) → IsState m s → (r : Region)
    → placed bounds s ≡ r → LeadsAlikeAny bounds m r s
region-theorem-any bounds m covers ok s is r e = subst (λ x. LeadsAlikeAny bounds m x s) e (leads_any bounds m covers ok s is)

-- Equal states lie in one region.
pub equal-states : (m : Model) (s t : State) → IsState m s → IsState m t → Same s t → region_in m s ≡ region_in m t
equal-states m s t is it e = same-placed (bounds_of m) is.denominator it.denominator e

-- ---- For a table that was read

module _ (table : List ℕ) (m : Model) (read : read_table table ≡ accepted m) where
  -- One M for all clocks, the largest constant, is enough.
  pub model-covers : Covers (bounds_of m) m
  model-covers = bounds-cover m (sound table m read)

  -- A region leads as each state in it does.
  pub region-theorem : (s : State) → IsState m s → (r : Region) → region_in m s ≡ r → LeadsAlike m r s
  region-theorem s is r e =
      let alike = region-theorem-any (bounds_of m) m model-covers (sound table m read) s is r e in
      record {
        delays = λ q. (λ d. (alike.delays q).0 ((waits-iff m r q).1 d), λ d. (waits-iff m r q).0 ((alike.delays q).1 d));
        edges = alike.edges;
      }

  -- The same for each edge and for each branch alone.
  pub enabled-alike : (s : State) → IsState m s → (e : Edge) → Memᴰ e m.edges
      → enabled m e s ≡ available m e (region_in m s)
  enabled-alike s is e n = enabled-placed (bounds_of m) m model-covers (sound table m read) e n s is.denominator

  pub target-alike : (s : State) → IsState m s → (b : Branch)
      → region_in m (target s b) ≡ landing (bounds_of m) (region_in m s) b
  target-alike s is b = target-placed (bounds_of m) s b model-covers.small is.denominator

  -- ---- Edges by number

  -- The edge with a number is one of the model's.
  pub edge-there : (e : ℕ) → e < length m.edges → Memᴰ (edge_of m e) m.edges
  edge-there e h = member no_edge m.edges e h

  -- Its weights sum to its denominator, which is not 0, and a branch leads states to states.
  pub edge-sum : (e : ℕ) → e < length m.edges → total (edge_of m e).branches ≡ (edge_of m e).denominator
  edge-sum e h = (all-at m.edges (sound table m read).edges (edge-there e h)).sum

  pub edge-positive : (e : ℕ) → e < length m.edges → 1 ≤ (edge_of m e).denominator
  edge-positive e h = (all-at m.edges (sound table m read).edges (edge-there e h)).positive

  pub edge-target : (e : ℕ) → e < length m.edges → (b : Branch) → Memᴰ b (edge_of m e).branches
      → (s : State) → IsState m s → IsState m (target s b)
  edge-target e h = branch-state m (sound table m read) (edge_of m e) (edge-there e h)

  -- ---- States and the graph

  -- Whatever a state of the graph delays or steps into lies in the graph. (Values over the denominator 0 are no state.)
  pub delays-reached : (s t : State) → IsState m s → 1 ≤ t.denominator → Reached m (region_in m s) → Delays m s t
      → Reached m (region_in m t)
  delays-reached s t is ht h d =
      delays-within m (region_in m s) (region_in m t) h
      (((region-theorem s is (region_in m s) refl).delays (region_in m t)).1 (t, delays-state m ht is d, d, refl))

  pub edge-reached : (s : State) → IsState m s → Reached m (region_in m s) → (e : Edge) → Memᴰ e m.edges
      → (b : Branch) → Memᴰ b e.branches → enabled m e s ≡ true → Reached m (region_in m (target s b))
  edge-reached s is h e n b k a =
      let l = ((region-theorem s is (region_in m s) refl).edges e n b k (region_in m (target s b))).1 (a, refl) in
      subst (Reached m) l.1 (steps-within m (region_in m s) e b h n k l.0)

  -- ---- Every region has a state

  -- Every well-formed region at a location of the model has a state in it, whether it is reached or not.
  pub formed-state : (r : Region) → Formed (bounds_of m) r → r.location < m.locations
      → (s : State) × IsState m s × (region_in m s ≡ r)
  formed-state r formed h =
      let small = model-covers.small in (
        state_in (bounds_of m) r,
        record {
          location = subst (λ l. l < m.locations) (sym (filled-location (bounds_of m) r)) h;
          values = filled-values (bounds_of m) r small formed ∙ model-covers.count;
          denominator = filled-denominator (bounds_of m) r;
        },
        filled-placed (bounds_of m) r small formed,
      )

  -- Such a region leads by some delay to a region exactly when each state in it delays into that region.
  pub formed-delays : (r : Region) → Formed (bounds_of m) r → r.location < m.locations → (q : Region)
      → DelaysTo m r q ↔ ((s : State) → IsState m s → region_in m s ≡ r → DelaysInto (bounds_of m) m s q)
  formed-delays r formed h q = (
    λ d s is e. ((region-theorem s is r e).delays q).0 d,
    λ f. let s = formed-state r formed h in ((region-theorem s.0 s.1 r s.2).delays q).1 (f s.0 s.1 s.2),
  )

  -- An edge is available at it with a branch to a region exactly when each state in it takes that branch into that region.
  pub formed-steps : (r : Region) → Formed (bounds_of m) r → r.location < m.locations → (e : Edge) → Memᴰ e m.edges
      → (b : Branch) → Memᴰ b e.branches → (q : Region)
      → ((available m e r ≡ true) × (landing (bounds_of m) r b ≡ q))
      ↔ ((s : State) → IsState m s → region_in m s ≡ r → (enabled m e s ≡ true) × (region_in m (target s b) ≡ q))
  formed-steps r formed h e n b k q = (
    λ d s is i. ((region-theorem s is r i).edges e n b k q).0 d,
    λ f. let s = formed-state r formed h in ((region-theorem s.0 s.1 r s.2).edges e n b k q).1 (f s.0 s.1 s.2),
  )

  -- Both in one: it leads by some delay or edge to a region exactly when each state in it does.
  region-state : (s : State) → IsState m s → (r : Region) → region_in m s ≡ r → (q : Region) → RegionLeads m r q → StateLeads m s q
  region-state s is r e q (region-delays d) = state-delays (((region-theorem s is r e).delays q).0 d)
  region-state s is r e q (region-steps x n b k a l) =
      let t = ((region-theorem s is r e).edges x n b k q).0 (a, l) in state-steps x n b k t.0 t.1

  state-region : (s : State) → IsState m s → (r : Region) → region_in m s ≡ r → (q : Region) → StateLeads m s q → RegionLeads m r q
  state-region s is r e q (state-delays d) = region-delays (((region-theorem s is r e).delays q).1 d)
  state-region s is r e q (state-steps x n b k a l) =
      let t = ((region-theorem s is r e).edges x n b k q).1 (a, l) in region-steps x n b k t.0 t.1

  pub formed-leads : (r : Region) → Formed (bounds_of m) r → r.location < m.locations → (q : Region)
      → RegionLeads m r q ↔ ((s : State) → IsState m s → region_in m s ≡ r → StateLeads m s q)
  formed-leads r formed h q = (
    λ d s is e. region-state s is r e q d,
    λ f. let s = formed-state r formed h in state-region s.0 s.1 r s.2 q (f s.0 s.1 s.2),
  )

  -- Every region of the graph is such.
  pub reached-state : (r : Region) → Reached m r → (s : State) × IsState m s × (region_in m s ≡ r)
  reached-state r h = formed-state r (read-formed table m read r h).1 (reached-location table m read r h)

  pub each-state-delays : (r : Region) → Reached m r → (q : Region)
      → DelaysTo m r q ↔ ((s : State) → IsState m s → region_in m s ≡ r → DelaysInto (bounds_of m) m s q)
  each-state-delays r h = formed-delays r (read-formed table m read r h).1 (reached-location table m read r h)

  pub each-state-steps : (r : Region) → Reached m r → (e : Edge) → Memᴰ e m.edges
      → (b : Branch) → Memᴰ b e.branches → (q : Region)
      → ((available m e r ≡ true) × (landing (bounds_of m) r b ≡ q))
      ↔ ((s : State) → IsState m s → region_in m s ≡ r → (enabled m e s ≡ true) × (region_in m (target s b) ≡ q))
  each-state-steps r h = formed-steps r (read-formed table m read r h).1 (reached-location table m read r h)

  -- Demand 2's words: a region of the graph leads by some delay or edge to another exactly when each of its states does.
  pub each-state-leads : (r : Region) → Reached m r → (q : Region)
      → RegionLeads m r q ↔ ((s : State) → IsState m s → region_in m s ≡ r → StateLeads m s q)
  each-state-leads r h = formed-leads r (read-formed table m read r h).1 (reached-location table m read r h)

  -- The region of a state is such too.
  pub state-formed : (s : State) → IsState m s → Formed (bounds_of m) (region_in m s)
  state-formed s is = placed-formed (bounds_of m) s is.denominator model-covers.small

  -- ---- The entries that the graph call leaves

  module _ (es : List ℕ) (cap : ℕ) (found : List Region) (out : outcome_of table cap ≡ whole found) (s : State) where
    -- Entry j is the region of the state.
    abbrev pub EntryOf : ℕ → Type 0
    EntryOf j = (j < length found) × (region_at (entries_after es (outcome_of table cap)) j ≡ region_in m s)

    -- The region of a state stands in exactly one entry, where it is reached.
    pub one_entry : Reached m (region_in m s) → (j : ℕ) × EntryOf j × ((k : ℕ) → EntryOf k → k ≡ j)
    one_entry h =
        let r = region_in m s in
        let all = (whole-model table cap found m out read).0 in
        let (j, inside, is) = place r ((all.all r).0 h) in (
          j,
          (inside, entry_whole table es cap found out r j inside ∙ is),
          λ k e. all.different r k j e.0 inside (sym (entry_whole table es cap found out r k e.0) ∙ e.1 ∙ sym is),
        )

    -- Where it is not reached, it stands in none.
    pub no-entry : (Reached m (region_in m s) → ⊥) → (k : ℕ) → EntryOf k → ⊥
    no-entry none k e =
        let r = region_in m s in
        let all = (whole-model table cap found m out read).0 in
        none ((all.all r).1 (subst (λ x. Memᴰ x found) (sym (entry_whole table es cap found out r k e.0) ∙ e.1)
        (member r found k e.0)))
