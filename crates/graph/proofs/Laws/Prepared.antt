-- What a prepared model stores is read back: edges of a location, slots, branches, actions, denominators and weights.
use Rattle.std.specs.Prelude.{ℕ, ◌+◌, ◌*◌, ◌-◌, ◌/◌, ◌%◌, ◌≤◌, ◌<◌, ◌≡◌, List, ◌⊎◌, length, set}
use native.Mathlib.Omega.{arith}
use Rattle.std.proofs.Math.Nat.{mod-lt, mod-eq_of_lt, mul-add-div, mul-add-mod_self_left, div-eq_of_lt}
use Rattle.std.proofs.Math.Path.{refl, ap, ap₂}
use Rattle.std.proofs.Common.{◌∙◌, inl, inr}
use Rattle.std.proofs.Math.ListN.{length-set}
use Rattle.std.proofs.Math.Seq.{get_or-set_same, get_or-set_other}
use Rattle.graph.specs.Columns.{load, store, most_locations, most_edges, most_branches, most_slots, edge_place}
use Rattle.graph.specs.Columns.{edge_starts, edge_numbers, slot_keys, branch_slots, slot_locations, key_heads, key_links}
use Rattle.graph.specs.Readers.{edge_start, edge_count, edge_at, slot_mask, slot_target, slot_location, key_of, key_head, branch_count}
use Rattle.graph.specs.Readers.{branch_slot}
use Rattle.graph.specs.Readers.{action_of, denominator_of, low_of, high_of}
use Rattle.graph.specs.Writers.{with_slot, with_branch_count, with_branch_slot, with_edge, with_weight}
use Rattle.graph.proofs.Laws.Columns.{Lent, store_length, load_stored, load-other, store_keeps}
use Rattle.graph.proofs.Laws.Latest.{cases}
use Rattle.graph.proofs.Laws.Stores.{slot-below, branch-below, key_below}

-- ---- The edges of a location

module _ (graph : List ℕ) (location start end : ℕ) (h : location < most_locations) (from : load edge_starts graph location ≡ start) where
  start_is : edge_start graph location ≡ start
  unfolding edge_start
  start_is = ap (load edge_starts graph) (mod-eq_of_lt h) ∙ from

  pub edge-count-is : load edge_starts graph (location + 1) ≡ end → end ≤ start + 128 → edge_count graph location ≡ end - start
  unfolding edge_count
  edge-count-is to few =
      let next : location % most_locations + 1 ≡ location + 1 = omega (arith, mod-eq_of_lt h) in
      let less : end - start < 129 = omega arith in
      ap₂ (λ (a b : ℕ). (a - b) % 129) (ap (load edge_starts graph) next ∙ to) start_is ∙ mod-eq_of_lt less

  pub edge-at-is : (rank edge : ℕ) → start + rank < most_edges → load edge_numbers graph (start + rank) ≡ edge → edge < most_edges
      → edge_at graph location rank ≡ edge
  unfolding edge_at
  edge-at-is rank edge within is small =
      let few : rank < most_edges = omega arith in
      ap (λ (k : ℕ). load edge_numbers graph k % most_edges)
      (ap₂ (λ (a b : ℕ). (a + b) % most_edges) start_is (mod-eq_of_lt few) ∙ mod-eq_of_lt within)
      ∙ ap (λ (k : ℕ). k % most_edges) is ∙ mod-eq_of_lt small

-- ---- Slots

module _ (graph : List ℕ) (slot location mask target : ℕ) (hm : mask < 16) (ht : target < most_locations) where
  key-is : key_of mask target ≡ 64 * mask + target
  unfolding key_of
  key-is = ap₂ (λ (a b : ℕ). 64 * a + b) (mod-eq_of_lt hm) (mod-eq_of_lt ht)

  key-stored : Lent slot_keys graph → load slot_keys (with_slot graph slot location mask target) (slot % most_slots) ≡ 64 * mask + target
  unfolding with_slot
  key-stored lent =
      store_keeps key_heads _ (key_of mask target) slot slot_keys refl (key_below mask target) (slot % most_slots) (slot-below slot)
      ∙ store_keeps key_links _ (slot % most_slots) (key_head graph mask target) slot_keys refl (slot-below slot) (slot % most_slots)
      (slot-below slot)
      ∙ store_keeps slot_locations _ (slot % most_slots) location slot_keys refl (slot-below slot) (slot % most_slots) (slot-below slot)
      ∙ load_stored slot_keys graph (slot % most_slots) (key_of mask target) (slot-below slot) lent (omega (arith, key_below mask target))
      ∙ key-is

  pub slot-mask-stored : Lent slot_keys graph → slot_mask (with_slot graph slot location mask target) slot ≡ mask
  unfolding slot_mask
  slot-mask-stored lent =
      let none : target / 64 ≡ 0 = div-eq_of_lt ht in
      ap (λ (k : ℕ). k / 64 % 16) (key-stored lent)
      ∙ ap (λ (k : ℕ). k % 16) (mul-add-div {m = 64} (omega arith) mask target ∙ ap (λ (k : ℕ). mask + k) none ∙ omega arith)
      ∙ mod-eq_of_lt hm

  pub slot-target-stored : Lent slot_keys graph → slot_target (with_slot graph slot location mask target) slot ≡ target
  unfolding slot_target
  slot-target-stored lent =
      ap (λ (k : ℕ). k % most_locations) (key-stored lent) ∙ mul-add-mod_self_left 64 mask target ∙ mod-eq_of_lt ht

  pub slot-location-stored : Lent slot_locations graph → location < 65536 → slot_location
      (with_slot graph slot location mask target) slot ≡ location
  unfolding slot_location with_slot
  slot-location-stored lent small =
      store_keeps key_heads _ (key_of mask target) slot slot_locations refl (key_below mask target) (slot % most_slots) (slot-below slot)
      ∙ store_keeps key_links _ (slot % most_slots) (key_head graph mask target) slot_locations refl (slot-below slot) (slot % most_slots)
      (slot-below slot)
      ∙ load_stored slot_locations (store slot_keys graph (slot % most_slots) (key_of mask target)) (slot % most_slots) location
      (slot-below slot)
      (omega (arith, lent, store_length slot_keys graph (slot % most_slots) (key_of mask target))) small

-- ---- Branches: how many, and the slot of each, in one column

module _ (graph : List ℕ) (edge : ℕ) where
  count-below : 9 * (edge % most_edges) < 1152
  count-below = omega (arith, mod-lt edge {m = 128} (omega arith))

  pub branch-count-stored : (count : ℕ) → Lent branch_slots graph → count ≤ 8
      → branch_count (with_branch_count graph edge count) edge ≡ count
  unfolding branch_count with_branch_count
  branch-count-stored count lent few =
      let less : count < 9 = omega arith in
      ap (λ (k : ℕ). k % 9) (load_stored branch_slots graph (9 * (edge % most_edges)) count count-below lent (omega arith))
      ∙ mod-eq_of_lt less

  pub branch-slot-stored : (branch slot : ℕ) → Lent branch_slots graph → slot < most_slots → branch_slot
      (with_branch_slot graph edge branch slot) edge branch ≡ slot
  unfolding branch_slot with_branch_slot
  branch-slot-stored branch slot lent small =
      ap (λ (k : ℕ). k % most_slots)
      (load_stored branch_slots graph (9 * (edge % most_edges) + 1 + branch % most_branches) slot (branch-below edge branch) lent
      (omega (arith, small)))
      ∙ mod-eq_of_lt small

  -- A slot keeps all counts.
  pub branch-slot-counts : (branch slot other : ℕ) → branch_count (with_branch_slot graph edge branch slot) other ≡ branch_count graph other
  unfolding branch_count with_branch_slot
  branch-slot-counts branch slot other =
      ap (λ (k : ℕ). k % 9) (load-other branch_slots graph (9 * (edge % most_edges) + 1 + branch % most_branches) slot
      (9 * (other % most_edges))
      (λ e. away e (cases (edge % most_edges) (other % most_edges))))
    where
      away : 9 * (other % most_edges) ≡ 9 * (edge % most_edges) + 1 + branch % most_branches
          → (edge % most_edges < other % most_edges) ⊎ ((edge % most_edges ≡ other % most_edges) ⊎ (other % most_edges < edge % most_edges))
          → ⊥
      away e (inl h) = omega (arith, e, h, mod-lt branch {m = 8} (omega arith))
      away e (inr (inl h)) = omega (arith, e, h)
      away e (inr (inr h)) = omega (arith, e, h)

-- ---- The edge slice

module _ (edges : List ℕ) (edge : ℕ) (lent : 2304 ≤ length edges) where
  row_below : edge_place edge + 17 < length edges
  unfolding edge_place
  row_below = omega (arith, lent, mod-lt edge {m = 128} (omega arith))

  module _ (action denominator : ℕ) where
    pub edge-length : length (with_edge edges edge action denominator) ≡ length edges
    unfolding with_edge
    edge-length = length-set (set edges (edge_place edge) (action % 4294967296)) (edge_place edge + 1) (denominator % 4294967296)
        ∙ length-set edges (edge_place edge) (action % 4294967296)

    pub action-stored : action < 4294967296 → action_of (with_edge edges edge action denominator) edge ≡ action
    unfolding action_of with_edge
    action-stored small =
        get_or-set_other (set edges (edge_place edge) (action % 4294967296)) (edge_place edge + 1) (edge_place edge)
        (denominator % 4294967296) 0 (omega arith)
        ∙ get_or-set_same edges (edge_place edge) (action % 4294967296) 0 (omega (arith, row_below)) ∙ mod-eq_of_lt small

    pub denominator-stored : denominator < 1073741824 → denominator_of (with_edge edges edge action denominator) edge ≡ denominator
    unfolding denominator_of with_edge
    denominator-stored small =
        let less : denominator < 4294967296 = omega arith in
        ap (λ (k : ℕ). k % 1073741824)
        (get_or-set_same (set edges (edge_place edge) (action % 4294967296)) (edge_place edge + 1) (denominator % 4294967296) 0
        (omega (arith, row_below, length-set edges (edge_place edge) (action % 4294967296))) ∙ mod-eq_of_lt less)
        ∙ mod-eq_of_lt small

  module _ (branch low high : ℕ) where
    low-place : edge_place edge + (2 + 2 * (branch % most_branches)) < length edges
    low-place = omega (arith, row_below, mod-lt branch {m = 8} (omega arith))

    high-place : edge_place edge + (3 + 2 * (branch % most_branches)) < length edges
    high-place = omega (arith, row_below, mod-lt branch {m = 8} (omega arith))

    pub weight-length : length (with_weight edges edge branch low high) ≡ length edges
    unfolding with_weight
    weight-length =
        length-set (set edges (edge_place edge + (2 + 2 * (branch % most_branches))) (low % 4294967296))
        (edge_place edge + (3 + 2 * (branch % most_branches))) (high % 4294967296)
        ∙ length-set edges (edge_place edge + (2 + 2 * (branch % most_branches))) (low % 4294967296)

    pub low-stored : low < 1073741824 → low_of (with_weight edges edge branch low high) edge branch ≡ low
    unfolding low_of with_weight
    low-stored small =
        let less : low < 4294967296 = omega arith in
        ap (λ (k : ℕ). k % 1073741824)
        (get_or-set_other (set edges (edge_place edge + (2 + 2 * (branch % most_branches))) (low % 4294967296))
        (edge_place edge + (3 + 2 * (branch % most_branches))) (edge_place edge + (2 + 2 * (branch % most_branches))) (high % 4294967296) 0
        (omega arith)
        ∙ get_or-set_same edges (edge_place edge + (2 + 2 * (branch % most_branches))) (low % 4294967296) 0 low-place ∙ mod-eq_of_lt less)
        ∙ mod-eq_of_lt small

    pub high-stored : high < 1073741824 → high_of (with_weight edges edge branch low high) edge branch ≡ high
    unfolding high_of with_weight
    high-stored small =
        let less : high < 4294967296 = omega arith in
        ap (λ (k : ℕ). k % 1073741824)
        (get_or-set_same (set edges (edge_place edge + (2 + 2 * (branch % most_branches))) (low % 4294967296))
        (edge_place edge + (3 + 2 * (branch % most_branches))) (high % 4294967296) 0
        (omega (arith, high-place, length-set edges (edge_place edge + (2 + 2 * (branch % most_branches))) (low % 4294967296)))
        ∙ mod-eq_of_lt less)
        ∙ mod-eq_of_lt small

    -- Weights keep all actions and denominators of this edge.
    pub weight-action : action_of (with_weight edges edge branch low high) edge ≡ action_of edges edge
    unfolding action_of with_weight
    weight-action =
        get_or-set_other (set edges (edge_place edge + (2 + 2 * (branch % most_branches))) (low % 4294967296))
        (edge_place edge + (3 + 2 * (branch % most_branches))) (edge_place edge) (high % 4294967296) 0 (omega arith)
        ∙ get_or-set_other edges (edge_place edge + (2 + 2 * (branch % most_branches))) (edge_place edge) (low % 4294967296) 0 (omega arith)

    pub weight-denominator : denominator_of (with_weight edges edge branch low high) edge ≡ denominator_of edges edge
    unfolding denominator_of with_weight
    weight-denominator =
        ap (λ (k : ℕ). k % 1073741824)
        (get_or-set_other (set edges (edge_place edge + (2 + 2 * (branch % most_branches))) (low % 4294967296))
        (edge_place edge + (3 + 2 * (branch % most_branches))) (edge_place edge + 1) (high % 4294967296) 0 (omega arith)
        ∙ get_or-set_other edges (edge_place edge + (2 + 2 * (branch % most_branches))) (edge_place edge + 1) (low % 4294967296) 0
        (omega arith))
