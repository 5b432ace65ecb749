-- What the writers of a prepared model leave: every other location, edge, branch and slot is read as before. And where the edges and the
-- slots of a location begin, how many there are and which, is read back.
use Rattle.std.specs.Prelude.{ℕ, ◌+◌, ◌*◌, ◌-◌, ◌/◌, ◌%◌, ◌≤◌, ◌<◌, ◌≡◌, List, ◌⊎◌, get_or, set}
use Rattle.std.proofs.Common.{arith, ◌∙◌, inl, inr, get_or-set_other}
use Rattle.std.proofs.Math.Nat.{mod-lt, mod-eq_of_lt}
use Rattle.std.proofs.Math.Path.{refl, sym, ap, ap₂}
use Rattle.graph.specs.Columns.{load, store, most_locations, most_edges, most_branches, most_slots, edge_place}
use Rattle.graph.specs.Columns.{edge_starts, edge_numbers, slot_starts, slot_keys, branch_slots, slot_locations, key_heads, key_links}
use Rattle.graph.specs.Readers.{edge_start, edge_count, edge_at, slot_start, slot_count, slot_mask, slot_target, slot_location}
use Rattle.graph.specs.Readers.{key_of, key_head, branch_count, branch_slot, action_of, denominator_of, low_of, high_of}
use Rattle.graph.specs.Writers.{with_edge_start, with_slot_start, with_edge_number, with_slot, with_branch_count, with_branch_slot}
use Rattle.graph.specs.Writers.{with_edge}
use Rattle.graph.specs.Writers.{with_weight}
use Rattle.graph.proofs.Laws.Columns.{Lent, load_stored, load-other, store_keeps}
use Rattle.graph.proofs.Laws.Latest.{cases}
use Rattle.graph.proofs.Laws.Stores.{location-below, slot-below, key_below}

-- A location, and the one after it, as the starts are numbered.
start-at : (location : ℕ) → location < most_locations → location % most_locations ≡ location % (most_locations + 1)
start-at location h = mod-eq_of_lt h ∙ sym (mod-eq_of_lt (omega (arith, h)))

end-at : (location : ℕ) → location < most_locations → location % most_locations + 1 ≡ (location + 1) % (most_locations + 1)
end-at location h =
    let here : location % most_locations ≡ location = mod-eq_of_lt h in
    let next : (location + 1) % 65 ≡ location + 1 = mod-eq_of_lt (omega (arith, h)) in omega (arith, here, next)

next-at : (location : ℕ) → location + 1 < most_locations → location % most_locations + 1 ≡ (location + 1) % most_locations
next-at location h =
    let here : location % most_locations ≡ location = mod-eq_of_lt (omega (arith, h)) in
    let next : (location + 1) % most_locations ≡ location + 1 = mod-eq_of_lt h in omega (arith, here, next)

-- ---- Where the edges of a location begin, and how many there are

module _ (graph : List ℕ) (location start : ℕ) where
  pub edge-start-stored : Lent edge_starts graph → location < most_locations → start < 65536
      → edge_start (with_edge_start graph location start) location ≡ start
  unfolding edge_start with_edge_start
  edge-start-stored lent h small =
      ap (load edge_starts (with_edge_start graph location start)) (start-at location h)
      ∙ load_stored edge_starts graph (location % (most_locations + 1)) start (mod-lt location {m = 65} (omega arith)) lent small

  pub edge-start-other : (other : ℕ) → (other % most_locations ≡ location % (most_locations + 1) → ⊥)
      → edge_start (with_edge_start graph location start) other ≡ edge_start graph other
  unfolding edge_start with_edge_start
  edge-start-other other differs = load-other edge_starts graph (location % (most_locations + 1)) start (other % most_locations) differs

  -- What is stored neither as the start of a location nor as that of the next one leaves its count.
  pub edge-count-other : (other : ℕ) → (other % most_locations ≡ location % (most_locations + 1) → ⊥)
      → (other % most_locations + 1 ≡ location % (most_locations + 1) → ⊥)
      → edge_count (with_edge_start graph location start) other ≡ edge_count graph other
  unfolding edge_count edge_start with_edge_start
  edge-count-other other differs ends =
      ap₂ (λ (a b : ℕ). (a - b) % (most_edges + 1))
      (load-other edge_starts graph (location % (most_locations + 1)) start (other % most_locations + 1) ends)
      (load-other edge_starts graph (location % (most_locations + 1)) start (other % most_locations) differs)

module _ (graph : List ℕ) (location : ℕ) where
  -- The start of the next location is where the edges of a location end.
  pub edge-count-next : location + 1 < most_locations
      → edge_count graph location ≡ (edge_start graph (location + 1) - edge_start graph location) % (most_edges + 1)
  unfolding edge_count edge_start
  edge-count-next h = ap (λ (k : ℕ). (load edge_starts graph k - load edge_starts graph (location % most_locations)) % (most_edges + 1))
      (next-at location h)

  pub edge-count-stored : (end : ℕ) → Lent edge_starts graph → location < most_locations → end < 65536
      → end ≤ edge_start graph location + most_edges
      → edge_count (with_edge_start graph (location + 1) end) location ≡ end - edge_start graph location
  unfolding edge_count edge_start with_edge_start
  edge-count-stored end lent h small few =
      let less : end - load edge_starts graph (location % most_locations) < 129 = omega (arith, few) in
      ap₂ (λ (a b : ℕ). (a - b) % (most_edges + 1))
      (ap (load edge_starts (with_edge_start graph (location + 1) end)) (end-at location h)
      ∙ load_stored edge_starts graph ((location + 1) % (most_locations + 1)) end (mod-lt (location + 1) {m = 65} (omega arith)) lent small)
      (load-other edge_starts graph ((location + 1) % (most_locations + 1)) end (location % most_locations)
      (λ e. absurd (omega (arith, e, end-at location h))))
      ∙ mod-eq_of_lt less

-- Writing a start of another location leaves the edges of a location.
pub edge-at-start : (graph : List ℕ) (location start other rank : ℕ) → (other % most_locations ≡ location % (most_locations + 1) → ⊥)
    → edge_at (with_edge_start graph location start) other rank ≡ edge_at graph other rank
unfolding edge_at edge_start with_edge_start
edge-at-start graph location start other rank differs =
    ap (λ (k : ℕ). load edge_numbers (with_edge_start graph location start) ((k + rank % most_edges) % most_edges) % most_edges)
    (load-other edge_starts graph (location % (most_locations + 1)) start (other % most_locations) differs)
    ∙ ap (λ (k : ℕ). k % most_edges)
    (store_keeps edge_starts graph (location % (most_locations + 1)) start edge_numbers refl (mod-lt location {m = 65} (omega arith))
    ((load edge_starts graph (other % most_locations) + rank % most_edges) % most_edges)
    (mod-lt (load edge_starts graph (other % most_locations) + rank % most_edges) {m = 128} (omega arith)))

-- ---- The edges of a location

module _ (graph : List ℕ) (place edge : ℕ) where
  start-kept : (location : ℕ) → edge_start (with_edge_number graph place edge) location ≡ edge_start graph location
  unfolding edge_start with_edge_number
  start-kept location =
      store_keeps edge_numbers graph (place % most_edges) edge edge_starts refl (mod-lt place {m = 128} (omega arith))
      (location % most_locations) (omega (arith, location-below location))

  pub edge-at-stored : (location rank : ℕ) → Lent edge_numbers graph → rank < most_edges → place ≡ edge_start graph location + rank
      → edge < most_edges → edge_at (with_edge_number graph place edge) location rank ≡ edge
  unfolding edge_at with_edge_number
  edge-at-stored location rank lent few at small =
      ap (λ (k : ℕ). load edge_numbers (with_edge_number graph place edge) (k % most_edges) % most_edges)
      (ap₂ (λ (a b : ℕ). a + b) (start-kept location) (mod-eq_of_lt few) ∙ sym at)
      ∙ ap (λ (k : ℕ). k % most_edges)
      (load_stored edge_numbers graph (place % most_edges) edge (mod-lt place {m = 128} (omega arith)) lent (omega (arith, small)))
      ∙ mod-eq_of_lt small

  pub edge-at-other : (location rank : ℕ) → ((edge_start graph location + rank % most_edges) % most_edges ≡ place % most_edges → ⊥)
      → edge_at (with_edge_number graph place edge) location rank ≡ edge_at graph location rank
  unfolding edge_at with_edge_number
  edge-at-other location rank differs =
      ap (λ (k : ℕ). load edge_numbers (with_edge_number graph place edge) ((k + rank % most_edges) % most_edges) % most_edges)
      (start-kept location)
      ∙ ap (λ (k : ℕ). k % most_edges)
      (load-other edge_numbers graph (place % most_edges) edge ((edge_start graph location + rank % most_edges) % most_edges) differs)

-- ---- Where the slots of a location begin, and how many there are

module _ (graph : List ℕ) (location start : ℕ) where
  pub slot-start-stored : Lent slot_starts graph → location < most_locations → start < 65536
      → slot_start (with_slot_start graph location start) location ≡ start
  unfolding slot_start with_slot_start
  slot-start-stored lent h small =
      ap (load slot_starts (with_slot_start graph location start)) (start-at location h)
      ∙ load_stored slot_starts graph (location % (most_locations + 1)) start (mod-lt location {m = 65} (omega arith)) lent small

  pub slot-start-other : (other : ℕ) → (other % most_locations ≡ location % (most_locations + 1) → ⊥)
      → slot_start (with_slot_start graph location start) other ≡ slot_start graph other
  unfolding slot_start with_slot_start
  slot-start-other other differs = load-other slot_starts graph (location % (most_locations + 1)) start (other % most_locations) differs

  -- What is stored neither as the start of a location nor as that of the next one leaves its count.
  pub slot-count-other : (other : ℕ) → (other % most_locations ≡ location % (most_locations + 1) → ⊥)
      → (other % most_locations + 1 ≡ location % (most_locations + 1) → ⊥)
      → slot_count (with_slot_start graph location start) other ≡ slot_count graph other
  unfolding slot_count slot_start with_slot_start
  slot-count-other other differs ends =
      ap₂ (λ (a b : ℕ). (a - b) % (most_slots + 1))
      (load-other slot_starts graph (location % (most_locations + 1)) start (other % most_locations + 1) ends)
      (load-other slot_starts graph (location % (most_locations + 1)) start (other % most_locations) differs)

module _ (graph : List ℕ) (location : ℕ) where
  -- The start of the next location is where the slots of a location end.
  pub slot-count-next : location + 1 < most_locations
      → slot_count graph location ≡ (slot_start graph (location + 1) - slot_start graph location) % (most_slots + 1)
  unfolding slot_count slot_start
  slot-count-next h = ap (λ (k : ℕ). (load slot_starts graph k - load slot_starts graph (location % most_locations)) % (most_slots + 1))
      (next-at location h)

  pub slot-count-stored : (end : ℕ) → Lent slot_starts graph → location < most_locations → end < 65536
      → end ≤ slot_start graph location + most_slots
      → slot_count (with_slot_start graph (location + 1) end) location ≡ end - slot_start graph location
  unfolding slot_count slot_start with_slot_start
  slot-count-stored end lent h small few =
      let less : end - load slot_starts graph (location % most_locations) < 1025 = omega (arith, few) in
      ap₂ (λ (a b : ℕ). (a - b) % (most_slots + 1))
      (ap (load slot_starts (with_slot_start graph (location + 1) end)) (end-at location h)
      ∙ load_stored slot_starts graph ((location + 1) % (most_locations + 1)) end (mod-lt (location + 1) {m = 65} (omega arith)) lent small)
      (load-other slot_starts graph ((location + 1) % (most_locations + 1)) end (location % most_locations)
      (λ e. absurd (omega (arith, e, end-at location h))))
      ∙ mod-eq_of_lt less

-- ---- Slots

module _ (graph : List ℕ) (slot location mask target other : ℕ) (differs : other % most_slots ≡ slot % most_slots → ⊥) where
  key-other : load slot_keys (with_slot graph slot location mask target) (other % most_slots) ≡ load slot_keys graph (other % most_slots)
  unfolding with_slot
  key-other =
      store_keeps key_heads _ (key_of mask target) slot slot_keys refl (key_below mask target) (other % most_slots) (slot-below other)
      ∙ store_keeps key_links _ (slot % most_slots) (key_head graph mask target) slot_keys refl (slot-below slot) (other % most_slots)
      (slot-below other)
      ∙ store_keeps slot_locations _ (slot % most_slots) location slot_keys refl (slot-below slot) (other % most_slots) (slot-below other)
      ∙ load-other slot_keys graph (slot % most_slots) (key_of mask target) (other % most_slots) differs

  pub slot-mask-other : slot_mask (with_slot graph slot location mask target) other ≡ slot_mask graph other
  unfolding slot_mask
  slot-mask-other = ap (λ (k : ℕ). k / 64 % 16) key-other

  pub slot-target-other : slot_target (with_slot graph slot location mask target) other ≡ slot_target graph other
  unfolding slot_target
  slot-target-other = ap (λ (k : ℕ). k % most_locations) key-other

  pub slot-location-other : slot_location (with_slot graph slot location mask target) other ≡ slot_location graph other
  unfolding slot_location with_slot
  slot-location-other =
      store_keeps key_heads _ (key_of mask target) slot slot_locations refl (key_below mask target) (other % most_slots) (slot-below other)
      ∙ store_keeps key_links _ (slot % most_slots) (key_head graph mask target) slot_locations refl (slot-below slot) (other % most_slots)
      (slot-below other)
      ∙ load-other slot_locations (store slot_keys graph (slot % most_slots) (key_of mask target)) (slot % most_slots) location
      (other % most_slots) differs
      ∙ store_keeps slot_keys graph (slot % most_slots) (key_of mask target) slot_locations refl (slot-below slot) (other % most_slots)
      (slot-below other)

-- ---- Branches: rows of nine numbers

rows-of-nine : (a b c d : ℕ) → c < 8 → d < 8 → ((a ≡ b) × (c ≡ d) → ⊥) → 9 * a + 1 + c ≡ 9 * b + 1 + d → ⊥
rows-of-nine a b c d hc hd differs e = differs (omega (arith, e, hc, hd), omega (arith, e, hc, hd))

module _ (graph : List ℕ) (edge : ℕ) where
  pub branch-count-other : (count other : ℕ) → (other % most_edges ≡ edge % most_edges → ⊥)
      → branch_count (with_branch_count graph edge count) other ≡ branch_count graph other
  unfolding branch_count with_branch_count
  branch-count-other count other differs =
      ap (λ (k : ℕ). k % (most_branches + 1)) (load-other branch_slots graph (9 * (edge % most_edges)) count (9 * (other % most_edges))
      (λ e. differs (omega (arith, e))))

  -- A count keeps all slots.
  pub branch-count-slots : (count other branch : ℕ)
      → branch_slot (with_branch_count graph edge count) other branch ≡ branch_slot graph other branch
  unfolding branch_slot with_branch_count
  branch-count-slots count other branch =
      ap (λ (k : ℕ). k % most_slots) (load-other branch_slots graph (9 * (edge % most_edges)) count
      (9 * (other % most_edges) + 1 + branch % most_branches)
      (λ e. absurd (omega (arith, e, mod-lt branch {m = 8} (omega arith)))))

  pub branch-slot-other : (branch slot other number : ℕ)
      → ((other % most_edges ≡ edge % most_edges) × (number % most_branches ≡ branch % most_branches) → ⊥)
      → branch_slot (with_branch_slot graph edge branch slot) other number ≡ branch_slot graph other number
  unfolding branch_slot with_branch_slot
  branch-slot-other branch slot other number differs =
      ap (λ (k : ℕ). k % most_slots) (load-other branch_slots graph (9 * (edge % most_edges) + 1 + branch % most_branches) slot
      (9 * (other % most_edges) + 1 + number % most_branches)
      (rows-of-nine (other % most_edges) (edge % most_edges) (number % most_branches) (branch % most_branches)
      (mod-lt number {m = 8} (omega arith)) (mod-lt branch {m = 8} (omega arith)) differs))

-- ---- The edge slice

-- Equal places of the slice are of one row, and so at one place of it.
row-tells : (a b c d : ℕ) → c < 18 → d < 18 → 18 * a + c ≡ 18 * b + d → (a ≡ b) × (c ≡ d)
row-tells a b c d hc hd e = go (cases a b)
  where
    go : (a < b) ⊎ ((a ≡ b) ⊎ (b < a)) → (a ≡ b) × (c ≡ d)
    go (inl h) = absurd (omega (arith, e, h, hc))
    go (inr (inl h)) = (h, omega (arith, e, h))
    go (inr (inr h)) = absurd (omega (arith, e, h, hd))

-- Two numbers that are set leave a third.
two-set : (l : List ℕ) (i j k v w : ℕ) → (k ≡ i → ⊥) → (k ≡ j → ⊥) → get_or (set (set l i v) j w) k 0 ≡ get_or l k 0
two-set l i j k v w a b = get_or-set_other (set l i v) j k w 0 b ∙ get_or-set_other l i k v 0 a

module _ (edges : List ℕ) (edge action denominator other : ℕ) where
  pub action-other : (other % most_edges ≡ edge % most_edges → ⊥)
      → action_of (with_edge edges edge action denominator) other ≡ action_of edges other
  unfolding action_of with_edge edge_place
  action-other differs = two-set edges _ _ _ _ _ (λ e. differs (omega (arith, e))) (λ e. absurd (omega (arith, e)))

  pub denominator-other : (other % most_edges ≡ edge % most_edges → ⊥)
      → denominator_of (with_edge edges edge action denominator) other ≡ denominator_of edges other
  unfolding denominator_of with_edge edge_place
  denominator-other differs =
      ap (λ (k : ℕ). k % 1073741824)
      (two-set edges _ _ _ _ _ (λ e. absurd (omega (arith, e))) (λ e. differs (omega (arith, e))))

  -- An action and a denominator keep all weights.
  module _ (branch : ℕ) where
    branch-few : branch % most_branches < 8
    branch-few = mod-lt branch {m = 8} (omega arith)

    -- No weight stands where an action or a denominator does.
    weight-off : (c k : ℕ) → c < 2 → k < 2
        → 18 * (other % most_edges) + (2 + k + 2 * (branch % most_branches)) ≡ 18 * (edge % most_edges) + c → ⊥
    weight-off c k hc hk e =
        let same = row-tells (other % most_edges) (edge % most_edges) (2 + k + 2 * (branch % most_branches)) c
        (omega (arith, hk, branch-few)) (omega (arith, hc)) e in absurd (omega (arith, same.1, hc))

    pub edge-low : low_of (with_edge edges edge action denominator) other branch ≡ low_of edges other branch
    unfolding low_of with_edge edge_place
    edge-low =
        ap (λ (k : ℕ). k % 1073741824)
        (two-set edges _ _ _ _ _ (λ e. weight-off 0 0 (omega arith) (omega arith) (omega (arith, e)))
        (λ e. weight-off 1 0 (omega arith) (omega arith) (omega (arith, e))))

    pub edge-high : high_of (with_edge edges edge action denominator) other branch ≡ high_of edges other branch
    unfolding high_of with_edge edge_place
    edge-high =
        ap (λ (k : ℕ). k % 1073741824)
        (two-set edges _ _ _ _ _ (λ e. weight-off 0 1 (omega arith) (omega arith) (omega (arith, e)))
        (λ e. weight-off 1 1 (omega arith) (omega arith) (omega (arith, e))))

module _ (edges : List ℕ) (edge branch low high other : ℕ) where
  -- Weights keep all actions and denominators.
  pub weight-actions : action_of (with_weight edges edge branch low high) other ≡ action_of edges other
  unfolding action_of with_weight edge_place
  weight-actions =
      two-set edges _ _ _ _ _ (λ e. weight-off edges other 0 0 edge branch 0 0 (omega arith) (omega arith) (omega (arith, e)))
      (λ e. weight-off edges other 0 0 edge branch 0 1 (omega arith) (omega arith) (omega (arith, e)))

  pub weight-denominators : denominator_of (with_weight edges edge branch low high) other ≡ denominator_of edges other
  unfolding denominator_of with_weight edge_place
  weight-denominators =
      ap (λ (k : ℕ). k % 1073741824)
      (two-set edges _ _ _ _ _ (λ e. weight-off edges other 0 0 edge branch 1 0 (omega arith) (omega arith) (omega (arith, e)))
      (λ e. weight-off edges other 0 0 edge branch 1 1 (omega arith) (omega arith) (omega (arith, e))))

  module _ (number : ℕ) where
    -- Equal places of weights are of one edge and one branch.
    weight-tells : (k l : ℕ) → k < 2 → l < 2 → 18 * (other % most_edges) + (2 + k + 2 * (number % most_branches))
        ≡ 18 * (edge % most_edges) + (2 + l + 2 * (branch % most_branches))
        → (other % most_edges ≡ edge % most_edges) × (2 + k + 2 * (number % most_branches) ≡ 2 + l + 2 * (branch % most_branches))
    weight-tells k l hk hl e =
        row-tells (other % most_edges) (edge % most_edges) (2 + k + 2 * (number % most_branches)) (2 + l + 2 * (branch % most_branches))
        (omega (arith, hk, mod-lt number {m = 8} (omega arith))) (omega (arith, hl, mod-lt branch {m = 8} (omega arith))) e

    module _ (differs : (other % most_edges ≡ edge % most_edges) × (number % most_branches ≡ branch % most_branches) → ⊥) where
      pub low-other : low_of (with_weight edges edge branch low high) other number ≡ low_of edges other number
      unfolding low_of with_weight edge_place
      low-other =
          ap (λ (k : ℕ). k % 1073741824)
          (two-set edges _ _ _ _ _
          (λ e. let same = weight-tells 0 0 (omega arith) (omega arith) (omega (arith, e)) in differs (same.0, omega (arith, same.1)))
          (λ e. let same = weight-tells 0 1 (omega arith) (omega arith) (omega (arith, e)) in absurd (omega (arith, same.1))))

      pub high-other : high_of (with_weight edges edge branch low high) other number ≡ high_of edges other number
      unfolding high_of with_weight edge_place
      high-other =
          ap (λ (k : ℕ). k % 1073741824)
          (two-set edges _ _ _ _ _
          (λ e. let same = weight-tells 1 0 (omega arith) (omega arith) (omega (arith, e)) in absurd (omega (arith, same.1)))
          (λ e. let same = weight-tells 1 1 (omega arith) (omega arith) (omega (arith, e)) in differs (same.0, omega (arith, same.1))))
