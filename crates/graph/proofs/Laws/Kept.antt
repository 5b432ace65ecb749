-- A column that is kept is read as before: one law for each reader of the graph slice. With the `..-keeps` laws of a writer they say what
-- it leaves to the readers.
use Prim.Native.Nat.{ℕ, zero, suc, ◌+◌, ◌*◌, ◌-◌, ◌/◌, ◌%◌}
use Rattle.std.proofs.Common.{arith, ◌∙◌}
use Rattle.std.proofs.Math.Nat.{mod-lt}
use Rattle.std.specs.Prelude.{◌≡◌, eqb}
use Rattle.std.proofs.Math.Path.{refl, ap, ap₂}
use Rattle.std.proofs.Math.Bool.{cond}
use mathlib.Core.List.{List, [], ◌∷◌}
use Rattle.graph.specs.Columns.{nothing, load, most_regions, most_locations, most_edges, most_branches, most_slots}
use Rattle.graph.specs.Columns.{labels, edge_starts, edge_numbers, slot_starts, slot_keys, branch_slots}
use Rattle.graph.specs.Columns.{class_heads, class_links, region_heads, region_links, classes, locations, delays, available_counts}
use Rattle.graph.specs.Columns.{available}
use Rattle.graph.specs.Columns.{resets, class_delays, slot_locations, key_heads, key_links, source_heads, source_links}
use Rattle.graph.specs.Readers.{label_of, edge_start, edge_count, edge_at, slot_start, slot_count, slot_mask, slot_target, slot_location}
use Rattle.graph.specs.Readers.{key_of, key_head, key_link, branch_count, branch_slot, class_of, location_of, delay_of, available_count}
use Rattle.graph.specs.Readers.{along, keys_of, available_word}
use Rattle.graph.specs.Readers.{bit_of, is_available, reset_class, delay_class, class_head, class_link, source_head, source_link}
use Rattle.graph.specs.Readers.{sources_from}
use Rattle.graph.specs.Readers.{sources_of, bucket_of, region_head, region_link, walk, region_at, landing_of}
use Rattle.graph.proofs.Laws.Columns.{Kept}
use Rattle.graph.proofs.Laws.Index.{bucket-below}
use Rattle.graph.proofs.Laws.Stores.{location-below, region-below, slot-below, branch-below, key_below, reset-below, word_below}

module _ (graph graph' : List ℕ) where
  pub label_kept : Kept labels graph graph' → (location : ℕ) → label_of graph' location ≡ label_of graph location
  unfolding label_of
  label_kept kept location = kept (location % most_locations) (location-below location)

  pub edge-start-kept : Kept edge_starts graph graph' → (location : ℕ) → edge_start graph' location ≡ edge_start graph location
  unfolding edge_start
  edge-start-kept kept location = kept (location % most_locations) (omega (arith, location-below location))

  pub slot-start-kept : Kept slot_starts graph graph' → (location : ℕ) → slot_start graph' location ≡ slot_start graph location
  unfolding slot_start
  slot-start-kept kept location = kept (location % most_locations) (omega (arith, location-below location))

  pub slot-mask-kept : Kept slot_keys graph graph' → (slot : ℕ) → slot_mask graph' slot ≡ slot_mask graph slot
  unfolding slot_mask
  slot-mask-kept kept slot = ap (λ (k : ℕ). k / 64 % 16) (kept (slot % most_slots) (slot-below slot))

  pub slot-target-kept : Kept slot_keys graph graph' → (slot : ℕ) → slot_target graph' slot ≡ slot_target graph slot
  unfolding slot_target
  slot-target-kept kept slot = ap (λ (k : ℕ). k % most_locations) (kept (slot % most_slots) (slot-below slot))

  pub slot-location-kept : Kept slot_locations graph graph' → (slot : ℕ) → slot_location graph' slot ≡ slot_location graph slot
  unfolding slot_location
  slot-location-kept kept slot = kept (slot % most_slots) (slot-below slot)

  pub key-head-kept : Kept key_heads graph graph' → (mask target : ℕ) → key_head graph' mask target ≡ key_head graph mask target
  unfolding key_head
  key-head-kept kept mask target = kept (key_of mask target) (key_below mask target)

  pub key-link-kept : Kept key_links graph graph' → (slot : ℕ) → key_link graph' slot ≡ key_link graph slot
  unfolding key_link
  key-link-kept kept slot = kept (slot % most_slots) (slot-below slot)

  along-kept : Kept key_links graph graph' → (steps slot : ℕ) → along (key_link graph') steps slot ≡ along (key_link graph) steps slot
  unfolding along
  along-kept kept zero slot = refl
  along-kept kept (suc steps) slot =
      ap (λ (l : List ℕ). cond (eqb slot nothing) [] (slot ∷ l))
      (ap (along (key_link graph') steps) (key-link-kept kept slot) ∙ along-kept kept steps (key_link graph slot))

  pub keys_kept : Kept key_heads graph graph' → Kept key_links graph graph' → (mask target : ℕ)
      → keys_of graph' mask target ≡ keys_of graph mask target
  unfolding keys_of
  keys_kept heads links mask target =
      ap (along (key_link graph') most_slots) (key-head-kept heads mask target) ∙ along-kept links most_slots (key_head graph mask target)

  pub branch-count-kept : Kept branch_slots graph graph' → (edge : ℕ) → branch_count graph' edge ≡ branch_count graph edge
  unfolding branch_count
  branch-count-kept kept edge =
      ap (λ (k : ℕ). k % (most_branches + 1)) (kept (9 * (edge % most_edges)) (omega (arith, mod-lt edge {m = 128} (omega arith))))

  pub branch-slot-kept : Kept branch_slots graph graph' → (edge branch : ℕ)
      → branch_slot graph' edge branch ≡ branch_slot graph edge branch
  unfolding branch_slot
  branch-slot-kept kept edge branch =
      ap (λ (k : ℕ). k % most_slots) (kept (9 * (edge % most_edges) + 1 + branch % most_branches) (branch-below edge branch))

  pub edge-count-kept : Kept edge_starts graph graph' → (location : ℕ) → edge_count graph' location ≡ edge_count graph location
  unfolding edge_count edge_start
  edge-count-kept kept location =
      ap₂ (λ (a b : ℕ). (a - b) % (most_edges + 1)) (kept (location % most_locations + 1) (omega (arith, location-below location)))
      (kept (location % most_locations) (omega (arith, location-below location)))

  pub edge-at-kept : Kept edge_starts graph graph' → Kept edge_numbers graph graph' → (location rank : ℕ)
      → edge_at graph' location rank ≡ edge_at graph location rank
  unfolding edge_at
  edge-at-kept starts numbers location rank =
      ap (λ (k : ℕ). load edge_numbers graph' ((k + rank % most_edges) % most_edges) % most_edges) (edge-start-kept starts location)
      ∙ ap (λ (k : ℕ). k % most_edges) (numbers ((edge_start graph location + rank % most_edges) % most_edges)
      (mod-lt (edge_start graph location + rank % most_edges) {m = 128} (omega arith)))

  pub slot-count-kept : Kept slot_starts graph graph' → (location : ℕ) → slot_count graph' location ≡ slot_count graph location
  unfolding slot_count slot_start
  slot-count-kept kept location =
      ap₂ (λ (a b : ℕ). (a - b) % (most_slots + 1)) (kept (location % most_locations + 1) (omega (arith, location-below location)))
      (kept (location % most_locations) (omega (arith, location-below location)))

  pub class-kept : Kept classes graph graph' → (region : ℕ) → class_of graph' region ≡ class_of graph region
  unfolding class_of
  class-kept kept region = kept (region % most_regions) (region-below region)

  pub location-kept : Kept locations graph graph' → (region : ℕ) → location_of graph' region ≡ location_of graph region
  unfolding location_of
  location-kept kept region = kept (region % most_regions) (region-below region)

  pub delay-kept : Kept delays graph graph' → (region : ℕ) → delay_of graph' region ≡ delay_of graph region
  unfolding delay_of
  delay-kept kept region = kept (region % most_regions) (region-below region)

  pub available-count-kept : Kept available_counts graph graph' → (region : ℕ)
      → available_count graph' region ≡ available_count graph region
  unfolding available_count
  available-count-kept kept region = kept (region % most_regions) (region-below region)

  pub word_kept : Kept available graph graph' → (region word : ℕ) → available_word graph' region word ≡ available_word graph region word
  unfolding available_word
  word_kept kept region word = kept (8 * (region % most_regions) + word % 8) (word_below region word)

  pub available-kept : Kept available graph graph' → (region rank : ℕ) → is_available graph' region rank ≡ is_available graph region rank
  unfolding is_available
  available-kept kept region rank = ap (λ (w : ℕ). bit_of w (rank % 16)) (word_kept kept region (rank / 16))

  pub reset-kept : Kept resets graph graph' → (class mask : ℕ) → reset_class graph' class mask ≡ reset_class graph class mask
  unfolding reset_class
  reset-kept kept class mask = kept (16 * (class % most_regions) + mask % 16) (reset-below class mask)

  pub class-delay-kept : Kept class_delays graph graph' → (class : ℕ) → delay_class graph' class ≡ delay_class graph class
  unfolding delay_class
  class-delay-kept kept class = kept (class % most_regions) (region-below class)

  pub class-head-kept : Kept class_heads graph graph' → (bucket : ℕ) → class_head graph' bucket ≡ class_head graph bucket
  unfolding class_head
  class-head-kept kept bucket = kept (bucket % most_regions) (region-below bucket)

  pub class-link-kept : Kept class_links graph graph' → (class : ℕ) → class_link graph' class ≡ class_link graph class
  unfolding class_link
  class-link-kept kept class = kept (class % most_regions) (region-below class)

  pub source-head-kept : Kept source_heads graph graph' → (class : ℕ) → source_head graph' class ≡ source_head graph class
  unfolding source_head
  source-head-kept kept class = kept (class % most_regions) (region-below class)

  pub source-link-kept : Kept source_links graph graph' → (reset : ℕ) → source_link graph' reset ≡ source_link graph reset
  unfolding source_link
  source-link-kept kept reset = kept (reset % 61440) (mod-lt reset {m = 61440} (omega arith))

  pub region-head-kept : Kept region_heads graph graph' → (class location : ℕ)
      → region_head graph' class location ≡ region_head graph class location
  unfolding region_head
  region-head-kept kept class location = kept (bucket_of class location) (bucket-below class location)

  pub region-link-kept : Kept region_links graph graph' → (region : ℕ) → region_link graph' region ≡ region_link graph region
  unfolding region_link
  region-link-kept kept region = kept (region % most_regions) (region-below region)

  pub sources-from-kept : Kept source_links graph graph' → (steps reset : ℕ)
      → sources_from graph' steps reset ≡ sources_from graph steps reset
  unfolding sources_from
  sources-from-kept kept zero reset = refl
  sources-from-kept kept (suc steps) reset =
      ap (λ (l : List ℕ). cond (eqb reset nothing) [] (reset ∷ l))
      (ap (sources_from graph' steps) (source-link-kept kept reset) ∙ sources-from-kept kept steps (source_link graph reset))

  pub sources-kept : Kept source_heads graph graph' → Kept source_links graph graph' → (class : ℕ)
      → sources_of graph' class ≡ sources_of graph class
  unfolding sources_of
  sources-kept heads links class =
      ap (sources_from graph' 61440) (source-head-kept heads class) ∙ sources-from-kept links 61440 (source_head graph class)

  walk_kept : Kept classes graph graph' → Kept region_links graph graph' → (steps x class : ℕ)
      → walk graph' steps x class ≡ walk graph steps x class
  unfolding walk
  walk_kept same links zero x class = refl
  walk_kept same links (suc steps) x class =
      ap₂ (λ (c u : ℕ). cond (eqb x nothing) nothing (cond (eqb c class) x u)) (class-kept same x)
      (ap (λ (y : ℕ). walk graph' steps y class) (region-link-kept links x) ∙ walk_kept same links steps (region_link graph x) class)

  pub region-kept : Kept classes graph graph' → Kept region_heads graph graph' → Kept region_links graph graph' → (class location : ℕ)
      → region_at graph' class location ≡ region_at graph class location
  unfolding region_at
  region-kept same heads links class location =
      ap (λ (x : ℕ). walk graph' most_regions x class) (region-head-kept heads class location)
      ∙ walk_kept same links most_regions (region_head graph class location) class

  pub landing_kept : Kept resets graph graph' → Kept slot_keys graph graph' → Kept classes graph graph' → Kept region_heads graph graph'
      → Kept region_links graph graph' → (class slot : ℕ) → landing_of graph' class slot ≡ landing_of graph class slot
  unfolding landing_of
  landing_kept after keys same heads links class slot =
      region-kept same heads links (reset_class graph' class (slot_mask graph' slot)) (slot_target graph' slot)
      ∙ ap₂ (λ (c l : ℕ). region_at graph c l)
      (ap (reset_class graph' class) (slot-mask-kept keys slot) ∙ reset-kept after class (slot_mask graph slot))
      (slot-target-kept keys slot)
