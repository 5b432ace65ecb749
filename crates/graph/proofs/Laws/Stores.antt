-- What each writer of the graph slice leaves as it was: the length, and every column but those that it names. And, for what is read by one
-- number, that it is read back.
use Rattle.std.specs.Prelude.{ℕ, ◌+◌, ◌*◌, ◌-◌, ◌%◌, ◌<◌, ◌≡◌, refl, true, List, length}
use Rattle.std.specs.Prelude.{◌⊎◌}
use Rattle.std.proofs.Common.{arith, sym, ◌∙◌, ap, subst, inl, inr}
use Rattle.std.proofs.Math.Nat.{mod-lt}
use Rattle.graph.specs.declared.columns.Column.{Column}
use Rattle.graph.specs.Columns.{nothing, load, store, most_regions, most_locations, most_edges, most_branches, most_slots}
use Rattle.graph.specs.Columns.{labels, edge_starts, edge_numbers, slot_starts, slot_keys, branch_slots}
use Rattle.graph.specs.Columns.{class_heads, class_links, region_heads, region_links, classes, locations, delays, available_counts}
use Rattle.graph.specs.Columns.{resets, class_delays, slot_locations, key_heads, key_links, source_heads, source_links}
use Rattle.graph.specs.Readers.{label_of, delay_of, location_of, available_count, delay_class}
use Rattle.graph.specs.Readers.{key_of, key_head, reset_class, class_head, reset_number, source_head, bucket_of}
use Rattle.graph.specs.Readers.{region_head}
use Rattle.graph.specs.Writers.{with_label, with_edge_start, with_slot_start, with_edge_number, with_branch_count, with_branch_slot}
use Rattle.graph.specs.Writers.{with_slot}
use Rattle.graph.specs.Writers.{with_region, with_class, with_location, with_delay, with_available_count}
use Rattle.graph.specs.Writers.{with_class_delay, with_source, with_reset}
use Rattle.graph.proofs.Laws.Columns.{Lent, Kept, apart, kept_same, kept_then, store_length, load_stored, load-other, store_keeps}
use Rattle.graph.proofs.Laws.Latest.{decide, cases}
use Rattle.graph.proofs.Laws.Walks.{reset-known, reset-plain, reset-both}
use Rattle.graph.proofs.Laws.Index.{bucket-below}

-- Places within their columns.
pub location-below : (location : ℕ) → location % most_locations < 64
location-below location = mod-lt location {m = 64} (omega arith)

pub region-below : (region : ℕ) → region % most_regions < 4096
region-below region = mod-lt region {m = 4096} (omega arith)

pub slot-below : (slot : ℕ) → slot % most_slots < 1024
slot-below slot = mod-lt slot {m = 1024} (omega arith)

pub branch-below : (edge branch : ℕ) → 9 * (edge % most_edges) + 1 + branch % most_branches < 1152
branch-below edge branch = omega (arith, mod-lt edge {m = 128} (omega arith), mod-lt branch {m = 8} (omega arith))

pub key_below : (mask target : ℕ) → key_of mask target < 1024
unfolding key_of
key_below mask target = omega (arith, mod-lt mask {m = 16} (omega arith), mod-lt target {m = 64} (omega arith))

pub reset-below : (class mask : ℕ) → 16 * (class % most_regions) + mask % 16 < 65536
reset-below class mask = omega (arith, mod-lt class {m = 4096} (omega arith), mod-lt mask {m = 16} (omega arith))

pub number-below : (class mask : ℕ) → reset_number class mask < 61440
unfolding reset_number
number-below class mask = omega (arith, mod-lt class {m = 4096} (omega arith), mod-lt (mask - 1) {m = 15} (omega arith))

pub word_below : (region word : ℕ) → 8 * (region % most_regions) + word % 8 < 32768
word_below region word = omega (arith, mod-lt region {m = 4096} (omega arith), mod-lt word {m = 8} (omega arith))

module _ (graph : List ℕ) (location label : ℕ) where
  pub label-length : length (with_label graph location label) ≡ length graph
  unfolding with_label
  label-length = store_length labels graph (location % most_locations) label

  pub label-keeps : (other : Column) → apart labels other ≡ true → Kept other graph (with_label graph location label)
  unfolding with_label
  label-keeps other is = store_keeps labels graph (location % most_locations) label other is (location-below location)

  pub label-stored : Lent labels graph → label < 65536 → label_of (with_label graph location label) location ≡ label
  unfolding with_label label_of
  label-stored lent small = load_stored labels graph (location % most_locations) label (location-below location) lent small

  pub label-other : (other : ℕ) → (other % most_locations ≡ location % most_locations → ⊥) → label_of
      (with_label graph location label) other ≡ label_of graph other
  unfolding with_label label_of
  label-other other differs = load-other labels graph (location % most_locations) label (other % most_locations) differs

module _ (graph : List ℕ) (location start : ℕ) where
  pub edge-start-length : length (with_edge_start graph location start) ≡ length graph
  unfolding with_edge_start
  edge-start-length = store_length edge_starts graph (location % (most_locations + 1)) start

  pub edge-start-keeps : (other : Column) → apart edge_starts other ≡ true → Kept other graph (with_edge_start graph location start)
  unfolding with_edge_start
  edge-start-keeps other is = store_keeps edge_starts graph (location % (most_locations + 1)) start other is
      (mod-lt location {m = 65} (omega arith))

module _ (graph : List ℕ) (location start : ℕ) where
  pub slot-start-length : length (with_slot_start graph location start) ≡ length graph
  unfolding with_slot_start
  slot-start-length = store_length slot_starts graph (location % (most_locations + 1)) start

  pub slot-start-keeps : (other : Column) → apart slot_starts other ≡ true → Kept other graph (with_slot_start graph location start)
  unfolding with_slot_start
  slot-start-keeps other is = store_keeps slot_starts graph (location % (most_locations + 1)) start other is
      (mod-lt location {m = 65} (omega arith))

module _ (graph : List ℕ) (place edge : ℕ) where
  pub edge-number-length : length (with_edge_number graph place edge) ≡ length graph
  unfolding with_edge_number
  edge-number-length = store_length edge_numbers graph (place % most_edges) edge

  pub edge-number-keeps : (other : Column) → apart edge_numbers other ≡ true → Kept other graph (with_edge_number graph place edge)
  unfolding with_edge_number
  edge-number-keeps other is = store_keeps edge_numbers graph (place % most_edges) edge other is (mod-lt place {m = 128} (omega arith))

module _ (graph : List ℕ) (edge count : ℕ) where
  pub branch-count-length : length (with_branch_count graph edge count) ≡ length graph
  unfolding with_branch_count
  branch-count-length = store_length branch_slots graph (9 * (edge % most_edges)) count

  pub branch-count-keeps : (other : Column) → apart branch_slots other ≡ true → Kept other graph (with_branch_count graph edge count)
  unfolding with_branch_count
  branch-count-keeps other is = store_keeps branch_slots graph (9 * (edge % most_edges)) count other is
      (omega (arith, mod-lt edge {m = 128} (omega arith)))

module _ (graph : List ℕ) (edge branch slot : ℕ) where
  pub branch-slot-length : length (with_branch_slot graph edge branch slot) ≡ length graph
  unfolding with_branch_slot
  branch-slot-length = store_length branch_slots graph (9 * (edge % most_edges) + 1 + branch % most_branches) slot

  pub branch-slot-keeps : (other : Column) → apart branch_slots other ≡ true → Kept other graph (with_branch_slot graph edge branch slot)
  unfolding with_branch_slot
  branch-slot-keeps other is = store_keeps branch_slots graph (9 * (edge % most_edges) + 1 + branch % most_branches) slot other is
      (branch-below edge branch)

module _ (graph : List ℕ) (region location : ℕ) where
  pub location-length : length (with_location graph region location) ≡ length graph
  unfolding with_location
  location-length = store_length locations graph (region % most_regions) location

  pub location-keeps : (other : Column) → apart locations other ≡ true → Kept other graph (with_location graph region location)
  unfolding with_location
  location-keeps other is = store_keeps locations graph (region % most_regions) location other is (region-below region)

  pub location-stored : Lent locations graph → location < 65536 → location_of (with_location graph region location) region ≡ location
  unfolding with_location location_of
  location-stored lent small = load_stored locations graph (region % most_regions) location (region-below region) lent small

  pub location-other : (other : ℕ) → (other % most_regions ≡ region % most_regions → ⊥) → location_of
      (with_location graph region location) other ≡ location_of graph other
  unfolding with_location location_of
  location-other other differs = load-other locations graph (region % most_regions) location (other % most_regions) differs

module _ (graph : List ℕ) (region next : ℕ) where
  pub delay-length : length (with_delay graph region next) ≡ length graph
  unfolding with_delay
  delay-length = store_length delays graph (region % most_regions) next

  pub delay-keeps : (other : Column) → apart delays other ≡ true → Kept other graph (with_delay graph region next)
  unfolding with_delay
  delay-keeps other is = store_keeps delays graph (region % most_regions) next other is (region-below region)

  pub delay-stored : Lent delays graph → next < 65536 → delay_of (with_delay graph region next) region ≡ next
  unfolding with_delay delay_of
  delay-stored lent small = load_stored delays graph (region % most_regions) next (region-below region) lent small

  pub delay-other : (other : ℕ) → (other % most_regions ≡ region % most_regions → ⊥) → delay_of
      (with_delay graph region next) other ≡ delay_of graph other
  unfolding with_delay delay_of
  delay-other other differs = load-other delays graph (region % most_regions) next (other % most_regions) differs

module _ (graph : List ℕ) (region count : ℕ) where
  pub available-count-length : length (with_available_count graph region count) ≡ length graph
  unfolding with_available_count
  available-count-length = store_length available_counts graph (region % most_regions) count

  pub available-count-keeps : (other : Column) → apart available_counts other ≡ true → Kept other graph
      (with_available_count graph region count)
  unfolding with_available_count
  available-count-keeps other is = store_keeps available_counts graph (region % most_regions) count other is (region-below region)

  pub available-count-stored : Lent available_counts graph → count < 65536 → available_count
      (with_available_count graph region count) region ≡ count
  unfolding with_available_count available_count
  available-count-stored lent small = load_stored available_counts graph (region % most_regions) count (region-below region) lent small

  pub available-count-other : (other : ℕ) → (other % most_regions ≡ region % most_regions → ⊥) → available_count
      (with_available_count graph region count) other ≡ available_count graph other
  unfolding with_available_count available_count
  available-count-other other differs = load-other available_counts graph (region % most_regions) count (other % most_regions) differs

module _ (graph : List ℕ) (class after : ℕ) where
  pub class-delay-length : length (with_class_delay graph class after) ≡ length graph
  unfolding with_class_delay
  class-delay-length = store_length class_delays graph (class % most_regions) after

  pub class-delay-keeps : (other : Column) → apart class_delays other ≡ true → Kept other graph (with_class_delay graph class after)
  unfolding with_class_delay
  class-delay-keeps other is = store_keeps class_delays graph (class % most_regions) after other is (region-below class)

  pub class-delay-stored : Lent class_delays graph → after < 65536 → delay_class (with_class_delay graph class after) class ≡ after
  unfolding with_class_delay delay_class
  class-delay-stored lent small = load_stored class_delays graph (class % most_regions) after (region-below class) lent small

  pub class-delay-other : (other : ℕ) → (other % most_regions ≡ class % most_regions → ⊥) → delay_class
      (with_class_delay graph class after) other ≡ delay_class graph other
  unfolding with_class_delay delay_class
  class-delay-other other differs = load-other class_delays graph (class % most_regions) after (other % most_regions) differs

module _ (graph : List ℕ) (slot location mask target : ℕ) where
  pub slot-length : length (with_slot graph slot location mask target) ≡ length graph
  unfolding with_slot
  slot-length =
      store_length key_heads _ (key_of mask target) slot ∙ store_length key_links _ (slot % most_slots) (key_head graph mask target)
      ∙ store_length slot_locations _ (slot % most_slots) location ∙ store_length slot_keys graph (slot % most_slots) (key_of mask target)

  pub slot-keeps : (other : Column) → apart slot_keys other ≡ true → apart slot_locations other ≡ true → apart key_links other ≡ true
      → apart key_heads other ≡ true → Kept other graph (with_slot graph slot location mask target)
  unfolding with_slot
  slot-keeps other a b c d i h =
      store_keeps key_heads _ (key_of mask target) slot other d (key_below mask target) i h
      ∙ store_keeps key_links _ (slot % most_slots) (key_head graph mask target) other c (slot-below slot) i h
      ∙ store_keeps slot_locations _ (slot % most_slots) location other b (slot-below slot) i h
      ∙ store_keeps slot_keys graph (slot % most_slots) (key_of mask target) other a (slot-below slot) i h

module _ (graph : List ℕ) (region class location : ℕ) where
  pub region-length : length (with_region graph region class location) ≡ length graph
  unfolding with_region
  region-length =
      store_length region_heads _ (bucket_of class location) region
      ∙ store_length region_links _ (region % most_regions) (region_head graph class location)
      ∙ store_length classes graph (region % most_regions) class

  pub region-keeps : (other : Column) → apart classes other ≡ true → apart region_links other ≡ true → apart region_heads other ≡ true
      → Kept other graph (with_region graph region class location)
  unfolding with_region
  region-keeps other a b c i h =
      store_keeps region_heads _ (bucket_of class location) region other c (bucket-below class location) i h
      ∙ store_keeps region_links _ (region % most_regions) (region_head graph class location) other b (region-below region) i h
      ∙ store_keeps classes graph (region % most_regions) class other a (region-below region) i h

module _ (graph : List ℕ) (bucket class : ℕ) where
  pub class-length : length (with_class graph bucket class) ≡ length graph
  unfolding with_class
  class-length =
      store_length class_heads _ (bucket % most_regions) class
      ∙ store_length class_links graph (class % most_regions) (class_head graph bucket)

  pub class-keeps : (other : Column) → apart class_links other ≡ true → apart class_heads other ≡ true
      → Kept other graph (with_class graph bucket class)
  unfolding with_class
  class-keeps other a b i h =
      store_keeps class_heads _ (bucket % most_regions) class other b (region-below bucket) i h
      ∙ store_keeps class_links graph (class % most_regions) (class_head graph bucket) other a (region-below class) i h

module _ (graph : List ℕ) (class mask after : ℕ) where
  pub source-length : length (with_source graph class mask after) ≡ length graph
  unfolding with_source
  source-length =
      store_length source_heads _ (after % most_regions) (reset_number class mask)
      ∙ store_length source_links graph (reset_number class mask) (source_head graph after)

  pub source_keeps : (other : Column) → apart source_links other ≡ true → apart source_heads other ≡ true
      → Kept other graph (with_source graph class mask after)
  unfolding with_source
  source_keeps other a b i h =
      store_keeps source_heads _ (after % most_regions) (reset_number class mask) other b (region-below after) i h
      ∙ store_keeps source_links graph (reset_number class mask) (source_head graph after) other a (number-below class mask) i h

class-is : (class mask : ℕ) (graph : List ℕ) (k : ℕ) → load resets graph (16 * (class % most_regions) + mask % 16) ≡ k
    → reset_class graph class mask ≡ k
unfolding reset_class
class-is class mask graph k e = e

-- A reset that was not known: it is now, and every other reset stays; the columns of the way back change too.
module _ (graph : List ℕ) (class mask after : ℕ) where
  reset-ways : (P : List ℕ → Type 0) → P graph → P (store resets graph (16 * (class % most_regions) + mask % 16) after)
      → P (with_source (store resets graph (16 * (class % most_regions) + mask % 16) after) class (mask % 16) after)
      → P (with_reset graph class mask after)
  reset-ways P old plain new = go (decide (reset_class graph class mask) nothing) (decide (mask % 16) 0)
    where
      go : (reset_class graph class mask ≡ nothing) ⊎ (reset_class graph class mask ≡ nothing → ⊥) → (mask % 16 ≡ 0) ⊎ (mask % 16 ≡ 0 → ⊥)
          → P (with_reset graph class mask after)
      go (inr known) m = subst P (sym (reset-known graph class mask after known)) old
      go (inl fresh) (inl m) = subst P (sym (reset-plain graph class mask after fresh m)) plain
      go (inl fresh) (inr m) = subst P (sym (reset-both graph class mask after fresh m)) new

  pub reset-length : length (with_reset graph class mask after) ≡ length graph
  reset-length =
      reset-ways (λ (g : List ℕ). length g ≡ length graph) refl (store_length resets graph (16 * (class % most_regions) + mask % 16) after)
      (source-length (store resets graph (16 * (class % most_regions) + mask % 16) after) class (mask % 16) after
      ∙ store_length resets graph (16 * (class % most_regions) + mask % 16) after)

  pub reset-keeps : (other : Column) → apart resets other ≡ true → apart source_links other ≡ true → apart source_heads other ≡ true
      → Kept other graph (with_reset graph class mask after)
  reset-keeps other a b c =
      reset-ways (λ (g : List ℕ). Kept other graph g) (kept_same other graph)
      (store_keeps resets graph (16 * (class % most_regions) + mask % 16) after other a (reset-below class mask))
      (kept_then other graph (store resets graph (16 * (class % most_regions) + mask % 16) after)
      (with_source (store resets graph (16 * (class % most_regions) + mask % 16) after) class (mask % 16) after)
      (store_keeps resets graph (16 * (class % most_regions) + mask % 16) after other a (reset-below class mask))
      (source_keeps (store resets graph (16 * (class % most_regions) + mask % 16) after) class (mask % 16) after other b c))

  place_other : (place : ℕ) → place < 65536 → (place ≡ 16 * (class % most_regions) + mask % 16 → ⊥)
      → load resets (with_reset graph class mask after) place ≡ load resets graph place
  place_other place h differs =
      let first = load-other resets graph (16 * (class % most_regions) + mask % 16) after place differs in
      reset-ways (λ (g : List ℕ). load resets g place ≡ load resets graph place) refl first
      (source_keeps (store resets graph (16 * (class % most_regions) + mask % 16) after) class (mask % 16) after resets refl refl place h
      ∙ first)

  pub reset-other : (other by : ℕ) → ((other % most_regions ≡ class % most_regions) × (by % 16 ≡ mask % 16) → ⊥)
      → reset_class (with_reset graph class mask after) other by ≡ reset_class graph other by
  unfolding reset_class
  reset-other other by differs =
      place_other (16 * (other % most_regions) + by % 16) (reset-below other by)
      (λ e. away e (cases (other % most_regions) (class % most_regions)))
    where
      away : 16 * (other % most_regions) + by % 16 ≡ 16 * (class % most_regions) + mask % 16
          → (other % most_regions < class % most_regions)
          ⊎ ((other % most_regions ≡ class % most_regions) ⊎ (class % most_regions < other % most_regions)) → ⊥
      away e (inl h) = absurd (omega (arith, e, h, mod-lt by {m = 16} (omega arith)))
      away e (inr (inl h)) = differs (h, omega (arith, e, h))
      away e (inr (inr h)) = absurd (omega (arith, e, h, mod-lt mask {m = 16} (omega arith)))

  pub reset-stored : reset_class graph class mask ≡ nothing → Lent resets graph → after < 65536 → reset_class
      (with_reset graph class mask after) class mask ≡ after
  reset-stored fresh lent small = go (decide (mask % 16) 0)
    where
      stored : load resets (store resets graph (16 * (class % most_regions) + mask % 16) after)
          (16 * (class % most_regions) + mask % 16) ≡ after
      stored = load_stored resets graph (16 * (class % most_regions) + mask % 16) after (reset-below class mask) lent small

      go : (mask % 16 ≡ 0) ⊎ (mask % 16 ≡ 0 → ⊥) → reset_class (with_reset graph class mask after) class mask ≡ after
      go (inl m) = ap (λ (g : List ℕ). reset_class g class mask) (reset-plain graph class mask after fresh m)
          ∙ class-is class mask _ after stored
      go (inr m) =
          ap (λ (g : List ℕ). reset_class g class mask) (reset-both graph class mask after fresh m)
          ∙ class-is class mask (with_source (store resets graph (16 * (class % most_regions) + mask % 16) after) class
          (mask % 16) after) after
          (source_keeps (store resets graph (16 * (class % most_regions) + mask % 16) after) class (mask % 16) after resets refl refl
          (16 * (class % most_regions) + mask % 16) (reset-below class mask) ∙ stored)

  -- A class that is known stays.
  pub reset-stays : (reset_class graph class mask ≡ nothing → ⊥) → with_reset graph class mask after ≡ graph
  reset-stays = reset-known graph class mask after
