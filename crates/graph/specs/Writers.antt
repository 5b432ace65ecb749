-- What the writers leave: total too. Each stores to the columns that it names, and to nothing else.
use Rattle.std.specs.Prelude.{ℕ, zero, suc, ◌+◌, ◌*◌, ◌/◌, ◌%◌, ◌^◌, cond, List, set, eqb}
use Rattle.std.specs.Int.Bits.{bit_or}
use Rattle.graph.specs.Columns.{nothing, store, most_regions, most_locations, most_edges, most_branches, most_slots, edge_place}
use Rattle.graph.specs.Columns.{labels, edge_starts, edge_numbers, slot_starts, slot_keys, branch_slots}
use Rattle.graph.specs.Columns.{class_heads, class_links, region_heads, region_links, classes, locations, delays, available_counts}
use Rattle.graph.specs.Columns.{available}
use Rattle.graph.specs.Columns.{resets, class_delays, slot_locations, key_heads, key_links, source_heads, source_links}
use Rattle.graph.specs.Readers.{key_of, key_head, available_word, reset_class, class_head, reset_number, source_head, bucket_of}
use Rattle.graph.specs.Readers.{region_head}

-- ---- The prepared model

unfoldable pub with_label : List ℕ → (location label : ℕ) → List ℕ
with_label graph location label = store labels graph (location % most_locations) label

-- Where the edges, and the slots, of a location begin: of location 64 where those of the last one end.
unfoldable pub with_edge_start : List ℕ → (location start : ℕ) → List ℕ
with_edge_start graph location start = store edge_starts graph (location % (most_locations + 1)) start

unfoldable pub with_slot_start : List ℕ → (location start : ℕ) → List ℕ
with_slot_start graph location start = store slot_starts graph (location % (most_locations + 1)) start

unfoldable pub with_edge_number : List ℕ → (place edge : ℕ) → List ℕ
with_edge_number graph place edge = store edge_numbers graph (place % most_edges) edge

unfoldable pub with_branch_count : List ℕ → (edge count : ℕ) → List ℕ
with_branch_count graph edge count = store branch_slots graph (9 * (edge % most_edges)) count

unfoldable pub with_branch_slot : List ℕ → (edge branch slot : ℕ) → List ℕ
with_branch_slot graph edge branch slot = store branch_slots graph (9 * (edge % most_edges) + 1 + branch % most_branches) slot

-- A slot of a location with its mask and target, now the last with these.
unfoldable pub with_slot : List ℕ → (slot location mask target : ℕ) → List ℕ
with_slot graph slot location mask target =
    store key_heads (store key_links (store slot_locations (store slot_keys graph (slot % most_slots) (key_of mask target))
    (slot % most_slots) location) (slot % most_slots) (key_head graph mask target)) (key_of mask target) slot

unfoldable pub with_edge : List ℕ → (edge action denominator : ℕ) → List ℕ
with_edge edges edge action denominator =
    set (set edges (edge_place edge) (action % 4294967296)) (edge_place edge + 1) (denominator % 4294967296)

unfoldable pub with_weight : List ℕ → (edge branch low high : ℕ) → List ℕ
with_weight edges edge branch low high =
    set (set edges (edge_place edge + (2 + 2 * (branch % most_branches))) (low % 4294967296))
    (edge_place edge + (3 + 2 * (branch % most_branches))) (high % 4294967296)

-- ---- What exploring finds

-- A region with its class, now the last of its bucket.
unfoldable pub with_region : List ℕ → (region class location : ℕ) → List ℕ
with_region graph region class location =
    store region_heads (store region_links (store classes graph (region % most_regions) class)
    (region % most_regions) (region_head graph class location)) (bucket_of class location) region

-- A clock class, now the last of a bucket.
unfoldable pub with_class : List ℕ → (bucket class : ℕ) → List ℕ
with_class graph bucket class =
    store class_heads (store class_links graph (class % most_regions) (class_head graph bucket)) (bucket % most_regions) class

unfoldable pub with_location : List ℕ → (region location : ℕ) → List ℕ
with_location graph region location = store locations graph (region % most_regions) location

unfoldable pub with_delay : List ℕ → (region next : ℕ) → List ℕ
with_delay graph region next = store delays graph (region % most_regions) next

unfoldable pub with_available_count : List ℕ → (region count : ℕ) → List ℕ
with_available_count graph region count = store available_counts graph (region % most_regions) count

-- No edge is available at a region: the first words are 0.
unfoldable pub cleared_words : List ℕ → (region words : ℕ) → List ℕ
cleared_words graph region zero = graph
cleared_words graph region (suc words) = store available (cleared_words graph region words) (8 * (region % most_regions) + words) 0

unfoldable pub with_none_available : List ℕ → (region : ℕ) → List ℕ
with_none_available graph region = cleared_words graph region 8

-- The edge of a rank is available.
unfoldable pub with_available : List ℕ → (region rank : ℕ) → List ℕ
with_available graph region rank =
    store available graph (8 * (region % most_regions) + rank / 16 % 8) (bit_or (available_word graph region (rank / 16)) (2 ^ (rank % 16)))

unfoldable pub with_class_delay : List ℕ → (class after : ℕ) → List ℕ
with_class_delay graph class after = store class_delays graph (class % most_regions) after

-- The reset of a class by a mask, now the last that leads to the class after it.
unfoldable pub with_source : List ℕ → (class mask after : ℕ) → List ℕ
with_source graph class mask after =
    store source_heads (store source_links graph (reset_number class mask) (source_head graph after))
    (after % most_regions) (reset_number class mask)

-- The class after a reset, noted both ways unless it is known already. A mask of 0 leads from each class to itself: it has no way back.
unfoldable pub with_reset : List ℕ → (class mask after : ℕ) → List ℕ
with_reset graph class mask after =
    cond (eqb (reset_class graph class mask) nothing)
    (cond (eqb (mask % 16) 0) (store resets graph (16 * (class % most_regions) + mask % 16) after)
    (with_source (store resets graph (16 * (class % most_regions) + mask % 16) after) class (mask % 16) after))
    graph
