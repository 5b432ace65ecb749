-- What the readers read: total, for all numbers and all contents of the slices. Numbers that are too large are taken modulo what there may
-- be at most.
use Rattle.std.specs.Prelude.{ℕ, zero, suc, ◌+◌, ◌*◌, ◌-◌, ◌/◌, ◌%◌, ◌^◌, Bool, cond, List, [], ◌∷◌, get_or, eqb}
use Rattle.graph.specs.Columns.{nothing, load, most_regions, most_locations, most_edges, most_branches, most_slots, weight_bound}
use Rattle.graph.specs.Columns.{edge_place}
use Rattle.graph.specs.Columns.{labels, edge_starts, edge_numbers, slot_starts, slot_keys, branch_slots}
use Rattle.graph.specs.Columns.{class_heads, class_links, region_heads, region_links, classes, locations, delays, available_counts}
use Rattle.graph.specs.Columns.{available}
use Rattle.graph.specs.Columns.{resets, class_delays, slot_locations, key_heads, key_links, source_heads, source_links}

-- ---- Of a location

unfoldable pub label_of : List ℕ → (location : ℕ) → ℕ
label_of graph location = load labels graph (location % most_locations)

-- Where the edges of a location begin, how many there are, and the edge of a rank among them.
unfoldable pub edge_start : List ℕ → (location : ℕ) → ℕ
edge_start graph location = load edge_starts graph (location % most_locations)

unfoldable pub edge_count : List ℕ → (location : ℕ) → ℕ
edge_count graph location = (load edge_starts graph (location % most_locations + 1) - edge_start graph location) % (most_edges + 1)

unfoldable pub edge_at : List ℕ → (location rank : ℕ) → ℕ
edge_at graph location rank = load edge_numbers graph ((edge_start graph location + rank % most_edges) % most_edges) % most_edges

unfoldable pub slot_start : List ℕ → (location : ℕ) → ℕ
slot_start graph location = load slot_starts graph (location % most_locations)

unfoldable pub slot_count : List ℕ → (location : ℕ) → ℕ
slot_count graph location = (load slot_starts graph (location % most_locations + 1) - slot_start graph location) % (most_slots + 1)

-- ---- Of a slot

unfoldable pub slot_mask : List ℕ → (slot : ℕ) → ℕ
slot_mask graph slot = load slot_keys graph (slot % most_slots) / 64 % 16

unfoldable pub slot_target : List ℕ → (slot : ℕ) → ℕ
slot_target graph slot = load slot_keys graph (slot % most_slots) % most_locations

unfoldable pub slot_location : List ℕ → (slot : ℕ) → ℕ
slot_location graph slot = load slot_locations graph (slot % most_slots)

-- A mask and a target as one number.
unfoldable pub key_of : (mask target : ℕ) → ℕ
key_of mask target = 64 * (mask % 16) + target % most_locations

-- The last slot with a mask and a target, and the one before a slot.
unfoldable pub key_head : List ℕ → (mask target : ℕ) → ℕ
key_head graph mask target = load key_heads graph (key_of mask target)

unfoldable pub key_link : List ℕ → (slot : ℕ) → ℕ
key_link graph slot = load key_links graph (slot % most_slots)

-- What is met from a number on along links. (Any slice may hold a cycle: the walk has so many steps.)
unfoldable pub along : (link : ℕ → ℕ) → (steps x : ℕ) → List ℕ
along link zero x = []
along link (suc steps) x = cond (eqb x nothing) [] (x ∷ along link steps (link x))

-- The slots with a mask and a target, the last one first.
unfoldable pub keys_of : List ℕ → (mask target : ℕ) → List ℕ
keys_of graph mask target = along (key_link graph) most_slots (key_head graph mask target)

-- ---- Of an edge

unfoldable pub branch_count : List ℕ → (edge : ℕ) → ℕ
branch_count graph edge = load branch_slots graph (9 * (edge % most_edges)) % (most_branches + 1)

unfoldable pub branch_slot : List ℕ → (edge branch : ℕ) → ℕ
branch_slot graph edge branch = load branch_slots graph (9 * (edge % most_edges) + 1 + branch % most_branches) % most_slots

unfoldable pub action_of : List ℕ → (edge : ℕ) → ℕ
action_of edges edge = get_or edges (edge_place edge) 0

unfoldable pub denominator_of : List ℕ → (edge : ℕ) → ℕ
denominator_of edges edge = get_or edges (edge_place edge + 1) 0 % weight_bound

unfoldable pub low_of : List ℕ → (edge branch : ℕ) → ℕ
low_of edges edge branch = get_or edges (edge_place edge + (2 + 2 * (branch % most_branches))) 0 % weight_bound

unfoldable pub high_of : List ℕ → (edge branch : ℕ) → ℕ
high_of edges edge branch = get_or edges (edge_place edge + (3 + 2 * (branch % most_branches))) 0 % weight_bound

-- ---- Of a region

unfoldable pub class_of : List ℕ → (region : ℕ) → ℕ
class_of graph region = load classes graph (region % most_regions)

unfoldable pub location_of : List ℕ → (region : ℕ) → ℕ
location_of graph region = load locations graph (region % most_regions)

unfoldable pub delay_of : List ℕ → (region : ℕ) → ℕ
delay_of graph region = load delays graph (region % most_regions)

unfoldable pub available_count : List ℕ → (region : ℕ) → ℕ
available_count graph region = load available_counts graph (region % most_regions)

-- The number that has the bits of sixteen ranks.
unfoldable pub available_word : List ℕ → (region word : ℕ) → ℕ
available_word graph region word = load available graph (8 * (region % most_regions) + word % 8)

-- Bit k of a number.
unfoldable pub bit_of : (word k : ℕ) → Bool
bit_of word k = eqb (word / 2 ^ k % 2) 1

-- Is the edge of a rank available?
unfoldable pub is_available : List ℕ → (region rank : ℕ) → Bool
is_available graph region rank = bit_of (available_word graph region (rank / 16)) (rank % 16)

-- ---- Of a clock class

unfoldable pub reset_class : List ℕ → (class mask : ℕ) → ℕ
reset_class graph class mask = load resets graph (16 * (class % most_regions) + mask % 16)

unfoldable pub delay_class : List ℕ → (class : ℕ) → ℕ
delay_class graph class = load class_delays graph (class % most_regions)

unfoldable pub class_head : List ℕ → (bucket : ℕ) → ℕ
class_head graph bucket = load class_heads graph (bucket % most_regions)

unfoldable pub class_link : List ℕ → (class : ℕ) → ℕ
class_link graph class = load class_links graph (class % most_regions)

-- The reset of a class by a mask from 1 to 15, as a number below 61,440.
unfoldable pub reset_number : (class mask : ℕ) → ℕ
reset_number class mask = most_regions * ((mask - 1) % 15) + class % most_regions

-- The class and the mask of a reset.
unfoldable pub reset_source : (reset : ℕ) → ℕ
reset_source reset = reset % most_regions

unfoldable pub reset_mask : (reset : ℕ) → ℕ
reset_mask reset = reset / most_regions % 15 + 1

-- The last reset that leads to a class, and the one before a reset.
unfoldable pub source_head : List ℕ → (class : ℕ) → ℕ
source_head graph class = load source_heads graph (class % most_regions)

unfoldable pub source_link : List ℕ → (reset : ℕ) → ℕ
source_link graph reset = load source_links graph (reset % 61440)

-- The resets that lead to a class, from one on along the links, and all of them. (Any slice may hold a cycle: the walk has so many steps.)
unfoldable pub sources_from : List ℕ → (steps reset : ℕ) → List ℕ
sources_from graph zero reset = []
sources_from graph (suc steps) reset = cond (eqb reset nothing) [] (reset ∷ sources_from graph steps (source_link graph reset))

unfoldable pub sources_of : List ℕ → (class : ℕ) → List ℕ
sources_of graph class = sources_from graph 61440 (source_head graph class)

-- ---- The region of a clock class and a location, by its bucket

-- In one bucket the class tells the location (`bucket-tells`).
unfoldable pub bucket_of : (class location : ℕ) → ℕ
bucket_of class location = (class % 8192 + 1021 * (location % most_locations)) % 8192

unfoldable pub region_head : List ℕ → (class location : ℕ) → ℕ
region_head graph class location = load region_heads graph (bucket_of class location)

unfoldable pub region_link : List ℕ → (region : ℕ) → ℕ
region_link graph region = load region_links graph (region % most_regions)

-- The first region from x on, along the links, that has a class. (Any slice may hold a cycle: the walk has so many steps.)
unfoldable pub walk : List ℕ → (steps x class : ℕ) → ℕ
walk graph zero x class = nothing
walk graph (suc steps) x class =
    cond (eqb x nothing) nothing (cond (eqb (class_of graph x) class) x (walk graph steps (region_link graph x) class))

unfoldable pub region_at : List ℕ → (class location : ℕ) → ℕ
region_at graph class location = walk graph most_regions (region_head graph class location) class

-- Where a slot leads from the regions of a class: "target" with the clocks after the reset.
unfoldable pub landing_of : List ℕ → (class slot : ℕ) → ℕ
landing_of graph class slot = region_at graph (reset_class graph class (slot_mask graph slot)) (slot_target graph slot)
