-- The two lent slices in which a graph stands. The graph slice is cut into columns of 16-bit numbers, one behind the other; the edge slice
-- has a row of 32-bit numbers for each edge.
use Rattle.std.specs.Prelude.{ℕ, ◌+◌, ◌*◌, ◌%◌, List, get_or, set}
use Rattle.graph.specs.declared.columns.Column.{Column}

-- "Nothing": what a fresh graph slice holds at every place. A place past the end of a slice that was cut short holds it too.
abbrev pub nothing : ℕ
nothing = 65535

-- The number at a place of a column: of a `Column`, which says where it begins in the slice, and how many numbers it has.
unfoldable pub load : Column → List ℕ → ℕ → ℕ
load column graph i = get_or graph (column.from + i) nothing

-- The slice with a number, modulo 65,536, stored at a place of a column. Past the end of the slice nothing is stored.
unfoldable pub store : Column → List ℕ → ℕ → ℕ → List ℕ
store column graph i v = set graph (column.from + i) (v % 65536)

-- How many there are at most: regions (and so clock classes), locations, edges, branches of an edge, slots.
abbrev pub most_regions : ℕ
most_regions = 4096

abbrev pub most_locations : ℕ
most_locations = 64

abbrev pub most_edges : ℕ
most_edges = 128

abbrev pub most_branches : ℕ
most_branches = 8

abbrev pub most_slots : ℕ
most_slots = 1024

-- ---- The layout. Every call lends the columns up to `short`.

-- The label of a location.
abbrev pub labels : Column
labels = record { from = 0; size = 64 }

-- Where the edges of a location begin in `edge_numbers`; one number more says where those of the last location end.
abbrev pub edge_starts : Column
edge_starts = record { from = 64; size = 65 }

-- The numbers of the edges, location by location, each location's in table order.
abbrev pub edge_numbers : Column
edge_numbers = record { from = 129; size = 128 }

-- The first slot of a location; one number more says where those of the last location end.
abbrev pub slot_starts : Column
slot_starts = record { from = 257; size = 65 }

-- The mask and the target of a slot: 64 times the mask, and the target.
abbrev pub slot_keys : Column
slot_keys = record { from = 322; size = 1024 }

-- For each edge how many branches it has, then their slots.
abbrev pub branch_slots : Column
branch_slots = record { from = 1346; size = 1152 }

-- The index of clock classes: the last class of a bucket, and the class before a class in its bucket.
abbrev pub class_heads : Column
class_heads = record { from = 2498; size = 4096 }

abbrev pub class_links : Column
class_links = record { from = 6594; size = 4096 }

-- The index of regions by clock class and location, alike.
abbrev pub region_heads : Column
region_heads = record { from = 10690; size = 8192 }

abbrev pub region_links : Column
region_links = record { from = 18882; size = 4096 }

-- The clock class of a region, named by the first region of the class.
abbrev pub classes : Column
classes = record { from = 22978; size = 4096 }

abbrev pub short : ℕ
short = 27074

-- The location of a region, what follows it by delay, and how many edges are available there.
abbrev pub locations : Column
locations = record { from = 27074; size = 4096 }

abbrev pub delays : Column
delays = record { from = 31170; size = 4096 }

abbrev pub available_counts : Column
available_counts = record { from = 35266; size = 4096 }

-- The available edges of a region: eight numbers with a bit for each edge of its location, by rank.
abbrev pub available : Column
available = record { from = 39362; size = 32768 }

-- The clock class after the reset of each mask, sixteen numbers for each class, and after a delay.
abbrev pub resets : Column
resets = record { from = 72130; size = 65536 }

abbrev pub class_delays : Column
class_delays = record { from = 137666; size = 4096 }

abbrev pub middle : ℕ
middle = 141762

-- The location of a slot; and the slots by mask and target: the last one, and the one before a slot.
abbrev pub slot_locations : Column
slot_locations = record { from = 141762; size = 1024 }

abbrev pub key_heads : Column
key_heads = record { from = 142786; size = 1024 }

abbrev pub key_links : Column
key_links = record { from = 143810; size = 1024 }

-- The resets backwards: the last reset that leads to a class, and the one before a reset. `reset_number` numbers them.
abbrev pub source_heads : Column
source_heads = record { from = 144834; size = 4096 }

abbrev pub source_links : Column
source_links = record { from = 148930; size = 61440 }

abbrev pub long : ℕ
long = 210370

-- ---- The edge slice: action, denominator, and the low and the high weight of each branch

abbrev pub edge_row : ℕ
edge_row = 18

-- Weights and denominators are below it.
abbrev pub weight_bound : ℕ
weight_bound = 1073741824

unfoldable pub edge_place : ℕ → ℕ
edge_place e = edge_row * (e % most_edges)
