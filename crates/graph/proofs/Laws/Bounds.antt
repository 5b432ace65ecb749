-- What is read is within bounds, whatever the slices hold.
use Rattle.std.specs.Prelude.{ℕ, ◌+◌, ◌*◌, ◌-◌, ◌/◌, ◌%◌, ◌≤◌, ◌<◌, ◌≡◌, List, get_or}
use native.Mathlib.Omega.{arith}
use Rattle.std.proofs.Common.{mod-lt, ◌∙◌}
use Rattle.std.proofs.Math.Nat.{mod-eq_of_lt, div-eq_of_lt, mul-add-div, mul-add-mod_self_left}
use Rattle.std.proofs.Math.Path.{ap, ap₂}
use Rattle.graph.specs.Columns.{load, most_regions, most_locations, most_edges, most_branches, edge_starts, edge_numbers, branch_slots}
use Rattle.graph.specs.Columns.{edge_place}
use Rattle.graph.specs.Readers.{edge_start, edge_count, edge_at, branch_count, denominator_of, reset_number, reset_source}
use Rattle.graph.specs.Readers.{reset_mask}

pub edges_few : (graph : List ℕ) (location : ℕ) → edge_count graph location ≤ most_edges
unfolding edge_count
edges_few graph location =
    let less = mod-lt (load edge_starts graph (location % most_locations + 1) - edge_start graph location) {m = 129} (omega arith) in omega
    (arith, less)

pub edge-below : (graph : List ℕ) (location rank : ℕ) → edge_at graph location rank < most_edges
unfolding edge_at
edge-below graph location rank =
    mod-lt (load edge_numbers graph ((edge_start graph location + rank % most_edges) % most_edges)) {m = 128} (omega arith)

pub branches-few : (graph : List ℕ) (edge : ℕ) → branch_count graph edge ≤ most_branches
unfolding branch_count
branches-few graph edge = let less = mod-lt (load branch_slots graph (9 * (edge % most_edges))) {m = 9} (omega arith) in omega (arith, less)

pub denominator-small : (edges : List ℕ) (edge : ℕ) → denominator_of edges edge < 1073741824
unfolding denominator_of
denominator-small edges edge = mod-lt (get_or edges (edge_place edge + 1) 0) {m = 1073741824} (omega arith)

pub reset-again : (reset : ℕ) → reset < 61440 → reset_number (reset_source reset) (reset_mask reset) ≡ reset
unfolding reset_number reset_source reset_mask
reset-again reset h = omega (arith, h)

-- A reset is told by its class and its mask, and these by it.
module _ (class mask : ℕ) (hc : class < most_regions) (some : 0 < mask) (hm : mask < 16) where
  reset-number : reset_number class mask ≡ most_regions * (mask - 1) + class
  unfolding reset_number
  reset-number =
      let less : mask - 1 < 15 = omega arith in
      ap₂ (λ (a b : ℕ). most_regions * a + b) (mod-eq_of_lt less) (mod-eq_of_lt hc)

  pub reset-source : reset_source (reset_number class mask) ≡ class
  unfolding reset_source
  reset-source = ap (λ (n : ℕ). n % most_regions) reset-number ∙ mul-add-mod_self_left most_regions (mask - 1) class ∙ mod-eq_of_lt hc

  pub reset-mask : reset_mask (reset_number class mask) ≡ mask
  unfolding reset_mask
  reset-mask =
      let less : mask - 1 < 15 = omega arith in
      let none : class / most_regions ≡ 0 = div-eq_of_lt hc in
      let whole : reset_number class mask / most_regions ≡ mask - 1 =
      ap (λ (n : ℕ). n / most_regions) reset-number ∙ mul-add-div {m = most_regions} (omega arith) (mask - 1) class
      ∙ ap (λ (n : ℕ). (mask - 1) + n) none ∙ omega arith in
      ap (λ (n : ℕ). n % 15 + 1) whole ∙ ap (λ (n : ℕ). n + 1) (mod-eq_of_lt less) ∙ omega (arith, some)
