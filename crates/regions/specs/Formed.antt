-- Well-formed regions (document 01, "Regions"): what an entry of the graph is like.
use Rattle.std.specs.Prelude.{ℕ, ◌≤◌, ◌≡◌, length, get_or}
use mathlib.Core.List.{Memᴰ}
use Rattle.clocks.specs.Cells.{Cell, Proper, NoGap}
use Rattle.clocks.specs.Packed.{over_part, unpack}
use Rattle.clocks.specs.declared.region.Bounds.{Bounds}
use Rattle.clocks.specs.declared.region.Region.{Region}

-- At most four clocks, with bounds below the byte that stands for over.
pub record Small (bounds : Bounds) : Type 0 where
  pub few : bounds.count ≤ 4
  pub low : (i : ℕ) → get_or bounds.bound i 0 ≤ 15

-- A well-formed region (document 01: "four integer parts (16 for over), four ranks (0 for over). Clocks beyond n hold 0."): its
-- clocks are over, or at most at their bounds and there with rank 0, and with a rank every smaller one from 1 on is there.
pub record Formed (bounds : Bounds) (r : Region) : Type 0 where
  pub wholes : length r.whole ≡ 4
  pub ranks : length r.rank ≡ 4
  pub over-rank : (i : ℕ) → get_or r.whole i 0 ≡ over_part → get_or r.rank i 0 ≡ 0
  pub beyond : (i : ℕ) → bounds.count ≤ i → (get_or r.whole i 0 ≡ 0) × (get_or r.rank i 0 ≡ 0)
  pub proper : (c : Cell) → Memᴰ c (unpack bounds r) → Proper c
  pub no_gap : NoGap (unpack bounds r)
