-- A region as the code holds it (document 01: "An entry is nine bytes: location, four integer parts (16 for over), four ranks (0
-- for over). Clocks beyond n hold 0."), and the cells that it stands for.
use Rattle.std.specs.Prelude.{ℕ, ◌<◌, ◌≤◌, min, ◌≡◌, refl, Bool, true, false, cond, ◌&&◌, ◌||◌, List, [], ◌∷◌, map}
use Rattle.std.specs.Prelude.{eqb, ltb, get_or, Option, Some, None}
use Rattle.std.specs.List.{list_all, list_any}
use Rattle.std.proofs.Common.{◌∙◌}
use Rattle.std.proofs.Math.Path.{sym, ap}
use borrow.Author.Tests.{eq-eqb, ne_eqb, lt-ltb, le-ltb}
use Rattle.clocks.specs.Cells.{Cell, over, at, close, restarted, reset, is_over, standing, leaving, all, some, leave, highest}
use Rattle.clocks.specs.Cells.{arrive, Follow, nothing, cells, delay, delay-nothing, delay-leaves, delay-arrives}
use Rattle.clocks.specs.declared.clock.Clock.{Clock}
use Rattle.clocks.specs.declared.region.Region.{Region}
use Rattle.clocks.specs.declared.region.Bounds.{Bounds}

-- The integer part of an entry that stands for over.
abbrev pub over_part : ℕ
over_part = 16

-- One clock of the code as a cell, and back. A number that is no byte is kept at 255; no region of a model has one.
abbrev pub cell_of : Clock → Cell
cell_of k = cond (eqb k.whole over_part) (over k.bound) (at k.bound k.whole k.rank)

abbrev pub clock_of : Cell → Clock
clock_of (over m) = record { bound = m; whole = over_part; rank = 0 }
clock_of (at m w f) = record { bound = m; whole = min w 255; rank = min f 255 }

abbrev pub cells_of : List Clock → List Cell
cells_of ks = map cell_of ks

-- Four clocks. Where there are fewer cells, the others count as over.
abbrev pub four_of : List Cell → List Clock
four_of cs =
    clock_of (get_or cs 0 (over 0)) ∷ clock_of (get_or cs 1 (over 0))
    ∷ clock_of (get_or cs 2 (over 0)) ∷ clock_of (get_or cs 3 (over 0)) ∷ []

-- A clock that takes no part: it counts as over.
abbrev pub no_clock : Clock
no_clock = record { bound = 0; whole = over_part; rank = 0 }

-- Clock i of a region with these bounds. A clock beyond the count takes no part.
unfoldable pub clock_at : Bounds → Region → ℕ → Clock
clock_at bounds r i =
    cond (ltb i bounds.count) (record { bound = get_or bounds.bound i 0; whole = get_or r.whole i 0; rank = get_or r.rank i 0 })
    no_clock

abbrev pub four_at : Bounds → Region → List Clock
four_at bounds r = clock_at bounds r 0 ∷ clock_at bounds r 1 ∷ clock_at bounds r 2 ∷ clock_at bounds r 3 ∷ []

abbrev pub unpack : Bounds → Region → List Cell
unpack bounds r = cells_of (four_at bounds r)

-- A byte of clock i, and 0 beyond the count.
abbrev pub byte_at : ℕ → ℕ → ℕ → ℕ
byte_at count i x = cond (ltb i count) x 0

-- The bytes of four clocks, and the region of these.
module _ (count : ℕ) (ks : List Clock) where
  abbrev pub wholes : List ℕ
  wholes =
      byte_at count 0 (get_or ks 0 no_clock).whole ∷ byte_at count 1 (get_or ks 1 no_clock).whole
      ∷ byte_at count 2 (get_or ks 2 no_clock).whole ∷ byte_at count 3 (get_or ks 3 no_clock).whole ∷ []

  abbrev pub ranks : List ℕ
  ranks =
      byte_at count 0 (get_or ks 0 no_clock).rank ∷ byte_at count 1 (get_or ks 1 no_clock).rank
      ∷ byte_at count 2 (get_or ks 2 no_clock).rank ∷ byte_at count 3 (get_or ks 3 no_clock).rank ∷ []

abbrev pub region_of : Bounds → ℕ → List Clock → Region
region_of bounds location ks = record { location = location; whole = wholes bounds.count ks; rank = ranks bounds.count ks }

-- The region with these cells at a location.
abbrev pub pack : Bounds → ℕ → List Cell → Region
pack bounds location cs = region_of bounds location (four_of cs)

-- What follows a region, as the code gives it.
abbrev pub moved_to : Bounds → Region → Follow → Option Region
moved_to bounds r nothing = None
moved_to bounds r (cells cs) = Some (pack bounds r.location cs)

-- The region that follows by delay, and the region after a reset.
unfoldable pub delayed : Bounds → Region → Option Region
delayed bounds r = moved_to bounds r (delay (unpack bounds r))

unfoldable pub after_reset : Bounds → Region → ℕ → Region
after_reset bounds r mask = pack bounds r.location (reset mask (unpack bounds r))

-- Laws for the code: which cell a clock is, by whether it is over.

pub cell-over : (k : Clock) → k.whole ≡ over_part → cell_of k ≡ over k.bound
cell-over k e = ap (λ b. cond b (over k.bound) (at k.bound k.whole k.rank)) (eq-eqb k.whole over_part e)

pub cell_at : (k : Clock) → (k.whole ≡ over_part → ⊥) → cell_of k ≡ at k.bound k.whole k.rank
cell_at k e = ap (λ b. cond b (over k.bound) (at k.bound k.whole k.rank)) (ne_eqb k.whole over_part e)

module _ (bounds : Bounds) (r : Region) where
  pub clock-within : (i b w f : ℕ) → i < bounds.count → b ≡ get_or bounds.bound i 0 → w ≡ get_or r.whole i 0 → f ≡ get_or r.rank i 0
      → record { bound = b; whole = w; rank = f } ≡ clock_at bounds r i
  unfolding clock_at
  clock-within i b w f h eb ew ef = rw (eb, ew, ef, lt-ltb i bounds.count h)

  pub clock-beyond : (i : ℕ) → bounds.count ≤ i → no_clock ≡ clock_at bounds r i
  unfolding clock_at
  clock-beyond i h = rw (le-ltb i bounds.count h)

-- What the code finds by its tests of the clocks holds of their cells.
pub all-cells : (p : Cell → Bool) (ks : List Clock) → list_all (λ k. p (cell_of k)) ks ≡ all p (cells_of ks)
all-cells p [] = refl
all-cells p (k ∷ ks) = ap (λ b. p (cell_of k) && b) (all-cells p ks)

pub some-cells : (p : Cell → Bool) (ks : List Clock) → list_any (λ k. p (cell_of k)) ks ≡ some p (cells_of ks)
some-cells p [] = refl
some-cells p (k ∷ ks) = ap (λ b. p (cell_of k) || b) (some-cells p ks)

-- The steps of the code, put together.
module _ (bounds : Bounds) (r : Region) (f : List Clock) (taken : f ≡ four_at bounds r) where
  pub moved_nothing : all is_over (cells_of f) ≡ true → None ≡ delayed bounds r
  unfolding delayed
  moved_nothing e = sym (ap (moved_to bounds r) (ap (λ k. delay (cells_of k)) (sym taken) ∙ delay-nothing (cells_of f) e))

  module _ (g : List Clock) (q : Region) (packed : q ≡ region_of bounds r.location g) where
    moved : (cs : List Cell) → g ≡ four_of cs → delay (cells_of f) ≡ cells cs → Some q ≡ delayed bounds r
    unfolding delayed
    moved cs e d =
        ap Some (packed ∙ ap (region_of bounds r.location) e) ∙ sym (ap (moved_to bounds r) (ap (λ k. delay (cells_of k)) (sym taken) ∙ d))

    pub moved-leaves : all is_over (cells_of f) ≡ false → some standing (cells_of f) ≡ true
        → g ≡ four_of (map (leave (some leaving (cells_of f))) (cells_of f)) → Some q ≡ delayed bounds r
    moved-leaves e s l = moved _ l (delay-leaves (cells_of f) e s)

    pub moved-arrives : all is_over (cells_of f) ≡ false → some standing (cells_of f) ≡ false
        → g ≡ four_of (map (arrive (highest (cells_of f))) (cells_of f)) → Some q ≡ delayed bounds r
    moved-arrives e s l = moved _ l (delay-arrives (cells_of f) e s)

  pub reset-done : (mask : ℕ) (g h : List Clock) (q : Region) → cells_of g ≡ restarted mask 0 (cells_of f)
      → h ≡ four_of (close (cells_of g)) → q ≡ region_of bounds r.location h → q ≡ after_reset bounds r mask
  unfolding after_reset
  reset-done mask g h q eg eh eq =
      eq ∙ ap (region_of bounds r.location) (eh ∙ ap (λ l. four_of (close l)) eg ∙ ap (λ k. four_of (reset mask (cells_of k))) taken)
