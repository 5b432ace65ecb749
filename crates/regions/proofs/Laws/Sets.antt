-- Sets of clocks in a list with an index, in lists of any length, with what stays of these lists: laws that stand for a reader of the
-- definitions; the code, whose links are arrays, needs none of them.
use Rattle.std.specs.Prelude.{ℕ, ◌+◌, ◌*◌, ◌%◌, ◌≤◌, ◌<◌, ◌≡◌, refl, List, length, get_or, set}
use Rattle.std.proofs.Common.{arith, ◌∙◌, ap}
use Rattle.clocks.specs.declared.region.Region.{Region}
use Rattle.regions.specs.Entries.{max_entries, region_at}
use Rattle.regions.specs.Index.{Index}
use Rattle.regions.specs.Filling.{bare, Apart, Distinct}
use Rattle.regions.specs.Filling as F
use Rattle.regions.specs.Laws.Filling as L
use Rattle.regions.proofs.Laws.Listed.{Added}

-- A region is in a list of n entries, or was put there: it is entry `at`, and now there are `count`.
pub record Classed (q : Region) (n : ℕ) (es heads links es' heads' links' : List ℕ) (at count : ℕ) : Type 0 where
  pub index : Index es' heads' links' count
  pub inside : at < count
  pub is : region_at es' at ≡ q
  pub more : n ≤ count
  pub few : count ≤ n + 1
  pub before : (j : ℕ) → j < n → region_at es' j ≡ region_at es j
  pub apart : Apart es n → Apart es' count
  pub entries : length es' ≡ length es
  pub buckets : length heads' ≡ length heads
  pub linked : length links' ≡ length links

-- The first x regions have their sets of clocks in the list, and stand in `spots` by set and location.
pub record Grouped (es : List ℕ) (n x : ℕ) (sets heads links spots : List ℕ) (count : ℕ) : Type 0 where
  pub index : Index sets heads links count
  pub few : count ≤ x
  pub apart : Apart sets count
  pub covered : (y : ℕ) → y < x → (j : ℕ) × (j < count) × (region_at sets j ≡ bare (region_at es y))
  pub spotted : Distinct es n → (y j : ℕ) → y < x → j < count → region_at sets j ≡ bare (region_at es y)
      → get_or spots (64 * j + (region_at es y).location) 0 ≡ y

module _ (q : Region) (n : ℕ) (es heads links : List ℕ) where
  -- What the code has of it, with the index and the lengths.
  with-index : (es' heads' links' : List ℕ) (at count : ℕ) → F.Classed q es n es' count at → Index es' heads' links' count
      → length es' ≡ length es → length heads' ≡ length heads → length links' ≡ length links
      → Classed q n es heads links es' heads' links' at count
  with-index es' heads' links' at count c index entries buckets linked =
      record {
        index = index;
        inside = c.inside;
        is = c.is;
        more = c.more;
        few = c.few;
        before = c.before;
        apart = c.apart;
        entries = entries;
        buckets = buckets;
        linked = linked;
      }

  -- The region is there already.
  pub classed-known : Index es heads links n → (j : ℕ) → j < n → region_at es j ≡ q → Classed q n es heads links es heads links j n
  classed-known i j h is = with-index es heads links j n (L.classed-known q n es j h is) i refl refl refl

  -- It is put there.
  pub classed-new : (es' heads' links' : List ℕ) → ((j : ℕ) → j < n → region_at es j ≡ q → ⊥)
      → Added q n es heads links es' heads' links' → Classed q n es heads links es' heads' links' n (n + 1)
  classed-new es' heads' links' absent added =
      with-index es' heads' links' n (n + 1) (L.classed-new q n es es' absent added.before added.entry) added.index added.entries
      added.buckets added.links

-- What the code has of sets, with the index.
grouped-with : (es : List ℕ) (n x : ℕ) (sets heads links spots : List ℕ) (count : ℕ) → F.Grouped es n x sets count spots
    → Index sets heads links count → Grouped es n x sets heads links spots count
grouped-with es n x sets heads links spots count g index =
    record { index = index; few = g.few; apart = g.apart; covered = g.covered; spotted = g.spotted }

pub grouped-none : (es : List ℕ) (n : ℕ) (sets heads links spots : List ℕ) → Index sets heads links 0
    → Grouped es n 0 sets heads links spots 0
grouped-none es n sets heads links spots i =
    grouped-with es n 0 sets heads links spots 0 (L.grouped-none es n sets 0 spots refl) i

-- One more region is taken in: its clocks are set `at` of `more`.
module _ (es : List ℕ) (n x : ℕ) (here : x < n) (few : n ≤ max_entries) (sets heads links spots : List ℕ) (count : ℕ)
    (g : Grouped es n x sets heads links spots count) (sets' heads' links' : List ℕ) (at more : ℕ)
    (c : Classed (bare (region_at es x)) count sets heads links sets' heads' links' at more) (room : 4096 * 64 ≤ length spots)
    (spots' : List ℕ) (e : spots' ≡ set spots (64 * at + (region_at es x).location) (x % 65536)) where
  so-far : F.Grouped es n x sets count spots
  so-far = record { few = g.few; apart = g.apart; covered = g.covered; spotted = g.spotted }

  classed : F.Classed (bare (region_at es x)) sets count sets' more at
  classed = record { inside = c.inside; is = c.is; more = c.more; few = c.few; before = c.before; apart = c.apart }

  -- A number of a region is stored whole.
  whole : x % 65536 ≡ x
  whole = omega arith

  pub grouped-on : Grouped es n (x + 1) sets' heads' links' spots' more
  grouped-on =
      grouped-with es n (x + 1) sets' heads' links' spots' more
      (L.grouped-on es n x here few sets spots count so-far sets' at more classed room spots'
      (e ∙ ap (λ (v : ℕ). set spots (64 * at + (region_at es x).location) v) whole))
      c.index
