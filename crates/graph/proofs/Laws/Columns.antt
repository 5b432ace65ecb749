-- Loading after storing: what was stored is read back, and every other place and every other column stays.
use Rattle.std.specs.Prelude.{ℕ, ◌+◌, ◌%◌, ◌≤◌, ◌<◌, ◌≡◌, refl, Bool, true, false, cond, ◌||◌, List, [], ◌∷◌, ◌⊎◌, leb, eqb}
use Rattle.std.specs.Prelude.{length}
use Rattle.std.proofs.Common.{arith, ◌∙◌, inl, inr, leb-true}
use Rattle.std.proofs.Math.Nat.{mod-eq_of_lt}
use Rattle.std.proofs.Math.Logic.{⊎_elim}
use Rattle.std.proofs.Math.ListN.{length-set, get_or-eq_default}
use Rattle.std.proofs.Math.Seq.{get_or-set_same, get_or-set_other, set_out}
use Rattle.graph.specs.declared.columns.Column.{Column}
use Rattle.graph.specs.Columns.{nothing, load, store, short, middle, long}
use Rattle.graph.specs.Columns.{labels, edge_starts, edge_numbers, slot_starts, slot_keys, branch_slots}
use Rattle.graph.specs.Columns.{class_heads, class_links, region_heads, region_links, classes, locations, delays, available_counts}
use Rattle.graph.specs.Columns.{available}
use Rattle.graph.specs.Columns.{resets, class_delays, slot_locations, key_heads, key_links, source_heads, source_links}

-- A column is lent: the slice goes at least to its end.
abbrev pub Lent : Column → List ℕ → Type 0
Lent column graph = column.from + column.size ≤ length graph

-- A column stays as it was.
abbrev pub Kept : Column → List ℕ → List ℕ → Type 0
Kept column graph graph' = (i : ℕ) → i < column.size → load column graph' i ≡ load column graph i

-- One of two columns ends before the other begins. (For two of the layout it is computed: `refl` proves it.)
abbrev pub apart : Column → Column → Bool
apart one other = leb (one.from + one.size) other.from || leb (other.from + other.size) one.from

pub kept_same : (column : Column) (graph : List ℕ) → Kept column graph graph
kept_same column graph i h = refl

pub kept_then : (column : Column) (a b c : List ℕ) → Kept column a b → Kept column b c → Kept column a c
kept_then column a b c first second i h = second i h ∙ first i h

apart-ways : (one other : Column) → apart one other ≡ true
    → (one.from + one.size ≤ other.from) ⊎ (other.from + other.size ≤ one.from)
apart-ways one other is = go (leb (one.from + one.size) other.from) refl is
  where
    go : (b : Bool) → leb (one.from + one.size) other.from ≡ b → (b || leb (other.from + other.size) one.from) ≡ true
        → (one.from + one.size ≤ other.from) ⊎ (other.from + other.size ≤ one.from)
    go true e h = inl (leb-true _ _ e)
    go false e h = inr (leb-true _ _ h)

module _ (column : Column) (graph : List ℕ) (i v : ℕ) where
  pub store_length : length (store column graph i v) ≡ length graph
  unfolding store
  store_length = length-set graph (column.from + i) (v % 65536)

  pub store-lent : (other : Column) → Lent other graph → Lent other (store column graph i v)
  store-lent other lent = omega (arith, store_length, lent)

  pub load-modulo : i < column.size → Lent column graph → load column (store column graph i v) i ≡ v % 65536
  unfolding load store
  load-modulo h lent = get_or-set_same graph (column.from + i) (v % 65536) nothing (omega (arith, h, lent))

  pub load_stored : i < column.size → Lent column graph → v < 65536 → load column (store column graph i v) i ≡ v
  unfolding load store
  load_stored h lent small =
      get_or-set_same graph (column.from + i) (v % 65536) nothing (omega (arith, h, lent)) ∙ mod-eq_of_lt small

  pub load-other : (j : ℕ) → (j ≡ i → ⊥) → load column (store column graph i v) j ≡ load column graph j
  unfolding load store
  load-other j differs =
      get_or-set_other graph (column.from + i) (column.from + j) (v % 65536) nothing (λ e. differs (omega (arith, e)))

  pub store_keeps : (other : Column) → apart column other ≡ true → i < column.size → Kept other graph (store column graph i v)
  unfolding load store
  store_keeps other is h j k =
      get_or-set_other graph (column.from + i) (other.from + j) (v % 65536) nothing
      (λ e. ⊎_elim (λ (w : column.from + column.size ≤ other.from). absurd (omega (arith, w, e, h, k)))
      (λ (w : other.from + other.size ≤ column.from). absurd (omega (arith, w, e, h, k))) (apart-ways column other is))

  -- Past the end of the slice nothing is stored.
  pub store-past : length graph ≤ column.from + i → store column graph i v ≡ graph
  unfolding store
  store-past h = set_out graph (column.from + i) (v % 65536) h

-- Past the end of the slice nothing is read.
pub load_past : (column : Column) (graph : List ℕ) (i : ℕ) → length graph ≤ column.from + i → load column graph i ≡ nothing
unfolding load
load_past column graph i h = get_or-eq_default graph nothing h

-- ---- The layout: each column begins where the one before it ends

-- Do columns stand one behind the other from a place on, and where do they end?
unfoldable pub end_of : ℕ → List Column → ℕ
end_of at [] = at
end_of at (column ∷ l) = cond (eqb at column.from) (end_of (at + column.size) l) 0

pub layout-short : end_of 0 (labels ∷ edge_starts ∷ edge_numbers ∷ slot_starts ∷ slot_keys ∷ branch_slots ∷ class_heads ∷ class_links
    ∷ region_heads
    ∷ region_links ∷ classes ∷ []) ≡ short
unfolding end_of
layout-short = refl

pub layout-middle : end_of short (locations ∷ delays ∷ available_counts ∷ available ∷ resets ∷ class_delays ∷ []) ≡ middle
unfolding end_of
layout-middle = refl

pub layout-long : end_of middle (slot_locations ∷ key_heads ∷ key_links ∷ source_heads ∷ source_links ∷ []) ≡ long
unfolding end_of
layout-long = refl
