-- What follows from the definitions for a number that is no kind, for the record that a walk comes to, and for loops that have not begun:
-- laws that stand for a reader of the definitions; the code needs none of them.
use Rattle.std.specs.Prelude.{ℕ, ◌≤◌, ◌≡◌, List, length}
use Rattle.std.proofs.Common.{arith, eq-eqb, ne_eqb}
use Rattle.std.proofs.Math.ListN.{get_or-eq_default}
use Rattle.std.proofs.Math.Nat.{sub-zero}
use Rattle.table.specs.Format.{body_length, body_lengths, max_bytes}
use Rattle.table.specs.Records.{kind_at, body_at}
use Rattle.table.specs.Access.{walk_to, item_from, no_body}
use Rattle.table.specs.Refusals.{start}
use Rattle.table.proofs.Laws.Edges.{Comes}
use Rattle.table.proofs.Laws.Turns.{Underway}

-- A number above 7 is no kind.
pub body-none : (kind : ℕ) → 8 ≤ kind → body_length kind ≡ 0
unfolding body_lengths body_length
body-none kind h = get_or-eq_default body_lengths 0 h

module _ (table : List ℕ) (first kind i at : ℕ) (here : at ≡ walk_to kind i table first) where
  -- Where the walk ends another record stands, or none.
  pub item-none : (kind_at table at ≡ kind → ⊥) → no_body ≡ item_from kind no_body body_at table first i
  item-none other = rw (← here, ne_eqb (kind_at table at) kind other)

  pub item-some : kind_at table at ≡ kind → body_at table at ≡ item_from kind no_body body_at table first i
  item-some same = rw (← here, eq-eqb (kind_at table at) kind same)

-- The loops that list edges and places begin at the first edge, and the loop that reads a table before its first record.

pub comes-start : (table : List ℕ) (count first : ℕ) {A : Type 0} (part : ℕ → A) (old : List A)
    → Comes table count first part old first 0 old
comes-start table count first part old = rw sub-zero

pub underway-start : (table : List ℕ) → length table ≤ max_bytes → Underway table start 0
underway-start table h =
    record {
      short = h;
      inside = omega arith;
      ranged = record { labels = omega arith; invariants = omega arith; weights = omega arith };
      same = rw sub-zero;
    }
