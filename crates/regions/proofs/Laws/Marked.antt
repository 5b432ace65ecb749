-- What the marks on branches say, what one more entry keeps, and labels and zeros that are stored: laws that stand for a reader of the
-- definitions; the code needs none of them.
use Rattle.std.specs.Prelude.{ℕ, ◌%◌, ◌<◌, ◌≡◌, Bool, true, false, List, Option, None, Some, get_or, replicate}
use Rattle.std.proofs.Common.{arith, ◌∙◌, ap}
use Rattle.table.specs.Model.{Model}
use Rattle.table.specs.declared.model.Branch.{Branch}
use Rattle.clocks.specs.declared.region.Region.{Region}
use Rattle.regions.specs.Lists.{same-at}
use Rattle.regions.specs.Entries.{region_at}
use Rattle.regions.specs.Graph.{bounds_of, meets, landing}
use Rattle.regions.specs.View.{label_of}
use Rattle.regions.specs.Of.{Of}
use Rattle.regions.specs.Index.{Added}
use Rattle.regions.specs.Marks.{mark_place, Tested}
use Rattle.regions.specs.Explore.{Kept}
use Rattle.regions.specs.declared.index.Listing.{Listing}
use Rattle.regions.specs.declared.prepared.Prepared.{Prepared}

-- ---- Marks

module _ (p : Prepared) (r : Region) (marks : List (Option Bool)) (tested : Tested p r marks) (b : Branch)
    (m : Model) (reads : Of p m) where
  -- What a mark says.
  pub tested-broken : get_or marks (mark_place b) None ≡ Some false → false ≡ meets (bounds_of m) m.invariants (landing p.bounds r b)
  tested-broken e = tested.told m reads false b e

  pub tested-met : get_or marks (mark_place b) None ≡ Some true → true ≡ meets (bounds_of m) m.invariants (landing p.bounds r b)
  tested-met e = tested.told m reads true b e

-- A list of zeros is 0 everywhere.
pub zeros-at : (n i : ℕ) → get_or (replicate {A = ℕ} n 0) i 0 ≡ 0
zeros-at n i = same-at 0 n i

-- ---- Entries

-- One more entry keeps the others.
pub one_kept : (l l' : Listing) (q : Region) → Added q l.entries.now l.links l'.entries.now l'.links → l'.cap ≡ l.cap → Kept l l'
one_kept l l' q added cap =
    record {
      cap = cap;
      entries = added.entries;
      more = omega (arith, added.count);
      after = λ k h. added.after k (omega (arith, added.count, h));
    }

-- ---- Labels

-- A label is stored whole.
pub label-fits : (m : Model) (es : List ℕ) (x : ℕ) (r : Region) (v : ℕ) → r ≡ region_at es x → v ≡ get_or m.labels r.location 0 → v < 256
    → v % 65536 ≡ label_of m (region_at es x)
unfolding label_of
label-fits m es x r v is e low =
    let small : v % 65536 ≡ v = omega arith in
    small ∙ e ∙ ap (λ (q : Region). get_or m.labels q.location 0) is
