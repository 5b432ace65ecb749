-- From bytes back to regions: the entries that the graph call leaves hold the regions of its outcome (`entry-..`,
-- `listed-..`), the bytes after them are as before (`after-..`), and the list is as long as before (`entries-length`).
use Rattle.std.specs.Prelude.{ℕ, zero, suc, ◌+◌, ◌-◌, ◌*◌, ◌≤◌, ◌<◌, ◌≡◌, refl, length, get_or, drop}
use Rattle.std.proofs.Common.{arith, ◌∙◌, ap, length-append, length-drop, get_or-append-add, get_or-drop, ext_get_or}
use mathlib.Core.List.{List, [], ◌∷◌, ◌++◌, append_assoc, Memᴰ}
use Rattle.std.proofs.Math.ListN.{get_or-append}
use Rattle.table.specs.Model.{Model}
use Rattle.table.specs.Reading.{accepted, read_table}
use Rattle.regions.specs.Entries.{entry_bytes, bytes_of, region_at, Sized, region-from}
use Rattle.regions.specs.Graph.{Reached}
use Rattle.regions.specs.Explore.{listed, listed-length, listed_at}
use Rattle.regions.specs.Call.{room_for, Outcome, refused, cut, whole, outcome_of, flat, entries_after}
use Rattle.regions.specs.Laws.Worklist.{member}
use Rattle.regions.specs.Laws.Call.{whole-graph, cut-graph}
use Rattle.regions.specs.Laws.Formed.{read-formed}
use Rattle.clocks.specs.declared.region.Region.{Region}

-- ---- The bytes of regions

-- Nine bytes each.
pub flat-length : (found : List Region) → length (flat found) ≡ entry_bytes * length found
flat-length [] = refl
flat-length (r ∷ l) = omega (arith, flat-length l)

-- Byte k of entry j is byte k of region j.
flat-byte : (found : List Region) (rest : List ℕ) (d : Region) (j k : ℕ) → j < length found → k < entry_bytes
    → get_or (flat found ++ rest) (entry_bytes * j + k) 0 ≡ get_or (bytes_of (get_or found j d)) k 0
flat-byte [] rest d j k h g = absurd (omega arith)
flat-byte (r ∷ l) rest d zero k h g =
    let at : entry_bytes * 0 + k ≡ k = omega arith in
    ap (λ i. get_or (flat (r ∷ l) ++ rest) i 0) at
    ∙ ap (λ x. get_or x k 0) (append_assoc (bytes_of r) (flat l) rest)
    ∙ get_or-append (bytes_of r) (flat l ++ rest) 0 k g
flat-byte (r ∷ l) rest d (suc j) k h g =
    let at : entry_bytes * suc j + k ≡ length (bytes_of r) + (entry_bytes * j + k) = omega arith in
    ap (λ i. get_or (flat (r ∷ l) ++ rest) i 0) at
    ∙ ap (λ x. get_or x (length (bytes_of r) + (entry_bytes * j + k)) 0) (append_assoc (bytes_of r) (flat l) rest)
    ∙ get_or-append-add (bytes_of r) (flat l ++ rest) (entry_bytes * j + k) 0
    ∙ flat-byte l rest d j k (omega arith) g

-- The bytes of regions, read as entries, are these regions.
pub entry_of : (found : List Region) (rest : List ℕ) (d : Region) → ((r : Region) → Memᴰ r found → Sized r)
    → (j : ℕ) → j < length found → region_at (flat found ++ rest) j ≡ get_or found j d
entry_of found rest d sized j h =
    region-from (flat found ++ rest) j (get_or found j d) (sized _ (member d found j h))
    (λ k g. flat-byte found rest d j k h g)

-- For a number that no region has.
no_region : Region
no_region = record { location = 0; whole = []; rank = [] }

-- All of them at once.
pub listed_of : (found : List Region) (rest : List ℕ) → ((r : Region) → Memᴰ r found → Sized r)
    → listed (flat found ++ rest) (length found) ≡ found
listed_of found rest sized =
    let es = flat found ++ rest in
    let n = length found in
    ext_get_or no_region (listed es n) found (listed-length es n)
    (λ j h.
    let inside : j < n = rw listed-length at h in
    listed_at es n j no_region inside ∙ entry_of found rest no_region sized j inside)

-- The bytes after the entries are those that were there.
after-of : (found : List Region) (es : List ℕ) (k : ℕ) → entry_bytes * length found ≤ k
    → get_or (flat found ++ drop (entry_bytes * length found) es) k 0 ≡ get_or es k 0
after-of found es k h =
    let n : ℕ = entry_bytes * length found in
    let at : k ≡ length (flat found) + (k - n) = omega (arith, flat-length found) in
    let back : n + (k - n) ≡ k = omega arith in
    ap (λ i. get_or (flat found ++ drop n es) i 0) at
    ∙ get_or-append-add (flat found) (drop n es) (k - n) 0
    ∙ get_or-drop n es (k - n) 0
    ∙ ap (λ i. get_or es i 0) back

length-of : (found : List Region) (es : List ℕ) → entry_bytes * length found ≤ length es
    → length (flat found ++ drop (entry_bytes * length found) es) ≡ length es
length-of found es h =
    let n : ℕ = entry_bytes * length found in
    length-append (flat found) (drop n es) ∙ omega (arith, flat-length found, length-drop n es)

-- A region that is reached in a model that was read has four integer parts and four ranks.
pub reached-sized : (table : List ℕ) (m : Model) → read_table table ≡ accepted m → (r : Region) → Reached m r → Sized r
reached-sized table m e r s = let f = (read-formed table m e r s).1 in record { whole = f.wholes; rank = f.ranks }

-- ---- What the call leaves

-- The entries that count fit in the bytes lent.
pub room_fits : (bytes : ℕ) → entry_bytes * room_for bytes ≤ bytes
room_fits bytes = omega arith

module _ (table es : List ℕ) (cap : ℕ) (found : List Region) where
  module _ (e : outcome_of table cap ≡ whole found) where
    whole-sized : (r : Region) → Memᴰ r found → Sized r
    whole-sized r n =
        let (b, all, fits) = whole-graph table cap found e in
        reached-sized table b.model b.read r ((all.all r).1 n)

    -- N is answered: entry j is region j.
    pub entry_whole : (d : Region) (j : ℕ) → j < length found
        → region_at (entries_after es (outcome_of table cap)) j ≡ get_or found j d
    entry_whole d j h =
        ap (λ o. region_at (entries_after es o) j) e ∙ entry_of found (drop (entry_bytes * length found) es) d whole-sized j h

    -- The first N entries are the graph.
    pub listed-whole : listed (entries_after es (outcome_of table cap)) (length found) ≡ found
    listed-whole =
        ap (λ o. listed (entries_after es o) (length found)) e
        ∙ listed_of found (drop (entry_bytes * length found) es) whole-sized

    -- "Bytes after the entries never change": after the N entries.
    pub after-whole : (k : ℕ) → entry_bytes * length found ≤ k
        → get_or (entries_after es (outcome_of table cap)) k 0 ≡ get_or es k 0
    after-whole k h = ap (λ o. get_or (entries_after es o) k 0) e ∙ after-of found es k h

  module _ (e : outcome_of table cap ≡ cut found) where
    cut-sized : (r : Region) → Memᴰ r found → Sized r
    cut-sized r n =
        let (b, some) = cut-graph table cap found e in
        reached-sized table b.model b.read r (some.reached r n)

    -- 15 is answered: entry j is region j, as far as there is room.
    pub entry-cut : (d : Region) (j : ℕ) → j < length found
        → region_at (entries_after es (outcome_of table cap)) j ≡ get_or found j d
    entry-cut d j h =
        ap (λ o. region_at (entries_after es o) j) e ∙ entry_of found (drop (entry_bytes * length found) es) d cut-sized j h

    -- The entries are the regions listed.
    pub listed-cut : listed (entries_after es (outcome_of table cap)) (length found) ≡ found
    listed-cut =
        ap (λ o. listed (entries_after es o) (length found)) e
        ∙ listed_of found (drop (entry_bytes * length found) es) cut-sized

    -- "Bytes after the entries never change": after these entries.
    pub after-cut : (k : ℕ) → entry_bytes * length found ≤ k
        → get_or (entries_after es (outcome_of table cap)) k 0 ≡ get_or es k 0
    after-cut k h = ap (λ o. get_or (entries_after es o) k 0) e ∙ after-of found es k h

module _ (table es : List ℕ) (cap : ℕ) where
  -- Whatever the call comes to, the bytes after the entries that count stay.
  pub after-entries : (k : ℕ) → entry_bytes * cap ≤ k → get_or (entries_after es (outcome_of table cap)) k 0 ≡ get_or es k 0
  after-entries k h = of (outcome_of table cap) refl
    where
      of : (o : Outcome) → outcome_of table cap ≡ o → get_or (entries_after es (outcome_of table cap)) k 0 ≡ get_or es k 0
      of (refused n p) e = ap (λ o. get_or (entries_after es o) k 0) e
      of (cut found) e =
          let fills = (cut-graph table cap found e).1.fills in
          after-cut table es cap found e k (omega arith)
      of (whole found) e =
          let fits = (whole-graph table cap found e).2 in
          after-whole table es cap found e k (omega arith)

  -- The list is as long as before.
  pub entries-length : entry_bytes * cap ≤ length es → length (entries_after es (outcome_of table cap)) ≡ length es
  entries-length room = of (outcome_of table cap) refl
    where
      of : (o : Outcome) → outcome_of table cap ≡ o → length (entries_after es (outcome_of table cap)) ≡ length es
      of (refused n p) e = ap (λ o. length (entries_after es o)) e
      of (cut found) e =
          let fills = (cut-graph table cap found e).1.fills in
          ap (λ o. length (entries_after es o)) e ∙ length-of found es (omega arith)
      of (whole found) e =
          let fits = (whole-graph table cap found e).2 in
          ap (λ o. length (entries_after es o)) e ∙ length-of found es (omega arith)
