-- Regions in a list of bytes (document 01: "An entry is nine bytes: location, four integer parts (16 for over), four ranks (0 for
-- over)."): the bytes of a region, and the region that stands at an entry. Below that what storing an entry changes.
use Rattle.std.specs.Prelude.{ℕ, zero, suc, ◌+◌, ◌*◌, ◌≤◌, ◌<◌, ◌≡◌, refl, Bool, true, false, List}
use Rattle.std.specs.Prelude.{[], ◌∷◌, ◌++◌, ◌⊎◌, ltb, length, set, get_or}
use Rattle.std.proofs.Common.{arith, add-zero, add-suc, suc-add, sym, ◌∙◌, ap, ap₂, inl, inr, length-set}
use Rattle.std.proofs.Common.{get_or-set_same, get_or-set_other, ltb-true, ltb-false}
use Rattle.std.proofs.lemmas.List.Edits.{sets}
use Rattle.std.proofs.Math.Seq.{length-sets}
use Rattle.clocks.specs.declared.region.Region.{Region}

-- How long an entry is, and how many there are at most.
abbrev pub entry_bytes : ℕ
entry_bytes = 9

abbrev pub max_entries : ℕ
max_entries = 4096

-- Four bytes from a place on, each 0 past the end.
abbrev pub four_from : List ℕ → ℕ → List ℕ
four_from l at = get_or l at 0 ∷ get_or l (at + 1) 0 ∷ get_or l (at + 2) 0 ∷ get_or l (at + 3) 0 ∷ []

-- The bytes of a region: its location, its integer parts, its ranks.
abbrev pub bytes_of : Region → List ℕ
bytes_of r = r.location ∷ (four_from r.whole 0 ++ four_from r.rank 0)

-- The region at entry j, with 0 for what is past the end.
unfoldable pub region_at : List ℕ → ℕ → Region
region_at es j =
    record {
      location = get_or es (entry_bytes * j) 0;
      whole = four_from es (entry_bytes * j + 1);
      rank = four_from es (entry_bytes * j + 5);
    }

-- A region as the code holds it: its integer parts are four, and its ranks.
pub record Sized (r : Region) : Type 0 where
  pub whole : length r.whole ≡ 4
  pub rank : length r.rank ≡ 4

-- ---- What storing an entry changes

-- What storing a run of numbers from place i on leaves as it was, before and after the run, and what it puts there.
before-sets : (vs l : List ℕ) (i k : ℕ) → k < i → get_or (sets l i vs) k 0 ≡ get_or l k 0
before-sets [] l i k h = refl
before-sets (v ∷ vs) l i k h = before-sets vs (set l i v) (suc i) k (omega arith) ∙ get_or-set_other l i k v 0 (omega arith)

after-sets : (vs l : List ℕ) (i k : ℕ) → i + length vs ≤ k → get_or (sets l i vs) k 0 ≡ get_or l k 0
after-sets [] l i k h = refl
after-sets (v ∷ vs) l i k h = after-sets vs (set l i v) (suc i) k (omega arith) ∙ get_or-set_other l i k v 0 (omega arith)

within-sets : (vs l : List ℕ) (i k : ℕ) → k < length vs → i + k < length l → get_or (sets l i vs) (i + k) 0 ≡ get_or vs k 0
within-sets [] l i k h room = absurd (omega arith)
within-sets (v ∷ vs) l i zero h room =
    rw (add-zero i) (before-sets vs (set l i v) (suc i) i (omega arith) ∙ get_or-set_same l i v 0 (omega arith))
within-sets (v ∷ vs) l i (suc k) h room =
    ap (λ n. get_or (sets (set l i v) (suc i) vs) n 0) (add-suc i k ∙ sym (suc-add i k))
    ∙ within-sets vs (set l i v) (suc i) k (omega arith) (rw length-set (omega arith))

-- Two lists with the same bytes from entry j to the next have the same region there.
pub region-same : (es es' : List ℕ) (j : ℕ)
    → ((k : ℕ) → entry_bytes * j ≤ k → k < entry_bytes * j + entry_bytes → get_or es' k 0 ≡ get_or es k 0)
    → region_at es' j ≡ region_at es j
unfolding region_at
region-same es es' j same =
    let four : (at : ℕ) → entry_bytes * j ≤ at → at + 4 ≤ entry_bytes * j + entry_bytes → four_from es' at ≡ four_from es at =
    λ at low high.
    rw (
      same at (omega arith) (omega arith),
      same (at + 1) (omega arith) (omega arith),
      same (at + 2) (omega arith) (omega arith),
      same (at + 3) (omega arith) (omega arith),
    ) in
    rw (
      same (entry_bytes * j) (omega arith) (omega arith),
      four (entry_bytes * j + 1) (omega arith) (omega arith),
      four (entry_bytes * j + 5) (omega arith) (omega arith),
    )

-- A list of four is its four bytes.
pub four-whole : (l : List ℕ) → length l ≡ 4 → four_from l 0 ≡ l
four-whole [] e = absurd (omega arith)
four-whole (a ∷ []) e = absurd (omega arith)
four-whole (a ∷ b ∷ []) e = absurd (omega arith)
four-whole (a ∷ b ∷ c ∷ []) e = absurd (omega arith)
four-whole (a ∷ b ∷ c ∷ d ∷ []) e = refl
four-whole (a ∷ b ∷ c ∷ d ∷ x ∷ l) e = absurd (omega arith)

-- A region that is read has four of each.
pub region-sized : (es : List ℕ) (j : ℕ) → Sized (region_at es j)
unfolding region_at
region-sized es j = record { whole = refl; rank = refl }

-- A list with the bytes of a region from entry j on has that region there.
pub region-from : (es : List ℕ) (j : ℕ) (r : Region) → Sized r
    → ((k : ℕ) → k < entry_bytes → get_or es (entry_bytes * j + k) 0 ≡ get_or (bytes_of r) k 0) → region_at es j ≡ r
unfolding region_at
region-from es j r sized bytes =
    rw (
      byte (entry_bytes * j) 0 (omega arith) (omega arith),
      byte (entry_bytes * j + 1) 1 (omega arith) (omega arith),
      byte (entry_bytes * j + 1 + 1) 2 (omega arith) (omega arith),
      byte (entry_bytes * j + 1 + 2) 3 (omega arith) (omega arith),
      byte (entry_bytes * j + 1 + 3) 4 (omega arith) (omega arith),
      byte (entry_bytes * j + 5) 5 (omega arith) (omega arith),
      byte (entry_bytes * j + 5 + 1) 6 (omega arith) (omega arith),
      byte (entry_bytes * j + 5 + 2) 7 (omega arith) (omega arith),
      byte (entry_bytes * j + 5 + 3) 8 (omega arith) (omega arith),
      four-whole r.whole sized.whole,
      four-whole r.rank sized.rank,
    )
  where
    byte : (at k : ℕ) → at ≡ entry_bytes * j + k → k < entry_bytes → get_or es at 0 ≡ get_or (bytes_of r) k 0
    byte at k e h = ap (λ n. get_or es n 0) e ∙ bytes k h

module _ (es : List ℕ) (j : ℕ) (r : Region) where
  -- The list with the region stored at entry j.
  abbrev pub stored : List ℕ
  stored = sets es (entry_bytes * j) (bytes_of r)

  pub stored-length : length stored ≡ length es
  stored-length = length-sets es (entry_bytes * j) (bytes_of r)

  -- The bytes outside of the entry stay.
  pub stored-outside : (k : ℕ) → (k < entry_bytes * j) ⊎ (entry_bytes * j + entry_bytes ≤ k) → get_or stored k 0 ≡ get_or es k 0
  stored-outside k (inl h) = before-sets (bytes_of r) es (entry_bytes * j) k h
  stored-outside k (inr h) = after-sets (bytes_of r) es (entry_bytes * j) k h

  -- Every other entry stays.
  pub stored_other : (i : ℕ) → (i ≡ j → ⊥) → region_at stored i ≡ region_at es i
  stored_other i other = region-same es stored i (λ k low high. stored-outside k (side k low high (ltb i j) refl))
    where
      side : (k : ℕ) → entry_bytes * i ≤ k → k < entry_bytes * i + entry_bytes → (b : Bool) → ltb i j ≡ b
          → (k < entry_bytes * j) ⊎ (entry_bytes * j + entry_bytes ≤ k)
      side k low high true e = inl (omega (arith, ltb-true i j e))
      side k low high false e = inr (omega (arith, ltb-false i j e, other))

  -- The entry is the region.
  pub stored_here : Sized r → entry_bytes * j + entry_bytes ≤ length es → region_at stored j ≡ r
  stored_here sized room =
      region-from stored j r sized (λ k h. within-sets (bytes_of r) es (entry_bytes * j) k h (omega arith))

-- ---- Laws for the code that stores an entry

-- Four stores, one after the other.
pub four-stored : (l : List ℕ) (at a b c d : ℕ)
    → set (set (set (set l at a) (at + 1) b) (at + 2) c) (at + 3) d ≡ sets l at (a ∷ b ∷ c ∷ d ∷ [])
four-stored l at a b c d =
    let one : at + 1 ≡ suc at = omega arith in
    let two : at + 2 ≡ suc (suc at) = omega arith in
    let three : at + 3 ≡ suc (suc (suc at)) = omega arith in
    rw (one, two, three)

sets-append : (vs ws l : List ℕ) (i : ℕ) → sets l i (vs ++ ws) ≡ sets (sets l i vs) (i + length vs) ws
sets-append [] ws l i = rw add-zero
sets-append (v ∷ vs) ws l i =
    sets-append vs ws (set l i v) (suc i) ∙ ap (λ n. sets (sets (set l i v) (suc i) vs) n ws) (omega arith)

-- The location, then twice four bytes.
pub entry-stored : (es es' es'' : List ℕ) (j : ℕ) (r : Region)
    → es' ≡ sets (set es (entry_bytes * j) r.location) (entry_bytes * j + 1) (four_from r.whole 0)
    → es'' ≡ sets es' (entry_bytes * j + 5) (four_from r.rank 0) → es'' ≡ sets es (entry_bytes * j) (bytes_of r)
entry-stored es es' es'' j r e e' =
    let at : ℕ = entry_bytes * j in
    let one : at + 1 ≡ suc at = omega arith in
    let five : at + 5 ≡ suc at + 4 = omega arith in
    let first : List ℕ = set es at r.location in
    e'
    ∙ ap₂ (λ l n. sets l n (four_from r.rank 0)) (e ∙ ap (λ n. sets first n (four_from r.whole 0)) one) five
    ∙ sym (sets-append (four_from r.whole 0) (four_from r.rank 0) first (suc at))
