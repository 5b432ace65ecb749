-- A chained hash index over the first entries of a list of regions. A region's hash names its bucket. A link says which entry:
-- link j + 1 is entry j, and 0 is none. Each bucket's head links to its last entry, and each entry to the last before it in its
-- bucket, so that lists of zeros are the index of no entry. Below the definitions are the laws of search and of one more entry.
use Rattle.std.specs.Prelude.{Option, Some, None, ℕ, zero, suc, ◌+◌, ◌-◌, ◌*◌, ◌%◌, ◌≤◌, ◌<◌, ◌≡◌, refl, Bool}
use Rattle.std.specs.Prelude.{List, [], ◌∷◌, length, set, replicate}
use Rattle.std.proofs.Common.{arith, add-one, ◌∙◌, inr}
use Rattle.std.proofs.Math.Path.{sym, ap, subst}
use Rattle.std.proofs.Math.Bool.{true, false, cond}
use Rattle.std.proofs.lemmas.Bool.{false≢true}
use Rattle.std.proofs.Math.Dec.{eqb}
use Rattle.std.proofs.Math.ListN.{get_or, length-set}
use Rattle.std.proofs.lemmas.List.{length-replicate, get_or-replicate}
use Rattle.std.proofs.lemmas.List.Edits.{sets}
use Rattle.std.proofs.Math.Seq.{get_or-set_same, get_or-set_other}
use borrow.Author.Tests.{eq-eqb, eqb-true, eqb-false}
use Rattle.regions.specs.Entries.{entry_bytes, max_entries, four_from, bytes_of, region_at, region-same, Sized}
use Rattle.regions.specs.Entries.{stored-length, stored-outside, stored_other, stored_here}
use Rattle.clocks.specs.declared.region.Region.{Region}
use Rattle.regions.specs.declared.index.Links.{Links}

-- How many buckets there are. Hashes are below the largest prime that is no more than that, which spreads them well.
abbrev pub bucket_count : ℕ
bucket_count = 4096

abbrev pub hash_prime : ℕ
hash_prime = 4093

abbrev pub hash_base : ℕ
hash_base = 31

-- Bytes mixed into a number: its digits in the base, modulo the prime.
abbrev pub mixed : ℕ → List ℕ → ℕ
mixed x [] = x % hash_prime
mixed x (b ∷ bs) = mixed (x * hash_base + b) bs

-- The bucket of a region.
unfoldable pub hash_of : Region → ℕ
hash_of r = mixed (mixed r.location (four_from r.whole 0)) (four_from r.rank 0)

-- The link to the last number below n that passes a test.
unfoldable pub last : (ℕ → Bool) → ℕ → ℕ
last p zero = 0
last p (suc j) = cond (p j) (suc j) (last p j)

-- Is entry j in a bucket?
abbrev pub in_bucket : List ℕ → ℕ → ℕ → Bool
in_bucket es bucket j = eqb (hash_of (region_at es j)) bucket

-- The index of the first n entries. There is room for all of them. The head of a bucket links to its last entry, and the link of
-- entry j to the last entry before j in the bucket of entry j.
pub record Index (es heads nexts : List ℕ) (n : ℕ) : Type 0 where
  pub few : n ≤ max_entries
  pub entries : entry_bytes * n ≤ length es
  pub buckets : bucket_count ≤ length heads
  pub links : n ≤ length nexts
  pub head : (bucket : ℕ) → bucket < bucket_count → get_or heads bucket 0 ≡ last (in_bucket es bucket) n
  pub next : (j : ℕ) → j < n → get_or nexts j 0 ≡ last (in_bucket es (hash_of (region_at es j))) j

-- The links of the code are the index of as many entries as they count.
abbrev pub Indexed : List ℕ → Links → Type 0
Indexed es links = Index es links.heads links.nexts links.count

-- The entries and their index have room for up to `cap` regions, of which some are listed.
pub record Room (cap : ℕ) (es : List ℕ) (links : Links) : Type 0 where
  pub index : Indexed es links
  pub room : links.count ≤ cap
  pub few : cap ≤ max_entries
  pub fits : entry_bytes * cap ≤ length es

-- What a search for a region among the first n entries finds: an entry that is the region, or that none is.
abbrev pub Found : List ℕ → ℕ → Region → Option ℕ → Type 0
Found es n r (Some j) = (j < n) × (region_at es j ≡ r)
Found es n r None = (j : ℕ) → j < n → region_at es j ≡ r → ⊥

-- A region is the next entry, and is in the index. All else stays.
pub record Added (r : Region) (es : List ℕ) (links : Links) (es' : List ℕ) (links' : Links) : Type 0 where
  pub index : Indexed es' links'
  pub count : links'.count ≡ links.count + 1
  pub entry : region_at es' links.count ≡ r
  pub before : (j : ℕ) → j < links.count → region_at es' j ≡ region_at es j
  pub after : (k : ℕ) → entry_bytes * links.count + entry_bytes ≤ k → get_or es' k 0 ≡ get_or es k 0
  pub entries : length es' ≡ length es

-- ---- The last number that passes a test: it is below n and passes, and none that passes is after it

pub last-most : (p : ℕ → Bool) (n : ℕ) → last p n ≤ n
unfolding last
last-most p zero = omega arith
last-most p (suc n) = go (p n) (last-most p n)
  where
    go : (b : Bool) → last p n ≤ n → cond b (suc n) (last p n) ≤ suc n
    go true h = omega arith
    go false h = omega arith

pub last-passes : (p : ℕ → Bool) (n j : ℕ) → last p n ≡ suc j → p j ≡ true
unfolding last
last-passes p zero j e = absurd (omega arith)
last-passes p (suc n) j e = go (p n) refl e (last-passes p n j)
  where
    go : (b : Bool) → p n ≡ b → cond b (suc n) (last p n) ≡ suc j → (last p n ≡ suc j → p j ≡ true) → p j ≡ true
    go true h e rest = let same : j ≡ n = omega arith in ap p same ∙ h
    go false h e rest = rest e

pub last-covers : (p : ℕ → Bool) (n j : ℕ) → j < n → p j ≡ true → j < last p n
unfolding last
last-covers p zero j h t = absurd (omega arith)
last-covers p (suc n) j h t = go (p n) refl (last-covers p n j)
  where
    go : (b : Bool) → p n ≡ b → (j < n → p j ≡ true → j < last p n) → j < cond b (suc n) (last p n)
    go true e rest = h
    go false e rest =
        let other : j ≡ n → ⊥ = λ same. false≢true (sym e ∙ ap p (sym same) ∙ t) in
        rest (omega (arith, other)) t

last-same : (p q : ℕ → Bool) (n : ℕ) → ((j : ℕ) → j < n → p j ≡ q j) → last p n ≡ last q n
unfolding last
last-same p q zero same = refl
last-same p q (suc n) same = rw (same n (omega arith), last-same p q n (λ j h. same j (omega arith)))

-- ---- The index

-- A hash names a bucket.
mixed-below : (x : ℕ) (bytes : List ℕ) → mixed x bytes < bucket_count
mixed-below x [] = omega arith
mixed-below x (b ∷ bytes) = mixed-below (x * hash_base + b) bytes

pub hash-below : (r : Region) → hash_of r < bucket_count
unfolding hash_of
hash-below r = mixed-below (mixed r.location (four_from r.whole 0)) (four_from r.rank 0)

-- Where all heads are 0, that is the index of no entry, whatever the other links are.
pub index-none : (es heads nexts : List ℕ) → bucket_count ≤ length heads
    → ((bucket : ℕ) → bucket < bucket_count → get_or heads bucket 0 ≡ 0) → Index es heads nexts 0
unfolding last
index-none es heads nexts buckets zeros =
    record {
      few = omega arith;
      entries = omega arith;
      buckets = buckets;
      links = omega arith;
      head = zeros;
      next = λ j h. absurd (omega arith);
    }

-- The links of no entry.
pub indexed-none : (es : List ℕ) (links : Links) → links.heads ≡ replicate bucket_count 0 → links.count ≡ 0 → Indexed es links
indexed-none es links zeros none =
    subst (Index es links.heads links.nexts) (sym none)
    (index-none es links.heads links.nexts (rw zeros (rw length-replicate (omega arith)))
    (λ bucket h. ap (λ l. get_or l bucket 0) zeros ∙ get_or-replicate bucket_count bucket 0 0 h))

-- A list of zeros is such heads.
pub index-zeros : (es nexts : List ℕ) → Index es (replicate bucket_count 0) nexts 0
index-zeros es nexts =
    index-none es (replicate bucket_count 0) nexts (rw length-replicate (omega arith))
    (λ bucket h. get_or-replicate bucket_count bucket 0 0 h)

-- The index is that of any list with the same first n entries.
pub index_same : (es es' heads nexts : List ℕ) (n : ℕ) → Index es heads nexts n → entry_bytes * n ≤ length es'
    → ((j : ℕ) → j < n → region_at es' j ≡ region_at es j) → Index es' heads nexts n
index_same es es' heads nexts n i room same =
    record {
      few = i.few;
      entries = room;
      buckets = i.buckets;
      links = i.links;
      head = λ bucket h. i.head bucket h ∙ bucket-same bucket n (λ j h. same j h);
      next = λ j h. i.next j h ∙ rw (same j h) (bucket-same (hash_of (region_at es j)) j (λ k less. same k (omega arith)));
    }
  where
    bucket-same : (bucket m : ℕ) → ((j : ℕ) → j < m → region_at es' j ≡ region_at es j)
        → last (in_bucket es bucket) m ≡ last (in_bucket es' bucket) m
    bucket-same bucket m same =
        last-same (in_bucket es bucket) (in_bucket es' bucket) m (λ j h. ap (λ r. eqb (hash_of r) bucket) (sym (same j h)))

-- The bytes from entry n on are no part of it.
pub index_kept : (es es' heads nexts : List ℕ) (n : ℕ) → Index es heads nexts n → length es' ≡ length es
    → ((k : ℕ) → k < entry_bytes * n → get_or es' k 0 ≡ get_or es k 0) → Index es' heads nexts n
index_kept es es' heads nexts n i e same =
    index_same es es' heads nexts n i (rw e i.entries) (λ j h. region-same es es' j (λ k low high. same k (omega arith)))

-- ---- Search

-- The search has come to a link: what is past it is not the region, and what it links to is in the region's bucket.
pub record Walking (es : List ℕ) (n : ℕ) (r : Region) (link : ℕ) : Type 0 where
  pub within : link ≤ n
  pub inside : (j : ℕ) → link ≡ suc j → hash_of (region_at es j) ≡ hash_of r
  pub ahead : (j : ℕ) → j < n → region_at es j ≡ r → j < link

module _ (es heads nexts : List ℕ) (n : ℕ) (r : Region) (i : Index es heads nexts n) where
  pub walking_start : Walking es n r (get_or heads (hash_of r) 0)
  walking_start =
      let p : ℕ → Bool = in_bucket es (hash_of r) in
      let is : get_or heads (hash_of r) 0 ≡ last p n = i.head (hash_of r) (hash-below r) in
      rw is (record {
        within = last-most p n;
        inside = λ j e. eqb-true (hash_of (region_at es j)) (hash_of r) (last-passes p n j e);
        ahead = λ j h same. last-covers p n j h (eq-eqb (hash_of (region_at es j)) (hash_of r) (ap hash_of same));
      })

  -- The entry of the link is not the region: the search goes on to the next link, which is lower.
  module _ (link : ℕ) (w : Walking es n r link) (some : 0 < link) where
    chain : ℕ → Bool
    chain = in_bucket es (hash_of (region_at es (link - 1)))

    next_last : get_or nexts (link - 1) 0 ≡ last chain (link - 1)
    unfolding chain
    next_last = i.next (link - 1) (omega (arith, w.within))

    pub next-falls : get_or nexts (link - 1) 0 < link
    next-falls = omega (arith, next_last, last-most chain (link - 1))

    pub walking_on : (region_at es (link - 1) ≡ r → ⊥) → Walking es n r (get_or nexts (link - 1) 0)
    unfolding chain
    walking_on differs =
        let here : hash_of (region_at es (link - 1)) ≡ hash_of r = w.inside (link - 1) (omega arith) in
        rw next_last (record {
          within = omega (arith, w.within, last-most chain (link - 1));
          inside = λ j e.
              eqb-true (hash_of (region_at es j)) (hash_of (region_at es (link - 1))) (last-passes chain (link - 1) j e) ∙ here;
          ahead = λ j h same.
              let other : j ≡ link - 1 → ⊥ = λ e. differs (ap (region_at es) (sym e) ∙ same) in
              last-covers chain (link - 1) j (omega (arith, w.ahead j h same, other))
              (eq-eqb (hash_of (region_at es j)) (hash_of (region_at es (link - 1))) (ap hash_of same ∙ sym here));
        })

  -- The entry of the link is the region.
  pub walking-found : (link : ℕ) → Walking es n r link → 0 < link → region_at es (link - 1) ≡ r → Found es n r (Some (link - 1))
  walking-found link w some e = (omega (arith, w.within), e)

  -- The search is over.
  pub walking-none : (link : ℕ) → Walking es n r link → link ≤ 0 → Found es n r None
  walking-none link w none = λ j h same. omega (arith, w.ahead j h same)

-- ---- One more entry

-- Entry n is linked in: its bucket's head links to it, and it to where the head did.
module _ (es heads nexts : List ℕ) (n : ℕ) (i : Index es heads nexts n) where
  abbrev own : ℕ
  own = hash_of (region_at es n)

  pub index_on : n < max_entries → entry_bytes * n + entry_bytes ≤ length es → n < length nexts
      → Index es (set heads own (suc n)) (set nexts n (get_or heads own 0)) (suc n)
  unfolding last
  index_on few room link =
      record {
        few = few;
        entries = omega (arith, room);
        buckets = rw length-set i.buckets;
        links = rw length-set link;
        head = λ bucket h. heads-on bucket h (eqb own bucket) refl;
        next = λ j h. nexts-on j h (eqb j n) refl;
      }
    where
      heads-on : (bucket : ℕ) → bucket < bucket_count → (b : Bool) → eqb own bucket ≡ b
          → get_or (set heads own (suc n)) bucket 0 ≡ cond (eqb own bucket) (suc n) (last (in_bucket es bucket) n)
      heads-on bucket h true e =
          ap (λ k. get_or (set heads own (suc n)) k 0) (sym (eqb-true own bucket e))
          ∙ get_or-set_same heads own (suc n) 0 (omega (arith, hash-below (region_at es n), i.buckets))
          ∙ sym (ap (λ b. cond b (suc n) (last (in_bucket es bucket) n)) e)
      heads-on bucket h false e =
          get_or-set_other heads own bucket (suc n) 0 (λ same. eqb-false own bucket e (sym same))
          ∙ i.head bucket h
          ∙ sym (ap (λ b. cond b (suc n) (last (in_bucket es bucket) n)) e)

      nexts-on : (j : ℕ) → j < suc n → (b : Bool) → eqb j n ≡ b
          → get_or (set nexts n (get_or heads own 0)) j 0 ≡ last (in_bucket es (hash_of (region_at es j))) j
      nexts-on j h true e =
          rw (eqb-true j n e)
          (get_or-set_same nexts n (get_or heads own 0) 0 link ∙ i.head own (hash-below (region_at es n)))
      nexts-on j h false e =
          get_or-set_other nexts n j (get_or heads own 0) 0 (eqb-false j n e) ∙ i.next j (omega (arith, eqb-false j n e))

-- One more entry is put into the index of entries that are there already.
pub linked_on : (es : List ℕ) (links links' : Links) (x : ℕ) → Index es links.heads links.nexts x → links.count ≡ x → x < max_entries
    → entry_bytes * x + entry_bytes ≤ length es → x < length links.nexts → (r : Region) → r ≡ region_at es x
    → links'.heads ≡ set links.heads (hash_of r) (links.count + 1)
    → links'.nexts ≡ set links.nexts links.count (get_or links.heads (hash_of r) 0)
    → Index es links'.heads links'.nexts (x + 1)
linked_on es links links' x i count few room link r is heads nexts =
    rw (heads, nexts, count, is, add-one x) (index_on es links.heads links.nexts x i few room link)

module _ (es : List ℕ) (links : Links) (r : Region) (i : Indexed es links) where
  -- A head is a link to one of the entries.
  pub head_few : get_or links.heads (hash_of r) 0 ≤ max_entries
  head_few = omega (arith, i.few, i.head (hash_of r) (hash-below r), last-most (in_bucket es (hash_of r)) links.count)

  -- What the code stores, where there is room.
  module _ (es' : List ℕ) (links' : Links) (few : links.count < max_entries) (room : entry_bytes * links.count + entry_bytes ≤ length es)
      (link : links.count < length links.nexts) (sized : Sized r) (stored : es' ≡ sets es (entry_bytes * links.count) (bytes_of r))
      (heads : links'.heads ≡ set links.heads (hash_of r) (links.count + 1))
      (nexts : links'.nexts ≡ set links.nexts links.count (get_or links.heads (hash_of r) 0))
      (count : links'.count ≡ links.count + 1) where
    long : length es' ≡ length es
    long = ap length stored ∙ stored-length es links.count r

    here : region_at es' links.count ≡ r
    here = ap (λ l. region_at l links.count) stored ∙ stored_here es links.count r sized room

    other : (j : ℕ) → j < links.count → region_at es' j ≡ region_at es j
    other j h = ap (λ l. region_at l j) stored ∙ stored_other es links.count r j (omega arith)

    -- The entries that were listed before are indexed as they were.
    pub old_index : Indexed es' links
    old_index = index_same es es' links.heads links.nexts links.count i (rw long i.entries) other

    pub added : Added r es links es' links'
    added =
        record {
          index = rw (count, add-one, heads, nexts)
              (rw (add-one, ← here) (index_on es' links.heads links.nexts links.count old_index few (rw long room) link));
          count = count;
          entry = here;
          before = other;
          after = λ k h. ap (λ l. get_or l k 0) stored ∙ stored-outside es links.count r k (inr h);
          entries = long;
        }
