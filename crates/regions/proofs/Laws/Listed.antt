-- What is so of the first entry in an index, and of entries and an index in lists of any length, with the room that these lists have: laws
-- that stand for a reader of the definitions; the code, whose links are arrays, needs none of them.
use Rattle.std.specs.Prelude.{ℕ, ◌+◌, ◌*◌, ◌≤◌, ◌<◌, ◌≡◌, refl, List, [], ◌∷◌, length, get_or}
use Rattle.std.proofs.Common.{arith, sym, ◌∙◌, ap, subst}
use Rattle.clocks.specs.declared.region.Region.{Region}
use Rattle.regions.specs.Entries.{entry_bytes, max_entries, region_at}
use Rattle.regions.specs.Index.{Index}
use Rattle.regions.specs.Index as I
use Rattle.regions.specs.Explore.{listed}
use Rattle.regions.specs.Explore as E
use Rattle.regions.specs.declared.index.Links.{Links}

-- The first region is listed in an index of no entry.
pub first-room : (cap : ℕ) (es : List ℕ) (links : Links) (es' : List ℕ) (links' : Links) (q : Region) → 0 < cap → cap ≤ max_entries
    → entry_bytes * cap ≤ length es → I.Added q es links es' links' → links.count ≡ 0
    → I.Room cap es' links' × (listed es' 1 ≡ q ∷ [])
first-room cap es links es' links' q some few fits added none = (
  record {
    index = added.index;
    room = omega (arith, added.count);
    few = few;
    fits = rw added.entries fits;
  },
  E.first-listed es' q (ap (region_at es') (sym none) ∙ added.entry),
)

-- ---- In lists of any length

-- The entries and their index have room for up to `cap` regions, of which n are listed.
pub record Room (cap : ℕ) (es heads nexts : List ℕ) (n : ℕ) : Type 0 where
  pub index : Index es heads nexts n
  pub room : n ≤ cap
  pub few : cap ≤ max_entries
  pub fits : entry_bytes * cap ≤ length es
  pub links : cap ≤ length nexts

-- A region is entry n, and is in the index. All else stays.
pub record Added (r : Region) (n : ℕ) (es heads nexts es' heads' nexts' : List ℕ) : Type 0 where
  pub index : Index es' heads' nexts' (n + 1)
  pub entry : region_at es' n ≡ r
  pub before : (j : ℕ) → j < n → region_at es' j ≡ region_at es j
  pub after : (k : ℕ) → entry_bytes * n + entry_bytes ≤ k → get_or es' k 0 ≡ get_or es k 0
  pub entries : length es' ≡ length es
  pub buckets : length heads' ≡ length heads
  pub links : length nexts' ≡ length nexts

-- Some were listed, from n on to `count`: there is room as before, and the bytes after the entries stay.
pub record Kept (cap n : ℕ) (es heads nexts es' heads' nexts' : List ℕ) (count : ℕ) : Type 0 where
  pub room : Room cap es' heads' nexts' count
  pub entries : length es' ≡ length es
  pub buckets : length heads' ≡ length heads
  pub links : length nexts' ≡ length nexts
  pub more : n ≤ count
  pub after : (k : ℕ) → entry_bytes * count ≤ k → get_or es' k 0 ≡ get_or es k 0

-- The links that the code holds are such lists.
pub room-in : (cap : ℕ) (es : List ℕ) (links : Links) → I.Room cap es links → cap ≤ length links.nexts
    → Room cap es links.heads links.nexts links.count
room-in cap es links room long =
    record { index = room.index; room = room.room; few = room.few; fits = room.fits; links = long }

pub added-in : (r : Region) (es : List ℕ) (links : Links) (es' : List ℕ) (links' : Links) → I.Added r es links es' links'
    → length links'.heads ≡ length links.heads → length links'.nexts ≡ length links.nexts
    → Added r links.count es links.heads links.nexts es' links'.heads links'.nexts
added-in r es links es' links' added heads nexts =
    record {
      index = subst (Index es' links'.heads links'.nexts) added.count added.index;
      entry = added.entry;
      before = added.before;
      after = added.after;
      entries = added.entries;
      buckets = heads;
      links = nexts;
    }

-- The first region is listed in an index of no entry.
pub first-listed : (cap : ℕ) (es heads nexts es' heads' nexts' : List ℕ) (q : Region) → 0 < cap → cap ≤ max_entries
    → entry_bytes * cap ≤ length es → cap ≤ length nexts → Added q 0 es heads nexts es' heads' nexts'
    → Room cap es' heads' nexts' 1 × (listed es' 1 ≡ q ∷ [])
first-listed cap es heads nexts es' heads' nexts' q some few fits links added = (
  record {
    index = added.index;
    room = some;
    few = few;
    fits = rw added.entries fits;
    links = rw added.links links;
  },
  E.first-listed es' q added.entry,
)

pub kept-none : (cap n : ℕ) (es heads nexts : List ℕ) → Room cap es heads nexts n → Kept cap n es heads nexts es heads nexts n
kept-none cap n es heads nexts room =
    record { room = room; entries = refl; buckets = refl; links = refl; more = omega arith; after = λ k h. refl }

pub kept_on : (cap n : ℕ) (es heads nexts es' heads' nexts' es'' heads'' nexts'' : List ℕ) (j k : ℕ)
    → Kept cap n es heads nexts es' heads' nexts' j → Kept cap j es' heads' nexts' es'' heads'' nexts'' k
    → Kept cap n es heads nexts es'' heads'' nexts'' k
kept_on cap n es heads nexts es' heads' nexts' es'' heads'' nexts'' j k a b =
    record {
      room = b.room;
      entries = b.entries ∙ a.entries;
      buckets = b.buckets ∙ a.buckets;
      links = b.links ∙ a.links;
      more = omega (arith, a.more, b.more);
      after = λ i h. b.after i h ∙ a.after i (omega (arith, b.more));
    }

-- One more entry keeps the others.
module _ (cap n : ℕ) (es heads nexts : List ℕ) (room : Room cap es heads nexts n) (q : Region) where
  pub one_kept : n < cap → (es' heads' nexts' : List ℕ) → Added q n es heads nexts es' heads' nexts'
      → Kept cap n es heads nexts es' heads' nexts' (n + 1)
  one_kept h es' heads' nexts' added =
      record {
        room =
            record {
              index = added.index;
              room = omega arith;
              few = room.few;
              fits = rw added.entries room.fits;
              links = rw added.links room.links;
            };
        entries = added.entries;
        buckets = added.buckets;
        links = added.links;
        more = omega arith;
        after = λ k i. added.after k (omega arith);
      }
