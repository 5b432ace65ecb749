-- What follows from the definitions of the rounds for one more item of a list, for links as plain numbers, for a search, for two tags that
-- are swapped, for keys that are forgotten, and for what is stored in the index of first items: laws that stand for a reader of the
-- definitions; the code needs few of them.
use Rattle.std.specs.Prelude.{ℕ, zero, suc, ◌+◌, ◌-◌, ◌≤◌, ◌<◌, ◌≡◌, refl, Bool, true, false, cond, List, [], ◌∷◌, ◌⊎◌, Option, None, Some}
use Rattle.std.specs.Prelude.{eqb, length, get_or, set, replicate, map}
use Rattle.std.specs.List.{swap}
use Rattle.std.proofs.Common.{arith, add-one, sym, ◌∙◌, ap, subst, inl, inr, ext_get_or, length-set}
use Rattle.std.proofs.Common.{get_or-set_same, get_or-set_other, eq-eqb, ne_eqb}
use Rattle.std.proofs.lemmas.List.{length-replicate}
use Rattle.std.proofs.lemmas.List.Edits.{swap_is}
use Rattle.std.proofs.Math.Decide.{dec_lt}
use Rattle.std.proofs.Math.Seq.{set_out}
use Rattle.bisimulation.specs.Finite.{related, lead, leaders}
use Rattle.bisimulation.specs.Below.{EquivalenceBelow, Reps}
use Rattle.bisimulation.proofs.Laws.Tests.{same?}
use Rattle.comparison.specs.Held.{most_items}
use Rattle.comparison.specs.Keys as K
use Rattle.comparison.specs.Laws.Steps.{below_one}
use Rattle.comparison.specs.declared.held.Graph.{Graph}
use Rattle.rounds.specs.Changes.{Stirred}
use Rattle.rounds.specs.Names.{Changed, TaggedIn}
use Rattle.rounds.specs.Rounds.{Numbered, Led, FirstWith, Seen, label_room, Step, LedByKin, Chains, Last, Forgotten}
use Rattle.rounds.specs.Firsts.{bucket_at, Indexed}
use Rattle.rounds.specs.Laws.Rounds as R
use Rattle.rounds.specs.Laws.Rounds.{Counts}
use Rattle.rounds.specs.Laws.Firsts as F
use Rattle.rounds.specs.Laws.Names as N
use Rattle.rounds.specs.declared.links.Buckets.{Buckets}

-- ---- Lists filled from the front

-- The count of leaders after an item whose lead is given.
abbrev pub count_after : (i lead count : ℕ) → ℕ
count_after i lead count = cond (eqb lead i) (suc count) count

pub counts-after : (i l count : ℕ) → Counts i l count (count_after i l count)
counts-after i l count = go (same? l i)
  where
    go : (l ≡ i) ⊎ (¬ (l ≡ i)) → Counts i l count (count_after i l count)
    go (inl s) = Counts.one_more s (rw (eq-eqb l i s) (sym (add-one count)))
    go (inr o) = Counts.as_before o (rw (ne_eqb l i o) refl)

pub count-on : (d : ℕ → ℕ → Bool) (i l count : ℕ) → l ≡ lead d i → count ≡ leaders d i → count_after i l count ≡ leaders d (i + 1)
count-on d i l count e h = R.count-on d i l count (count_after i l count) e h (counts-after i l count)

pub led_on : (d : ℕ → ℕ → Bool) (list : List ℕ) (i l count : ℕ) → i < length list → Led d list i count → l ≡ lead d i
    → Led d (set list i l) (i + 1) (count_after i l count)
led_on d list i l count h led e = R.led_on d list i l count (count_after i l count) h led e (counts-after i l count)

-- One more element of a list is as it should be.
pub filled_on : {A : Type 0} (none : A) (P : ℕ → A → Type 0) (list : List A) (i : ℕ) (v : A) → i < length list
    → ((x : ℕ) → x < i → P x (get_or list x none)) → P i v → (x : ℕ) → x < i + 1 → P x (get_or (set list i v) x none)
filled_on none P list i v h all here x b = go (below_one b)
  where
    go : (x ≡ i) ⊎ (x < i) → P x (get_or (set list i v) x none)
    go (inl same) = rw (same, get_or-set_same list i v none h) here
    go (inr below) = rw (get_or-set_other list i x v none (λ s. absurd (omega (arith, s)))) (all x below)

-- A list that was copied from the front.
abbrev pub CopiedTo : ℕ → (from to : List ℕ) → Type 0
CopiedTo i from to = (x : ℕ) → x < i → get_or to x 0 ≡ get_or from x 0

pub copied_on : (from to : List ℕ) (i v : ℕ) → i < length to → CopiedTo i from to → v ≡ get_or from i 0
    → CopiedTo (i + 1) from (set to i v)
copied_on from to i v h copied e x hx = at (below_one hx)
  where
    at : (x ≡ i) ⊎ (x < i) → get_or (set to i v) x 0 ≡ get_or from x 0
    at (inl s) = rw s (get_or-set_same to i v 0 h ∙ e)
    at (inr b) = get_or-set_other to i x v 0 (λ s. absurd (omega (arith, s))) ∙ copied x b

pub copied-over : (from to : List ℕ) (n i : ℕ) → length from ≡ n → length to ≡ n → n ≤ i → CopiedTo i from to → to ≡ from
copied-over from to n i hf ht h copied = ext_get_or 0 to from (ht ∙ sym hf) (λ x hx. copied x (omega arith))

-- A cleared list, and past its end.
pub zeros-at : (m b : ℕ) → get_or (replicate {A = ℕ} m 0) b 0 ≡ 0
zeros-at zero b = refl
zeros-at (suc m) zero = refl
zeros-at (suc m) (suc b) = zeros-at m b

-- ---- Numbering

-- What is written at an item whose lead is given.
abbrev pub number_of : (list : List ℕ) → (i lead count : ℕ) → ℕ
number_of list i lead count = cond (eqb lead i) count (get_or list lead 0)

module _ (n : ℕ) (q : ℕ → ℕ → Bool) (classes : EquivalenceBelow n q) (list₀ : List ℕ) (reps : Reps q n list₀) where
  pub numbered-on : (list : List ℕ) (i l count : ℕ) → length list ≡ n → i < n → Numbered q list₀ list i count → l ≡ get_or list i 0
      → Numbered q list₀ (set list i (number_of list i l count)) (i + 1) (count_after i l count)
  numbered-on list i l count hl h numbered e = go (same? l i)
    where
      go : (l ≡ i) ⊎ (¬ (l ≡ i)) → Numbered q list₀ (set list i (number_of list i l count)) (i + 1) (count_after i l count)
      go (inl s) =
          rw (eq-eqb l i s)
          (subst (λ (k : ℕ). Numbered q list₀ (set list i count) (i + 1) k) (add-one count)
          (R.numbered_new n q classes list₀ reps list i count hl h numbered (sym e ∙ s)))
      go (inr o) =
          rw (ne_eqb l i o)
          (subst (λ (k : ℕ). Numbered q list₀ (set list i (get_or list k 0)) (i + 1) count) (sym e)
          (R.numbered_old n q classes list₀ reps list i count hl h numbered (λ s. o (e ∙ s))))

-- ---- Round 0

-- The lead that a link tells: item i itself where there is none.
abbrev pub lead_by : (link i : ℕ) → ℕ
lead_by link i = cond (eqb link 0) i (link - 1)

module _ (labels seen : List ℕ) (i label link l : ℕ) (known : Seen labels seen i) (labelled : label ≡ get_or labels i 0)
    (room : label < label_room) (long : length seen ≡ label_room) (linked : link ≡ get_or seen label 0) (led : l ≡ lead_by link i) where
  some-link : (m : ℕ) → link ≡ suc m → l ≡ m
  some-link m e = led ∙ rw (ne_eqb link 0 (λ z. omega (arith, e, z))) (omega (arith, e))

  -- The lead that the link tells, and that it is the first with that label.
  pub seen-lead : l ≡ lead (related labels) i
  seen-lead = go (known.at label room)
    where
      go : FirstWith labels i label (get_or seen label 0) → l ≡ lead (related labels) i
      go (FirstWith.none e none) =
          let (is, _) = R.seen_new labels seen i label known labelled room e long in
          led ∙ rw (eq-eqb link 0 (linked ∙ e)) is
      go (FirstWith.some m e below at none) =
          let (is, _, _) = R.seen_known labels seen i label known labelled room m e in
          some-link m (linked ∙ e) ∙ is

  pub seen-on : Seen labels (set seen label (l + 1)) (i + 1)
  seen-on = go (known.at label room)
    where
      same : (m : ℕ) → get_or seen label 0 ≡ suc m → (label' : ℕ) → get_or (set seen label (l + 1)) label' 0 ≡ get_or seen label' 0
      same m e label' = at (same? label' label)
        where
          at : (label' ≡ label) ⊎ (¬ (label' ≡ label)) → get_or (set seen label (l + 1)) label' 0 ≡ get_or seen label' 0
          at (inl s) = rw s (get_or-set_same seen label (l + 1) 0 (omega arith) ∙ omega (arith, some-link m (linked ∙ e), e))
          at (inr o) = get_or-set_other seen label label' (l + 1) 0 o

      go : FirstWith labels i label (get_or seen label 0) → Seen labels (set seen label (l + 1)) (i + 1)
      go (FirstWith.none e none) =
          let (_, on) = R.seen_new labels seen i label known labelled room e long in
          let here : l ≡ i = led ∙ rw (eq-eqb link 0 (linked ∙ e)) refl in
          subst (λ (k : ℕ). Seen labels (set seen label (k + 1)) (i + 1)) (sym here) on
      go (FirstWith.some m e below at none) =
          let (_, _, on) = R.seen_known labels seen i label known labelled room m e in
          record { at = λ label' h. subst (λ (v : ℕ). FirstWith labels (i + 1) label' v) (sym (same m e label')) (on.at label' h) }

-- ---- Kins

-- All links lead to items below i: link z + 1 is item z, and 0 is none.
abbrev pub Kins : (i : ℕ) → (kins : List ℕ) → Type 0
Kins i kins = (b z : ℕ) → get_or kins b 0 ≡ suc z → z < i

-- None at first, and then only items that were passed.
pub kins-none : (kins : List ℕ) → ((b : ℕ) → get_or kins b 0 ≡ 0) → Kins 0 kins
kins-none kins none b z e = absurd (omega (arith, none b, e))

pub kins-kept : (kins : List ℕ) (i : ℕ) → Kins i kins → Kins (i + 1) kins
kins-kept kins i known b z e = let below = known b z e in omega arith

pub kins-set : (kins kins' : List ℕ) (i b v : ℕ) → kins' ≡ set kins b v → ((z : ℕ) → v ≡ suc z → z < i) → Kins i kins → Kins i kins'
kins-set kins kins' i b v e below known = rw e (go (dec_lt b (length kins)))
  where
    go : Dec (b < length kins) → Kins i (set kins b v)
    go (no h) = rw (set_out kins b v (omega arith)) known
    go (yes h) = λ c z f. at c z f (same? c b)
      where
        at : (c z : ℕ) → get_or (set kins b v) c 0 ≡ suc z → (c ≡ b) ⊎ (¬ (c ≡ b)) → z < i
        at c z f (inl s) =
            below z (sym (ap (λ (m : ℕ). get_or (set kins b v) m 0) s ∙ get_or-set_same kins b v 0 h) ∙ f)
        at c z f (inr o) = known c z (sym (get_or-set_other kins b c v 0 o) ∙ f)

-- Item i becomes the first kin of b, and what was first there comes after it.
pub kins-put : (kins kins' : List ℕ) (i b : ℕ) → kins' ≡ set kins b (i + 1) → Kins i kins → Kins (i + 1) kins'
kins-put kins kins' i b e known = kins-set kins kins' (i + 1) b (i + 1) e (λ z f. omega arith) (kins-kept kins i known)

pub older-put : (kins older older' : List ℕ) (i b v : ℕ) → v ≡ get_or kins b 0 → older' ≡ set older i v → Kins i kins → Kins i older
    → Kins (i + 1) older'
older-put kins older older' i b v first e known olds =
    kins-kept older' i (kins-set older older' i i v e (λ z f. known b z (sym first ∙ f)) olds)

-- A lead that was found by a kin.
pub kin-found : (d : ℕ → ℕ → Bool) (x : ℕ) (led : Option ℕ) (l : ℕ) → LedByKin d x led → led ≡ Some l → lead d x ≡ l
kin-found d x None l found e = cc
kin-found d x (Some k) l found e = let same : k ≡ l = cc in sym found.0 ∙ same

-- ---- Searches

-- A search along the leaders for that of x ended at y: it found the lead of x, or none, and y is the last leader before x.
pub record Searched (d q : ℕ → ℕ → Bool) (x : ℕ) (hit : Bool) (y : ℕ) : Type 0 where
  pub hits : hit ≡ true → (lead d x ≡ y) × (y < x)
  pub misses : hit ≡ false → Last d q x y

module _ (d : ℕ → ℕ → Bool) (n : ℕ) (old : List ℕ) (step : Step d n old) (links links₁ : List ℕ) (x : ℕ) (hx : x < n)
    (long : n ≤ length links) (chains : Chains d (related old) links x) (cleared : links₁ ≡ set links x 0) where
  cleared-chains : Chains d (related old) links₁ x
  cleared-chains = rw cleared (R.chains-cleared d n old step links x hx chains)

  zero-here : get_or links₁ x 0 ≡ 0
  zero-here = rw cleared (get_or-set_same links x 0 0 (omega arith))

  -- The link of x is cleared, and where a search found no lead it is linked in.
  pub placed-hit : (hit : Bool) (y : ℕ) → Searched d (related old) x hit y → hit ≡ true
      → (y ≡ lead d x) × Chains d (related old) links₁ (x + 1)
  placed-hit hit y searched t = let (e, h) = searched.hits t in R.placed-known d n old step links₁ x hx cleared-chains y e h

  pub placed-new : (hit : Bool) (y : ℕ) → Searched d (related old) x hit y → hit ≡ false
      → (links₂ : List ℕ) → links₂ ≡ set links₁ y x → (x ≡ lead d x) × Chains d (related old) links₂ (x + 1)
  placed-new hit y searched f links₂ e =
      let long₁ = ap length cleared ∙ length-set links x 0 in
      rw e (R.placed-new d n old step links₁ x hx cleared-chains y (searched.misses f) zero-here (omega arith))

-- ---- Names

-- One more number is its own tag.
abbrev pub OwnTo : ℕ → (tags : List ℕ) → Type 0
OwnTo i tags = (l : ℕ) → l < i → get_or tags l 0 ≡ l

pub own_on : (tags : List ℕ) (i : ℕ) → i < length tags → OwnTo i tags → OwnTo (i + 1) (set tags i i)
own_on tags i h own l hl = at (below_one hl)
  where
    at : (l ≡ i) ⊎ (l < i) → get_or (set tags i i) l 0 ≡ l
    at (inl s) = rw s (get_or-set_same tags i i 0 h)
    at (inr b) = get_or-set_other tags i l i 0 (λ s. absurd (omega (arith, s))) ∙ own l b

-- Two tags are swapped, as by std's `swap` where both are there.
abbrev pub swapped : (tags : List ℕ) → (x y : ℕ) → List ℕ
swapped tags x y = set (set tags x (get_or tags y 0)) y (get_or tags x 0)

pub swapped-is : (tags : List ℕ) (x y : ℕ) → x < length tags → y < length tags → swapped tags x y ≡ swap tags x y
swapped-is tags x y hx hy = swap_is tags x y 0 hx hy

pub swapped-length : (tags : List ℕ) (x y : ℕ) → length (swapped tags x y) ≡ length tags
swapped-length tags x y = length-set (set tags x (get_or tags y 0)) y (get_or tags x 0) ∙ length-set tags x (get_or tags y 0)

pub tagged-swap : (n : ℕ) (these : ℕ → Type 0) (tags : List ℕ) (x y : ℕ) → x < n → y < n → these x → these y → n ≤ length tags
    → TaggedIn n these tags → TaggedIn n these (swapped tags x y)
tagged-swap n these tags x y hx hy sx sy long tagged =
    subst (TaggedIn n these) (sym (swapped-is tags x y (omega arith) (omega arith)))
    (N.tagged-swap n these tags x y hx hy sx sy long tagged)

-- After a round: some flags mark what changed its name, and what these reach is stirred.
abbrev pub Followed : Graph → (names names' : List ℕ) → (stirred : List Bool) → Type 0
Followed g names names' stirred = (changed : List Bool) × (Changed g.n names names' changed × Stirred g changed stirred)

-- ---- Keys that are forgotten

-- Which items are stirred, as numbers: 1 where one is, and else 0.
abbrev pub numbered : List Bool → List ℕ
numbered stirred = map (λ b. cond b 1 0) stirred

numbered-at : (stirred : List Bool) (x : ℕ) → get_or (numbered stirred) x 0 ≡ cond (get_or stirred x false) 1 0
numbered-at [] x = refl
numbered-at (b ∷ stirred) zero = refl
numbered-at (b ∷ stirred) (suc x) = numbered-at stirred x

-- What is forgotten by flags is forgotten by these numbers, as comparison's `forget_keys` says it.
pub forgotten-numbered : (n : ℕ) (keys keys' : List ℕ) (stirred : List Bool) → Forgotten n keys keys' stirred
    → K.Forgotten n keys keys' (numbered stirred)
forgotten-numbered n keys keys' stirred (done, rest) =
    (λ x h. rw (numbered-at stirred x) (done x h ∙ at (get_or stirred x false) (get_or keys x 0)), rest)
  where
    at : (b : Bool) (key : ℕ) → cond b 0 key ≡ cond (eqb (cond b 1 0) 0) key 0
    at true key = refl
    at false key = refl

-- ---- The index of first items

-- The index, in lists that have room for all items.
pub record IndexedIn (list : List ℕ) (stored : Buckets) (x : ℕ) : Type 0 where
  pub buckets : length stored.heads ≡ most_items
  pub room : length stored.links ≡ most_items
  pub index : Indexed list stored x

-- Lists of zeros are the index of no item.
pub indexed-none : (list : List ℕ) → IndexedIn list (record { heads = replicate most_items 0; links = replicate most_items 0 }) 0
indexed-none list =
    record {
      buckets = length-replicate {A = ℕ} most_items 0;
      room = length-replicate {A = ℕ} most_items 0;
      index = F.indexed-none list (record { heads = replicate most_items 0; links = replicate most_items 0 }) (zeros-at most_items);
    }

module _ (list heads links : List ℕ) (x : ℕ) (index : IndexedIn list (record { heads = heads; links = links }) x) where
  abbrev stored : Buckets
  stored = record { heads = heads; links = links }

  -- An item that does not lead is in no bucket.
  pub indexed-past : ¬ (lead (related list) x ≡ x) → IndexedIn list (record { heads = heads; links = links }) (x + 1)
  indexed-past other =
      record { buckets = index.buckets; room = index.room; index = F.indexed-past list stored x index.index other }

  -- One that leads is the new head of its bucket, and links to the old one.
  pub indexed-on : x < most_items → lead (related list) x ≡ x
      → IndexedIn list (record {
        heads = set heads (bucket_at list x) (x + 1);
        links = set links x (get_or heads (bucket_at list x) 0);
      }) (x + 1)
  indexed-on few leads =
      record {
        buckets = length-set heads (bucket_at list x) (x + 1) ∙ index.buckets;
        room = length-set links x (get_or heads (bucket_at list x) 0) ∙ index.room;
        index = F.indexed-on list stored x index.index (omega (arith, index.buckets)) (omega (arith, few, index.room)) leads;
      }

-- What is stored for an item that leads.
pub indexed-put : (list : List ℕ) (stored : Buckets) (x : ℕ) → IndexedIn list stored x → (bucket head : ℕ) (heads' links' : List ℕ)
    → x < most_items → lead (related list) x ≡ x → bucket ≡ bucket_at list x → head ≡ get_or stored.heads bucket 0
    → links' ≡ set stored.links x head → heads' ≡ set stored.heads bucket (x + 1)
    → IndexedIn list (record { heads = heads'; links = links' }) (x + 1)
indexed-put list stored x indexed bucket head heads' links' few leads own was links-are heads-are =
    rw (heads-are, links-are, was, own) (indexed-on list stored.heads stored.links x indexed few leads)
