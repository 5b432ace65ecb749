-- Exploring into entries: the regions listed so far, what meeting regions does to them, and laws to put such steps together.
use Rattle.std.specs.Prelude.{Option, Some, None, is_some, Result, Ok, Err, ℕ, zero, suc, ◌+◌, ◌-◌, ◌*◌, ◌≤◌, ◌<◌, ◌≡◌, refl, Bool, true}
use Rattle.std.specs.Prelude.{false, ◌&&◌, eqb, ltb, length, get_or, take, drop}
use Rattle.std.proofs.Common.{arith, add-one, ◌∙◌, ap₂, length-append, take-append-drop, take-suc}
use Rattle.std.proofs.Common.{take_all, eqb-true, eq-eqb, ltb-true, ltb-false}
use Rattle.std.proofs.Math.Path.{sym, ap}
use mathlib.Core.List.{List, [], ◌∷◌, ◌++◌, append_assoc, append-nil}
use Rattle.std.proofs.Math.ListN.{get_or-append}
use Rattle.std.proofs.lemmas.List.{get_or_at}
use Rattle.regions.specs.Entries.{entry_bytes, region_at}
use Rattle.regions.specs.Index.{Found as FoundAt}
use Rattle.regions.specs.Graph.{gather}
use Rattle.regions.specs.Worklist.{Found, complete, full, and_then, known, meet, explore_from, explore}
use Rattle.regions.specs.Laws.Worklist.{meet-known, meet-new, meet-full, meet-append, known_at, known-nowhere, turn, over, begin, no_room}
use Rattle.regions.specs.declared.explore.Full.{Full}
use Rattle.regions.specs.declared.index.Listed.{Listed}
use Rattle.regions.specs.declared.index.Listing.{Listing}
use Rattle.clocks.specs.declared.region.Region.{Region}

-- ---- Are two regions the same?

abbrev pub same_list : List ℕ → List ℕ → Bool
same_list [] [] = true
same_list [] (y ∷ b) = false
same_list (x ∷ a) [] = false
same_list (x ∷ a) (y ∷ b) = eqb x y && same_list a b

unfoldable pub same_region : Region → Region → Bool
same_region a b = eqb a.location b.location && (same_list a.whole b.whole && same_list a.rank b.rank)

pub both_true : (a b : Bool) → (a && b) ≡ true → (a ≡ true) × (b ≡ true)
both_true true b e = (refl, e)
both_true false b e = absurd (let z : ◌≡◌ {A = ℕ} 0 1 = cc in omega arith)

list-true : (a b : List ℕ) → same_list a b ≡ true → a ≡ b
list-true [] [] e = refl
list-true [] (y ∷ b) e = absurd (let z : ◌≡◌ {A = ℕ} 0 1 = cc in omega arith)
list-true (x ∷ a) [] e = absurd (let z : ◌≡◌ {A = ℕ} 0 1 = cc in omega arith)
list-true (x ∷ a) (y ∷ b) e =
    let (h, t) = both_true (eqb x y) (same_list a b) e in
    ap₂ (λ (u : ℕ) (v : List ℕ). u ∷ v) (eqb-true x y h) (list-true a b t)

list-refl : (a : List ℕ) → same_list a a ≡ true
list-refl [] = refl
list-refl (x ∷ a) = rw (eq-eqb x x refl) (list-refl a)

pub same_true : (a b : Region) → same_region a b ≡ true → a ≡ b
unfolding same_region
same_true a b e =
    let (l, r) = both_true (eqb a.location b.location) _ e in
    let (w, k) = both_true (same_list a.whole b.whole) (same_list a.rank b.rank) r in
    let made : ℕ → List ℕ → List ℕ → Region = λ x y z. record { location = x; whole = y; rank = z } in
    ap (λ (x : ℕ). made x a.whole a.rank) (eqb-true a.location b.location l)
    ∙ ap₂ (made b.location) (list-true a.whole b.whole w) (list-true a.rank b.rank k)

pub same_refl : (a : Region) → same_region a a ≡ true
unfolding same_region
same_refl a = rw (eq-eqb a.location a.location refl, list-refl a.whole, list-refl a.rank)

-- ---- The regions listed so far

-- The first n entries.
unfoldable pub listed : List ℕ → ℕ → List Region
listed es zero = []
listed es (suc n) = listed es n ++ (region_at es n ∷ [])

pub listed-length : (es : List ℕ) (n : ℕ) → length (listed es n) ≡ n
unfolding listed
listed-length es zero = refl
listed-length es (suc n) = length-append (listed es n) (region_at es n ∷ []) ∙ omega (arith, listed-length es n)

-- Entries that are the same are listed the same.
pub listed_same : (es es' : List ℕ) (n : ℕ) → ((j : ℕ) → j < n → region_at es' j ≡ region_at es j) → listed es' n ≡ listed es n
unfolding listed
listed_same es es' zero same = refl
listed_same es es' (suc n) same = rw (same n (omega arith), listed_same es es' n (λ j h. same j (omega arith)))

pub listed_at : (es : List ℕ) (n j : ℕ) (d : Region) → j < n → get_or (listed es n) j d ≡ region_at es j
unfolding listed
listed_at es zero j d h = absurd (omega arith)
listed_at es (suc n) j d h = side (ltb j n) refl (listed_at es n j d)
  where
    side : (b : Bool) → ltb j n ≡ b → (j < n → get_or (listed es n) j d ≡ region_at es j)
        → get_or (listed es n ++ (region_at es n ∷ [])) j d ≡ region_at es j
    side true e rest =
        get_or-append (listed es n) (region_at es n ∷ []) d j (omega (arith, listed-length es n, ltb-true j n e))
        ∙ rest (ltb-true j n e)
    side false e rest =
        let last : n ≡ j = omega (arith, ltb-false j n e) in
        get_or_at (listed es n) (region_at es n) [] d j (listed-length es n ∙ last) ∙ ap (region_at es) last

-- Entries that the code has listed: the regions, region x, and how many there are.
abbrev pub regions_of : Listed → List Region
regions_of l = listed l.entries.now l.links.now.count

abbrev pub region_of : Listed → ℕ → Region
region_of l x = region_at l.entries.now x

abbrev pub size_of : Listed → ℕ
size_of l = l.links.now.count

-- And entries that it is listing: the regions so far.
abbrev pub so_far : Listing → List Region
so_far l = listed l.entries.now l.links.count

-- ---- Meeting regions

-- Meeting does not ask what regions lead to.
pub no_next : Region → List Region
no_next r = []

-- The entries are those that were lent.
abbrev pub SameSlice : (before after : Listing) → Type 0
SameSlice l l' = l'.entries.ghost_name ≡ l.entries.ghost_name

-- Some were listed: there is room for as many as before, and the bytes after the entries stay.
pub record Kept (l l' : Listing) : Type 0 where
  pub cap : l'.cap ≡ l.cap
  pub entries : length l'.entries.now ≡ length l.entries.now
  pub more : l.links.count ≤ l'.links.count
  pub after : (k : ℕ) → entry_bytes * l'.links.count ≤ k → get_or l'.entries.now k 0 ≡ get_or l.entries.now k 0

-- The bytes after the first entries stay, and so does the length.
pub record Left (es es' : List ℕ) (count : ℕ) : Type 0 where
  pub entries : length es' ≡ length es
  pub fits : entry_bytes * count ≤ length es
  pub after : (k : ℕ) → entry_bytes * count ≤ k → get_or es' k 0 ≡ get_or es k 0

-- What the code found, where it answers whether there was room.
abbrev pub found_of : {A : Type 0} → Result A Full → List Region → Found Region
found_of (Ok x) l = complete l
found_of (Err e) l = full l

-- How many regions are listed then.
abbrev pub count_of : ℕ → Result ℕ Full → ℕ
count_of cap (Ok n) = n
count_of cap (Err e) = cap

-- The regions of a list were met.
abbrev pub AllMet : List Region → (before after : Listing) → Result Unit Full → Type 0
AllMet qs l l' r = meet same_region l.cap (so_far l) qs ≡ found_of r (so_far l')

pub kept-none : (l : Listing) → Kept l l
kept-none l = record { cap = refl; entries = refl; more = omega arith; after = λ k h. refl }

pub kept_on : (l l' l'' : Listing) → Kept l l' → Kept l' l'' → Kept l l''
kept_on l l' l'' a b =
    record {
      cap = b.cap ∙ a.cap;
      entries = b.entries ∙ a.entries;
      more = omega (arith, a.more, b.more);
      after = λ k h. b.after k h ∙ a.after k (omega (arith, b.more));
    }

module _ (cap : ℕ) (found : List Region) (qs qs' : List Region) where
  -- One more list of regions is met.
  pub met-on : (more : List Region) (f : Found Region) → meet same_region cap found qs ≡ complete more
      → meet same_region cap more qs' ≡ f → meet same_region cap found (qs ++ qs') ≡ f
  met-on more f a b =
      meet-append same_region no_next cap found qs qs' ∙ ap (and_then (λ l. meet same_region cap l qs')) a ∙ b

  -- There was no room already.
  pub met-full : (more : List Region) → meet same_region cap found qs ≡ full more
      → meet same_region cap found (qs ++ qs') ≡ full more
  met-full more a = meet-append same_region no_next cap found qs qs' ∙ ap (and_then (λ l. meet same_region cap l qs')) a

-- ---- Meeting one region, by what the index says of it

module _ (cap : ℕ) (es : List ℕ) (n : ℕ) (q : Region) where
  pub one_known : (j : ℕ) → j < n → region_at es j ≡ q → meet same_region cap (listed es n) (q ∷ []) ≡ complete (listed es n)
  one_known j h e =
      meet-known same_region no_next cap (listed es n) q []
      (known_at same_region no_next same_true same_refl q (listed es n) q j (rw listed-length h) (listed_at es n j q h ∙ e))

  -- What a search answers.
  pub one_found : (o : Option ℕ) → FoundAt es n q o → is_some o ≡ true
      → meet same_region cap (listed es n) (q ∷ []) ≡ complete (listed es n)
  one_found (Some j) h e = one_known j h.0 h.1
  one_found None h e = absurd (let z : ◌≡◌ {A = ℕ} 0 1 = cc in omega arith)

  pub not_found : (o : Option ℕ) → FoundAt es n q o → is_some o ≡ false → (j : ℕ) → j < n → region_at es j ≡ q → ⊥
  not_found (Some j) h e = absurd (let z : ◌≡◌ {A = ℕ} 0 1 = cc in omega arith)
  not_found None h e = h

  module _ (none : (j : ℕ) → j < n → region_at es j ≡ q → ⊥) where
    new : known same_region q (listed es n) ≡ false
    new =
        known-nowhere same_region no_next same_true same_refl q (listed es n) q
        (λ j h e. let k : j < n = rw listed-length at h in none j k (sym (listed_at es n j q k) ∙ e))

    pub one-full : cap ≤ n → meet same_region cap (listed es n) (q ∷ []) ≡ full (listed es n)
    one-full h = meet-full same_region no_next cap (listed es n) q [] new (rw listed-length h)

    pub one-new : n < cap → (es' : List ℕ) → ((j : ℕ) → j < n → region_at es' j ≡ region_at es j) → region_at es' n ≡ q
        → (n' : ℕ) → n' ≡ n + 1 → meet same_region cap (listed es n) (q ∷ []) ≡ complete (listed es' n')
    unfolding listed
    one-new h es' before entry n' is =
        meet-new same_region no_next cap (listed es n) q [] new (rw listed-length h)
        ∙ ap complete
        (ap₂ (λ (l : List Region) (x : Region). l ++ (x ∷ [])) (sym (listed_same es es' n before)) (sym entry)
        ∙ sym (ap (listed es') (is ∙ add-one n)))

-- ---- A loop over a list whose items each give some regions to meet

module _ {A : Type 0} (g : A → List Region) (l : List A) (i : ℕ) (d : A) where
  gather_append : (a b : List A) → gather g (a ++ b) ≡ gather g a ++ gather g b
  gather_append [] b = refl
  gather_append (x ∷ a) b = ap (λ k. g x ++ k) (gather_append a b) ∙ sym (append_assoc (g x) (gather g a) (gather g b))

  gather-next : i < length l → gather g (take (i + 1) l) ≡ gather g (take i l) ++ g (get_or l i d)
  gather-next h =
      ap (λ n. gather g (take n l)) (add-one i)
      ∙ ap (gather g) (take-suc l i d h)
      ∙ gather_append (take i l) (get_or l i d ∷ [])
      ∙ ap (λ k. gather g (take i l) ++ k) (append-nil (g (get_or l i d)))

  gather-split : i < length l → gather g l ≡ gather g (take (i + 1) l) ++ gather g (drop (i + 1) l)
  gather-split h = sym (ap (gather g) (take-append-drop (i + 1) l)) ∙ gather_append (take (i + 1) l) (drop (i + 1) l)

  module _ (cap : ℕ) (found found' : List Region) (all : meet same_region cap found (gather g (take i l)) ≡ complete found') where
    -- Item i was met too.
    pub loop-on : i < length l → (found'' : List Region) → meet same_region cap found' (g (get_or l i d)) ≡ complete found''
        → meet same_region cap found (gather g (take (i + 1) l)) ≡ complete found''
    loop-on h found'' one =
        ap (meet same_region cap found) (gather-next h)
        ∙ met-on cap found (gather g (take i l)) (g (get_or l i d)) found' (complete found'') all one

    -- Item i gives nothing.
    pub loop-past : i < length l → g (get_or l i d) ≡ []
        → meet same_region cap found (gather g (take (i + 1) l)) ≡ complete found'
    loop-past h nothing = loop-on h found' (ap (meet same_region cap found') nothing)

    -- There was no room for what item i gives.
    pub loop-full : i < length l → (found'' : List Region) → meet same_region cap found' (g (get_or l i d)) ≡ full found''
        → meet same_region cap found (gather g l) ≡ full found''
    loop-full h found'' one =
        ap (meet same_region cap found) (gather-split h ∙ ap (λ x. x ++ gather g (drop (i + 1) l)) (gather-next h))
        ∙ met-full cap found (gather g (take i l) ++ g (get_or l i d)) (gather g (drop (i + 1) l)) found''
        (met-on cap found (gather g (take i l)) (g (get_or l i d)) found' (full found'') all one)

    -- All items were met.
    pub loop-over : length l ≤ i → meet same_region cap found (gather g l) ≡ complete found'
    loop-over h = ap (λ x. meet same_region cap found (gather g x)) (sym (take_all i l h)) ∙ all

-- ---- Exploring: one turn of the loop over the regions, in number order

module _ (next : Region → List Region) (cap : ℕ) (d : Region) (es : List ℕ) (n i : ℕ) (inside : i < n) (room : n ≤ cap)
    (f : Found Region) (all : meet same_region cap (listed es n) (next (region_at es i)) ≡ f) where
  turned : explore_from same_region next (suc cap - i) cap d (listed es n) i
      ≡ and_then (λ more. explore_from same_region next (cap - i) cap d more (suc i)) f
  turned =
      let fuel : suc cap - i ≡ suc (cap - i) = omega arith in
      ap (λ k. explore_from same_region next k cap d (listed es n) i) fuel
      ∙ turn same_region next (cap - i) cap d (listed es n) i (rw listed-length inside)
      ∙ ap (λ r. and_then (λ more. explore_from same_region next (cap - i) cap d more (suc i))
      (meet same_region cap (listed es n) (next r)))
      (listed_at es n i d inside)
      ∙ ap (and_then (λ more. explore_from same_region next (cap - i) cap d more (suc i))) all

  -- There was no room.
  pub turn-full : (found : List Region) → f ≡ full found
      → explore_from same_region next (suc cap - i) cap d (listed es n) i ≡ full found
  turn-full found none = turned ∙ ap (and_then (λ more. explore_from same_region next (cap - i) cap d more (suc i))) none

  -- The next region is taken.
  pub turn_on : (found : List Region) → f ≡ complete found → explore_from same_region next (suc cap - i) cap d (listed es n) i
      ≡ explore_from same_region next (suc cap - (i + 1)) cap d found (i + 1)
  turn_on found some =
      let fuel : cap - i ≡ suc cap - (i + 1) = omega arith in
      turned
      ∙ ap (and_then (λ more. explore_from same_region next (cap - i) cap d more (suc i))) some
      ∙ ap₂ (λ k j. explore_from same_region next k cap d found j) fuel (sym (add-one i))

-- All regions were taken.
pub turn-over : (next : Region → List Region) (cap : ℕ) (d : Region) (es : List ℕ) (n i : ℕ) → n ≤ i
    → explore_from same_region next (suc cap - i) cap d (listed es n) i ≡ complete (listed es n)
turn-over next cap d es n i h = over same_region next (suc cap - i) cap d (listed es n) i (rw listed-length h)

-- The first region is listed.
pub first-listed : (es : List ℕ) (q : Region) → region_at es 0 ≡ q → listed es 1 ≡ q ∷ []
unfolding listed
first-listed es q e = ap (λ r. r ∷ []) e

-- Exploring from a start that is listed.
pub explored : (next : Region → List Region) (cap : ℕ) (start : Region) (found : List Region) (f : Found Region) → 0 < cap
    → found ≡ start ∷ [] → explore_from same_region next (suc cap) cap start found 0 ≡ f
    → explore same_region next cap start ≡ f
explored next cap start found f some one e =
    begin same_region next (suc cap) cap start some (omega arith)
    ∙ ap (λ l. explore_from same_region next (suc cap) cap start l 0) (sym one)
    ∙ e

pub explored-none : (next : Region → List Region) (start : Region) (es : List ℕ)
    → explore same_region next 0 start ≡ full (listed es 0)
unfolding listed
explored-none next start es = no_room same_region next start
