-- Laws for the loops that fill the slices of the graph: one more number or block is stored, one more set of clocks is taken in.
use Rattle.std.specs.Prelude.{Option, Some, None, ℕ, suc, ◌+◌, ◌*◌, ◌≤◌, ◌<◌, ◌≡◌, refl, Bool, true, false, eqb, ltb, length, get_or, set}
use Rattle.std.specs.Option.{unwrap_or}
use Rattle.std.proofs.Common.{arith, mul-le-mul_left, mul-suc, ◌∙◌, ap₂, subst, length-set, get_or-set_same}
use Rattle.std.proofs.Common.{get_or-set_other, eqb-true, ltb-true, ltb-false, lt-ltb, le-ltb}
use Rattle.std.proofs.Math.Numerals.{add-one}
use Rattle.std.proofs.Math.Path.{sym, ap}
use Rattle.std.proofs.Math.Bool.{cond}
use mathlib.Core.List.{List, [], ◌∷◌, map, Memᴰ}
use Rattle.std.proofs.Math.Seq.{set_out}
use Rattle.std.proofs.lemmas.Bool.{eqb-false}
use Rattle.table.specs.Model.{Model}
use Rattle.regions.specs.Entries.{max_entries, region_at}
use Rattle.regions.specs.Graph.{delay_next}
use Rattle.regions.specs.Index.{Found}
use Rattle.regions.specs.Explore.{listed, listed-length, listed_at}
use Rattle.regions.specs.View.{number_in, delay_numbers}
use Rattle.regions.specs.Shown.{followers, open_below}
use Rattle.regions.specs.Filling.{Run, Blocks, Before, InUse, no-reset, by-branch, Still, RowFlagged, Flagged}
use Rattle.regions.specs.Filling.{bare, Apart, Distinct, Classed, Grouped}
use Rattle.regions.specs.Order.{AllRegions}
use Rattle.regions.specs.Laws.Worklist.{member}
use Rattle.regions.specs.Laws.View.{number_at, delay-number}
use Rattle.clocks.specs.declared.region.Region.{Region}

-- ---- Numbers one after the other

-- One more number is there, after those from a place on.
pub run_past : (base k : ℕ) (P : ℕ → ℕ → Type 0) (l : List ℕ) → Run base k P l → P k (get_or l (base + k) 0) → Run base (k + 1) P l
run_past base k P l run here j h = go (eqb j k) refl
  where
    go : (b : Bool) → eqb j k ≡ b → P j (get_or l (base + j) 0)
    go true t = subst (λ i. P i (get_or l (base + i) 0)) (sym (eqb-true j k t)) here
    go false t = run j (omega (arith, eqb-false j k t, h))

-- It is stored.
pub run_on : (base k : ℕ) (P : ℕ → ℕ → Type 0) (l l' : List ℕ) (v : ℕ) → base + k < length l → l' ≡ set l (base + k) v
    → Run base k P l → P k v → Run base (k + 1) P l'
run_on base k P l l' v room e run new =
    run_past base k P l'
    (λ j h.
    subst (P j) (sym (ap (λ x. get_or x (base + j) 0) e ∙ get_or-set_other l (base + k) (base + j) v 0 (omega arith))) (run j h))
    (subst (P k) (sym (ap (λ x. get_or x (base + k) 0) e ∙ get_or-set_same l (base + k) v 0 room)) new)

-- One more number is stored, after the first.
pub each_on : (k : ℕ) (P : ℕ → ℕ → Type 0) (l l' : List ℕ) (v : ℕ) → k < length l → l' ≡ set l k v
    → ((x : ℕ) → x < k → P x (get_or l x 0)) → P k v → (x : ℕ) → x < k + 1 → P x (get_or l' x 0)
each_on k P l l' v room e run new j h = go (eqb j k) refl
  where
    go : (b : Bool) → eqb j k ≡ b → P j (get_or l' j 0)
    go true t =
        subst (λ i. P i (get_or l' i 0)) (sym (eqb-true j k t))
        (subst (P k) (sym (ap (λ x. get_or x k 0) e ∙ get_or-set_same l k v 0 room)) new)
    go false t =
        let other = eqb-false j k t in
        subst (P j) (sym (ap (λ x. get_or x j 0) e ∙ get_or-set_other l k j v 0 other)) (run j (omega (arith, other, h)))

pub before-none : (at : ℕ) (l : List ℕ) → Before at l l
before-none at l = record { as_long = refl; below = λ k h. refl }

pub before_on : (at k v : ℕ) (l l' l'' : List ℕ) → at ≤ k → l'' ≡ set l' k v → Before at l l' → Before at l l''
before_on at k v l l' l'' h e b =
    record {
      as_long = ap length e ∙ length-set l' k v ∙ b.as_long;
      below = λ i less. ap (λ x. get_or x i 0) e ∙ get_or-set_other l' k i v 0 (omega arith) ∙ b.below i less;
    }

-- A block ends where the next one begins.
block-below : (width x n e : ℕ) → x < n → e < width → width * x + e < width * n
block-below width x n e h less =
    let whole : width * suc x ≤ width * n = mul-le-mul_left width h in
    omega (arith, whole, mul-suc width x)

-- One more block is stored.
pub blocks-on : (width k n : ℕ) (P : ℕ → ℕ → ℕ → Type 0) (l l' : List ℕ) → k ≤ width → Before (width * n) l l'
    → Blocks width k n P l → Run (width * n) k (P n) l' → Blocks width k (n + 1) P l'
blocks-on width k n P l l' fits b blocks run x e h less = go (eqb x n) refl
  where
    go : (t : Bool) → eqb x n ≡ t → P x e (get_or l' (width * x + e) 0)
    go true t = subst (λ i. P i e (get_or l' (width * i + e) 0)) (sym (eqb-true x n t)) (run e less)
    go false t =
        let low : x < n = omega (arith, eqb-false x n t, h) in
        subst (P x e) (sym (b.below (width * x + e) (block-below width x n e low (omega arith)))) (blocks x e low less)

-- ---- Delays

module _ (m : Model) (es : List ℕ) (n : ℕ) (r : Region) where
  -- Nothing follows.
  pub follows-none : delay_next m r ≡ [] → delay_numbers m (listed es n) r ≡ followers n n
  unfolding delay_numbers
  follows-none e =
      ap (map (number_in (listed es n))) e
      ∙ sym (ap (λ (b : Bool). cond b (n ∷ []) []) (le-ltb n n (omega arith)))

  module _ (all : AllRegions m (listed es n)) (q : Region) (e : delay_next m r ≡ q ∷ []) where
    -- What follows is entry j.
    pub follows-at : (j : ℕ) → j < n → region_at es j ≡ q → delay_numbers m (listed es n) r ≡ followers n j
    unfolding delay_numbers
    follows-at j h is =
        let found = listed es n in
        let place : number_in found q ≡ j =
        ap (number_in found) (sym (listed_at es n j q h ∙ is)) ∙ number_at found all.different q j (rw listed-length h) in
        ap (map (number_in found)) e
        ∙ ap (λ (k : ℕ). k ∷ []) place
        ∙ sym (ap (λ (b : Bool). cond b (j ∷ []) []) (lt-ltb j n h))

    -- It is one of the entries.
    pub follows-listed : (x : ℕ) → x < n → r ≡ region_at es x → ((j : ℕ) → j < n → region_at es j ≡ q → ⊥) → ⊥
    follows-listed x h is absent =
        let found = listed es n in
        let here : Memᴰ r found =
        subst (λ k. Memᴰ k found) (listed_at es n x r h ∙ sym is) (member r found x (rw listed-length h)) in
        let k = delay-number m found all r q here (subst (Memᴰ q) (sym e) (Memᴰ.head refl)) in
        let inside : number_in found q < n = omega (arith, k.inside, listed-length es n) in
        absent (number_in found q) inside (sym (listed_at es n (number_in found q) q inside) ∙ k.is q)

    -- What a search for it answers.
    pub follows-found : (o : Option ℕ) → Found es n q o → (x : ℕ) → x < n → r ≡ region_at es x
        → delay_numbers m (listed es n) r ≡ followers n (unwrap_or o n)
    follows-found (Some j) found x h is = follows-at j found.0 found.1
    follows-found None found x h is = absurd (follows-listed x h is found)

-- ---- Available edges

module _ (p : ℕ → Bool) (e : ℕ) where
  -- Number e passes.
  pub open-here : p e ≡ true → open_below p (suc e) ≡ e + 1
  unfolding open_below
  open-here t = rw (t, add-one e)

  -- It does not.
  pub open-past : p e ≡ false → open_below p (suc e) ≡ open_below p e
  unfolding open_below
  open-past t = rw t

-- ---- Masks in use

pub still-none : (l : List Bool) → Still l l
still-none l = record { as_long = refl; kept = λ k t. t }

-- One more flag is set, where there is room for it.
pub still-on : (l l' l'' : List Bool) (at : ℕ) → l'' ≡ set l' at true → Still l l' → Still l l''
still-on l l' l'' at e s =
    record {
      as_long = ap length e ∙ length-set l' at true ∙ s.as_long;
      kept = λ k t. ap (λ x. get_or x k false) e ∙ go k (s.kept k t) (eqb k at) refl;
    }
  where
    go : (k : ℕ) → get_or l' k false ≡ true → (b : Bool) → eqb k at ≡ b → get_or (set l' at true) k false ≡ true
    go k t false other = get_or-set_other l' at k true false (eqb-false k at other) ∙ t
    go k t true same = inside k t (eqb-true k at same) (ltb at (length l')) refl
      where
        inside : (k : ℕ) → get_or l' k false ≡ true → k ≡ at → (b : Bool) → ltb at (length l') ≡ b
            → get_or (set l' at true) k false ≡ true
        inside k t same true h = rw same (get_or-set_same l' at true false (ltb-true at (length l') h))
        inside k t same false h = rw (set_out l' at true (ltb-false at (length l') h)) t

-- The masks of the first branches are flagged, and that of one more.
pub row-flagged-on : (rows : List ℕ) (l l' : List Bool) (at i : ℕ) → l' ≡ set l (get_or rows (at + 4 + 3 * i) 0) true
    → RowFlagged rows at i l → RowFlagged rows at (i + 1) l'
row-flagged-on rows l l' at i e flagged j h room = go (eqb j i) refl
  where
    mask : ℕ → ℕ
    mask j = get_or rows (at + 4 + 3 * j) 0

    still : Still l l'
    still = still-on l l l' (get_or rows (at + 4 + 3 * i) 0) e (still-none l)

    go : (b : Bool) → eqb j i ≡ b → get_or l' (mask j) false ≡ true
    go true t =
        let same : mask j ≡ mask i = ap mask (eqb-true j i t) in
        ap₂ (λ (x : List Bool) (k : ℕ). get_or x k false) e same
        ∙ get_or-set_same l (mask i) true false (omega (arith, same, room, still.as_long))
    go false t = still.kept (mask j) (flagged j (omega (arith, h, eqb-false j i t)) (omega (arith, room, still.as_long)))

-- Mask 0 is flagged first.
pub flagged-none : (rows : List ℕ) (l l' : List Bool) → length l ≡ 16 → l' ≡ set l 0 true → Flagged rows 0 l'
flagged-none rows l l' long e =
    record {
      as_long = ap length e ∙ length-set l 0 true ∙ long;
      first = ap (λ x. get_or x 0 false) e ∙ get_or-set_same l 0 true false (omega arith);
      row = λ e h. absurd (omega arith);
    }

-- One more row is flagged.
pub flagged-on : (rows : List ℕ) (l l' : List Bool) (k : ℕ) → Still l l' → Flagged rows k l
    → RowFlagged rows (32 * k) (get_or rows (32 * k + 2) 0) l' → Flagged rows (k + 1) l'
flagged-on rows l l' k still flagged here =
    record {
      as_long = still.as_long ∙ flagged.as_long;
      first = still.kept 0 flagged.first;
      row = λ e h. go e h (eqb e k) refl;
    }
  where
    go : (e : ℕ) → e < k + 1 → (b : Bool) → eqb e k ≡ b → RowFlagged rows (32 * e) (get_or rows (32 * e + 2) 0) l'
    go e h true t = subst (λ i. RowFlagged rows (32 * i) (get_or rows (32 * i + 2) 0) l') (sym (eqb-true e k t)) here
    go e h false t =
        λ j less room.
        still.kept (get_or rows (32 * e + 4 + 3 * j) 0)
        (flagged.row e (omega (arith, h, eqb-false e k t)) j less (omega (arith, room, still.as_long)))

-- A mask in use is flagged.
pub in_use : (rows : List ℕ) (used : List Bool) (k mask : ℕ) → Flagged rows k used → mask < 16 → InUse rows k mask
    → get_or used mask false ≡ true
in_use rows used k _ flagged h no-reset = flagged.first
in_use rows used k _ flagged h (by-branch e i he hi) = flagged.row e he i hi (omega (arith, h, flagged.as_long))

-- ---- Sets of clocks

module _ (q : Region) (n : ℕ) (es : List ℕ) where
  -- The region is there already.
  pub classed-known : (j : ℕ) → j < n → region_at es j ≡ q → Classed q es n es n j
  classed-known j h is =
      record {
        inside = h;
        is = is;
        more = omega arith;
        few = omega arith;
        before = λ k less. refl;
        apart = λ a. a;
      }

  -- It is put there.
  pub classed-new : (es' : List ℕ) → ((j : ℕ) → j < n → region_at es j ≡ q → ⊥)
      → ((j : ℕ) → j < n → region_at es' j ≡ region_at es j) → region_at es' n ≡ q → Classed q es n es' (n + 1) n
  classed-new es' absent before entry =
      record {
        inside = omega arith;
        is = entry;
        more = omega arith;
        few = omega arith;
        before = before;
        apart = λ a i j hi hj e. go a i j hi hj e (eqb i n) refl (eqb j n) refl;
      }
    where
      new : (j : ℕ) → j < n → region_at es' j ≡ region_at es' n → ⊥
      new j h e = absent j h (sym (before j h) ∙ e ∙ entry)

      go : Apart es n → (i j : ℕ) → i < n + 1 → j < n + 1 → region_at es' i ≡ region_at es' j → (b : Bool) → eqb i n ≡ b
          → (d : Bool) → eqb j n ≡ d → i ≡ j
      go a i j hi hj e true ei true ej = omega (arith, eqb-true i n ei, eqb-true j n ej)
      go a i j hi hj e true ei false ej =
          absurd (new j (omega (arith, eqb-false j n ej)) (sym e ∙ ap (region_at es') (eqb-true i n ei)))
      go a i j hi hj e false ei true ej =
          absurd (new i (omega (arith, eqb-false i n ei)) (e ∙ ap (region_at es') (eqb-true j n ej)))
      go a i j hi hj e false ei false ej =
          let p : i < n = omega (arith, eqb-false i n ei) in
          let q : j < n = omega (arith, eqb-false j n ej) in
          a i j p q (sym (before i p) ∙ e ∙ before j q)

-- Regions with the same clocks and the same location are the same.
pub same-bare : (a b : Region) → bare a ≡ bare b → a.location ≡ b.location → a ≡ b
same-bare a b e l =
    let made : ℕ → List ℕ → List ℕ → Region = λ x y z. record { location = x; whole = y; rank = z } in
    ap (λ (x : ℕ). made x a.whole a.rank) l
    ∙ ap₂ (made b.location) (ap (λ (r : Region). r.whole) e) (ap (λ (r : Region). r.rank) e)

pub grouped-none : (es : List ℕ) (n : ℕ) (sets : List ℕ) (count : ℕ) (spots : List ℕ) → count ≡ 0 → Grouped es n 0 sets count spots
grouped-none es n sets count spots none =
    record {
      few = omega arith;
      apart = λ a b h k e. absurd (omega arith);
      covered = λ y h. absurd (omega arith);
      spotted = λ d y j h k e. absurd (omega arith);
    }

-- One more region is taken in: its clocks are set `at` of `more`.
module _ (es : List ℕ) (n x : ℕ) (here : x < n) (few : n ≤ max_entries) (sets spots : List ℕ) (count : ℕ)
    (g : Grouped es n x sets count spots) (sets' : List ℕ) (at more : ℕ)
    (c : Classed (bare (region_at es x)) sets count sets' more at) (room : 4096 * 64 ≤ length spots)
    (spots' : List ℕ) (e : spots' ≡ set spots (64 * at + (region_at es x).location) x) where
  own : Apart sets' more
  own = c.apart g.apart

  covers : (y : ℕ) → y < x + 1 → (b : Bool) → eqb y x ≡ b → (j : ℕ) × (j < more) × (region_at sets' j ≡ bare (region_at es y))
  covers y h true t = (at, c.inside, c.is ∙ ap (λ (k : ℕ). bare (region_at es k)) (sym (eqb-true y x t)))
  covers y h false t =
      let (j, less, is) = g.covered y (omega (arith, eqb-false y x t)) in
      (j, omega (arith, less, c.more), c.before j less ∙ is)

  spots-on : Distinct es n → (y j : ℕ) → y < x + 1 → j < more → region_at sets' j ≡ bare (region_at es y) → (b : Bool) → eqb y x ≡ b
      → get_or spots' (64 * j + (region_at es y).location) 0 ≡ y
  spots-on d y j h less is true t =
      let same : y ≡ x = eqb-true y x t in
      let set_is : j ≡ at = own j at less c.inside (is ∙ ap (λ (k : ℕ). bare (region_at es k)) same ∙ sym c.is) in
      let low = d.low x here in
      ap₂ (λ (k i : ℕ). get_or spots' (64 * k + (region_at es i).location) 0) set_is same
      ∙ ap (λ l. get_or l (64 * at + (region_at es x).location) 0) e
      ∙ get_or-set_same spots (64 * at + (region_at es x).location) x 0 (omega (arith, low, c.inside, c.few, g.few, room))
      ∙ sym same
  spots-on d y j h less is false t =
      let low : y < x = omega (arith, eqb-false y x t) in
      let (i, old, was) = g.covered y low in
      let set_is : i ≡ j = own i j (omega (arith, old, c.more)) less (c.before i old ∙ was ∙ sym is) in
      let inside : j < count = omega (arith, set_is, old) in
      let apart : 64 * j + (region_at es y).location ≡ 64 * at + (region_at es x).location → ⊥ =
      λ s.
      let ly = d.low y (omega arith) in
      let lx = d.low x here in
      let sets_same : j ≡ at = omega (arith, s, ly, lx) in
      let place_same : (region_at es y).location ≡ (region_at es x).location = omega (arith, s, ly, lx) in
      let clocks : bare (region_at es y) ≡ bare (region_at es x) = sym is ∙ ap (region_at sets') sets_same ∙ c.is in
      let both = d.apart y x (omega arith) here (same-bare (region_at es y) (region_at es x) clocks place_same) in
      eqb-false y x t both in
      ap (λ l. get_or l (64 * j + (region_at es y).location) 0) e
      ∙ get_or-set_other spots (64 * at + (region_at es x).location) (64 * j + (region_at es y).location) x 0 apart
      ∙ g.spotted d y j low inside (sym (c.before j inside) ∙ is)

  pub grouped-on : Grouped es n (x + 1) sets' more spots'
  grouped-on =
      record {
        few = omega (arith, c.few, g.few);
        apart = own;
        covered = λ y h. covers y h (eqb y x) refl;
        spotted = λ d y j h less is. spots-on d y j h less is (eqb y x) refl;
      }
