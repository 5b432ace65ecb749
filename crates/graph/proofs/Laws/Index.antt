-- The index of regions: after the regions below n were stored, each with its clock class and location, the region of a class and a location
-- is the one that was stored with them, and there is none otherwise.
use Prim.Native.Nat.{ℕ, zero, suc, ◌+◌, ◌*◌, ◌/◌, ◌%◌, ◌≤◌, ◌<◌}
use native.Mathlib.Omega.{arith}
use Rattle.std.proofs.Common.{eq-or-lt_of_le, mod-eq_of_lt, mod-lt, ◌∙◌, ap₂, subst, inl, inr, ⊎_elim}
use Rattle.std.proofs.Math.Nat.{div-add-mod}
use Rattle.std.specs.Prelude.{◌≡◌, refl, true, false, cond, ◌&&◌, List, ◌⊎◌, ltb, length}
use Rattle.std.proofs.Math.Path.{sym, ap}
use Rattle.std.proofs.Math.Bool.{Bool}
use Rattle.std.proofs.Math.Dec.{eqb}
use borrow.Author.Tests.{eqb-true, eqb-false, ne_eqb, eq-eqb, ltb-true, ltb-false}
use Rattle.graph.specs.Columns.{nothing, load, store, short, most_regions, most_locations, region_heads, region_links, classes}
use Rattle.graph.specs.Readers.{class_of, bucket_of, region_head, region_link, walk, region_at}
use Rattle.graph.specs.Writers.{with_region}
use Rattle.graph.proofs.Laws.Columns.{Kept, store_length, load_stored, load-other, store_keeps}
use Rattle.graph.proofs.Laws.Latest.{latest, both, latest-none, latest-here, latest-past, latest-ways, latest-same, latest-absent}
use Rattle.graph.proofs.Laws.Latest.{latest-only}
use Rattle.graph.proofs.Laws.Latest.{latest-through}

lt-or-le : (a b : ℕ) → (a < b) ⊎ (b ≤ a)
lt-or-le a b = elim (both (ltb a b)) [ inl e ↦ inl (ltb-true a b e) | inr e ↦ inr (ltb-false a b e) ]

-- Is a region in a bucket?
abbrev pub in_bucket : (class location : ℕ → ℕ) → (bucket region : ℕ) → Bool
in_bucket class location bucket region = eqb (bucket_of (class region) (location region)) bucket

-- The slice is the index of the regions below n, of which region x has the class `class x` and the location `location x`.
pub record Indexed (graph : List ℕ) (class location : ℕ → ℕ) (n : ℕ) : Type 0 where
  pub lent : short ≤ length graph
  pub few : n ≤ most_regions
  pub class-is : (x : ℕ) → x < n → class_of graph x ≡ class x
  pub head-is : (bucket : ℕ) → bucket < 8192 → load region_heads graph bucket ≡ latest (in_bucket class location bucket) n
  pub link-is : (x : ℕ) → x < n → region_link graph x ≡ latest (in_bucket class location (bucket_of (class x) (location x))) x

pub bucket-below : (class location : ℕ) → bucket_of class location < 8192
unfolding bucket_of
bucket-below class location = mod-lt (class % 8192 + 1021 * (location % most_locations)) {m = 8192} (omega arith)

-- 1,021 has an inverse modulo 8,192, 4,437: so multiples of it by numbers below 64 that differ by a multiple of 8,192 are equal.
multiples-tell : (one other p q : ℕ) → one < 64 → other < 64 → 1021 * one + 8192 * p ≡ 1021 * other + 8192 * q → one ≡ other
multiples-tell one other p q h k e =
    ⊎_elim
    (λ (w : 553 * one + 4437 * p < 553 * other + 4437 * q). absurd (omega (arith, h, k, e, w)))
    (λ (w : 553 * other + 4437 * q ≤ 553 * one + 4437 * p). rest w) (lt-or-le (553 * one + 4437 * p) (553 * other + 4437 * q))
  where
    rest : 553 * other + 4437 * q ≤ 553 * one + 4437 * p → one ≡ other
    rest w =
        ⊎_elim (λ (v : 553 * other + 4437 * q < 553 * one + 4437 * p). absurd (omega (arith, h, k, e, v)))
        (λ (v : 553 * one + 4437 * p ≤ 553 * other + 4437 * q). omega (arith, h, k, e, w, v))
        (lt-or-le (553 * other + 4437 * q) (553 * one + 4437 * p))

-- In one bucket equal classes have equal locations.
pub bucket-tells : (class one other : ℕ) → one < most_locations → other < most_locations
    → bucket_of class one ≡ bucket_of class other → one ≡ other
unfolding bucket_of
bucket-tells class one other h k e =
    multiples-tell one other ((class % 8192 + 1021 * (other % most_locations)) / 8192)
    ((class % 8192 + 1021 * (one % most_locations)) / 8192) h k
    (omega (
      arith,
      e,
      mod-eq_of_lt h,
      mod-eq_of_lt k,
      div-add-mod (class % 8192 + 1021 * (one % most_locations)) 8192,
      div-add-mod (class % 8192 + 1021 * (other % most_locations)) 8192,
    ))

-- A fresh slice is the index of no region.
pub index-none : (graph : List ℕ) (class location : ℕ → ℕ) → short ≤ length graph
    → ((bucket : ℕ) → bucket < 8192 → load region_heads graph bucket ≡ nothing) → Indexed graph class location 0
index-none graph class location lent fresh =
    record {
      lent = lent;
      few = omega arith;
      class-is = λ x h. absurd (omega arith);
      head-is = λ bucket h. fresh bucket h ∙ sym (latest-none (in_bucket class location bucket));
      link-is = λ x h. absurd (omega arith);
    }

-- What keeps the three columns keeps the index.
pub index_kept : (graph graph' : List ℕ) (class location : ℕ → ℕ) (n : ℕ) → Indexed graph class location n → length graph ≤ length graph'
    → Kept classes graph graph' → Kept region_heads graph graph' → Kept region_links graph graph' → Indexed graph' class location n
unfolding class_of region_link
index_kept graph graph' class location n index longer same heads links =
    record {
      lent = omega (arith, index.lent, longer);
      few = index.few;
      class-is = λ x h. same (x % most_regions) (mod-lt x {m = 4096} (omega arith)) ∙ index.class-is x h;
      head-is = λ bucket h. heads bucket h ∙ index.head-is bucket h;
      link-is = λ x h. links (x % most_regions) (mod-lt x {m = 4096} (omega arith)) ∙ index.link-is x h;
    }

step_same : (x u v : ℕ) (a b : Bool) → a ≡ b → u ≡ v
    → cond (eqb x nothing) nothing (cond a x u) ≡ cond (eqb x nothing) nothing (cond b x v)
step_same x u v a b e f = ap₂ (λ (t : Bool) (w : ℕ). cond (eqb x nothing) nothing (cond t x w)) e f

and-true : (a b : Bool) → b ≡ true → a ≡ (a && b)
and-true true b e = sym e
and-true false b e = refl

and_second : (a b : Bool) → (a && b) ≡ true → b ≡ true
and_second true b e = e
and_second false b e = let wrong : false ≡ true = e in cc

module _ {graph : List ℕ} {class location : ℕ → ℕ} {n : ℕ} (index : Indexed graph class location n) where
  -- The walk from the latest region of a bucket below k finds the latest there that has the class.
  walk_is : (c bucket steps k : ℕ) → k ≤ steps → k ≤ n
      → walk graph steps (latest (in_bucket class location bucket) k) c
      ≡ latest (λ y. eqb (class y) c && in_bucket class location bucket y) k
  unfolding walk
  walk_is c bucket zero k few below =
      let none : k ≡ 0 = omega arith in
      sym (ap (latest (λ y. eqb (class y) c && in_bucket class location bucket y)) none
      ∙ latest-none (λ y. eqb (class y) c && in_bucket class location bucket y))
  walk_is c bucket (suc steps) k few below = go (walk_is c bucket steps) (latest-ways p k)
    where
      p : ℕ → Bool
      p = in_bucket class location bucket

      q : ℕ → Bool
      q y = eqb (class y) c && p y

      through : latest q k ≡ cond (eqb (latest p k) nothing) nothing (cond (q (latest p k)) (latest p k) (latest q (latest p k)))
      through = latest-through p q k (omega (arith, below, index.few)) (λ y h e. and_second (eqb (class y) c) (p y) e)

      go : ((j : ℕ) → j ≤ steps → j ≤ n → walk graph steps (latest p j) c ≡ latest q j)
          → (latest p k ≡ nothing) ⊎ ((latest p k < k) × (p (latest p k) ≡ true)) → walk graph (suc steps) (latest p k) c ≡ latest q k
      go rest (inl none) =
          ap (λ (x : ℕ). walk graph (suc steps) x c) none
          ∙ sym (through ∙ ap (λ (x : ℕ). cond (eqb x nothing) nothing (cond (q x) x (latest q x))) none)
      go rest (inr some) =
          let x = latest p k in
          let listed : latest p k < n = omega (arith, some.0, below) in
          let link : region_link graph (latest p k) ≡ latest p (latest p k) =
          index.link-is (latest p k) listed
          ∙ ap (λ (b : ℕ). latest (in_bucket class location b) (latest p k))
          (eqb-true (bucket_of (class (latest p k)) (location (latest p k))) bucket some.1) in
          step_same (latest p k) (walk graph steps (region_link graph (latest p k)) c) (latest q (latest p k))
          (eqb (class_of graph (latest p k)) c) (q (latest p k))
          (ap (λ (d : ℕ). eqb d c) (index.class-is (latest p k) listed) ∙ and-true (eqb (class (latest p k)) c) (p (latest p k)) some.1)
          (ap (λ (y : ℕ). walk graph steps y c) link ∙ rest (latest p k) (omega (arith, some.0, few)) (omega (arith, listed)))
          ∙ sym through

  -- The region of a class and a location: the latest that was stored with them.
  pub region-is : (c l : ℕ) → l < most_locations → ((y : ℕ) → y < n → location y < most_locations)
      → region_at graph c l ≡ latest (λ y. eqb (class y) c && eqb (location y) l) n
  unfolding region_at region_head
  region-is c l within each =
      ap (λ (x : ℕ). walk graph most_regions x c) (index.head-is (bucket_of c l) (bucket-below c l))
      ∙ walk_is c (bucket_of c l) most_regions n index.few (omega arith)
      ∙ latest-same (λ y. eqb (class y) c && in_bucket class location (bucket_of c l) y) (λ y. eqb (class y) c && eqb (location y) l) n
      (λ y h. same y (each y h) (both (eqb (class y) c)))
    where
      equal : (y : ℕ) → location y < most_locations → (eqb (location y) l ≡ true) ⊎ (eqb (location y) l ≡ false)
          → eqb (bucket_of c (location y)) (bucket_of c l) ≡ eqb (location y) l
      equal y h (inl e) = eq-eqb _ _ (ap (bucket_of c) (eqb-true (location y) l e)) ∙ sym e
      equal y h (inr e) =
          ne_eqb (bucket_of c (location y)) (bucket_of c l)
          (λ k. eqb-false (location y) l e (bucket-tells c (location y) l h within k)) ∙ sym e

      same : (y : ℕ) → location y < most_locations → (eqb (class y) c ≡ true) ⊎ (eqb (class y) c ≡ false)
          → (eqb (class y) c && eqb (bucket_of (class y) (location y)) (bucket_of c l)) ≡ (eqb (class y) c && eqb (location y) l)
      same y h (inr e) = rw e refl
      same y h (inl e) =
          ap (λ (b : Bool). eqb (class y) c && b)
          (ap (λ (d : ℕ). eqb (bucket_of d (location y)) (bucket_of c l)) (eqb-true (class y) c e) ∙ equal y h (both (eqb (location y) l)))

-- One region more.
module _ {graph : List ℕ} {class location : ℕ → ℕ} {n : ℕ} (index : Indexed graph class location n) where
  pub index-more : n < most_regions → class n < 65536 → Indexed (with_region graph n (class n) (location n)) class location (suc n)
  unfolding with_region class_of region_link region_head
  index-more less small =
      record {
        lent = omega (arith, index.lent, length₁, length₂, length₃);
        few = less;
        class-is = λ x h. above-class (x % most_regions) (mod-lt x {m = 4096} (omega arith)) ∙ class-of x (last_or x h);
        head-is = λ b h. heads b h (both (eqb bucket b));
        link-is = λ x h. above-link (x % most_regions) (mod-lt x {m = 4096} (omega arith)) ∙ link-of x (last_or x h);
      }
    where
      bucket : ℕ
      bucket = bucket_of (class n) (location n)

      place : n % most_regions ≡ n
      place = mod-eq_of_lt less

      inside : n % most_regions < most_regions
      inside = mod-lt n {m = 4096} (omega arith)

      head : ℕ
      head = load region_heads graph bucket

      one : List ℕ
      one = store classes graph (n % most_regions) (class n)

      two : List ℕ
      two = store region_links one (n % most_regions) head

      three : List ℕ
      three = store region_heads two bucket n

      length₁ : length one ≡ length graph
      length₁ = store_length classes graph (n % most_regions) (class n)

      length₂ : length two ≡ length one
      length₂ = store_length region_links one (n % most_regions) head

      length₃ : length three ≡ length two
      length₃ = store_length region_heads two bucket n

      head_small : head < 65536
      head_small = go (latest-ways (in_bucket class location bucket) n)
        where
          is : head ≡ latest (in_bucket class location bucket) n
          is = index.head-is bucket (bucket-below (class n) (location n))

          go : (latest (in_bucket class location bucket) n ≡ nothing)
              ⊎ ((latest (in_bucket class location bucket) n < n) ×
              (in_bucket class location bucket (latest (in_bucket class location bucket) n) ≡ true))
              → head < 65536
          go (inl none) = omega (arith, is, none)
          go (inr some) = omega (arith, is, some.0, less)

      last_or : (x : ℕ) → x < suc n → (x ≡ n) ⊎ (x < n)
      last_or x h = let most : x ≤ n = omega arith in eq-or-lt_of_le most

      other : (x : ℕ) → x < n → x % most_regions ≡ n % most_regions → ⊥
      other x h e = let at : x % most_regions ≡ x = mod-eq_of_lt (omega (arith, h, less)) in absurd (omega (arith, e, at, place, h))

      above-class : (i : ℕ) → i < most_regions → load classes three i ≡ load classes one i
      above-class i h =
          store_keeps region_heads two bucket n classes refl (bucket-below (class n) (location n)) i h
          ∙ store_keeps region_links one (n % most_regions) head classes refl inside i h

      class-of : (x : ℕ) → (x ≡ n) ⊎ (x < n) → load classes one (x % most_regions) ≡ class x
      class-of x (inl e) =
          rw e (load_stored classes graph (n % most_regions) (class n) inside (omega (arith, index.lent)) small)
      class-of x (inr h) = load-other classes graph (n % most_regions) (class n) (x % most_regions) (other x h) ∙ index.class-is x h

      above-link : (i : ℕ) → i < most_regions → load region_links three i ≡ load region_links two i
      above-link i h = store_keeps region_heads two bucket n region_links refl (bucket-below (class n) (location n)) i h

      link-of : (x : ℕ) → (x ≡ n) ⊎ (x < n)
          → load region_links two (x % most_regions) ≡ latest (in_bucket class location (bucket_of (class x) (location x))) x
      link-of x (inl e) =
          rw e (load_stored region_links one (n % most_regions) head inside (omega (arith, index.lent, length₁)) head_small
          ∙ index.head-is bucket (bucket-below (class n) (location n)))
      link-of x (inr h) =
          load-other region_links one (n % most_regions) head (x % most_regions) (other x h)
          ∙ store_keeps classes graph (n % most_regions) (class n) region_links refl inside (x % most_regions)
          (mod-lt x {m = 4096} (omega arith))
          ∙ index.link-is x h

      heads : (b : ℕ) → b < 8192 → (eqb bucket b ≡ true) ⊎ (eqb bucket b ≡ false)
          → load region_heads three b ≡ latest (in_bucket class location b) (suc n)
      heads b h (inl e) =
          let is : bucket ≡ b = eqb-true bucket b e in
          subst (λ (k : ℕ). load region_heads three k ≡ n) is
          (load_stored region_heads two bucket n (bucket-below (class n) (location n)) (omega (arith, index.lent, length₁, length₂))
          (omega (arith, less)))
          ∙ sym (latest-here (in_bucket class location b) n e)
      heads b h (inr e) =
          load-other region_heads two bucket n b (λ k. eqb-false bucket b e (sym k))
          ∙ store_keeps region_links one (n % most_regions) head region_heads refl inside b h
          ∙ store_keeps classes graph (n % most_regions) (class n) region_heads refl inside b h
          ∙ index.head-is b h ∙ sym (latest-past (in_bucket class location b) n e)

-- What a walk finds: regions with the class and the location, if no two regions have both.
module _ {graph : List ℕ} {class location : ℕ → ℕ} {n : ℕ} (index : Indexed graph class location n)
    (each : (y : ℕ) → y < n → location y < most_locations) where
  pub region-found : (x : ℕ) → x < n → ((y : ℕ) → y < n → class y ≡ class x → location y ≡ location x → y ≡ x)
      → region_at graph (class x) (location x) ≡ x
  region-found x h one =
      region-is index (class x) (location x) (each x h) each
      ∙ latest-only (λ y. eqb (class y) (class x) && eqb (location y) (location x)) n x h
      (rw (eq-eqb (class x) (class x) refl, eq-eqb (location x) (location x) refl) refl)
      (λ y k e. one y k (eqb-true (class y) (class x) (and_first (eqb (class y) (class x)) (eqb (location y) (location x)) e))
      (eqb-true (location y) (location x) (and_second (eqb (class y) (class x)) (eqb (location y) (location x)) e)))
    where
      and_first : (a b : Bool) → (a && b) ≡ true → a ≡ true
      and_first true b e = refl
      and_first false b e = e

  pub region-absent : (c l : ℕ) → l < most_locations → ((y : ℕ) → y < n → class y ≡ c → location y ≡ l → ⊥)
      → region_at graph c l ≡ nothing
  region-absent c l h none =
      region-is index c l h each ∙ latest-absent (λ y. eqb (class y) c && eqb (location y) l) n (λ y k. off y k (both (eqb (class y) c)))
    where
      off : (y : ℕ) → y < n → (eqb (class y) c ≡ true) ⊎ (eqb (class y) c ≡ false) → (eqb (class y) c && eqb (location y) l) ≡ false
      off y k (inr e) = rw e refl
      off y k (inl e) = rw e (ne_eqb (location y) l (λ f. none y k (eqb-true (class y) c e) f))
