-- What is listed as reached by delay is what is reached by delay (`delays-are`): a delay that passes a region twice can be
-- cut short, and one that passes none twice has no more steps than the graph has regions.
use Prim.Native.Nat.{ℕ, zero, suc, ◌≤◌, ◌<◌}
use Rattle.std.proofs.Common.{arith, sym, ◌∙◌, ap, inl, inr}
use Rattle.std.specs.Prelude.{◌≡◌, Bool, true, false, ◌↔◌, ◌⊎◌, length}
use Rattle.std.proofs.Math.Path.{refl, subst}
use mathlib.Core.List.Memᴰ
use mathlib.Core.List.{List, [], ◌∷◌, map, Memᴰ}
use Rattle.regions.specs.Passed.{Model, Region}
use Rattle.regions.specs.Graph.{bounds_of, meets, first, delay_next, DelaysTo, stays, goes, by-delay, Reached, led}
use Rattle.regions.specs.Explore.{same_region, same_true, same_refl}
use Rattle.regions.specs.View.{number_in}
use Rattle.regions.specs.Laws.Call.{false-true, reached-meets, gathered, gathers}
use Rattle.regions.specs.Order.{AllRegions}
use Rattle.states.specs.Laws.States.{delays-within}
use Rattle.regions.specs.Laws.View.{has-number, number_at}
use Rattle.regions.specs.Laws.Worklist.{member, no_more}
use Rattle.regions.specs.Worklist.{Different}
use Rattle.partition.specs.Instances.{region_of, delays_from, graph}

-- ---- Lists

module _ {A B : Type 0} (f : A → B) where
  -- What a map gives comes from an item, and each item gives its own.
  pub from-map : {y : B} (l : List A) → Memᴰ y (map f l) → (x : A) × Memᴰ x l × (y ≡ f x)
  from-map [] m = elim m [ ]
  from-map (x ∷ l) (Memᴰ.head e) = (x, Memᴰ.head refl, e)
  from-map (x ∷ l) (Memᴰ.tail n) = let (z, k, e) = from-map l n in (z, Memᴰ.tail k, e)

  pub to_map : {x : A} (l : List A) → Memᴰ x l → Memᴰ (f x) (map f l)
  to_map [] m = elim m [ ]
  to_map (y ∷ l) (Memᴰ.head e) = Memᴰ.head (ap f e)
  to_map (y ∷ l) (Memᴰ.tail n) = Memᴰ.tail (to_map l n)

-- A region is in a list, or not.
in_list : (r : Region) (l : List Region) → Memᴰ r l ⊎ (Memᴰ r l → ⊥)
in_list r [] = inr (λ n. Memᴰ.not-nil n)
in_list r (q ∷ l) = go (same_region r q) refl (in_list r l)
  where
    go : (b : Bool) → same_region r q ≡ b → Memᴰ r l ⊎ (Memᴰ r l → ⊥)
        → Memᴰ r (q ∷ l) ⊎ (Memᴰ r (q ∷ l) → ⊥)
    go true e later = inl (Memᴰ.head (same_true r q e))
    go false e (inl n) = inl (Memᴰ.tail n)
    go false e (inr other) = inr new
      where
        new : Memᴰ r (q ∷ l) → ⊥
        new (Memᴰ.head p) = false-true (sym e ∙ ap (same_region r) (sym p) ∙ same_refl r)
        new (Memᴰ.tail n) = other n

-- Different regions, and another one before them; those after the first.
different-more : (r : Region) (l : List Region) → (Memᴰ r l → ⊥) → Different l → Different (r ∷ l)
different-more r l new different d zero zero hi hj e = refl
different-more r l new different d zero (suc j) hi hj e =
    absurd (new (subst (λ q. Memᴰ q l) (sym e) (member d l j (omega arith))))
different-more r l new different d (suc i) zero hi hj e =
    absurd (new (subst (λ q. Memᴰ q l) e (member d l i (omega arith))))
different-more r l new different d (suc i) (suc j) hi hj e = ap suc (different d i j (omega arith) (omega arith) e)

different-rest : (r : Region) (l : List Region) → Different (r ∷ l) → Different l
different-rest r l different d i j hi hj e = omega (arith, different d (suc i) (suc j) (omega arith) (omega arith) e)

module _ (m : Model) where
  -- ---- A delay as the list of the regions that it passes

  data Route : Region → Region → List Region → Type 0 where
    ends : {r : Region} → Route r r (r ∷ [])
    passes : {r p q : Region} {l : List Region} → Memᴰ p (delay_next m r) → Route p q l → Route r q (r ∷ l)

  -- All that it passes is reached.
  route-reached : {r q : Region} {l : List Region} → Reached m r → Route r q l → (p : Region) → Memᴰ p l → Reached m p
  route-reached h ends p n = subst (Reached m) (sym (Memᴰ.eq_of_singleton n)) h
  route-reached h (passes d t) p (Memᴰ.head e) = subst (Reached m) (sym e) h
  route-reached h (passes d t) p (Memᴰ.tail n) = route-reached (led h (by-delay d)) t p n

  -- The rest of a route, from a region that it passes.
  route-from : {r p q : Region} {l : List Region} → Route p q l → Different l → Memᴰ r l
      → (k : List Region) × Route r q k × Different k
  route-from {r} {q} {l} ends u (Memᴰ.head e) = (l, subst (λ x. Route x q l) (sym e) ends, u)
  route-from {r} {q} {l} (passes d t) u (Memᴰ.head e) = (l, subst (λ x. Route x q l) (sym e) (passes d t), u)
  route-from ends u (Memᴰ.tail n) = elim n [ ]
  route-from (passes {r = x} {l = k} d t) u (Memᴰ.tail n) = route-from t (different-rest x k u) n

  -- Every delay has a route that passes no region twice.
  route-of : (r q : Region) → DelaysTo m r q → (l : List Region) × Route r q l × Different l
  route-of r q (stays h) =
      (r ∷ [], ends, different-more r [] (λ n. Memᴰ.not-nil n) (λ d i j hi hj e. absurd (omega arith)))
  route-of r q (goes {p} n d) = go (route-of p q d)
    where
      go : (l : List Region) × Route p q l × Different l → (l : List Region) × Route r q l × Different l
      go (l, t, u) =
          elim (in_list r l) [
            | inl k ↦ route-from t u k
            | inr new ↦ (r ∷ l, passes n t, different-more r l new u)
          ]

  -- ---- What is listed

  -- A route that is not too long ends in a region that is listed.
  route-listed : {r q : Region} {l : List Region} (more : ℕ) → Route r q l → length l ≤ suc more
      → Memᴰ q (delays_from m more r)
  unfolding delays_from
  route-listed zero ends h = Memᴰ.head refl
  route-listed (suc more) ends h = Memᴰ.head refl
  route-listed zero (passes d ends) h = absurd (omega arith)
  route-listed zero (passes d (passes d' t)) h = absurd (omega arith)
  route-listed {r} {q} (suc more) (passes {p} d t) h =
      Memᴰ.tail (gathers (delays_from m more) q p (delay_next m r) d (route-listed more t (omega arith)))

  -- What is listed is reached by delay: regions that are reached meet their invariants.
  listed-delays : meets (bounds_of m) m.invariants (first m) ≡ true → (more : ℕ) (r q : Region) → Reached m r
      → Memᴰ q (delays_from m more r) → DelaysTo m r q
  unfolding delays_from
  listed-delays fine zero r q h n =
      subst (DelaysTo m r) (sym (Memᴰ.eq_of_singleton n)) (stays (reached-meets m r fine h))
  listed-delays fine (suc more) r q h (Memᴰ.head e) = subst (DelaysTo m r) (sym e) (stays (reached-meets m r fine h))
  listed-delays fine (suc more) r q h (Memᴰ.tail n) =
      let (p, d, k) = gathered (delays_from m more) q (delay_next m r) n in
      goes d (listed-delays fine more p q (led h (by-delay d)) k)

  module _ (found : List Region) (all : AllRegions m found) (fine : meets (bounds_of m) m.invariants (first m) ≡ true) where
    -- The region with a number is reached.
    pub numbered-reached : (x : ℕ) → x < length found → Reached m (region_of m found x)
    numbered-reached x h = (all.all (region_of m found x)).1 (member (first m) found x h)

    -- From a region of the graph so many steps are enough.
    delays-listed : (r q : Region) → Reached m r → DelaysTo m r q → Memᴰ q (delays_from m (length found) r)
    delays-listed r q h d =
        let (l, t, u) = route-of r q d in
        let few = no_more l found u (λ p n. (all.all p).0 (route-reached h t p n)) in
        route-listed (length found) t (omega arith)

    -- The numbers listed as reached by delay are those of the regions that are.
    pub delays-are : (x y : ℕ) → x < length found
        → Memᴰ y ((graph m found).delays x) ↔ ((y < length found) × DelaysTo m (region_of m found x) (region_of m found y))
    delays-are x y h = (
      λ n.
          let (q, k, e) = from-map (number_in found) (delays_from m (length found) r) n in
          let d = listed-delays fine (length found) r q (numbered-reached x h) k in
          let number = has-number found q ((all.all q).0 (delays-within m r q (numbered-reached x h) d)) in (
            subst (λ z. z < length found) (sym e) number.inside,
            subst (DelaysTo m r) (sym (number.is (first m)) ∙ ap (region_of m found) (sym e)) d,
          ),
      λ t.
          subst (λ z. Memᴰ z ((graph m found).delays x)) (number_at found all.different (first m) y t.0)
          (to_map (number_in found) (delays_from m (length found) r)
          (delays-listed r (region_of m found y) (numbered-reached x h) t.1)),
    )
      where
        r : Region
        r = region_of m found x
