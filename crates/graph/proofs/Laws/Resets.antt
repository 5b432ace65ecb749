-- The resets both ways: after n resets were noted, the resets that lead to a class are those after which the clocks are in it. One reset
-- more keeps that.
use Rattle.std.specs.Prelude.{ℕ, zero, suc, ◌+◌, ◌*◌, ◌%◌, ◌≤◌, ◌<◌, ◌≡◌, refl, Bool, ◌⊎◌, ◌↔◌, eqb, length}
use Rattle.std.proofs.Common.{arith, eq-or-lt_of_le, mod-eq_of_lt, sym, ◌∙◌, ap₂, subst, inl, inr, eq-eqb, ne_eqb}
use Rattle.std.proofs.Math.Path.{ap}
use Rattle.std.proofs.Math.Bool.{cond}
use mathlib.Core.List.{List, Memᴰ}
use Rattle.graph.specs.Columns.{nothing, load, store, long, most_regions, resets, source_heads, source_links}
use Rattle.graph.specs.Readers.{reset_class, reset_number, reset_source, reset_mask, source_head, sources_of}
use Rattle.graph.specs.Writers.{with_reset}
use Rattle.graph.proofs.Laws.Columns.{Kept, store_length, store_keeps}
use Rattle.graph.proofs.Laws.Latest.{decide}
use Rattle.graph.proofs.Laws.Bounds.{reset-source, reset-mask}
use Rattle.graph.proofs.Laws.Stores.{reset-below, number-below, reset-other, reset-stored}
use Rattle.graph.proofs.Laws.Walks.{reset-known, reset-plain, reset-both}
use Rattle.graph.proofs.Laws.Kept.{reset-kept}
use Rattle.graph.proofs.Laws.Sources.{Backward, backward-none, backward-kept, backward-more, sources-have, sources-only}

-- ---- Different numbers below a bound: at most as many as the bound

pub record DistinctBelow (f : ℕ → ℕ) (n bound : ℕ) : Type 0 where
  pub below : (t : ℕ) → t < n → f t < bound
  pub one : (s t : ℕ) → s < n → t < n → f s ≡ f t → s ≡ t

-- The numbers with v in place of the bound.
replaced : (ℕ → ℕ) → (v bound t : ℕ) → ℕ
replaced f v bound t = cond (eqb (f t) bound) v (f t)

module _ (f : ℕ → ℕ) (v bound t : ℕ) where
  replaced-is : f t ≡ bound → replaced f v bound t ≡ v
  unfolding replaced
  replaced-is e = ap (λ (b : Bool). cond b v (f t)) (eq-eqb (f t) bound e)

  replaced-not : (f t ≡ bound → ⊥) → replaced f v bound t ≡ f t
  unfolding replaced
  replaced-not d = ap (λ (b : Bool). cond b v (f t)) (ne_eqb (f t) bound d)

distinct-less : (f : ℕ → ℕ) (n bound : ℕ) → DistinctBelow f (suc n) (suc bound) → DistinctBelow (replaced f (f n) bound) n bound
distinct-less f n bound many =
    record {
      below = λ t h. below t h (decide (f t) bound);
      one = λ s t h k e. one s t h k e (decide (f s) bound) (decide (f t) bound);
    }
  where
    below : (t : ℕ) → t < n → (f t ≡ bound) ⊎ (f t ≡ bound → ⊥) → replaced f (f n) bound t < bound
    below t h (inl e) =
        let last = many.below n (omega arith) in
        let differs : f n ≡ bound → ⊥ = λ g. absurd (omega (arith, many.one n t (omega arith) (omega (arith, h)) (g ∙ sym e), h)) in
        subst (λ (k : ℕ). k < bound) (sym (replaced-is f (f n) bound t e)) (omega (arith, last, differs))
    below t h (inr d) =
        let here = many.below t (omega (arith, h)) in
        subst (λ (k : ℕ). k < bound) (sym (replaced-not f (f n) bound t d)) (omega (arith, here, d))

    one : (s t : ℕ) → s < n → t < n → replaced f (f n) bound s ≡ replaced f (f n) bound t → (f s ≡ bound) ⊎ (f s ≡ bound → ⊥)
        → (f t ≡ bound) ⊎ (f t ≡ bound → ⊥) → s ≡ t
    one s t h k e (inl a) (inl b) = many.one s t (omega (arith, h)) (omega (arith, k)) (a ∙ sym b)
    one s t h k e (inl a) (inr b) =
        let same : f n ≡ f t = sym (replaced-is f (f n) bound s a) ∙ e ∙ replaced-not f (f n) bound t b in
        absurd (omega (arith, many.one n t (omega arith) (omega (arith, k)) same, k))
    one s t h k e (inr a) (inl b) =
        let same : f s ≡ f n = sym (replaced-not f (f n) bound s a) ∙ e ∙ replaced-is f (f n) bound t b in
        absurd (omega (arith, many.one s n (omega (arith, h)) (omega arith) same, h))
    one s t h k e (inr a) (inr b) =
        many.one s t (omega (arith, h)) (omega (arith, k))
        (sym (replaced-not f (f n) bound s a) ∙ e ∙ replaced-not f (f n) bound t b)

pub distinct-few : (f : ℕ → ℕ) (n bound : ℕ) → DistinctBelow f n bound → n ≤ bound
distinct-few f zero bound many = omega arith
distinct-few f (suc n) zero many = absurd (omega (arith, many.below n (omega arith)))
distinct-few f (suc n) (suc bound) many =
    let rest = distinct-few (replaced f (f n) bound) n bound (distinct-less f n bound many) in omega (arith, rest)

-- ---- The resets that were noted

-- n resets were noted, at time t the reset `number t`, which leads to the class `target t`, each once; and no other reset by a mask from 1
-- to 15 leads to a class.
pub record KnownResets (graph : List ℕ) (number target : ℕ → ℕ) (n : ℕ) : Type 0 where
  pub back : Backward graph number target n
  pub one : (s t : ℕ) → s < n → t < n → number s ≡ number t → s ≡ t
  pub targets : (t : ℕ) → t < n → target t < 4096
  pub known : (t : ℕ) → t < n → reset_class graph (reset_source (number t)) (reset_mask (number t)) ≡ target t
  pub all : (class mask : ℕ) → class < 4096 → 0 < mask → mask < 16 → reset_class graph class mask < 4096
      → (t : ℕ) × (t < n) × (number t ≡ reset_number class mask)

pub resets_none : (graph : List ℕ) (number target : ℕ → ℕ) → long ≤ length graph → ((class : ℕ) → source_head graph class ≡ nothing)
    → ((class mask : ℕ) → reset_class graph class mask ≡ nothing) → KnownResets graph number target 0
unfolding source_head
resets_none graph number target lent heads fresh =
    record {
      back = backward-none graph number target lent (λ k h. ap (load source_heads graph) (sym (mod-eq_of_lt h)) ∙ heads k);
      one = λ s t h. absurd (omega arith);
      targets = λ t h. absurd (omega arith);
      known = λ t h. absurd (omega arith);
      all = λ class mask a b c h. absurd (omega (arith, h, fresh class mask));
    }

-- A reset is read by its class and its mask as remainders.
reset-same : (graph : List ℕ) (class mask other by : ℕ) → other % most_regions ≡ class % most_regions → by % 16 ≡ mask % 16
    → reset_class graph other by ≡ reset_class graph class mask
unfolding reset_class
reset-same graph class mask other by e f = ap₂ (λ (a b : ℕ). load resets graph (16 * a + b)) e f

mask-some : (reset : ℕ) → (0 < reset_mask reset) × (reset_mask reset < 16)
unfolding reset_mask
mask-some reset = (omega arith, omega arith)

module _ {graph : List ℕ} {number target : ℕ → ℕ} {n : ℕ} (noted : KnownResets graph number target n) where
  -- What keeps the three columns keeps what was noted.
  pub resets-kept : (graph' : List ℕ) → length graph ≤ length graph' → Kept resets graph graph' → Kept source_heads graph graph'
      → Kept source_links graph graph' → KnownResets graph' number target n
  resets-kept graph' longer same heads links =
      record {
        back = backward-kept noted.back graph' longer heads links;
        one = noted.one;
        targets = noted.targets;
        known = λ t h. reset-kept graph graph' same (reset_source (number t)) (reset_mask (number t)) ∙ noted.known t h;
        all = λ class mask a b c h. noted.all class mask a b c
            (subst (λ (k : ℕ). k < 4096) (reset-kept graph graph' same class mask) h);
      }

  -- The resets that lead to a class are those after which the clocks are in it.
  pub sources-are : (c class mask : ℕ) → c < 4096 → class < 4096 → 0 < mask → mask < 16
      → Memᴰ (reset_number class mask) (sources_of graph c) ↔ (reset_class graph class mask ≡ c)
  sources-are c class mask small hc some hm = (
    λ met. found (sources-only noted.back c (reset_number class mask) small met),
    λ e. listed e
        (noted.all class mask hc some hm (subst (λ (k : ℕ). k < 4096) (sym e) small)),
  )
    where
      at : (t : ℕ) → t < n → number t ≡ reset_number class mask → reset_class graph class mask ≡ target t
      at t h is =
          ap₂ (reset_class graph) (sym (ap reset_source is ∙ reset-source class mask hc some hm))
          (sym (ap reset_mask is ∙ reset-mask class mask hc some hm)) ∙ noted.known t h

      found : (t : ℕ) × (t < n) × (number t ≡ reset_number class mask) × (target t ≡ c) → reset_class graph class mask ≡ c
      found w = at w.0 w.1 w.2 ∙ w.3

      listed : reset_class graph class mask ≡ c → (t : ℕ) × (t < n) × (number t ≡ reset_number class mask)
          → Memᴰ (reset_number class mask) (sources_of graph c)
      listed e w =
          let goes : target w.0 ≡ c = sym (at w.0 w.1 w.2) ∙ e in
          subst (λ (r : ℕ). Memᴰ r (sources_of graph c)) w.2
          (subst (λ (k : ℕ). Memᴰ (number w.0) (sources_of graph k)) goes
          (sources-have noted.back w.0 w.1 (noted.targets w.0 w.1)))

  -- A reset that is not known was not noted.
  resets-fresh : (class mask : ℕ) → reset_class graph class mask ≡ nothing → (t : ℕ) → t < n
      → (reset_source (number t) % most_regions ≡ class % most_regions) × (reset_mask (number t) % 16 ≡ mask % 16) → ⊥
  resets-fresh class mask fresh t h same =
      let e : target t ≡ nothing =
      sym (noted.known t h) ∙ reset-same graph class mask (reset_source (number t)) (reset_mask (number t)) same.0 same.1 ∙ fresh in
      absurd (omega (arith, e, noted.targets t h))

  -- A reset by a mask of 0 adds nothing to what was noted.
  pub resets-plain : (class mask after : ℕ) → mask % 16 ≡ 0 → KnownResets (with_reset graph class mask after) number target n
  resets-plain class mask after none = go (decide (reset_class graph class mask) nothing)
    where
      off : (other by : ℕ) → 0 < by → by < 16
          → reset_class (with_reset graph class mask after) other by ≡ reset_class graph other by
      off other by some few =
          reset-other graph class mask after other by (λ w. absurd (omega (arith, w.1, none, some, mod-eq_of_lt few)))

      go : (reset_class graph class mask ≡ nothing) ⊎ (reset_class graph class mask ≡ nothing → ⊥)
          → KnownResets (with_reset graph class mask after) number target n
      go (inr known) = subst (λ (g : List ℕ). KnownResets g number target n) (sym (reset-known graph class mask after known)) noted
      go (inl fresh) =
          record {
            back = subst (λ (g : List ℕ). Backward g number target n) (sym (reset-plain graph class mask after fresh none))
                (backward-kept noted.back (store resets graph (16 * (class % most_regions) + mask % 16) after)
                (omega (arith, store_length resets graph (16 * (class % most_regions) + mask % 16) after))
                (store_keeps resets graph (16 * (class % most_regions) + mask % 16) after source_heads refl (reset-below class mask))
                (store_keeps resets graph (16 * (class % most_regions) + mask % 16) after source_links refl (reset-below class mask)));
            one = noted.one;
            targets = noted.targets;
            known = λ t h. off (reset_source (number t)) (reset_mask (number t)) (mask-some (number t)).0 (mask-some (number t)).1
                ∙ noted.known t h;
            all = λ c m a b d h. noted.all c m a b d (subst (λ (k : ℕ). k < 4096) (off c m b d) h);
          }

  -- Nor does a reset that is known.
  pub resets-again : (class mask after : ℕ) → (reset_class graph class mask ≡ nothing → ⊥)
      → KnownResets (with_reset graph class mask after) number target n
  resets-again class mask after known =
      subst (λ (g : List ℕ). KnownResets g number target n) (sym (reset-known graph class mask after known)) noted

  -- One reset more. That it was not noted before, and that there is room for it, follows from its not being known.
  pub resets_more : (class mask after : ℕ) → class < 4096 → 0 < mask → mask < 16 → after < 4096 → reset_class graph class mask ≡ nothing
      → number n ≡ reset_number class mask → target n ≡ after → KnownResets (with_reset graph class mask after) number target (suc n)
  resets_more class mask after hc some hm ha fresh is goes =
      record {
        back = subst (λ (g : List ℕ). Backward g number target (suc n)) (sym (reset-both graph class mask after fresh nonzero))
            (backward-more kept class (mask % 16) after room (is ∙ ap (reset_number class) (sym own))
            (goes ∙ sym (mod-eq_of_lt ha)) (λ t h e. differs t h e));
        one = λ s t h k e. one s t e (last_or s h) (last_or t k);
        targets = λ t h. below t (last_or t h);
        known = λ t h. known t (last_or t h);
        all = λ c m a b d h. all c m a b d h (decide c class) (decide m mask);
      }
    where
      own : mask % 16 ≡ mask
      own = mod-eq_of_lt hm

      nonzero : mask % 16 ≡ 0 → ⊥
      nonzero e = absurd (omega (arith, e, own, some))

      plain : List ℕ
      plain = store resets graph (16 * (class % most_regions) + mask % 16) after

      kept : Backward plain number target n
      kept =
          backward-kept noted.back plain (omega (arith, store_length resets graph (16 * (class % most_regions) + mask % 16) after))
          (store_keeps resets graph (16 * (class % most_regions) + mask % 16) after source_heads refl (reset-below class mask))
          (store_keeps resets graph (16 * (class % most_regions) + mask % 16) after source_links refl (reset-below class mask))

      source : reset_source (number n) ≡ class
      source = ap reset_source is ∙ reset-source class mask hc some hm

      by : reset_mask (number n) ≡ mask
      by = ap reset_mask is ∙ reset-mask class mask hc some hm

      differs : (t : ℕ) → t < n → number t ≡ number n → ⊥
      differs t h e =
          resets-fresh class mask fresh t h (
            ap (λ (k : ℕ). k % most_regions) (ap reset_source e ∙ source),
            ap (λ (k : ℕ). k % 16) (ap reset_mask e ∙ by),
          )

      last_or : (t : ℕ) → t < suc n → (t ≡ n) ⊎ (t < n)
      last_or t h = let most : t ≤ n = omega arith in eq-or-lt_of_le most

      one : (s t : ℕ) → number s ≡ number t → (s ≡ n) ⊎ (s < n) → (t ≡ n) ⊎ (t < n) → s ≡ t
      one s t e (inl a) (inl b) = a ∙ sym b
      one s t e (inl a) (inr k) = absurd (differs t k (sym e ∙ ap number a))
      one s t e (inr h) (inl b) = absurd (differs s h (e ∙ ap number b))
      one s t e (inr h) (inr k) = noted.one s t h k e

      inside : (t : ℕ) → (t ≡ n) ⊎ (t < n) → number t < 61440
      inside t (inl e) = subst (λ (k : ℕ). k < 61440) (sym (ap number e ∙ is)) (number-below class mask)
      inside t (inr h) = noted.back.below t h

      room : n < 61440
      room =
          distinct-few number (suc n) 61440
          (record { below = λ t h. inside t (last_or t h); one = λ s t h k e. one s t e (last_or s h) (last_or t k) })

      below : (t : ℕ) → (t ≡ n) ⊎ (t < n) → target t < 4096
      below t (inl e) = subst (λ (k : ℕ). k < 4096) (sym (ap target e ∙ goes)) ha
      below t (inr h) = noted.targets t h

      known : (t : ℕ) → (t ≡ n) ⊎ (t < n)
          → reset_class (with_reset graph class mask after) (reset_source (number t)) (reset_mask (number t)) ≡ target t
      known t (inl e) =
          ap₂ (reset_class (with_reset graph class mask after)) (ap (λ (k : ℕ). reset_source (number k)) e ∙ source)
          (ap (λ (k : ℕ). reset_mask (number k)) e ∙ by)
          ∙ reset-stored graph class mask after fresh (omega (arith, noted.back.lent)) (omega (arith, ha))
          ∙ sym (ap target e ∙ goes)
      known t (inr h) =
          reset-other graph class mask after (reset_source (number t)) (reset_mask (number t)) (resets-fresh class mask fresh t h)
          ∙ noted.known t h

      before : (c m : ℕ) → c < 4096 → 0 < m → m < 16 → reset_class (with_reset graph class mask after) c m < 4096
          → ((c % most_regions ≡ class % most_regions) × (m % 16 ≡ mask % 16) → ⊥)
          → (t : ℕ) × (t < suc n) × (number t ≡ reset_number c m)
      before c m a b d h other =
          let w = noted.all c m a b d (subst (λ (k : ℕ). k < 4096) (reset-other graph class mask after c m other) h) in
          (w.0, omega (arith, w.1), w.2)

      all : (c m : ℕ) → c < 4096 → 0 < m → m < 16 → reset_class (with_reset graph class mask after) c m < 4096
          → (c ≡ class) ⊎ (c ≡ class → ⊥) → (m ≡ mask) ⊎ (m ≡ mask → ⊥) → (t : ℕ) × (t < suc n) × (number t ≡ reset_number c m)
      all c m a b d h (inl e) (inl f) = (n, omega arith, is ∙ sym (ap₂ reset_number e f))
      all c m a b d h (inl e) (inr g) = before c m a b d h (λ w. g (sym (mod-eq_of_lt d) ∙ w.1 ∙ own))
      all c m a b d h (inr g) f = before c m a b d h (λ w. g (sym (mod-eq_of_lt a) ∙ w.0 ∙ mod-eq_of_lt hc))
