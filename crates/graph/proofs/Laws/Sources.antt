-- The resets backwards: the resets that lead to a class are those that were noted with it.
use Prim.Native.Nat.{ℕ, zero, suc, ◌%◌, ◌≤◌, ◌<◌}
use Rattle.std.proofs.Common.{arith, eq-or-lt_of_le, mod-eq_of_lt, sym, ◌∙◌, ap, inl, inr, eqb-true, eq-eqb, ne_eqb}
use Rattle.std.specs.Prelude.{◌≡◌, refl, true, false, cond, ◌⊎◌, eqb, length}
use Rattle.std.proofs.Math.Path.{subst}
use Rattle.std.proofs.Math.Bool.{Bool}
use mathlib.Core.List.Memᴰ
use mathlib.Core.List.{List, [], ◌∷◌, Memᴰ}
use Rattle.std.proofs.lemmas.Bool.{eqb-false}
use Rattle.graph.specs.Columns.{nothing, load, store, long, most_regions, source_heads, source_links}
use Rattle.graph.specs.Readers.{reset_number, source_head, source_link, sources_from, sources_of}
use Rattle.graph.specs.Writers.{with_source}
use Rattle.graph.proofs.Laws.Columns.{Kept, store_length, load_stored, load-other, store_keeps}
use Rattle.graph.proofs.Laws.Latest.{latest, both, latest-none, latest-here, latest-past, latest-ways, latest-misses}
use Rattle.graph.proofs.Laws.Latest.{latest-covers}
use Rattle.graph.proofs.Laws.Stores.{region-below, number-below}

-- Does the note of a time lead to a class?
abbrev pub leads_to : (target : ℕ → ℕ) → (class time : ℕ) → Bool
leads_to target class time = eqb (target time) class

-- The reset noted at a time, or nothing.
abbrev pub number_at : (number : ℕ → ℕ) → (time : ℕ) → ℕ
number_at number time = cond (eqb time nothing) nothing (number time)

-- The way back of n notes: at time t the reset `number t` was noted, which leads to the class `target t`.
pub record Backward (graph : List ℕ) (number target : ℕ → ℕ) (n : ℕ) : Type 0 where
  pub lent : long ≤ length graph
  pub few : n ≤ 61440
  pub below : (t : ℕ) → t < n → number t < 61440
  pub head-is : (k : ℕ) → k < 4096 → load source_heads graph k ≡ number_at number (latest (leads_to target k) n)
  pub link-is : (t : ℕ) → t < n → load source_links graph (number t) ≡ number_at number (latest (leads_to target (target t)) t)

pub backward-none : (graph : List ℕ) (number target : ℕ → ℕ) → long ≤ length graph
    → ((k : ℕ) → k < 4096 → load source_heads graph k ≡ nothing) → Backward graph number target 0
backward-none graph number target lent fresh =
    record {
      lent = lent;
      few = omega arith;
      below = λ t h. absurd (omega arith);
      head-is = λ k h. fresh k h ∙ sym (ap (number_at number) (latest-none (leads_to target k)));
      link-is = λ t h. absurd (omega arith);
    }

number-some : (number : ℕ → ℕ) (t : ℕ) → t < nothing → number_at number t ≡ number t
number-some number t h = ap (λ (b : Bool). cond b nothing (number t)) (ne_eqb t nothing (λ e. absurd (omega (arith, e, h))))

module _ {graph : List ℕ} {number target : ℕ → ℕ} {n : ℕ} (back : Backward graph number target n) where
  walk-has : (class steps m t : ℕ) → m ≤ steps → m ≤ n → t < m → target t ≡ class
      → Memᴰ (number t) (sources_from graph steps (number_at number (latest (leads_to target class) m)))
  unfolding sources_from source_link
  walk-has class zero m t few within h is = absurd (omega arith)
  walk-has class (suc steps) m t few within h is = go (walk-has class steps) (latest-ways p m)
    where
      p : ℕ → Bool
      p = leads_to target class

      small : m ≤ nothing
      small = omega (arith, within, back.few)

      passes : p t ≡ true
      passes = eq-eqb (target t) class is

      go : ((m t : ℕ) → m ≤ steps → m ≤ n → t < m → target t ≡ class → Memᴰ (number t)
          (sources_from graph steps (number_at number (latest p m))))
          → (latest p m ≡ nothing) ⊎ ((latest p m < m) × (p (latest p m) ≡ true))
          → Memᴰ (number t) (sources_from graph (suc steps) (number_at number (latest p m)))
      go rest (inl none) = absurd (clash (latest-misses p m small none t h))
        where
          clash : p t ≡ false → ⊥
          clash e = eqb-false (target t) class e is
      go rest (inr some) =
          let last : ℕ = latest p m in
          let at : number_at number (latest p m) ≡ number (latest p m) = number-some number (latest p m) (omega (arith, some.0, small)) in
          let inside : number (latest p m) < 61440 = back.below (latest p m) (omega (arith, some.0, within)) in
          let link : source_link graph (number (latest p m)) ≡ number_at number (latest p (latest p m)) = link_at (latest p m)
          (omega (arith, some.0, within)) inside (eqb-true (target (latest p m)) class some.1) in
          subst (λ (r : ℕ). Memᴰ (number t) (cond (eqb r nothing) [] (r ∷ sources_from graph steps (source_link graph r)))) (sym at)
          (rw (ne_eqb (number (latest p m)) nothing (λ e. absurd (omega (arith, e, inside))))
          (found (latest p m) some link (eq-or-lt_of_le (latest-covers p m t small h passes))))
        where
          link_at : (u : ℕ) → u < n → number u < 61440 → target u ≡ class → source_link graph (number u) ≡ number_at number (latest p u)
          link_at u hu inside e =
              ap (load source_links graph) (mod-eq_of_lt inside) ∙ back.link-is u hu ∙ ap
              (λ (k : ℕ). number_at number (latest (leads_to target k) u)) e

          found : (u : ℕ) → (u < m) × (p u ≡ true) → source_link graph (number u) ≡ number_at number (latest p u) → (t ≡ u) ⊎ (t < u)
              → Memᴰ (number t) (number u ∷ sources_from graph steps (source_link graph (number u)))
          found u s link (inl e) = Memᴰ.head (ap number e)
          found u s link (inr less) =
              Memᴰ.tail (subst (λ (r : ℕ). Memᴰ (number t) (sources_from graph steps r)) (sym link)
              (rest u t (omega (arith, s.0, few)) (omega (arith, s.0, within)) less is))

  -- Each reset that was noted is among those that lead to its class.
  pub sources-have : (t : ℕ) → t < n → target t < 4096 → Memᴰ (number t) (sources_of graph (target t))
  unfolding sources_of source_head
  sources-have t h small =
      subst (λ (r : ℕ). Memᴰ (number t) (sources_from graph 61440 r))
      (sym (ap (load source_heads graph) (mod-eq_of_lt small) ∙ back.head-is (target t) small))
      (walk-has (target t) 61440 n t back.few (omega arith) h refl)

  walk-only : (class steps m r : ℕ) → m ≤ n → Memᴰ r (sources_from graph steps (number_at number (latest (leads_to target class) m)))
      → (t : ℕ) × (t < m) × (number t ≡ r) × (target t ≡ class)
  unfolding sources_from source_link
  walk-only class zero m r within met = absurd (Memᴰ.not-nil met)
  walk-only class (suc steps) m r within met = go (walk-only class steps) (latest-ways p m)
    where
      p : ℕ → Bool
      p = leads_to target class

      small : m ≤ nothing
      small = omega (arith, within, back.few)

      found : ((j s : ℕ) → j ≤ n → Memᴰ s (sources_from graph steps (number_at number (latest p j)))
          → (t : ℕ) × (t < j) × (number t ≡ s) × (target t ≡ class))
          → (u : ℕ) → (u < m) × (p u ≡ true) → (r ≡ number u) ⊎ Memᴰ r (sources_from graph steps (source_link graph (number u)))
          → (t : ℕ) × (t < m) × (number t ≡ r) × (target t ≡ class)
      found rest u s (inl e) = (u, s.0, sym e, eqb-true (target u) class s.1)
      found rest u s (inr later) =
          let link : source_link graph (number u) ≡ number_at number (latest p u) =
          ap (load source_links graph) (mod-eq_of_lt (back.below u (omega (arith, s.0, within))))
          ∙ back.link-is u (omega (arith, s.0, within))
          ∙ ap (λ (k : ℕ). number_at number (latest (leads_to target k) u)) (eqb-true (target u) class s.1) in
          let is = rest u r (omega (arith, s.0, within)) (subst (λ (k : ℕ). Memᴰ r (sources_from graph steps k)) link later) in
          (is.0, omega (arith, is.1, s.0), is.2, is.3)

      go : ((j s : ℕ) → j ≤ n → Memᴰ s (sources_from graph steps (number_at number (latest p j)))
          → (t : ℕ) × (t < j) × (number t ≡ s) × (target t ≡ class))
          → (latest p m ≡ nothing) ⊎ ((latest p m < m) × (p (latest p m) ≡ true))
          → (t : ℕ) × (t < m) × (number t ≡ r) × (target t ≡ class)
      go rest (inl none) =
          absurd (Memᴰ.not-nil (subst (λ (k : ℕ). Memᴰ r (sources_from graph (suc steps) (number_at number k))) none met))
      go rest (inr some) =
          let at : number_at number (latest p m) ≡ number (latest p m) = number-some number (latest p m) (omega (arith, some.0, small)) in
          let inside : number (latest p m) < 61440 = back.below (latest p m) (omega (arith, some.0, within)) in
          found rest (latest p m) some (Memᴰ.cases_cons (subst (λ (l : List ℕ). Memᴰ r l)
          (ap (λ (k : ℕ). sources_from graph (suc steps) k) at
          ∙ ap (λ (b : Bool). cond b [] (number (latest p m) ∷ sources_from graph steps (source_link graph (number (latest p m)))))
          (ne_eqb (number (latest p m)) nothing (λ e. absurd (omega (arith, e, inside))))) met))

  -- And what is among those that lead to a class was noted.
  pub sources-only : (class r : ℕ) → class < 4096 → Memᴰ r (sources_of graph class)
      → (t : ℕ) × (t < n) × (number t ≡ r) × (target t ≡ class)
  unfolding sources_of source_head
  sources-only class r small met =
      walk-only class 61440 n r (omega arith) (subst (λ (k : ℕ). Memᴰ r (sources_from graph 61440 k))
      (ap (load source_heads graph) (mod-eq_of_lt small) ∙ back.head-is class small) met)

  -- What keeps the two columns keeps the way back.
  pub backward-kept : (graph' : List ℕ) → length graph ≤ length graph' → Kept source_heads graph graph' → Kept source_links graph graph'
      → Backward graph' number target n
  backward-kept graph' longer heads links =
      record {
        lent = omega (arith, back.lent, longer);
        few = back.few;
        below = back.below;
        head-is = λ k h. heads k h ∙ back.head-is k h;
        link-is = λ t h. links (number t) (back.below t h) ∙ back.link-is t h;
      }

-- One note more.
module _ {graph : List ℕ} {number target : ℕ → ℕ} {n : ℕ} (back : Backward graph number target n) where
  pub backward-more : (class mask after : ℕ) → n < 61440 → number n ≡ reset_number class mask → target n ≡ after % most_regions
      → ((t : ℕ) → t < n → number t ≡ number n → ⊥) → Backward (with_source graph class mask after) number target (suc n)
  unfolding with_source source_head
  backward-more class mask after room is goes fresh =
      record {
        lent = omega (arith, back.lent, length₁, length₂);
        few = room;
        below = λ t h. inside t (last_or t h);
        head-is = λ k h. heads k h (both (eqb (target n) k));
        link-is = λ t h. links t (last_or t h);
      }
    where
      head : ℕ
      head = load source_heads graph (after % most_regions)

      one : List ℕ
      one = store source_links graph (reset_number class mask) head

      two : List ℕ
      two = store source_heads one (after % most_regions) (reset_number class mask)

      length₁ : length one ≡ length graph
      length₁ = store_length source_links graph (reset_number class mask) head

      length₂ : length two ≡ length one
      length₂ = store_length source_heads one (after % most_regions) (reset_number class mask)

      last_or : (t : ℕ) → t < suc n → (t ≡ n) ⊎ (t < n)
      last_or t h = let most : t ≤ n = omega arith in eq-or-lt_of_le most

      inside : (t : ℕ) → (t ≡ n) ⊎ (t < n) → number t < 61440
      inside t (inl e) = rw e (subst (λ (k : ℕ). k < 61440) (sym is) (number-below class mask))
      inside t (inr h) = back.below t h

      head-is : head ≡ number_at number (latest (leads_to target (target n)) n)
      head-is = ap (load source_heads graph) (sym goes) ∙ back.head-is (target n)
          (subst (λ (k : ℕ). k < 4096) (sym goes) (region-below after))

      head_small : head < 65536
      head_small = go (latest-ways (leads_to target (target n)) n)
        where
          go : (latest (leads_to target (target n)) n ≡ nothing)
              ⊎ ((latest (leads_to target (target n)) n < n) × (leads_to target (target n) (latest (leads_to target (target n)) n) ≡ true))
              → head < 65536
          go (inl none) = let e : head ≡ nothing = head-is ∙ ap (number_at number) none in omega (arith, e)
          go (inr some) =
              let e : head ≡ number (latest (leads_to target (target n)) n) =
              head-is ∙ number-some number (latest (leads_to target (target n)) n) (omega (arith, some.0, room)) in
              omega (arith, e, back.below (latest (leads_to target (target n)) n) some.0)

      links : (t : ℕ) → (t ≡ n) ⊎ (t < n) → load source_links two (number t) ≡ number_at number (latest (leads_to target (target t)) t)
      links t (inl e) =
          rw e (store_keeps source_heads one (after % most_regions) (reset_number class mask) source_links refl (region-below after)
          (number n)
          (subst (λ (k : ℕ). k < 61440) (sym is) (number-below class mask))
          ∙ ap (load source_links one) is
          ∙ load_stored source_links graph (reset_number class mask) head (number-below class mask) (omega (arith, back.lent)) head_small
          ∙ head-is)
      links t (inr h) =
          store_keeps source_heads one (after % most_regions) (reset_number class mask) source_links refl (region-below after) (number t)
          (back.below t h)
          ∙ load-other source_links graph (reset_number class mask) head (number t) (λ e. fresh t h (e ∙ sym is)) ∙ back.link-is t h

      heads : (k : ℕ) → k < 4096 → (eqb (target n) k ≡ true) ⊎ (eqb (target n) k ≡ false)
          → load source_heads two k ≡ number_at number (latest (leads_to target k) (suc n))
      heads k h (inl e) =
          let same : k ≡ after % most_regions = sym (eqb-true (target n) k e) ∙ goes in
          ap (load source_heads two) same
          ∙ load_stored source_heads one (after % most_regions) (reset_number class mask) (region-below after)
          (omega (arith, back.lent, length₁))
          (omega (arith, number-below class mask))
          ∙ sym is ∙ sym (number-some number n (omega (arith, room))) ∙ sym (ap (number_at number) (latest-here (leads_to target k) n e))
      heads k h (inr e) =
          load-other source_heads one (after % most_regions) (reset_number class mask) k
          (λ same. eqb-false (target n) k e (goes ∙ sym same))
          ∙ store_keeps source_links graph (reset_number class mask) head source_heads refl (number-below class mask) k h
          ∙ back.head-is k h ∙ sym (ap (number_at number) (latest-past (leads_to target k) n e))
