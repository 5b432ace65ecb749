-- Chains by buckets: after the members below n were stored, each head is the latest member of its bucket and each link the one before; one
-- member more keeps that. What is met from the head of a bucket are its members. The index of clock classes and the slots by mask and
-- target are such.
use Prim.Native.Nat.{ℕ, zero, suc, ◌%◌, ◌≤◌, ◌<◌}
use Rattle.std.proofs.Common.{arith, eq-or-lt_of_le, sym, ◌∙◌, subst, inl, inr, ne_eqb}
use Rattle.std.specs.Prelude.{◌≡◌, true, false, ◌⊎◌, ◌↔◌}
use Rattle.std.proofs.Math.Path.{refl, ap}
use Rattle.std.proofs.Math.Bool.{Bool, cond}
use mathlib.Core.List.Memᴰ
use mathlib.Core.List.{List, [], ◌∷◌, Memᴰ}
use Rattle.graph.specs.Columns.{nothing, load, store, most_regions, class_heads, class_links}
use Rattle.graph.specs.Readers.{class_head, class_link, along}
use Rattle.graph.specs.Writers.{with_class}
use Rattle.graph.proofs.Laws.Columns.{Lent, store-lent, load_stored, load-other, store_keeps}
use Rattle.graph.proofs.Laws.Latest.{latest, decide, not-both, latest-none, latest-here, latest-past, latest-ways, latest-misses}
use Rattle.graph.proofs.Laws.Latest.{latest-covers}
use Rattle.graph.proofs.Laws.Stores.{region-below}

pub record Chain (head link : ℕ → ℕ) (member : ℕ → ℕ → Bool) (buckets n : ℕ) : Type 0 where
  pub heads : (bucket : ℕ) → bucket < buckets → head bucket ≡ latest (member bucket) n
  pub links : (bucket x : ℕ) → bucket < buckets → x < n → member bucket x ≡ true → link x ≡ latest (member bucket) x

pub chain-none : (head link : ℕ → ℕ) (member : ℕ → ℕ → Bool) (buckets : ℕ) → ((bucket : ℕ) → bucket < buckets → head bucket ≡ nothing)
    → Chain head link member buckets 0
chain-none head link member buckets fresh =
    record { heads = λ b h. fresh b h ∙ sym (latest-none (member b)); links = λ b x h l. absurd (omega arith) }

module _ {head link : ℕ → ℕ} {member : ℕ → ℕ → Bool} {buckets n : ℕ} (chain : Chain head link member buckets n) where
  -- One that is in no bucket.
  pub chain-past : ((bucket : ℕ) → bucket < buckets → member bucket n ≡ false) → Chain head link member buckets (suc n)
  chain-past none =
      record {
        heads = λ b h. chain.heads b h ∙ sym (latest-past (member b) n (none b h));
        links = λ b x h l is. let most : x ≤ n = omega arith in go b x h is (eq-or-lt_of_le most);
      }
    where
      go : (b x : ℕ) → b < buckets → member b x ≡ true → (x ≡ n) ⊎ (x < n) → link x ≡ latest (member b) x
      go b x h is (inl e) = absurd (not-both (member b n) (subst (λ (k : ℕ). member b k ≡ true) e is) (none b h))
      go b x h is (inr l) = chain.links b x h l is

  -- One that is in a bucket of its own.
  pub chain_more : (head' link' : ℕ → ℕ) (own : ℕ) → own < buckets → member own n ≡ true
      → ((bucket : ℕ) → bucket < buckets → (bucket ≡ own → ⊥) → member bucket n ≡ false) → head' own ≡ n
      → ((bucket : ℕ) → bucket < buckets → (bucket ≡ own → ⊥) → head' bucket ≡ head bucket) → link' n ≡ head own
      → ((x : ℕ) → x < n → link' x ≡ link x) → Chain head' link' member buckets (suc n)
  chain_more head' link' own within is alone first others last before =
      record {
        heads = λ b h. top b h (decide b own);
        links = λ b x h l here. let most : x ≤ n = omega arith in down b x h here (eq-or-lt_of_le most) (decide b own);
      }
    where
      top : (b : ℕ) → b < buckets → (b ≡ own) ⊎ (b ≡ own → ⊥) → head' b ≡ latest (member b) (suc n)
      top b h (inl e) = ap head' e ∙ first ∙ sym (latest-here (member b) n (subst (λ (k : ℕ). member k n ≡ true) (sym e) is))
      top b h (inr d) = others b h d ∙ chain.heads b h ∙ sym (latest-past (member b) n (alone b h d))

      down : (b x : ℕ) → b < buckets → member b x ≡ true → (x ≡ n) ⊎ (x < n) → (b ≡ own) ⊎ (b ≡ own → ⊥) → link' x ≡ latest (member b) x
      down b x h here (inr l) w = before x l ∙ chain.links b x h l here
      down b x h here (inl e) (inl w) =
          ap link' e ∙ last ∙ chain.heads own within ∙ ap (λ (k : ℕ). latest (member k) n) (sym w) ∙ ap (latest (member b)) (sym e)
      down b x h here (inl e) (inr w) = absurd (not-both (member b n) (subst (λ (k : ℕ). member b k ≡ true) e here) (alone b h w))

-- ---- What is met along the links of a chain

module _ (link : ℕ → ℕ) where
  along-none : (steps : ℕ) → along link steps nothing ≡ []
  unfolding along
  along-none zero = refl
  along-none (suc steps) = refl

  along-some : (steps x : ℕ) → (x ≡ nothing → ⊥) → along link (suc steps) x ≡ x ∷ along link steps (link x)
  unfolding along
  along-some steps x some = ap (λ (b : Bool). cond b [] (x ∷ along link steps (link x))) (ne_eqb x nothing some)

module _ {head link : ℕ → ℕ} {member : ℕ → ℕ → Bool} {buckets n : ℕ} (chain : Chain head link member buckets n) (few : n ≤ nothing)
    (bucket : ℕ) (within : bucket < buckets) where
  -- From the latest member below m on every member below m is met.
  chain-has : (steps m x : ℕ) → m ≤ steps → m ≤ n → x < m → member bucket x ≡ true
      → Memᴰ x (along link steps (latest (member bucket) m))
  chain-has zero m x enough below h is = absurd (omega arith)
  chain-has (suc steps) m x enough below h is = go (chain-has steps) (latest-ways p m)
    where
      p : ℕ → Bool
      p = member bucket

      go : ((j y : ℕ) → j ≤ steps → j ≤ n → y < j → p y ≡ true → Memᴰ y (along link steps (latest p j)))
          → (latest p m ≡ nothing) ⊎ ((latest p m < m) × (p (latest p m) ≡ true)) → Memᴰ x (along link (suc steps) (latest p m))
      go rest (inl none) = absurd (not-both (p x) is (latest-misses p m (omega (arith, below, few)) none x h))
      go rest (inr some) =
          subst (λ (l : List ℕ). Memᴰ x l)
          (sym (along-some link steps (latest p m) (λ e. absurd (omega (arith, e, some.0, below, few)))))
          (found (latest p m) some (eq-or-lt_of_le (latest-covers p m x (omega (arith, below, few)) h is)))
        where
          found : (u : ℕ) → (u < m) × (p u ≡ true) → (x ≡ u) ⊎ (x < u) → Memᴰ x (u ∷ along link steps (link u))
          found u s (inl e) = Memᴰ.head e
          found u s (inr less) =
              Memᴰ.tail (subst (λ (y : ℕ). Memᴰ x (along link steps y))
              (sym (chain.links bucket u within (omega (arith, s.0, below)) s.1))
              (rest u x (omega (arith, s.0, enough)) (omega (arith, s.0, below)) less is))

  -- And nothing else is.
  chain-only : (steps m x : ℕ) → m ≤ n → Memᴰ x (along link steps (latest (member bucket) m)) → (x < m) × (member bucket x ≡ true)
  unfolding along
  chain-only zero m x below met = absurd (Memᴰ.not-nil met)
  chain-only (suc steps) m x below met = go (chain-only steps) (latest-ways p m)
    where
      p : ℕ → Bool
      p = member bucket

      go : ((j y : ℕ) → j ≤ n → Memᴰ y (along link steps (latest p j)) → (y < j) × (p y ≡ true))
          → (latest p m ≡ nothing) ⊎ ((latest p m < m) × (p (latest p m) ≡ true)) → (x < m) × (p x ≡ true)
      go rest (inl none) =
          absurd (Memᴰ.not-nil (subst (λ (l : List ℕ). Memᴰ x l)
          (ap (along link (suc steps)) none ∙ along-none link (suc steps)) met))
      go rest (inr some) =
          found (latest p m) some (Memᴰ.cases_cons (subst (λ (l : List ℕ). Memᴰ x l)
          (along-some link steps (latest p m) (λ e. absurd (omega (arith, e, some.0, below, few)))) met))
        where
          found : (u : ℕ) → (u < m) × (p u ≡ true) → (x ≡ u) ⊎ Memᴰ x (along link steps (link u)) → (x < m) × (p x ≡ true)
          found u s (inl e) = (omega (arith, s.0, e), subst (λ (y : ℕ). p y ≡ true) (sym e) s.1)
          found u s (inr later) =
              let less = rest u x (omega (arith, s.0, below)) (subst (λ (y : ℕ). Memᴰ x (along link steps y))
              (chain.links bucket u within (omega (arith, s.0, below)) s.1) later) in
              (omega (arith, s.0, less.0), less.1)

  -- What is met from the head of a bucket: its members, and nothing else.
  pub chain-met : (steps x : ℕ) → n ≤ steps → Memᴰ x (along link steps (head bucket)) ↔ ((x < n) × (member bucket x ≡ true))
  chain-met steps x enough =
      let at = chain.heads bucket within in (
        λ met. chain-only steps n x (omega arith) (subst (λ (y : ℕ). Memᴰ x (along link steps y)) at met),
        λ is. subst (λ (y : ℕ). Memᴰ x (along link steps y)) (sym at) (chain-has steps n x enough (omega arith) is.0 is.1),
      )

-- ---- What a clock class stores

module _ (graph : List ℕ) (bucket class : ℕ) where
  pub class-head-stored : Lent class_heads graph → class < 65536 → class_head (with_class graph bucket class) bucket ≡ class
  unfolding with_class class_head
  class-head-stored lent small =
      load_stored class_heads (store class_links graph (class % most_regions) (load class_heads graph (bucket % most_regions)))
      (bucket % most_regions) class
      (region-below bucket) (store-lent class_links graph (class % most_regions)
      (load class_heads graph (bucket % most_regions)) class_heads lent) small

  pub class-head-other : (other : ℕ) → (other % most_regions ≡ bucket % most_regions → ⊥)
      → class_head (with_class graph bucket class) other ≡ class_head graph other
  unfolding with_class class_head
  class-head-other other differs =
      load-other class_heads (store class_links graph (class % most_regions) (load class_heads graph (bucket % most_regions)))
      (bucket % most_regions) class
      (other % most_regions) differs
      ∙ store_keeps class_links graph (class % most_regions) (load class_heads graph (bucket % most_regions)) class_heads refl
      (region-below class)
      (other % most_regions) (region-below other)

  pub class-link-stored : Lent class_links graph → class_head graph bucket < 65536 → class_link
      (with_class graph bucket class) class ≡ class_head graph bucket
  unfolding with_class class_link
  class-link-stored lent small =
      store_keeps class_heads (store class_links graph (class % most_regions) (class_head graph bucket))
      (bucket % most_regions) class class_links refl
      (region-below bucket) (class % most_regions) (region-below class)
      ∙ load_stored class_links graph (class % most_regions) (class_head graph bucket) (region-below class) lent small

  pub class-link-other : (other : ℕ) → (other % most_regions ≡ class % most_regions → ⊥)
      → class_link (with_class graph bucket class) other ≡ class_link graph other
  unfolding with_class class_link
  class-link-other other differs =
      store_keeps class_heads (store class_links graph (class % most_regions) (class_head graph bucket))
      (bucket % most_regions) class class_links refl
      (region-below bucket) (other % most_regions) (region-below other)
      ∙ load-other class_links graph (class % most_regions) (class_head graph bucket) (other % most_regions) differs
