-- Comparing two items over slices that hold a structure is comparing them in it (`next-held`), and the steps of the loops that
-- do so.
use Prim.Native.Nat.{ℕ, zero, suc, ◌+◌, ◌*◌, ◌-◌, ◌≤◌, ◌<◌}
use native.Mathlib.Omega.{arith}
use Rattle.std.proofs.Common.{mul-le-mul_right, ◌∙◌, subst, inl, inr, get_or-set_same, get_or-set_other}
use Rattle.std.proofs.Common.{eq-eqb, ne_eqb, eqb-true, lt-ltb, le-ltb, ltb-true}
use Rattle.std.specs.Prelude.{◌≡◌, false, ◌&&◌, ◌||◌, ◌⊎◌, ltb, length, get_or, set}
use Rattle.std.proofs.Math.Path.{refl, sym, ap, ap₂}
use Rattle.std.proofs.Math.Bool.{Bool, true, cond}
use mathlib.Core.List.{List, [], ◌∷◌, Memᴰ}
use Rattle.std.proofs.Math.Dec.{eqb}
use Rattle.std.proofs.lemmas.Bool.{eqb-false}
use Rattle.bisimulation.specs.Structures.{Branch, Closed}
use Rattle.bisimulation.specs.Finite.{Finite, structure, related, sum, all_below, some_below, any_of, all_of}
use Rattle.bisimulation.specs.Finite.{alike, delays_match, edges_match, matches, next}
use Rattle.bisimulation.proofs.Laws.Tests.{both, clash, fails, same_test, and-iff, all-below, some_below_lem, below-some}
use Rattle.comparison.specs.Held.{most_edges, is_inside, target_of}
use Rattle.comparison.specs.Held.{Held, most_items, chain, action_at, whole_at, count_at, weight_at, target_at, branches_from}
use Rattle.comparison.specs.Compare.{number_of, Below, reaches_related, reaches_number, all_marked}
use Rattle.comparison.specs.Compare.{delays_answered, weighed, balanced, balanced_over, edges_alike}
use Rattle.comparison.specs.Held.{is_open}
use Rattle.comparison.specs.Compare.{answers, some_answers, edge_answered, edges_answered, answered, next_in}

-- ---- Tests, one after the other

module _ (list resets spots rows : List ℕ) (x e y f : ℕ) where
  pub alike-action : ¬ (action_at rows e ≡ action_at rows f) → edges_alike list resets spots rows x e y f ≡ false
  unfolding edges_alike
  alike-action h = rw (ne_eqb (action_at rows e) (action_at rows f) h) refl

  pub alike-fails : action_at rows e ≡ action_at rows f → balanced_over list resets spots rows x e x e y f ≡ false
      → edges_alike list resets spots rows x e y f ≡ false
  unfolding edges_alike
  alike-fails h t = rw (eq-eqb (action_at rows e) (action_at rows f) h, t) refl

  pub alike-on : action_at rows e ≡ action_at rows f → balanced_over list resets spots rows x e x e y f ≡ true
      → edges_alike list resets spots rows x e y f ≡ balanced_over list resets spots rows y f x e y f
  unfolding edges_alike
  alike-on h t = rw (eq-eqb (action_at rows e) (action_at rows f) h, t) refl

module _ (list flags resets spots rows : List ℕ) where
  pub answers-fails : (x e y f : ℕ) → is_open flags y f ≡ false → answers list flags resets spots rows x e y f ≡ false
  unfolding answers
  answers-fails x e y f t = rw t refl

  pub answers-on : (x e y f : ℕ) → is_open flags y f ≡ true
      → answers list flags resets spots rows x e y f ≡ edges_alike list resets spots rows x e y f
  unfolding answers
  answers-on x e y f t = rw t refl

  pub answered-free : (k x y e : ℕ) → is_open flags x e ≡ false → edge_answered k list flags resets spots rows x y e ≡ true
  unfolding edge_answered
  answered-free k x y e t = rw t refl

  pub answered-on : (k x y e : ℕ) → is_open flags x e ≡ true
      → edge_answered k list flags resets spots rows x y e ≡ some_answers k list flags resets spots rows x e y
  unfolding edge_answered
  answered-on k x y e t = rw t refl

module _ (n k : ℕ) (list nexts flags resets spots rows : List ℕ) (x y : ℕ) where
  pub matched-on : delays_answered n list nexts x y ≡ true
      → answered n k list nexts flags resets spots rows x y ≡ edges_answered k list flags resets spots rows x y
  unfolding answered
  matched-on t = rw t refl

  pub next-on : related list x y ≡ true → answered n k list nexts flags resets spots rows x y ≡ true
      → next_in n k list nexts flags resets spots rows x y ≡ answered n k list nexts flags resets spots rows y x
  unfolding next_in
  next-on t u = rw (t, u) refl

-- ---- Loops over the numbers below n

pub all-on : (i : ℕ) (p : ℕ → Bool) → all_below i p ≡ true → p i ≡ true → all_below (i + 1) p ≡ true
all-on i p e h = (all-below (i + 1) p).1 (λ x k. go x k (both (eqb x i)))
  where
    go : (x : ℕ) → x < i + 1 → (eqb x i ≡ true) ⊎ (eqb x i ≡ false) → p x ≡ true
    go x k (inl t) = ap p (eqb-true x i t) ∙ h
    go x k (inr f) = (all-below i p).0 e x (let other = eqb-false x i f in omega arith)

pub all-fails : (n : ℕ) (p : ℕ → Bool) (i : ℕ) → i < n → p i ≡ false → all_below n p ≡ false
all-fails n p i h e = fails (all_below n p) (λ t. clash ((all-below n p).0 t i h) e)

pub all-over : (n : ℕ) (p : ℕ → Bool) (i : ℕ) → i ≤ n → n ≤ i → all_below i p ≡ true → all_below n p ≡ true
all-over n p i h k e = let same : i ≡ n = omega arith in ap (λ (z : ℕ). all_below z p) (sym same) ∙ e

pub some-on : (i : ℕ) (p : ℕ → Bool) → some_below i p ≡ false → p i ≡ false → some_below (i + 1) p ≡ false
some-on i p e h = fails (some_below (i + 1) p) (λ t. let (x, k, q) = some_below_lem (i + 1) p t in go x k q (both (eqb x i)))
  where
    go : (x : ℕ) → x < i + 1 → p x ≡ true → (eqb x i ≡ true) ⊎ (eqb x i ≡ false) → ⊥
    go x k q (inl t) = clash q (ap p (eqb-true x i t) ∙ h)
    go x k q (inr f) = clash (below-some i p x (let other = eqb-false x i f in omega arith) q) e

pub some-over : (n : ℕ) (p : ℕ → Bool) (i : ℕ) → i ≤ n → n ≤ i → some_below i p ≡ false → some_below n p ≡ false
some-over n p i h k e = let same : i ≡ n = omega arith in ap (λ (z : ℕ). some_below z p) (sym same) ∙ e

-- ---- Walks along a chain: with so many steps left, at an item

module _ (n : ℕ) (nexts : List ℕ) (p : ℕ → Bool) where
  pub any_here : (left x : ℕ) → p x ≡ true → any_of p (chain n nexts left x) ≡ true
  any_here zero x e = ap (λ (t : Bool). t || false) e
  any_here (suc left) x e = rw e refl

  pub any-past : (left x y : ℕ) → 0 < left → p x ≡ false → y ≡ get_or nexts x 0 → y < n
      → any_of p (chain n nexts left x) ≡ any_of p (chain n nexts (left - 1) y)
  any-past zero x y h e q k = absurd (omega arith)
  any-past (suc left) x y h e q k = let less : suc left - 1 ≡ left = omega arith in rw (e, ← q, lt-ltb y n k, less) refl

  pub any_none : (left x y : ℕ) → 0 < left → p x ≡ false → y ≡ get_or nexts x 0 → n ≤ y
      → any_of p (chain n nexts left x) ≡ false
  any_none zero x y h e q k = absurd (omega arith)
  any_none (suc left) x y h e q k = rw (e, ← q, le-ltb y n k) refl

  pub any_last : (left x : ℕ) → left ≤ 0 → any_of p (chain n nexts left x) ≡ p x
  any_last zero x h = go (p x)
    where
      go : (b : Bool) → (b || false) ≡ b
      go true = refl
      go false = refl
  any_last (suc left) x h = absurd (omega arith)

  pub each-fails : (left x : ℕ) → p x ≡ false → all_of p (chain n nexts left x) ≡ false
  each-fails zero x e = ap (λ (t : Bool). t && true) e
  each-fails (suc left) x e = rw e refl

  pub each-past : (left x y : ℕ) → 0 < left → p x ≡ true → y ≡ get_or nexts x 0 → y < n
      → all_of p (chain n nexts left x) ≡ all_of p (chain n nexts (left - 1) y)
  each-past zero x y h e q k = absurd (omega arith)
  each-past (suc left) x y h e q k = let less : suc left - 1 ≡ left = omega arith in rw (e, ← q, lt-ltb y n k, less) refl

  pub each_none : (left x y : ℕ) → 0 < left → p x ≡ true → y ≡ get_or nexts x 0 → n ≤ y
      → all_of p (chain n nexts left x) ≡ true
  each_none zero x y h e q k = absurd (omega arith)
  each_none (suc left) x y h e q k = rw (e, ← q, le-ltb y n k) refl

  pub each_last : (left x : ℕ) → left ≤ 0 → all_of p (chain n nexts left x) ≡ p x
  each_last zero x h = go (p x)
    where
      go : (b : Bool) → (b && true) ≡ b
      go true = refl
      go false = refl
  each_last (suc left) x h = absurd (omega arith)

-- What an item reaches by delay is an item.
pub chain-below : (n : ℕ) (nexts : List ℕ) (left x u : ℕ) → x < n → Memᴰ u (chain n nexts left x) → u < n
chain-below n nexts zero x u h (Memᴰ.head e) = rw e h
chain-below n nexts zero x u h (Memᴰ.tail m) = elim m [ ]
chain-below n nexts (suc left) x u h (Memᴰ.head e) = rw e h
chain-below n nexts (suc left) x u h (Memᴰ.tail m) =
    go (ltb (get_or nexts x 0) n) refl (chain-below n nexts left (get_or nexts x 0) u) m
  where
    go : (b : Bool) → ltb (get_or nexts x 0) n ≡ b
        → (get_or nexts x 0 < n → Memᴰ u (chain n nexts left (get_or nexts x 0)) → u < n)
        → Memᴰ u (cond b (chain n nexts left (get_or nexts x 0)) []) → u < n
    go true t rest m = rest (ltb-true (get_or nexts x 0) n t) m
    go false t rest m = elim m [ ]

-- Tests that agree on the items of a list.
pub each-agree : (p q : ℕ → Bool) (l : List ℕ) → ((u : ℕ) → Memᴰ u l → p u ≡ q u) → all_of p l ≡ all_of q l
each-agree p q [] same = refl
each-agree p q (u ∷ l) same =
    ap₂ (λ (a b : Bool). a && b) (same u (Memᴰ.head refl)) (each-agree p q l (λ v m. same v (Memᴰ.tail m)))

-- ---- Marks of numbers

-- A mark is set where the number is reached; else it is as it was.
abbrev pub MarksOf : (n : ℕ) (list nexts marks₀ marks : List ℕ) (y left at : ℕ) → Type 0
MarksOf n list nexts marks₀ marks y left at =
    (v : ℕ) → v < length marks₀
    → cond (reaches_number n list nexts v y) 1 (get_or marks₀ v 0)
    ≡ cond (any_of (λ u. eqb v (get_or list u 0)) (chain n nexts left at)) 1 (get_or marks v 0)

module _ (n : ℕ) (list nexts marks₀ marks : List ℕ) (y at : ℕ) (long : length marks ≡ length marks₀) where
  marked-here : (v : ℕ) → v < length marks₀ → (eqb v (get_or list at 0) ≡ true) → get_or (set marks (get_or list at 0) 1) v 0 ≡ 1
  marked-here v h t =
      rw (← eqb-true v (get_or list at 0) t) (get_or-set_same marks v 1 0 (omega (arith, long, h)))

  marked-else : (v : ℕ) → (eqb v (get_or list at 0) ≡ false) → get_or (set marks (get_or list at 0) 1) v 0 ≡ get_or marks v 0
  marked-else v f = get_or-set_other marks (get_or list at 0) v 1 0 (λ s. eqb-false v (get_or list at 0) f s)

  -- One step along the chain, and its end.
  pub marks-past : (left z : ℕ) → 0 < left → z ≡ get_or nexts at 0 → z < n → MarksOf n list nexts marks₀ marks y left at
      → MarksOf n list nexts marks₀ (set marks (get_or list at 0) 1) y (left - 1) z
  marks-past left z h q k kept v hv = kept v hv ∙ go (both (eqb v (get_or list at 0)))
    where
      p : ℕ → Bool
      p u = eqb v (get_or list u 0)

      one : ℕ
      one = 1

      full : (a : Bool) → cond a one one ≡ one
      full true = refl
      full false = refl

      go : (p at ≡ true) ⊎ (p at ≡ false)
          → cond (any_of p (chain n nexts left at)) 1 (get_or marks v 0)
          ≡ cond (any_of p (chain n nexts (left - 1) z)) 1 (get_or (set marks (get_or list at 0) 1) v 0)
      go (inl t) =
          ap (λ (b : Bool). cond b 1 (get_or marks v 0)) (any_here n nexts p left at t)
          ∙ sym (ap (λ (m : ℕ). cond (any_of p (chain n nexts (left - 1) z)) 1 m) (marked-here v hv t)
          ∙ full (any_of p (chain n nexts (left - 1) z)))
      go (inr f) =
          ap (λ (b : Bool). cond b 1 (get_or marks v 0)) (any-past n nexts p left at z h f q k)
          ∙ sym (ap (λ (m : ℕ). cond (any_of p (chain n nexts (left - 1) z)) 1 m) (marked-else v f))

  pub marks-none : (left z : ℕ) → 0 < left → z ≡ get_or nexts at 0 → n ≤ z → MarksOf n list nexts marks₀ marks y left at
      → (v : ℕ) → v < length marks₀
      → get_or (set marks (get_or list at 0) 1) v 0 ≡ cond (reaches_number n list nexts v y) 1 (get_or marks₀ v 0)
  marks-none left z h q k kept v hv = sym (kept v hv ∙ go (both (eqb v (get_or list at 0))))
    where
      p : ℕ → Bool
      p u = eqb v (get_or list u 0)

      go : (p at ≡ true) ⊎ (p at ≡ false)
          → cond (any_of p (chain n nexts left at)) 1 (get_or marks v 0) ≡ get_or (set marks (get_or list at 0) 1) v 0
      go (inl t) =
          ap (λ (b : Bool). cond b 1 (get_or marks v 0)) (any_here n nexts p left at t) ∙ sym (marked-here v hv t)
      go (inr f) =
          ap (λ (b : Bool). cond b 1 (get_or marks v 0)) (any_none n nexts p left at z h f q k) ∙ sym (marked-else v f)

  pub marks-last : (left : ℕ) → left ≤ 0 → MarksOf n list nexts marks₀ marks y left at
      → (v : ℕ) → v < length marks₀
      → get_or (set marks (get_or list at 0) 1) v 0 ≡ cond (reaches_number n list nexts v y) 1 (get_or marks₀ v 0)
  marks-last left h kept v hv = sym (kept v hv ∙ go (both (eqb v (get_or list at 0))))
    where
      p : ℕ → Bool
      p u = eqb v (get_or list u 0)

      go : (p at ≡ true) ⊎ (p at ≡ false)
          → cond (any_of p (chain n nexts left at)) 1 (get_or marks v 0) ≡ get_or (set marks (get_or list at 0) 1) v 0
      go (inl t) =
          ap (λ (b : Bool). cond b 1 (get_or marks v 0)) (any_here n nexts p left at t) ∙ sym (marked-here v hv t)
      go (inr f) =
          ap (λ (b : Bool). cond b 1 (get_or marks v 0)) (any_last n nexts p left at h ∙ f) ∙ sym (marked-else v f)

-- Where all numbers of what y reaches are marked, and no others, testing marks is the condition on delays.
pub marked-answers : (n : ℕ) (list nexts marks : List ℕ) (x y : ℕ) → Below n list → x < n
    → ((v : ℕ) → v < most_items → get_or marks v 0 ≡ cond (reaches_number n list nexts v y) 1 0)
    → all_marked n list nexts marks x ≡ delays_answered n list nexts x y
unfolding delays_answered reaches_related
marked-answers n list nexts marks x y below h told =
    each-agree (λ u. eqb (get_or marks (get_or list u 0) 0) 1) (λ u. reaches_number n list nexts (get_or list u 0) y) (chain n nexts n x)
    (λ u m. let small = below u (chain-below n nexts n x u h m) in
    ap (λ (k : ℕ). eqb k 1) (told (get_or list u 0) small) ∙ bit (reaches_number n list nexts (get_or list u 0) y))
  where
    bit : (b : Bool) → eqb (cond b 1 0) 1 ≡ b
    bit true = refl
    bit false = refl

-- ---- Sums, from the last branch down

module _ (list resets spots rows : List ℕ) where
  pub sum-on : (c x e i left w : ℕ)
      → w ≡ cond (related list (target_at resets spots rows x e i) c) (weight_at rows e i) 0
      → w + sum list c (branches_from resets spots rows x e (suc i) left) ≡ sum list c (branches_from resets spots rows x e i (suc left))
  sum-on c x e i left w h = rw h (go (related list (target_at resets spots rows x e i) c))
    where
      go : (b : Bool)
          → cond b (weight_at rows e i) 0 + sum list c (branches_from resets spots rows x e (suc i) left)
          ≡ cond b (weight_at rows e i + sum list c (branches_from resets spots rows x e (suc i) left))
          (sum list c (branches_from resets spots rows x e (suc i) left))
      go true = refl
      go false = omega arith

  -- One turn: of `count` branches those from i on are summed.
  pub sum-turn : (c x e count i s w : ℕ) → 0 < i → i ≤ count
      → s ≡ sum list c (branches_from resets spots rows x e i (count - i))
      → w ≡ cond (related list (target_at resets spots rows x e (i - 1)) c) (weight_at rows e (i - 1)) 0
      → s + w ≡ sum list c (branches_from resets spots rows x e (i - 1) (count - (i - 1)))
  sum-turn c x e count zero s w h k p q = absurd (omega arith)
  sum-turn c x e count (suc i) s w h k p q =
      let less : suc i - 1 ≡ i = omega arith in
      let more : count - i ≡ suc (count - suc i) = omega arith in
      rw (less, more)
      (let swap : s + w ≡ w + s = omega arith in
      swap ∙ ap (λ (z : ℕ). w + z) p ∙ sum-on c x e i (count - suc i) w (rw less at q))

  pub sum-start : (c x e count : ℕ) → sum list c (branches_from resets spots rows x e count (count - count)) ≡ 0
  sum-start c x e count = let none : count - count ≡ 0 = omega arith in rw none refl

  pub sum_over : (c x e count i s : ℕ) → i ≤ 0 → s ≡ sum list c (branches_from resets spots rows x e i (count - i))
      → count ≡ count_at rows e → s ≡ weighed list resets spots rows c x e
  unfolding weighed
  sum_over c x e count zero s h p q =
      let all : count - 0 ≡ count_at rows e = omega arith in
      p ∙ ap (λ (m : ℕ). sum list c (branches_from resets spots rows x e 0 m)) all
  sum_over c x e count (suc i) s h p q = absurd (omega arith)

-- A sum times a denominator is small.
pub product_small : (a b : ℕ) → a < 4294967296 → b < 65536 → a * b < 281474976710656
product_small a b h k =
    let most : a ≤ 4294967295 = omega arith in
    omega (arith, mul-le-mul_right b most)

-- ---- Shares at the targets

-- Related items have the same shares.
pub sum_same : (list : List ℕ) (t c : ℕ) → related list t c ≡ true → (l : List (Branch ℕ)) → sum list t l ≡ sum list c l
sum_same list t c e l = go l
  where
    same : get_or list t 0 ≡ get_or list c 0
    same = eqb-true (get_or list t 0) (get_or list c 0) e

    go : (l : List (Branch ℕ)) → sum list t l ≡ sum list c l
    go [] = refl
    go (b ∷ l) = rw (same, go l) refl

module _ (list resets spots rows : List ℕ) where
  -- A branch leads to the block of c, or the share of c is 0.
  some_or_none : (c x e i left : ℕ)
      → ((j : ℕ) × (i ≤ j) × (j < i + left) × (related list (target_at resets spots rows x e j) c ≡ true))
      ⊎ (sum list c (branches_from resets spots rows x e i left) ≡ 0)
  some_or_none c x e i zero = inr refl
  some_or_none c x e i (suc left) =
      go (both (related list (target_at resets spots rows x e i) c)) (some_or_none c x e (suc i) left)
    where
      go : (related list (target_at resets spots rows x e i) c ≡ true) ⊎ (related list (target_at resets spots rows x e i) c ≡ false)
          → ((j : ℕ) × (suc i ≤ j) × (j < suc i + left) × (related list (target_at resets spots rows x e j) c ≡ true))
          ⊎ (sum list c (branches_from resets spots rows x e (suc i) left) ≡ 0)
          → ((j : ℕ) × (i ≤ j) × (j < i + suc left) × (related list (target_at resets spots rows x e j) c ≡ true))
          ⊎ (sum list c (branches_from resets spots rows x e i (suc left)) ≡ 0)
      go (inl t) _ = inl (i, omega arith, omega arith, t)
      go (inr f) (inl (j, a, b, t)) = inl (j, omega arith, omega arith, t)
      go (inr f) (inr z) = inr (rw f z)

  -- Each branch is listed.
  pub branch-listed : (x e i left j : ℕ) → i ≤ j → j < i + left
      → Memᴰ (record { weight = weight_at rows e j; target = target_at resets spots rows x e j })
      (branches_from resets spots rows x e i left)
  branch-listed x e i zero j a b = absurd (omega arith)
  branch-listed x e i (suc left) j a b = go (both (eqb j i)) (branch-listed x e (suc i) left j)
    where
      go : (eqb j i ≡ true) ⊎ (eqb j i ≡ false)
          → (suc i ≤ j → j < suc i + left
          → Memᴰ (record { weight = weight_at rows e j; target = target_at resets spots rows x e j })
          (branches_from resets spots rows x e (suc i) left))
          → Memᴰ (record { weight = weight_at rows e j; target = target_at resets spots rows x e j })
          (branches_from resets spots rows x e i (suc left))
      go (inl t) _ = let same = eqb-true j i t in rw same (Memᴰ.head refl)
      go (inr f) rest = let other = eqb-false j i f in Memᴰ.tail (rest (omega arith) (omega arith))

  -- Balance passes to related items.
  balanced-same : (x e y f t c : ℕ) → related list t c ≡ true
      → balanced list resets spots rows x e y f t ≡ balanced list resets spots rows x e y f c
  unfolding balanced weighed
  balanced-same x e y f t c r =
      rw (
        sum_same list t c r (branches_from resets spots rows x e 0 (count_at rows e)),
        sum_same list t c r (branches_from resets spots rows y f 0 (count_at rows f)),
      ) refl

  balanced-none : (x e y f c : ℕ) → weighed list resets spots rows c x e ≡ 0 → weighed list resets spots rows c y f ≡ 0
      → balanced list resets spots rows x e y f c ≡ true
  unfolding balanced
  balanced-none x e y f c p q = rw (p, q) (eq-eqb (0 * whole_at rows f) (0 * whole_at rows e) (omega arith))

  -- Balanced at the targets of both edges, balanced at every item.
  pub balanced-all : (x e y f : ℕ) → balanced_over list resets spots rows x e x e y f ≡ true
      → balanced_over list resets spots rows y f x e y f ≡ true → (c : ℕ) → balanced list resets spots rows x e y f c ≡ true
  unfolding balanced_over weighed
  balanced-all x e y f a b c =
      go (some_or_none c x e 0 (count_at rows e)) (some_or_none c y f 0 (count_at rows f))
    where
      go : ((j : ℕ) × (0 ≤ j) × (j < 0 + count_at rows e) × (related list (target_at resets spots rows x e j) c ≡ true))
          ⊎ (sum list c (branches_from resets spots rows x e 0 (count_at rows e)) ≡ 0)
          → ((j : ℕ) × (0 ≤ j) × (j < 0 + count_at rows f) × (related list (target_at resets spots rows y f j) c ≡ true))
          ⊎ (sum list c (branches_from resets spots rows y f 0 (count_at rows f)) ≡ 0)
          → balanced list resets spots rows x e y f c ≡ true
      go (inl (j, _, h, t)) _ =
          sym (balanced-same x e y f (target_at resets spots rows x e j) c t)
          ∙ (all-below (count_at rows e) (λ i. balanced list resets spots rows x e y f (target_at resets spots rows x e i))).0 a j
          (omega arith)
      go (inr _) (inl (j, _, h, t)) =
          sym (balanced-same x e y f (target_at resets spots rows y f j) c t)
          ∙ (all-below (count_at rows f) (λ i. balanced list resets spots rows x e y f (target_at resets spots rows y f i))).0 b j
          (omega arith)
      go (inr p) (inr q) = balanced-none x e y f c p q

  -- Edges that are balanced at the targets of the first are balanced at every item that has the number of one of these targets.
  pub balanced-into : (x e y f c : ℕ) → balanced_over list resets spots rows x e x e y f ≡ true
      → (i : ℕ) × (i < count_at rows e) × (number_of list resets spots rows x e i ≡ get_or list c 0)
      → balanced list resets spots rows x e y f c ≡ true
  unfolding balanced_over
  balanced-into x e y f c all (i, h, same) =
      sym (balanced-same x e y f (target_at resets spots rows x e i) c (eq-eqb _ _ same))
      ∙ (all-below (count_at rows e) (λ i. balanced list resets spots rows x e y f (target_at resets spots rows x e i))).0 all i h

-- ---- Slices that hold a structure

pub all-agree : (n : ℕ) (p q : ℕ → Bool) → ((x : ℕ) → x < n → p x ≡ q x) → all_below n p ≡ all_below n q
all-agree zero p q same = refl
all-agree (suc n) p q same = ap₂ (λ (a b : Bool). a && b) (all-agree n p q (λ x h. same x (omega arith))) (same n (omega arith))

pub some-agree : (n : ℕ) (p q : ℕ → Bool) → ((x : ℕ) → x < n → p x ≡ q x) → some_below n p ≡ some_below n q
some-agree zero p q same = refl
some-agree (suc n) p q same = ap₂ (λ (a b : Bool). a || b) (some-agree n p q (λ x h. same x (omega arith))) (same n (omega arith))

module _ (F : Finite) (n k : ℕ) (list labels nexts flags resets spots rows : List ℕ)
    (held : Held F n k labels nexts flags resets spots rows) (closed : Closed (structure F)) where
  module _ (x y : ℕ) (hx : x < n) (hy : y < n) where
    delays-held : delays_answered n list nexts x y ≡ delays_match F list x y
    unfolding delays_answered reaches_related
    delays-held = rw (held.delays x hx, held.delays y hy) refl

    module _ (e f : ℕ) (he : e < k) (hf : f < k) (ax : F.available x e ≡ true) (ay : F.available y f ≡ true) where
      balanced-held : (c : ℕ) → balanced list resets spots rows x e y f c
          ≡ eqb (sum list c (F.branches x e) * F.whole y f) (sum list c (F.branches y f) * F.whole x e)
      unfolding balanced weighed
      balanced-held c =
          rw (held.branches x e hx he ax, held.branches y f hy hf ay, held.whole x e hx he, held.whole y f hy hf) refl

      -- Where all items are balanced, so are the targets of an edge.
      over-held : (z g : ℕ) → z < n → g < k → F.available z g ≡ true
          → ((c : ℕ) → c < F.size → balanced list resets spots rows x e y f c ≡ true)
          → balanced_over list resets spots rows z g x e y f ≡ true
      unfolding balanced_over
      over-held z g hz hg az all =
          (all-below (count_at rows g) (λ i. balanced list resets spots rows x e y f (target_at resets spots rows z g i))).1
          (λ i h. all (target_at resets spots rows z g i)
          (closed.targets {x = z} {e = g} (subst (λ (m : ℕ). z < m) held.size hz)
          (subst (λ (m : ℕ). g < m) held.edges hg, az)
          (record { weight = weight_at rows g i; target = target_at resets spots rows z g i })
          (subst (λ (l : List (Branch ℕ)). Memᴰ (record { weight = weight_at rows g i; target = target_at resets spots rows z g i }) l)
          (sym (held.branches z g hz hg az))
          (branch-listed list resets spots rows z g 0 (count_at rows g) i (omega arith) (omega arith)))))

      alike-held : edges_alike list resets spots rows x e y f ≡ alike F list x e y f
      unfolding edges_alike
      alike-held =
          ap₂ (λ (a b : Bool). a && b)
          (ap₂ (λ (a b : ℕ). eqb a b) (sym (held.action x e hx he)) (sym (held.action y f hy hf)))
          (same_test (over x e && over y f) (all_below F.size share)
          (λ t.
          let (a, b) = (and-iff (over x e) (over y f)).0 t in
          (all-below F.size share).1 (λ c h. sym (balanced-held c) ∙ balanced-all list resets spots rows x e y f a b c))
          (λ t.
          let all : (c : ℕ) → c < F.size → balanced list resets spots rows x e y f c ≡ true =
          λ c h. balanced-held c ∙ (all-below F.size share).0 t c h in
          (and-iff (over x e) (over y f)).1 (over-held x e hx he ax all, over-held y f hy hf ay all)))
        where
          over : (z g : ℕ) → Bool
          over z g = balanced_over list resets spots rows z g x e y f

          share : ℕ → Bool
          share c = eqb (sum list c (F.branches x e) * F.whole y f) (sum list c (F.branches y f) * F.whole x e)

    answers-held : (e f : ℕ) → e < k → f < k → F.available x e ≡ true
        → answers list flags resets spots rows x e y f ≡ (F.available y f && alike F list x e y f)
    unfolding answers
    answers-held e f he hf ax = rw (← held.available y f hy hf) (go (both (F.available y f)))
      where
        go : (F.available y f ≡ true) ⊎ (F.available y f ≡ false)
            → (F.available y f && edges_alike list resets spots rows x e y f) ≡ (F.available y f && alike F list x e y f)
        go (inl t) = ap (λ (b : Bool). F.available y f && b) (alike-held e f he hf ax t)
        go (inr t) = rw t refl

    some-held : (e : ℕ) → e < k → F.available x e ≡ true
        → some_answers k list flags resets spots rows x e y ≡ some_below F.edges (λ f. F.available y f && alike F list x e y f)
    unfolding some_answers
    some-held e he ax =
        some-agree k (λ f. answers list flags resets spots rows x e y f) (λ f. F.available y f && alike F list x e y f)
        (λ f hf. answers-held e f he hf ax)
        ∙ ap (λ (m : ℕ). some_below m (λ f. F.available y f && alike F list x e y f)) held.edges

    edge-held : (e : ℕ) → e < k → edge_answered k list flags resets spots rows x y e
        ≡ cond (F.available x e) (some_below F.edges (λ f. F.available y f && alike F list x e y f)) true
    unfolding edge_answered
    edge-held e he = rw (← held.available x e hx he) (go (both (F.available x e)))
      where
        go : (F.available x e ≡ true) ⊎ (F.available x e ≡ false)
            → cond (F.available x e) (some_answers k list flags resets spots rows x e y) true
            ≡ cond (F.available x e) (some_below F.edges (λ f. F.available y f && alike F list x e y f)) true
        go (inl t) = ap (λ (b : Bool). cond (F.available x e) b true) (some-held e he t)
        go (inr t) = rw t refl

    edges-held : edges_answered k list flags resets spots rows x y ≡ edges_match F list x y
    unfolding edges_answered
    edges-held =
        all-agree k (λ e. edge_answered k list flags resets spots rows x y e)
        (λ e. cond (F.available x e) (some_below F.edges (λ f. F.available y f && alike F list x e y f)) true) edge-held
        ∙ ap (λ (m : ℕ). all_below m
        (λ e. cond (F.available x e) (some_below F.edges (λ f. F.available y f && alike F list x e y f)) true)) held.edges

    pub answered-held : answered n k list nexts flags resets spots rows x y ≡ matches F list x y
    unfolding answered
    answered-held = ap₂ (λ (a b : Bool). a && b) delays-held edges-held

  -- Comparing over the slices is comparing in the structure.
  pub next-held : (x y : ℕ) → x < n → y < n → next_in n k list nexts flags resets spots rows x y ≡ next F list x y
  unfolding next_in
  next-held x y hx hy =
      ap₂ (λ (a b : Bool). related list x y && (a && b)) (answered-held x y hx hy) (answered-held y x hy hx)

-- ---- Targets for all numbers

pub inside-yes : (x e i : ℕ) → x < most_items → e < most_edges → i < 65536 → is_inside x e i ≡ true
inside-yes x e i hx he hi = rw (lt-ltb x most_items hx, lt-ltb e most_edges he, lt-ltb i 65536 hi) refl

pub inside_is : (x e i : ℕ) → is_inside x e i ≡ true → (x < most_items) × (e < most_edges) × (i < 65536)
inside_is x e i t =
    let (a, rest) = (and-iff (ltb x most_items) (ltb e most_edges && ltb i 65536)).0 t in
    let (b, c) = (and-iff (ltb e most_edges) (ltb i 65536)).0 rest in
    (ltb-true x most_items a, ltb-true e most_edges b, ltb-true i 65536 c)

pub target-inside : (resets spots rows : List ℕ) (x e i : ℕ) → x < most_items → e < most_edges → i < 65536
    → target_of resets spots rows x e i ≡ target_at resets spots rows x e i
target-inside resets spots rows x e i hx he hi =
    ap (λ (b : Bool). cond b (target_at resets spots rows x e i) 0) (inside-yes x e i hx he hi)
