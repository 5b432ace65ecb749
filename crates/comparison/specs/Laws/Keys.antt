-- Items that the next round relates have equal keys (`key-same`); the steps of the loops that compute keys are in KeyLoops.
use Prim.Native.Nat.{ℕ, zero, suc, ◌+◌, ◌*◌, ◌/◌, ◌%◌, ◌≤◌, ◌<◌}
use Rattle.std.proofs.Common.{arith, mul-le-mul_right, mul_right_comm, mul_comm, mod-lt, ◌∙◌, subst}
use Rattle.std.proofs.Math.Nat.{mul-div-mul_right}
use Rattle.std.specs.Prelude.{◌≡◌, refl, Bool, true, not, ◌&&◌, ◌||◌, List, [], ◌∷◌, ◌⊎◌, get_or}
use Rattle.std.proofs.Math.Path.{sym, ap, ap₂}
use Rattle.std.proofs.Math.Bool.{false, cond}
use Rattle.std.proofs.Math.Logic.{inl, inr}
use Rattle.std.proofs.Math.Dec.{eqb}
use borrow.Author.Tests.{eq-eqb, ne_eqb, eqb-true, not-true, not-false}
use Rattle.bisimulation.specs.Structures.{Branch, Closed}
use Rattle.bisimulation.specs.Finite.{Finite, structure, related, sum, some_below, any_of, all_of, next, matches}
use Rattle.bisimulation.proofs.Laws.Tests.{both, clash, fails, same?, same_test, and-iff, cond-iff}
use Rattle.bisimulation.proofs.Laws.Tests.{all-below, some_below_lem, below-some, all-of, any-of, of-any}
use Rattle.comparison.specs.Held.{Held, most_items, chain, action_at, whole_at, count_at, target_at, branches_from}
use Rattle.comparison.specs.Compare.{reaches_related, delays_answered, weighed, balanced, balanced_over, edges_alike, number_of}
use Rattle.comparison.specs.Held.{is_open}
use Rattle.comparison.specs.Compare.{answers, some_answers, edge_answered, edges_answered, answered}
use Rattle.comparison.specs.Keys.{sum_below, scatter, delay_room, delay_mark, is_reached, delay_key, joined, code_of}
use Rattle.comparison.specs.Keys.{share_of, mixed, is_first_into, block_code, landed_by, landed}
use Rattle.comparison.specs.Keys.{is_new, edge_key, key_of}
use Rattle.comparison.specs.Laws.Compare.{balanced-all, answered-held}

-- ---- Sums over the numbers below m

pub sum-agree : (m : ℕ) (f g : ℕ → ℕ) → ((v : ℕ) → v < m → f v ≡ g v) → sum_below m f ≡ sum_below m g
unfolding sum_below
sum-agree zero f g same = refl
sum-agree (suc m) f g same = ap₂ (λ (a b : ℕ). a + b) (sum-agree m f g (λ v h. same v (omega arith))) (same m (omega arith))

-- At one number below m, d is added.
sum_grow : (m : ℕ) (f g : ℕ → ℕ) (v d : ℕ) → v < m → g v ≡ f v + d → ((u : ℕ) → ¬ (u ≡ v) → g u ≡ f u)
    → sum_below m g ≡ sum_below m f + d
unfolding sum_below
sum_grow zero f g v d h more other = absurd (omega arith)
sum_grow (suc m) f g v d h more other =
    elim (same? v m) [
      | inl same ↦ rw (sum-agree m g f (λ u k. other u (omega arith)), ← same, more) (omega arith)
      | inr apart ↦ rw (sum_grow m f g v d (omega arith) more other, other m (λ e. apart (sym e))) (omega arith)
    ]

-- One number below m begins to count.
pub sum-flip : (m : ℕ) (p q : ℕ → Bool) (f : ℕ → ℕ) (v : ℕ) → v < m → p v ≡ false → q v ≡ true
    → ((u : ℕ) → ¬ (u ≡ v) → q u ≡ p u) → sum_below m (λ u. cond (q u) (f u) 0) ≡ sum_below m (λ u. cond (p u) (f u) 0) + f v
sum-flip m p q f v h before now other =
    sum_grow m (λ u. cond (p u) (f u) 0) (λ u. cond (q u) (f u) 0) v (f v) h (rw (before, now) (omega arith))
    (λ u apart. ap (λ (b : Bool). cond b (f u) 0) (other u apart))

-- A sum of numbers that are at most b.
pub sum-most : (m b : ℕ) (f : ℕ → ℕ) → ((v : ℕ) → v < m → f v ≤ b) → sum_below m f ≤ m * b
unfolding sum_below
sum-most zero b f most = omega arith
sum-most (suc m) b f most =
    let below = sum-most m b f (λ v h. most v (omega arith)) in
    let last = most m (omega arith) in
    omega arith

sum-none : (m : ℕ) (f : ℕ → ℕ) → ((v : ℕ) → f v ≡ 0) → sum_below m f ≡ 0
unfolding sum_below
sum-none zero f none = refl
sum-none (suc m) f none = rw (sum-none m f none, none m) refl

-- Each part is at most the sum.
sum-above : (k i : ℕ) (f : ℕ → ℕ) → i < k → f i ≤ sum_below k f
unfolding sum_below
sum-above zero i f h = absurd (omega arith)
sum-above (suc k) i f h =
    elim (same? i k) [
      | inl same ↦ rw same (omega arith)
      | inr apart ↦ let below = sum-above k i f (omega arith) in omega arith
    ]

-- ---- Delays

-- Where each item of a list is related to one of another, every mark in the first is in the second.
mark-found : (list : List ℕ) (v : ℕ) (l k : List ℕ) → all_of (λ x. any_of (λ y. related list x y) k) l ≡ true
    → any_of (λ x. eqb v (delay_mark list x)) l ≡ true → any_of (λ y. eqb v (delay_mark list y)) k ≡ true
mark-found list v l k all t =
    let (x, m, p) = any-of (λ x. eqb v (delay_mark list x)) l t in
    let (y, m', r) = any-of (λ y. related list x y) k ((all-of (λ x. any_of (λ y. related list x y) k) l).0 all x m) in
    let same : delay_mark list x ≡ delay_mark list y = ap (λ (z : ℕ). z % delay_room) (eqb-true (get_or list x 0) (get_or list y 0) r) in
    of-any (λ y. eqb v (delay_mark list y)) k y m' (ap (λ (z : ℕ). eqb v z) (sym same) ∙ p)

delays-same : (n : ℕ) (list nexts : List ℕ) (x y : ℕ) → delays_answered n list nexts x y ≡ true → delays_answered n list nexts y x ≡ true
    → delay_key n list nexts x ≡ delay_key n list nexts y
unfolding delays_answered reaches_related delay_key is_reached
delays-same n list nexts x y there back =
    sum-agree delay_room (λ v. cond (is_reached n list nexts x v) (scatter v) 0) (λ v. cond (is_reached n list nexts y v) (scatter v) 0)
    (λ v _. ap (λ (b : Bool). cond b (scatter v) 0) (same_test (is_reached n list nexts x v) (is_reached n list nexts y v)
    (mark-found list v (chain n nexts n x) (chain n nexts n y) there) (mark-found list v (chain n nexts n y) (chain n nexts n x) back)))

-- ---- Branches by the numbers of the blocks that they lead to

-- Shares are compared at items, and `landed` sums over the first branches into blocks. To pass from one to the other both are taken by
-- block number.

module _ (list : List ℕ) where
  -- The weight of the branches that lead to a block with number v: `sum` by number.
  abbrev into : ℕ → List (Branch ℕ) → ℕ
  into v [] = 0
  into v (b ∷ l) = cond (eqb (get_or list b.target 0) v) (b.weight + into v l) (into v l)

  sum-into : (c : ℕ) (l : List (Branch ℕ)) → sum list c l ≡ into (get_or list c 0) l
  sum-into c [] = refl
  sum-into c (b ∷ l) = rw (sum-into c l) refl

  -- Some item has number v, or no branch leads there.
  item-or-none : (v : ℕ) (l : List (Branch ℕ)) → ((c : ℕ) × (get_or list c 0 ≡ v)) ⊎ (into v l ≡ 0)
  item-or-none v [] = inr refl
  item-or-none v (b ∷ l) =
      elim (both (eqb (get_or list b.target 0) v)) [
        | inl t ↦ inl (b.target, eqb-true (get_or list b.target 0) v t)
        | inr f ↦ elim (item-or-none v l) [ inl found ↦ inl found | inr none ↦ inr (rw f none) ]
      ]

  -- Equal shares for every item are equal shares for every number.
  module _ (l k : List (Branch ℕ)) (w z : ℕ) (balance : (c : ℕ) → sum list c l * z ≡ sum list c k * w) where
    into-balanced : (v : ℕ) → into v l * z ≡ into v k * w
    into-balanced v = go (item-or-none v l) (item-or-none v k)
      where
        by : (c : ℕ) → get_or list c 0 ≡ v → into v l * z ≡ into v k * w
        by c e =
            subst (λ (u : ℕ). into u l * z ≡ into u k * w) e
            (ap (λ (s : ℕ). s * z) (sym (sum-into c l)) ∙ balance c ∙ ap (λ (s : ℕ). s * w) (sum-into c k))

        go : ((c : ℕ) × (get_or list c 0 ≡ v)) ⊎ (into v l ≡ 0) → ((c : ℕ) × (get_or list c 0 ≡ v)) ⊎ (into v k ≡ 0)
            → into v l * z ≡ into v k * w
        go (inl (c, e)) _ = by c e
        go (inr _) (inl (c, e)) = by c e
        go (inr p) (inr q) = rw (p, q) (omega arith)

-- ---- Codes that count once

or-old : (a b : Bool) → (b ≡ true → a ≡ true) → (a || b) ≡ a
or-old true b h = refl
or-old false true h = sym (h refl)
or-old false false h = refl

-- The numbers below k, each with a code; those that pass p count, and a code adds what g gives for it.
module _ (p : ℕ → Bool) (code : ℕ → ℕ) (g : ℕ → ℕ) where
  -- A number below k that counts has code v.
  abbrev some_has_code : (k v : ℕ) → Bool
  some_has_code k v = some_below k (λ e. p e && eqb (code e) v)

  -- Number k counts, and no lower one that counts has its code.
  abbrev is_first : (k : ℕ) → Bool
  is_first k = p k && not (some_has_code k (code k))

  -- Number k adds code v only if it counts and v is its code.
  code-had : (k v : ℕ) → (p k ≡ true → code k ≡ v → some_has_code k v ≡ true) → some_has_code (suc k) v ≡ some_has_code k v
  code-had k v had =
      or-old (some_has_code k v) (p k && eqb (code k) v)
      (λ t. let (counts, e) = (and-iff (p k) (eqb (code k) v)).0 t in had counts (eqb-true (code k) v e))

  -- A first one adds to the sum over all codes below m; another adds nothing.
  first-adds : (k m : ℕ) → code k < m → is_first k ≡ true
      → sum_below m (λ v. cond (some_has_code (suc k) v) (g v) 0) ≡ sum_below m (λ v. cond (some_has_code k v) (g v) 0) + g (code k)
  first-adds k m small first =
      let (counts, none) = (and-iff (p k) (not (some_has_code k (code k)))).0 first in
      sum-flip m (λ v. some_has_code k v) (λ v. some_has_code (suc k) v) g (code k) small (not-true (some_has_code k (code k)) none)
      (below-some (suc k) (λ e. p e && eqb (code e) (code k)) k (omega arith)
      ((and-iff (p k) (eqb (code k) (code k))).1 (counts, eq-eqb (code k) (code k) refl)))
      (λ v apart. code-had k v (λ _ e. absurd (apart (sym e))))

  other-adds-none : (k m : ℕ) → is_first k ≡ false
      → sum_below m (λ v. cond (some_has_code (suc k) v) (g v) 0) ≡ sum_below m (λ v. cond (some_has_code k v) (g v) 0)
  other-adds-none k m other =
      sum-agree m (λ v. cond (some_has_code (suc k) v) (g v) 0) (λ v. cond (some_has_code k v) (g v) 0) (λ v _.
      ap (λ (b : Bool). cond b (g v) 0) (code-had k v (λ counts e. subst (λ (u : ℕ). some_has_code k u ≡ true) e (had counts))))
    where
      had : p k ≡ true → some_has_code k (code k) ≡ true
      had counts = not-false (some_has_code k (code k)) (sym (ap (λ (b : Bool). b && not (some_has_code k (code k))) counts) ∙ other)

  -- So the sum over first ones is the sum over all codes.
  codes-once : (k m : ℕ) → ((e : ℕ) → e < k → code e < m)
      → sum_below k (λ e. cond (is_first e) (g (code e)) 0) ≡ sum_below m (λ v. cond (some_has_code k v) (g v) 0)
  unfolding sum_below
  codes-once zero m small = sym (sum-none m (λ v. cond false (g v) 0) (λ v. refl))
  codes-once (suc k) m small =
      elim (both (is_first k)) [
        | inl first ↦ rw (first, codes-once k m (λ e h. small e (omega arith))) (sym (first-adds k m (small k (omega arith)) first))
        | inr other ↦ rw (other, codes-once k m (λ e h. small e (omega arith))) (omega (arith, other-adds-none k m other))
      ]

-- ---- Edges that are alike have equal codes

-- Equal shares are equal as whole numbers, and one is 0 only where the other is.
share-same : (a b w z : ℕ) → 0 < w → 0 < z → a * z ≡ b * w → share_of a w ≡ share_of b z
unfolding share_of
share-same a b w z hw hz e =
    rw (ne_eqb w 0 (omega arith), ne_eqb z 0 (omega arith))
    (sym (mul-div-mul_right (a * 2147483648) w hz)
    ∙ ap₂ (λ (s t : ℕ). s / t)
    (mul_right_comm a 2147483648 z ∙ ap (λ (s : ℕ). s * 2147483648) e ∙ mul_right_comm b w 2147483648) (mul_comm w z)
    ∙ mul-div-mul_right (b * 2147483648) z hw)

none-same : (a b w z : ℕ) → 0 < w → a * z ≡ b * w → eqb a 0 ≡ true → eqb b 0 ≡ true
none-same a zero w z hw e t = refl
none-same a (suc b) w z hw e t =
    let none : 0 * z ≡ suc b * w = sym (ap (λ (s : ℕ). s * z) (eqb-true a 0 t)) ∙ e in
    let most : 1 * w ≤ suc b * w = mul-le-mul_right w (omega arith) in
    absurd (omega (arith, none, hw, most))

-- What the block with number v adds.
abbrev number_code : (v weight whole : ℕ) → ℕ
number_code v weight whole = cond (eqb weight 0) 0 (mixed (v % most_items) (share_of weight whole))

number_same : (v a b w z : ℕ) → 0 < w → 0 < z → a * z ≡ b * w → number_code v a w ≡ number_code v b z
number_same v a b w z hw hz e =
    ap₂ (λ (t : Bool) (s : ℕ). cond t 0 (mixed (v % most_items) s))
    (same_test (eqb a 0) (eqb b 0) (none-same a b w z hw e) (none-same b a z w hz (sym e)))
    (share-same a b w z hw hz e)

module _ (list resets spots rows : List ℕ) where
  -- The number of the block that branch i leads to, and the branches.
  abbrev leads_to : (x e i : ℕ) → ℕ
  leads_to x e i = number_of list resets spots rows x e i

  abbrev branches : (x e : ℕ) → List (Branch ℕ)
  branches x e = branches_from resets spots rows x e 0 (count_at rows e)

  -- No weight lands in a block that no branch leads to.
  into-none : (x e v i more : ℕ) → ((j : ℕ) → j < i + more → eqb (leads_to x e j) v ≡ false)
      → into list v (branches_from resets spots rows x e i more) ≡ 0
  into-none x e v i zero none = refl
  into-none x e v i (suc more) none =
      rw (none i (omega arith)) (into-none x e v (suc i) more (λ j h. none j (omega arith)))

  -- What the block with number v adds to the code of edge e at x.
  abbrev block_adds : (x e v : ℕ) → ℕ
  block_adds x e v = number_code v (into list v (branches x e)) (whole_at rows e)

  -- A branch leads to a block with number v.
  abbrev is_led : (x e v : ℕ) → Bool
  is_led x e v = some_has_code (λ _. true) (leads_to x e) (block_adds x e) (count_at rows e) v

  led-adds : (x e v : ℕ) → cond (is_led x e v) (block_adds x e v) 0 ≡ block_adds x e v
  led-adds x e v = go (both (is_led x e v))
    where
      go : (is_led x e v ≡ true) ⊎ (is_led x e v ≡ false) → cond (is_led x e v) (block_adds x e v) 0 ≡ block_adds x e v
      go (inl t) = rw t refl
      go (inr f) =
          let none : into list v (branches x e) ≡ 0 =
          into-none x e v 0 (count_at rows e) (λ j h. fails (eqb (leads_to x e j) v)
          (λ t. clash (below-some (count_at rows e) (λ i. eqb (leads_to x e i) v) j (omega arith) t) f)) in
          rw (f, none) refl

  -- The sum over the branches, block by block, where all numbers are below m.
  landed-blocks : (x e m : ℕ) → ((i : ℕ) → i < count_at rows e → leads_to x e i < m)
      → landed list resets spots rows x e ≡ sum_below m (block_adds x e)
  unfolding landed landed_by is_first_into block_code weighed
  landed-blocks x e m small =
      sum-agree (count_at rows e) (landed_by list resets spots rows x e)
      (λ i. cond (is_first (λ _. true) (leads_to x e) (block_adds x e) i) (block_adds x e (leads_to x e i)) 0)
      (λ i _. ap (λ (s : ℕ). cond (is_first (λ _. true) (leads_to x e) (block_adds x e) i)
      (number_code (leads_to x e i) s (whole_at rows e)) 0)
      (sum-into list (target_at resets spots rows x e i) (branches x e)))
      ∙ codes-once (λ _. true) (leads_to x e) (block_adds x e) (count_at rows e) m small
      ∙ sum-agree m (λ v. cond (is_led x e v) (block_adds x e v) 0) (block_adds x e) (λ v _. led-adds x e v)

  module _ (x e y f : ℕ) (same : edges_alike list resets spots rows x e y f ≡ true) where
    alike-parts : (action_at rows e ≡ action_at rows f)
        × (balanced_over list resets spots rows x e x e y f ≡ true) × (balanced_over list resets spots rows y f x e y f ≡ true)
    unfolding edges_alike
    alike-parts =
        let over_x = balanced_over list resets spots rows x e x e y f in
        let over_y = balanced_over list resets spots rows y f x e y f in
        let (action, over) = (and-iff (eqb (action_at rows e) (action_at rows f)) (over_x && over_y)).0 same in
        let (at_x, at_y) = (and-iff over_x over_y).0 over in
        (eqb-true (action_at rows e) (action_at rows f) action, at_x, at_y)

    number-balanced : (v : ℕ) → into list v (branches x e) * whole_at rows f ≡ into list v (branches y f) * whole_at rows e
    unfolding balanced weighed
    number-balanced =
        into-balanced list (branches x e) (branches y f) (whole_at rows e) (whole_at rows f)
        (λ c. eqb-true _ _ (balanced-all list resets spots rows x e y f alike-parts.1 alike-parts.2 c))

    landed-same : 0 < whole_at rows e → 0 < whole_at rows f → landed list resets spots rows x e ≡ landed list resets spots rows y f
    landed-same hw hz =
        let m = suc (sum_below (count_at rows e) (leads_to x e) + sum_below (count_at rows f) (leads_to y f)) in
        landed-blocks x e m (λ i h. let below = sum-above (count_at rows e) i (leads_to x e) h in omega arith)
        ∙ sum-agree m (block_adds x e) (block_adds y f) (λ v _. number_same v (into list v (branches x e)) (into list v (branches y f))
        (whole_at rows e) (whole_at rows f) hw hz (number-balanced v))
        ∙ sym (landed-blocks y f m (λ i h. let below = sum-above (count_at rows f) i (leads_to y f) h in omega arith))

    -- Edges that are alike have equal codes.
    pub code_same : 0 < whole_at rows e → 0 < whole_at rows f → code_of list resets spots rows x e ≡ code_of list resets spots rows y f
    unfolding code_of
    code_same hw hz = ap₂ (λ (a m : ℕ). joined a m) alike-parts.0 (landed-same hw hz)

-- ---- Edges

-- All codes are below it.
abbrev pub code_bound : ℕ
code_bound = 1099511627689

pub code-small : (list resets spots rows : List ℕ) (x e : ℕ) → code_of list resets spots rows x e < code_bound
unfolding code_of joined
code-small list resets spots rows x e = mod-lt _ (omega arith)

module _ (n k : ℕ) (list flags resets spots rows : List ℕ) where
  -- An edge that is available at x has code v.
  abbrev has_edge : (x v : ℕ) → Bool
  has_edge x v = some_has_code (λ e. is_open flags x e) (λ e. code_of list resets spots rows x e) (λ v. v) k v

  edges-once : (x : ℕ) → edge_key k list flags resets spots rows x ≡ sum_below code_bound (λ v. cond (has_edge x v) v 0)
  unfolding edge_key is_new
  edges-once x =
      codes-once (λ e. is_open flags x e) (λ e. code_of list resets spots rows x e) (λ v. v) k code_bound
      (λ e _. code-small list resets spots rows x e)

  module _ (positive : (x e : ℕ) → x < n → e < k → is_open flags x e ≡ true → 0 < whole_at rows e) where
    code-found : (x y v : ℕ) → x < n → y < n → edges_answered k list flags resets spots rows x y ≡ true
        → has_edge x v ≡ true → has_edge y v ≡ true
    unfolding edges_answered edge_answered some_answers answers
    code-found x y v hx hy all t =
        let (e, he, u) = some_below_lem k (λ e. is_open flags x e && eqb (code_of list resets spots rows x e) v) t in
        let (ax, code) = (and-iff (is_open flags x e) (eqb (code_of list resets spots rows x e) v)).0 u in
        let (f, hf, a) = some_below_lem k (λ f. answers list flags resets spots rows x e y f)
        ((cond-iff (is_open flags x e) (some_answers k list flags resets spots rows x e y)).0
        ((all-below k (λ e. edge_answered k list flags resets spots rows x y e)).0 all e he) ax) in
        let (ay, same) = (and-iff (is_open flags y f) (edges_alike list resets spots rows x e y f)).0 a in
        below-some k (λ f. is_open flags y f && eqb (code_of list resets spots rows y f) v) f hf
        ((and-iff (is_open flags y f) (eqb (code_of list resets spots rows y f) v)).1 (
          ay,
          ap (λ (c : ℕ). eqb c v)
              (sym (code_same list resets spots rows x e y f same (positive x e hx he ax) (positive y f hy hf ay))) ∙ code,
        ))

    edges-same : (x y : ℕ) → x < n → y < n
        → edges_answered k list flags resets spots rows x y ≡ true → edges_answered k list flags resets spots rows y x ≡ true
        → edge_key k list flags resets spots rows x ≡ edge_key k list flags resets spots rows y
    edges-same x y hx hy there back =
        edges-once x
        ∙ sum-agree code_bound (λ v. cond (has_edge x v) v 0) (λ v. cond (has_edge y v) v 0) (λ v _.
        ap (λ (b : Bool). cond b v 0)
        (same_test (has_edge x v) (has_edge y v) (code-found x y v hx hy there) (code-found y x v hy hx back)))
        ∙ sym (edges-once y)

-- ---- Keys

module _ (F : Finite) (n k : ℕ) (list labels nexts flags resets spots rows : List ℕ)
    (held : Held F n k labels nexts flags resets spots rows) (closed : Closed (structure F)) where
  pub whole-positive : (x e : ℕ) → x < n → e < k → is_open flags x e ≡ true → 0 < whole_at rows e
  whole-positive x e hx he t =
      subst (λ (w : ℕ). 0 < w) (held.whole x e hx he)
      (closed.positive {x = x} {e = e} (subst (λ (m : ℕ). x < m) held.size hx)
      (subst (λ (m : ℕ). e < m) held.edges he, held.available x e hx he ∙ t))

  -- Items that the next round relates have equal keys.
  pub key-same : (x y : ℕ) → x < n → y < n → next F list x y ≡ true
      → key_of n k list nexts flags resets spots rows x ≡ key_of n k list nexts flags resets spots rows y
  unfolding key_of answered
  key-same x y hx hy t =
      let (_, both) = (and-iff (related list x y) (matches F list x y && matches F list y x)).0 t in
      let (there, back) = (and-iff (matches F list x y) (matches F list y x)).0 both in
      let (delays, edges) = (and-iff (delays_answered n list nexts x y) (edges_answered k list flags resets spots rows x y)).0
      (answered-held F n k list labels nexts flags resets spots rows held closed x y hx hy ∙ there) in
      let (delays', edges') = (and-iff (delays_answered n list nexts y x) (edges_answered k list flags resets spots rows y x)).0
      (answered-held F n k list labels nexts flags resets spots rows held closed y x hy hx ∙ back) in
      ap₂ (λ (a b : ℕ). a * 65536 + b + 1)
      (edges-same n k list flags resets spots rows whole-positive x y hx hy edges edges')
      (delays-same n list nexts x y delays delays')
