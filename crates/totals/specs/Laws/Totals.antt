-- What the lines of the totals say (document 02, Job 1). Every label that a region bears has a line (`labels-cover`), no other has, and
-- both numbers of a line are counts (`labels-only`); the labels rise (`labels-rise`). "The last line [is proved equal] to the sum of those
-- above": `all-regions`, and `all_blocks` where each block's label is one that a region bears.
use Rattle.std.specs.Prelude.{ℕ, zero, suc, ◌+◌, ◌≤◌, ◌<◌, max, ◌⊎◌, ◌≡◌, refl, Bool, true, false, cond, ◌||◌, List, [], ◌∷◌, ◌++◌, map}
use Rattle.std.specs.Prelude.{eqb, length}
use Rattle.std.proofs.Math.Decide.{dec_lt}
use Rattle.std.proofs.Common.{arith, inl, inr, sym, ◌∙◌, ap, subst, eq-eqb, ne_eqb, eqb-true}
use Rattle.std.proofs.Math.Bool.{or-true}
use Rattle.std.proofs.lemmas.Bool.{false≢true}
use mathlib.Core.List.Memᴰ
use mathlib.Core.List.{Memᴰ}
use Rattle.text.specs.Text.{rising, Rises}
use Rattle.text.specs.Laws.Texts.{rising-there, rising-is, rising-rises}
use Rattle.totals.specs.Totals.{count, has_label, largest, distinct_labels, TotalRecord, total_of, totals_of, sum_of}

-- ---- Labels

pub has_there : (l : List ℕ) (label : ℕ) → Memᴰ label l → has_label l label ≡ true
has_there [] label m = absurd (Memᴰ.not-nil m)
has_there (x ∷ l) label m = go (Memᴰ.cases_cons m) (has_there l label)
  where
    go : (label ≡ x) ⊎ Memᴰ label l → (Memᴰ label l → has_label l label ≡ true) → (eqb x label || has_label l label) ≡ true
    go (inl e) later = ap (λ (b : Bool). b || has_label l label) (eq-eqb x label (sym e))
    go (inr k) later = ap (λ (b : Bool). eqb x label || b) (later k) ∙ or-true (eqb x label)

pub has_some : (l : List ℕ) (label : ℕ) → has_label l label ≡ true → Memᴰ label l
has_some [] label e = absurd (false≢true e)
has_some (x ∷ l) label e = go (eqb x label) refl (has_some l label) e
  where
    go : (b : Bool) → eqb x label ≡ b → (has_label l label ≡ true → Memᴰ label l) → (b || has_label l label) ≡ true
        → Memᴰ label (x ∷ l)
    go true is later h = Memᴰ.head (sym (eqb-true x label is))
    go false is later h = Memᴰ.tail (later h)

pub largest-most : (l : List ℕ) (x : ℕ) → Memᴰ x l → x ≤ largest l
largest-most [] x m = absurd (Memᴰ.not-nil m)
largest-most (y ∷ l) x m = go (Memᴰ.cases_cons m) (largest-most l x)
  where
    go : (x ≡ y) ⊎ Memᴰ x l → (Memᴰ x l → x ≤ largest l) → x ≤ max y (largest l)
    go (inl e) later = omega (arith, e)
    go (inr k) later = omega (arith, later k)

-- The labels passes are those of the list.
pub distinct-there : (regions : List ℕ) (label : ℕ) → Memᴰ label regions → Memᴰ label (distinct_labels regions)
distinct-there regions label m =
    rising-there (has_label regions) (suc (largest regions)) label (omega (arith, largest-most regions label m)) (has_there regions label m)

pub distinct-only : (regions : List ℕ) (label : ℕ) → Memᴰ label (distinct_labels regions) → Memᴰ label regions
distinct-only regions label m =
    has_some regions label (rising-is (has_label regions) (suc (largest regions)) label m).1

-- ---- The lines of labels

map-label : (regions blocks l : List ℕ) → map (λ t. t.label) (map (total_of regions blocks) l) ≡ l
map-label regions blocks [] = refl
map-label regions blocks (x ∷ l) = ap (λ (k : List ℕ). x ∷ k) (map-label regions blocks l)

module _ (regions blocks : List ℕ) where
  -- Every label that a region bears has a line,
  pub labels-cover : (label : ℕ) → Memᴰ label regions → Memᴰ (total_of regions blocks label) (totals_of regions blocks)
  labels-cover label m = Memᴰ.map (total_of regions blocks) (distinct-there regions label m)

  -- no other label has, and both numbers of a line are counts.
  pub labels-only : (t : TotalRecord) → Memᴰ t (totals_of regions blocks)
      → Memᴰ t.label regions
      × (t.regions ≡ count (λ x. eqb x t.label) regions)
      × (t.blocks ≡ count (λ x. eqb x t.label) blocks)
  labels-only t m =
      let (label, there, is) = Memᴰ.of_map (total_of regions blocks) (distinct_labels regions) m in
      subst (λ (u : TotalRecord). Memᴰ u.label regions
      × (u.regions ≡ count (λ x. eqb x u.label) regions)
      × (u.blocks ≡ count (λ x. eqb x u.label) blocks)) is
      (distinct-only regions label there, refl, refl)

  -- Labels rise, so that none has two lines.
  pub labels-rise : Rises (map (λ t. t.label) (totals_of regions blocks))
  labels-rise =
      subst Rises (sym (map-label regions blocks (distinct_labels regions))) (rising-rises (has_label regions) (suc (largest regions)))

-- ---- Sums

-- 1 if x is the label, otherwise 0.
abbrev pub one : (x label : ℕ) → ℕ
one x label = cond (eqb x label) 1 0

count-cons : (x label : ℕ) (l : List ℕ) → count (λ y. eqb y label) (x ∷ l) ≡ one x label + count (λ y. eqb y label) l
count-cons x label l = go (eqb x label)
  where
    go : (b : Bool) → cond b (suc (count (λ y. eqb y label) l)) (count (λ y. eqb y label) l)
        ≡ cond b 1 0 + count (λ y. eqb y label) l
    go true = omega arith
    go false = omega arith

sum-map : {A B : Type 0} (f : B → ℕ) (g : A → B) (l : List A) → sum_of f (map g l) ≡ sum_of (λ x. f (g x)) l
sum-map f g [] = refl
sum-map f g (x ∷ l) = ap (λ (k : ℕ). f (g x) + k) (sum-map f g l)

sum-append : (f : ℕ → ℕ) (l k : List ℕ) → sum_of f (l ++ k) ≡ sum_of f l + sum_of f k
sum-append f [] k = omega arith
sum-append f (x ∷ l) k = omega (arith, sum-append f l k)

sum-none : (l : List ℕ) → sum_of (λ label. 0) l ≡ 0
sum-none [] = refl
sum-none (x ∷ l) = omega (arith, sum-none l)

sum_more : (x : ℕ) (l ls : List ℕ) → sum_of (λ label. count (λ y. eqb y label) (x ∷ l)) ls
    ≡ sum_of (one x) ls + sum_of (λ label. count (λ y. eqb y label) l) ls
sum_more x l [] = refl
sum_more x l (label ∷ ls) = omega (arith, count-cons x label l, sum_more x l ls)

-- A label is met once among the numbers that pass, where it passes.
module _ (p : ℕ → Bool) (x : ℕ) where
  sum-last : (n : ℕ) → sum_of (one x) (rising p (suc n)) ≡ sum_of (one x) (rising p n) + sum_of (one x) (cond (p n) (n ∷ []) [])
  sum-last n = sum-append (one x) (rising p n) (cond (p n) (n ∷ []) [])

  sum-before : (n : ℕ) → n ≤ x → sum_of (one x) (rising p n) ≡ 0
  sum-before zero h = refl
  sum-before (suc n) h = omega (arith, sum-last n, last (p n), sum-before n (omega (arith, h)))
    where
      last : (b : Bool) → sum_of (one x) (cond b (n ∷ []) []) ≡ 0
      last true = let other : one x n ≡ 0 = rw (ne_eqb x n (λ e. omega (arith, e, h))) refl in omega (arith, other)
      last false = refl

  sum-once : (n : ℕ) → x < n → p x ≡ true → sum_of (one x) (rising p n) ≡ 1
  sum-once zero h e = absurd (omega (arith, h))
  sum-once (suc n) h e = go (dec_lt x n) (sum-once n)
    where
      later : (b : Bool) → x < n → sum_of (one x) (cond b (n ∷ []) []) ≡ 0
      later true k = let other : one x n ≡ 0 = rw (ne_eqb x n (λ e. omega (arith, e, k))) refl in omega (arith, other)
      later false k = refl

      here : (b : Bool) → b ≡ true → x ≡ n → sum_of (one x) (cond b (n ∷ []) []) ≡ 1
      here true q same = let this : one x n ≡ 1 = rw (eq-eqb x n same) refl in omega (arith, this)
      here false q same = absurd (false≢true q)

      go : Dec (x < n) → (x < n → p x ≡ true → sum_of (one x) (rising p n) ≡ 1) → sum_of (one x) (rising p (suc n)) ≡ 1
      go (yes k) before = omega (arith, sum-last n, before k e, later (p n) k)
      go (no k) before =
          let same : x ≡ n = omega (arith, h, k) in
          omega (arith, sum-last n, sum-before n (omega (arith, same)), here (p n) (sym (ap p same) ∙ e) same)

-- The counts of all that pass sum to the length, where each label of the list passes.
sum-counts : (p : ℕ → Bool) (n : ℕ) (l : List ℕ) → ((x : ℕ) → Memᴰ x l → (x < n) × (p x ≡ true))
    → sum_of (λ label. count (λ y. eqb y label) l) (rising p n) ≡ length l
sum-counts p n [] pass = sum-none (rising p n)
sum-counts p n (x ∷ l) pass =
    let (below, is) = pass x (Memᴰ.head refl) in
    let rest = sum-counts p n l (λ y m. pass y (Memᴰ.tail m)) in
    omega (arith, sum_more x l (rising p n), sum-once p x n below is, rest)

module _ (regions blocks : List ℕ) where
  passes : (x : ℕ) → Memᴰ x regions → (x < suc (largest regions)) × (has_label regions x ≡ true)
  passes x m = (omega (arith, largest-most regions x m), has_there regions x m)

  -- The last line is the sum of those above: of regions,
  pub all-regions : length regions ≡ sum_of (λ t. t.regions) (totals_of regions blocks)
  all-regions =
      sym (sum-map (λ t. t.regions) (total_of regions blocks) (distinct_labels regions)
      ∙ sum-counts (has_label regions) (suc (largest regions)) regions passes)

  -- and of blocks, where each bears a label that a region bears.
  pub all_blocks : ((x : ℕ) → Memᴰ x blocks → Memᴰ x regions)
      → length blocks ≡ sum_of (λ t. t.blocks) (totals_of regions blocks)
  all_blocks within =
      sym (sum-map (λ t. t.blocks) (total_of regions blocks) (distinct_labels regions)
      ∙ sum-counts (has_label regions) (suc (largest regions)) blocks (λ x m. passes x (within x m)))

-- ---- A count over the items that bear labels

pub count_map : {A : Type 0} (f : A → ℕ) (label : ℕ) (l : List A) → count (λ x. eqb x label) (map f l) ≡ count (λ r. eqb (f r) label) l
count_map f label [] = refl
count_map f label (x ∷ l) = ap (λ (k : ℕ). cond (eqb (f x) label) (suc k) k) (count_map f label l)
