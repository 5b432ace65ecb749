-- Texts one after the other: of a list's items (`each`), and of the numbers below a bound (`up_to`). And the numbers that pass a test
-- (`rising`): just these are in the list, and they rise.
use Rattle.std.specs.Prelude.{ℕ, zero, suc, ◌+◌, ◌≤◌, ◌<◌, ◌⊎◌, ◌≡◌, refl, Bool, true, false, cond, List, [], ◌∷◌, ◌++◌, map, length}
use Rattle.std.specs.Prelude.{get_or}
use Rattle.std.proofs.Math.Decide.{ℕ_discrete}
use Rattle.std.proofs.Common.{eq-or-lt_of_le, arith, inl, inr, sym, ◌∙◌, ap, ap₂, subst, append_assoc, append-nil, length-append}
use Rattle.std.proofs.lemmas.List.{map-append, get_or_at}
use mathlib.Core.List.Memᴰ
use mathlib.Core.List.{Memᴰ}
use Rattle.std.proofs.Math.ListN.{get_or-append}
use Rattle.text.specs.Text.{up_to, rising, each, Rises, risen, rise}

-- ---- The items of a list

-- The texts of two lists, one after the other.
pub each_append : {A : Type 0} (f : A → List ℕ) (l m : List A) → each f (l ++ m) ≡ each f l ++ each f m
each_append f [] m = refl
each_append f (x ∷ l) m = ap (λ (r : List ℕ). f x ++ r) (each_append f l m) ∙ sym (append_assoc (f x) (each f l) (each f m))

-- The text of one item.
pub each-one : {A : Type 0} (f : A → List ℕ) (x : A) → each f (x ∷ []) ≡ f x
each-one f x = append-nil (f x)

-- The text of a list of images.
pub each_map : {A B : Type 0} (f : B → List ℕ) (g : A → B) (l : List A) → each f (map g l) ≡ each (λ x. f (g x)) l
each_map f g [] = refl
each_map f g (x ∷ l) = ap (λ (k : List ℕ). f (g x) ++ k) (each_map f g l)

-- The text of one item more.
pub each-up : {A : Type 0} (f : A → List ℕ) (g : ℕ → A) (n : ℕ)
    → each f (up_to (λ i. g i ∷ []) (suc n)) ≡ each f (up_to (λ i. g i ∷ []) n) ++ f (g n)
each-up f g n =
    each_append f (up_to (λ i. g i ∷ []) n) (g n ∷ [])
    ∙ ap (λ (r : List ℕ). each f (up_to (λ i. g i ∷ []) n) ++ r) (each-one f (g n))

-- ---- The numbers below a bound

pub upto-same : {A : Type 0} (f g : ℕ → List A) (n : ℕ) → ((i : ℕ) → i < n → f i ≡ g i) → up_to f n ≡ up_to g n
upto-same f g zero same = refl
upto-same f g (suc n) same =
    ap₂ (λ (l k : List _). l ++ k) (upto-same f g n (λ i h. same i (omega (arith, h)))) (same n (omega arith))

-- The first n, and then m more.
pub upto_add : {A : Type 0} (f : ℕ → List A) (n m : ℕ) → up_to f (n + m) ≡ up_to f n ++ up_to (λ i. f (n + i)) m
upto_add f n zero = let at : n + 0 ≡ n = omega arith in ap (up_to f) at ∙ sym (append-nil (up_to f n))
upto_add f n (suc m) =
    let at : n + suc m ≡ suc (n + m) = omega arith in
    ap (up_to f) at
    ∙ ap (λ (l : List _). l ++ f (n + m)) (upto_add f n m)
    ∙ append_assoc (up_to f n) (up_to (λ i. f (n + i)) m) (f (n + m))

-- The texts of lists, one list for each number; and of one item for each.
pub each-upto-list : {A : Type 0} (f : A → List ℕ) (g : ℕ → List A) (n : ℕ) → each f (up_to g n) ≡ up_to (λ i. each f (g i)) n
each-upto-list f g zero = refl
each-upto-list f g (suc n) =
    each_append f (up_to g n) (g n) ∙ ap (λ (l : List ℕ). l ++ each f (g n)) (each-upto-list f g n)

pub each-upto : {A : Type 0} (f : A → List ℕ) (g : ℕ → A) (n : ℕ)
    → each f (up_to (λ x. g x ∷ []) n) ≡ up_to (λ x. f (g x)) n
each-upto f g n =
    each-upto-list f (λ x. g x ∷ []) n ∙ upto-same (λ x. each f (g x ∷ [])) (λ x. f (g x)) n (λ x h. each-one f (g x))

-- One item for each number: how many, which, what stands where, and their images.
module _ {A : Type 0} (g : ℕ → A) where
  pub upto-length : (n : ℕ) → length (up_to (λ x. g x ∷ []) n) ≡ n
  upto-length zero = refl
  upto-length (suc n) = length-append (up_to (λ x. g x ∷ []) n) (g n ∷ []) ∙ omega (arith, upto-length n)

  pub upto-there : (n x : ℕ) → x < n → Memᴰ (g x) (up_to (λ x. g x ∷ []) n)
  upto-there zero x h = absurd (omega (arith, h))
  upto-there (suc n) x h = go (ℕ_discrete x n) (upto-there n x)
    where
      go : Dec (x ≡ n) → (x < n → Memᴰ (g x) (up_to (λ x. g x ∷ []) n)) → Memᴰ (g x) (up_to (λ x. g x ∷ []) (suc n))
      go (yes e) before = Memᴰ.append_right (up_to (λ x. g x ∷ []) n) (Memᴰ.head (ap g e))
      go (no other) before = Memᴰ.append_left (g n ∷ []) (before (omega (arith, h, other)))

  pub upto-only : (n : ℕ) (a : A) → Memᴰ a (up_to (λ x. g x ∷ []) n) → (x : ℕ) × (x < n) × (g x ≡ a)
  upto-only zero a m = absurd (Memᴰ.not-nil m)
  upto-only (suc n) a m = go (Memᴰ.append_cases (up_to (λ x. g x ∷ []) n) m) (upto-only n a)
    where
      last : (a ≡ g n) ⊎ Memᴰ a [] → (x : ℕ) × (x < suc n) × (g x ≡ a)
      last (inl e) = (n, omega arith, sym e)
      last (inr none) = absurd (Memᴰ.not-nil none)

      go : Memᴰ a (up_to (λ x. g x ∷ []) n) ⊎ Memᴰ a (g n ∷ [])
          → (Memᴰ a (up_to (λ x. g x ∷ []) n) → (x : ℕ) × (x < n) × (g x ≡ a)) → (x : ℕ) × (x < suc n) × (g x ≡ a)
      go (inl k) later = let (x, h, e) = later k in (x, omega (arith, h), e)
      go (inr k) later = last (Memᴰ.cases_cons k)

  pub upto-at : (n x : ℕ) (d : A) → x < n → get_or (up_to (λ x. g x ∷ []) n) x d ≡ g x
  upto-at zero x d h = absurd (omega (arith, h))
  upto-at (suc n) x d h = go (ℕ_discrete x n) (upto-at n x d)
    where
      go : Dec (x ≡ n) → (x < n → get_or (up_to (λ x. g x ∷ []) n) x d ≡ g x) → get_or (up_to (λ x. g x ∷ []) n ++ (g n ∷ [])) x d ≡ g x
      go (yes e) before =
          get_or_at (up_to (λ x. g x ∷ []) n) (g n) [] d x (upto-length n ∙ sym e) ∙ ap g (sym e)
      go (no other) before =
          let inside : x < n = omega (arith, h, other) in
          get_or-append (up_to (λ x. g x ∷ []) n) (g n ∷ []) d x (omega (arith, upto-length n, inside)) ∙ before inside

pub upto-map : {A B : Type 0} (f : A → B) (g : ℕ → A) (n : ℕ) → map f (up_to (λ x. g x ∷ []) n) ≡ up_to (λ x. f (g x) ∷ []) n
upto-map f g zero = refl
upto-map f g (suc n) =
    map-append f (up_to (λ x. g x ∷ []) n) (g n ∷ []) ∙ ap (λ (l : List _). l ++ (f (g n) ∷ [])) (upto-map f g n)

-- ---- The numbers that pass a test

module _ (p : ℕ → Bool) where
  pub rising-hit : (c : ℕ) → p c ≡ true → rising p (suc c) ≡ rising p c ++ (c ∷ [])
  rising-hit c e = ap (λ (b : Bool). rising p c ++ cond b (c ∷ []) []) e

  pub rising-miss : (c : ℕ) → p c ≡ false → rising p (suc c) ≡ rising p c
  rising-miss c e = ap (λ (b : Bool). rising p c ++ cond b (c ∷ []) []) e ∙ append-nil (rising p c)

  -- Where none passes in between.
  pub rising-skip : (from c : ℕ) → from ≤ c → ((j : ℕ) → from ≤ j → j < c → p j ≡ false) → rising p c ≡ rising p from
  rising-skip from zero h f = ap (λ (k : ℕ). rising p k) (let none : 0 ≡ from = omega arith in none)
  rising-skip from (suc c) h f =
      elim (eq-or-lt_of_le h) [
        | inl e ↦ ap (λ (k : ℕ). rising p k) (sym e)
        | inr l ↦
            let before : from ≤ c = omega arith in
            rising-miss c (f c before (omega arith)) ∙ rising-skip from c before (λ j a b. f j a (omega arith))
      ]

  -- The numbers below n that pass are in the list, and no other is.
  pub rising-there : (n c : ℕ) → c < n → p c ≡ true → Memᴰ c (rising p n)
  rising-there zero c h is = absurd (omega (arith, h))
  rising-there (suc n) c h is = go (ℕ_discrete c n) (λ k. rising-there n c k is)
    where
      go : Dec (c ≡ n) → (c < n → Memᴰ c (rising p n)) → Memᴰ c (rising p (suc n))
      go (yes e) before =
          Memᴰ.append_right (rising p n)
          (subst (λ (t : Bool). Memᴰ c (cond t (n ∷ []) [])) (sym (subst (λ (k : ℕ). p k ≡ true) e is)) (Memᴰ.head e))
      go (no other) before = Memᴰ.append_left (cond (p n) (n ∷ []) []) (before (omega (arith, h, other)))

  pub rising-is : (n c : ℕ) → Memᴰ c (rising p n) → (c < n) × (p c ≡ true)
  rising-is zero c m = absurd (Memᴰ.not-nil m)
  rising-is (suc n) c m = go (Memᴰ.append_cases (rising p n) m) (rising-is n c)
    where
      last : (b : Bool) → p n ≡ b → Memᴰ c (cond b (n ∷ []) []) → (c < suc n) × (p c ≡ true)
      last true is k = one (Memᴰ.cases_cons k)
        where
          one : (c ≡ n) ⊎ Memᴰ c [] → (c < suc n) × (p c ≡ true)
          one (inl e) = (omega (arith, e), ap p e ∙ is)
          one (inr none) = absurd (Memᴰ.not-nil none)
      last false is k = absurd (Memᴰ.not-nil k)

      go : Memᴰ c (rising p n) ⊎ Memᴰ c (cond (p n) (n ∷ []) []) → (Memᴰ c (rising p n) → (c < n) × (p c ≡ true))
          → (c < suc n) × (p c ≡ true)
      go (inl k) later = (omega (arith, (later k).0), (later k).1)
      go (inr k) later = last (p n) refl k

  -- They rise.
  pub rising-rises : (n : ℕ) → Rises (rising p n)
  rising-rises zero = risen
  rising-rises (suc n) = go (p n) (rising-rises n)
    where
      snoc : (l : List ℕ) → Rises l → ((y : ℕ) → Memᴰ y l → y < n) → Rises (l ++ (n ∷ []))
      snoc [] risen below = rise (λ y m. absurd (Memᴰ.not-nil m)) risen
      snoc (x ∷ l) (rise above rest) below =
          rise (λ y m. at y (Memᴰ.append_cases l m)) (snoc l rest (λ y m. below y (Memᴰ.tail m)))
        where
          end : (y : ℕ) → (y ≡ n) ⊎ Memᴰ y [] → x < y
          end y (inl e) = omega (arith, e, below x (Memᴰ.head refl))
          end y (inr none) = absurd (Memᴰ.not-nil none)

          at : (y : ℕ) → Memᴰ y l ⊎ Memᴰ y (n ∷ []) → x < y
          at y (inl m) = above y m
          at y (inr m) = end y (Memᴰ.cases_cons m)

      go : (b : Bool) → Rises (rising p n) → Rises (rising p n ++ cond b (n ∷ []) [])
      go true before = snoc (rising p n) before (λ y m. (rising-is n y m).0)
      go false before = subst Rises (sym (append-nil (rising p n))) before
