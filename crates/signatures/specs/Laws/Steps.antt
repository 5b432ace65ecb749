-- Steps tell edges apart: two lists are equal exactly where the edges have the same action and give every block the same share.
use Rattle.std.specs.Prelude.{ℕ, ◌+◌, ◌*◌, ◌/◌, ◌%◌, ◌≤◌, ◌<◌, ◌≡◌, true, false, cond, ◌⊎◌}
use Rattle.std.proofs.Common.{arith, zero-mul, ◌∙◌, subst}
use Rattle.std.proofs.Math.Nat.{zero-mod, zero-div, eq_of_mul-eq-mul_right}
use Rattle.std.proofs.Math.Path.{refl, sym, ap, ap₂}
use mathlib.Core.List.{List, [], ◌∷◌, Memᴰ}
use Rattle.std.proofs.Math.Logic.{inl, inr}
use Rattle.std.proofs.Math.Dec.{eqb}
use borrow.Author.Tests.{eqb-true, eqb-false, ne_eqb}
use Rattle.bisimulation.specs.Structures.{Branch, total, Closed}
use Rattle.bisimulation.specs.Finite.{Finite, structure, sum, all_below, alike}
use Rattle.bisimulation.proofs.Laws.Tests.{both, and-iff, eqb-iff, all-below}
use Rattle.signatures.specs.Sets.{set_of, Rising}
use Rattle.signatures.specs.Shares.{high_share, low_share}
use Rattle.signatures.specs.Steps.{name_of, named, target_names, mass_of, shares_over, step_list, step_of}
use Rattle.signatures.specs.Laws.Sets.{rising-same, set-rises, set-in}
use Rattle.signatures.specs.Laws.Shares.{share-same, share-apart}

-- ---- A share of nothing

no-share : (d : ℕ) → (high_share 0 d ≡ 0) × (low_share 0 d ≡ 0)
unfolding high_share low_share
no-share d = (ap (λ (s : ℕ). s % 4294967296) (zero-div d), ap (λ (s : ℕ). s * 1073741824 / d) (zero-mod d) ∙ zero-div d)

-- ---- From lists to shares: what stands behind a name

-- Both numbers behind a name, of which one is picked; a name that does not occur has 0 and 0.
find_in : (ℕ → ℕ → ℕ) → ℕ → List ℕ → ℕ
find_in pick m [] = pick 0 0
find_in pick m (k ∷ []) = pick 0 0
find_in pick m (k ∷ h ∷ []) = pick 0 0
find_in pick m (k ∷ h ∷ l ∷ rest) = cond (eqb k m) (pick h l) (find_in pick m rest)

module _ (pick : ℕ → ℕ → ℕ) (mass : ℕ → ℕ) (d m : ℕ) where
  find-is : (S : List ℕ) → Memᴰ m S ⊎ (mass m ≡ 0)
      → find_in pick m (shares_over mass d S) ≡ pick (high_share (mass m) d) (low_share (mass m) d)
  unfolding find_in
  find-is [] (inl m) = elim m [ ]
  find-is [] (inr none) =
      sym (ap (λ (k : ℕ). pick (high_share k d) (low_share k d)) none ∙ ap₂ pick (no-share d).0 (no-share d).1)
  find-is (k ∷ S) has =
      elim (both (eqb (mass k) 0)) [
        | inl e ↦ rw e (find-is S (empty (eqb-true (mass k) 0 e) has))
        | inr e ↦ rw e (elim (both (eqb k m)) [
          | inl f ↦ rw f (ap (λ (j : ℕ). pick (high_share (mass j) d) (low_share (mass j) d)) (eqb-true k m f))
          | inr f ↦ rw f (find-is S (past (eqb-false k m f) has))
        ])
      ]
    where
      empty : mass k ≡ 0 → Memᴰ m (k ∷ S) ⊎ (mass m ≡ 0) → Memᴰ m S ⊎ (mass m ≡ 0)
      empty e (inl (Memᴰ.head is)) = inr (ap mass is ∙ e)
      empty e (inl (Memᴰ.tail k)) = inl k
      empty e (inr none) = inr none

      past : (k ≡ m → ⊥) → Memᴰ m (k ∷ S) ⊎ (mass m ≡ 0) → Memᴰ m S ⊎ (mass m ≡ 0)
      past other (inl (Memᴰ.head is)) = absurd (other (sym is))
      past other (inl (Memᴰ.tail k)) = inl k
      past other (inr none) = inr none

-- ---- From shares to lists: names with a mass

keep : (ℕ → ℕ) → List ℕ → List ℕ
keep mass [] = []
keep mass (m ∷ l) = cond (eqb (mass m) 0) (keep mass l) (m ∷ keep mass l)

plain : (ℕ → ℕ) → ℕ → List ℕ → List ℕ
plain mass d [] = []
plain mass d (m ∷ l) = m ∷ high_share (mass m) d ∷ low_share (mass m) d ∷ plain mass d l

module _ (mass : ℕ → ℕ) where
  shares-plain : (d : ℕ) (S : List ℕ) → shares_over mass d S ≡ plain mass d (keep mass S)
  unfolding keep plain
  shares-plain d [] = refl
  shares-plain d (m ∷ S) =
      elim (both (eqb (mass m) 0)) [
        | inl e ↦ rw e (shares-plain d S)
        | inr e ↦ rw e (ap (λ (l : List ℕ). m ∷ high_share (mass m) d ∷ low_share (mass m) d ∷ l) (shares-plain d S))
      ]

  keep-has : (u : ℕ) (S : List ℕ) → Memᴰ u (keep mass S) → Memᴰ u S × (mass u ≡ 0 → ⊥)
  unfolding keep
  keep-has u [] k = elim k [ ]
  keep-has u (m ∷ S) k = go (keep-has u S) (both (eqb (mass m) 0)) k
    where
      go : (Memᴰ u (keep mass S) → Memᴰ u S × (mass u ≡ 0 → ⊥)) → (eqb (mass m) 0 ≡ true) ⊎ (eqb (mass m) 0 ≡ false)
          → Memᴰ u (cond (eqb (mass m) 0) (keep mass S) (m ∷ keep mass S)) → Memᴰ u (m ∷ S) × (mass u ≡ 0 → ⊥)
      go rest (inl e) = rw e (λ k. (Memᴰ.tail (rest k).0, (rest k).1))
      go rest (inr e) = rw e here
        where
          here : Memᴰ u (m ∷ keep mass S) → Memᴰ u (m ∷ S) × (mass u ≡ 0 → ⊥)
          here (Memᴰ.head is) = (Memᴰ.head is, λ z. eqb-false (mass m) 0 e (ap mass (sym is) ∙ z))
          here (Memᴰ.tail k) = (Memᴰ.tail (rest k).0, (rest k).1)

  keep-in : (u : ℕ) (S : List ℕ) → Memᴰ u S → (mass u ≡ 0 → ⊥) → Memᴰ u (keep mass S)
  unfolding keep
  keep-in u [] m some = elim m [ ]
  keep-in u (m ∷ S) (Memᴰ.head is) some =
      rw (ne_eqb (mass m) 0 (λ z. some (ap mass is ∙ z))) (Memᴰ.head is)
  keep-in u (m ∷ S) (Memᴰ.tail k) some =
      elim (both (eqb (mass m) 0)) [
        | inl e ↦ rw e (keep-in u S k some)
        | inr e ↦ rw e (Memᴰ.tail (keep-in u S k some))
      ]

  keep-rises : (S : List ℕ) → Rising S → Rising (keep mass S)
  unfolding keep
  keep-rises [] r = r
  keep-rises (m ∷ S) r =
      elim (both (eqb (mass m) 0)) [
        | inl e ↦ rw e (keep-rises S r.1)
        | inr e ↦ rw e (λ u k. r.0 u (keep-has u S k).0, keep-rises S r.1)
      ]

plain-same : (mass mass' : ℕ → ℕ) (d d' : ℕ) → ((m : ℕ) → high_share (mass m) d ≡ high_share (mass' m) d')
    → ((m : ℕ) → low_share (mass m) d ≡ low_share (mass' m) d') → (l : List ℕ) → plain mass d l ≡ plain mass' d' l
unfolding plain
plain-same mass mass' d d' high low [] = refl
plain-same mass mass' d d' high low (m ∷ l) = rw (high m, low m, plain-same mass mass' d d' high low l) refl

-- ---- Both ways, over any masses

module _ (mass mass' : ℕ → ℕ) (d d' : ℕ) (some : 0 < d) (some' : 0 < d') (S S' : List ℕ)
    (covers : (m : ℕ) → Memᴰ m S ⊎ (mass m ≡ 0)) (covers' : (m : ℕ) → Memᴰ m S' ⊎ (mass' m ≡ 0))
    (most : (m : ℕ) → mass m ≤ d) (most' : (m : ℕ) → mass' m ≤ d') where
  lists-tell : d < 1073741824 → d' < 1073741824 → shares_over mass d S ≡ shares_over mass' d' S'
      → (m : ℕ) → mass m * d' ≡ mass' m * d
  lists-tell small small' e m =
      share-apart (mass m) (mass' m) d d' some some' (most m) (most' m) small small' (at (λ h l. h)) (at (λ h l. l))
    where
      at : (pick : ℕ → ℕ → ℕ)
          → pick (high_share (mass m) d) (low_share (mass m) d) ≡ pick (high_share (mass' m) d') (low_share (mass' m) d')
      at pick =
          sym (find-is pick mass d m S (covers m)) ∙ ap (find_in pick m) e ∙ find-is pick mass' d' m S' (covers' m)

  shares-tell : Rising S → Rising S' → ((m : ℕ) → mass m * d' ≡ mass' m * d) → shares_over mass d S ≡ shares_over mass' d' S'
  shares-tell r r' cross =
      shares-plain mass d S ∙ ap (plain mass d) names
      ∙ plain-same mass mass' d d' (λ m. (share-same (mass m) (mass' m) d d' some some' (most m) (most' m) (cross m)).0)
      (λ m. (share-same (mass m) (mass' m) d d' some some' (most m) (most' m) (cross m)).1) (keep mass' S')
      ∙ sym (shares-plain mass' d' S')
    where
      none-to : (m : ℕ) → mass m ≡ 0 → mass' m ≡ 0
      none-to m e =
          eq_of_mul-eq-mul_right d some (mass' m) 0 (sym (cross m) ∙ ap (λ (k : ℕ). k * d') e ∙ zero-mul d' ∙ sym (zero-mul d))

      none-fro : (m : ℕ) → mass' m ≡ 0 → mass m ≡ 0
      none-fro m e =
          eq_of_mul-eq-mul_right d' some' (mass m) 0 (cross m ∙ ap (λ (k : ℕ). k * d) e ∙ zero-mul d ∙ sym (zero-mul d'))

      in-second : (m : ℕ) → (mass' m ≡ 0 → ⊥) → Memᴰ m S' ⊎ (mass' m ≡ 0) → Memᴰ m S'
      in-second m h (inl k) = k
      in-second m h (inr e) = absurd (h e)

      in-first : (m : ℕ) → (mass m ≡ 0 → ⊥) → Memᴰ m S ⊎ (mass m ≡ 0) → Memᴰ m S
      in-first m h (inl k) = k
      in-first m h (inr e) = absurd (h e)

      names : keep mass S ≡ keep mass' S'
      names =
          rising-same (keep mass S) (keep mass' S') (keep-rises mass S r) (keep-rises mass' S' r')
          (λ u k. let more : mass' u ≡ 0 → ⊥ = λ e. (keep-has mass u S k).1 (none-fro u e) in
          keep-in mass' u S' (in-second u more (covers' u)) more)
          (λ u k. let more : mass u ≡ 0 → ⊥ = λ e. (keep-has mass' u S' k).1 (none-to u e) in
          keep-in mass u S (in-first u more (covers u)) more)

-- ---- Of branches

-- A name is landed in, or has no mass.
names-cover : (l : List (Branch ℕ)) (m : ℕ) → Memᴰ m (target_names l) ⊎ (mass_of m l ≡ 0)
names-cover [] m = inr refl
names-cover (b ∷ l) m =
    elim (both (eqb b.target m)) [
      | inl e ↦ inl (Memᴰ.head (sym (eqb-true b.target m e)))
      | inr e ↦ elim (names-cover l m) [
        | inl k ↦ inl (Memᴰ.tail k)
        | inr z ↦ inr (rw e z)
      ]
    ]

set-covers : (l : List (Branch ℕ)) (m : ℕ) → Memᴰ m (set_of (target_names l)) ⊎ (mass_of m l ≡ 0)
set-covers l m = elim (names-cover l m) [ inl k ↦ inl (set-in m (target_names l) k) | inr z ↦ inr z ]

-- A mass is at most all weights.
mass-most : (l : List (Branch ℕ)) (m : ℕ) → mass_of m l ≤ total l
mass-most [] m = omega arith
mass-most (b ∷ l) m =
    elim (both (eqb b.target m)) [
      | inl e ↦ rw e (omega (arith, mass-most l m))
      | inr e ↦ rw e (omega (arith, mass-most l m))
    ]

head-same : (a b : ℕ) (l m : List ℕ) → a ∷ l ≡ b ∷ m → a ≡ b
head-same a b l m e = ap first e
  where
    first : List ℕ → ℕ
    first [] = 0
    first (x ∷ k) = x

rest-same : (a b : ℕ) (l m : List ℕ) → a ∷ l ≡ b ∷ m → l ≡ m
rest-same a b l m e = ap rest e
  where
    rest : List ℕ → List ℕ
    rest [] = []
    rest (x ∷ k) = k

module _ (a a' d d' : ℕ) (l l' : List (Branch ℕ)) (some : 0 < d) (some' : 0 < d') (sums : total l ≤ d) (sums' : total l' ≤ d') where
  most : (m : ℕ) → mass_of m l ≤ d
  most m = omega (arith, mass-most l m, sums)

  most' : (m : ℕ) → mass_of m l' ≤ d'
  most' m = omega (arith, mass-most l' m, sums')

  pub lists-alike : d < 1073741824 → d' < 1073741824 → step_list a d l ≡ step_list a' d' l'
      → (a ≡ a') × ((m : ℕ) → mass_of m l * d' ≡ mass_of m l' * d)
  unfolding step_list
  lists-alike small small' e = (
    head-same _ _ _ _ e,
    lists-tell (λ m. mass_of m l) (λ m. mass_of m l') d d' some some'
        (set_of (target_names l)) (set_of (target_names l')) (set-covers l) (set-covers l') most most' small small'
        (rest-same _ _ _ _ e),
  )

  pub alike-lists : a ≡ a' → ((m : ℕ) → mass_of m l * d' ≡ mass_of m l' * d) → step_list a d l ≡ step_list a' d' l'
  unfolding step_list
  alike-lists e cross =
      ap₂ (λ (k : ℕ) (r : List ℕ). k ∷ r) e (shares-tell (λ m. mass_of m l) (λ m. mass_of m l') d d' some some'
      (set_of (target_names l)) (set_of (target_names l')) (set-covers l) (set-covers l') most most'
      (set-rises (target_names l)) (set-rises (target_names l')) cross)

-- ---- Of a finite structure

named-total : (names : List ℕ) (l : List (Branch ℕ)) → total (named names l) ≡ total l
named-total names [] = refl
named-total names (b ∷ l) = ap (λ (k : ℕ). b.weight + k) (named-total names l)

sum-mass : (names : List ℕ) (c : ℕ) (l : List (Branch ℕ)) → sum names c l ≡ mass_of (name_of names c) (named names l)
sum-mass names c [] = refl
sum-mass names c (b ∷ l) = rw (sum-mass names c l) refl

-- A name with a mass is that of an item, where branches lead to items.
mass-item : (names : List ℕ) (n : ℕ) (l : List (Branch ℕ)) → ((b : Branch ℕ) → Memᴰ b l → b.target < n) → (m : ℕ)
    → ((c : ℕ) × (c < n) × (name_of names c ≡ m)) ⊎ (mass_of m (named names l) ≡ 0)
mass-item names n [] within m = inr refl
mass-item names n (b ∷ l) within m =
    elim (both (eqb (name_of names b.target) m)) [
      | inl e ↦ inl (b.target, within b (Memᴰ.head refl), eqb-true (name_of names b.target) m e)
      | inr e ↦ elim (mass-item names n l (λ k h. within k (Memᴰ.tail h)) m) [
        | inl k ↦ inl k
        | inr z ↦ inr (rw e z)
      ]
    ]

module _ (F : Finite) (closed : Closed (structure F)) (names : List ℕ) (x e y f : ℕ) (hx : x < F.size) (hy : y < F.size)
    (ex : (e < F.edges) × (F.available x e ≡ true)) (fy : (f < F.edges) × (F.available y f ≡ true)) where
  pub step-alike : F.whole x e < 1073741824 → F.whole y f < 1073741824 → step_of F names x e ≡ step_of F names y f
      → alike F names x e y f ≡ true
  unfolding step_of
  step-alike small small' same =
      let told = lists-alike (F.action x e) (F.action y f) (F.whole x e) (F.whole y f) (named names (F.branches x e))
      (named names (F.branches y f)) (closed.positive hx ex) (closed.positive hy fy)
      (omega (arith, named-total names (F.branches x e), closed.sums hx ex))
      (omega (arith, named-total names (F.branches y f), closed.sums hy fy))
      small small' same in
      (and-iff _ _).1 (
        (eqb-iff _ _).1 told.0,
        (all-below F.size _).1 (λ c h. (eqb-iff _ _).1 (
            ap (λ (k : ℕ). k * F.whole y f) (sum-mass names c (F.branches x e)) ∙ told.1 (name_of names c)
            ∙ sym (ap (λ (k : ℕ). k * F.whole x e) (sum-mass names c (F.branches y f)))
            )),
      )

  pub alike-step : alike F names x e y f ≡ true → step_of F names x e ≡ step_of F names y f
  unfolding step_of
  alike-step is =
      let told = (and-iff _ _).0 is in
      alike-lists (F.action x e) (F.action y f) (F.whole x e) (F.whole y f) (named names (F.branches x e))
      (named names (F.branches y f))
      (closed.positive hx ex) (closed.positive hy fy)
      (omega (arith, named-total names (F.branches x e), closed.sums hx ex))
      (omega (arith, named-total names (F.branches y f), closed.sums hy fy))
      ((eqb-iff _ _).0 told.0) (λ m. cross m
      (mass-item names F.size (F.branches x e) (λ b h. closed.targets hx ex b h) m)
      (mass-item names F.size (F.branches y f) (λ b h. closed.targets hy fy b h) m))
    where
      item : (c : ℕ) → c < F.size → mass_of (name_of names c) (named names (F.branches x e)) * F.whole y f
          ≡ mass_of (name_of names c) (named names (F.branches y f)) * F.whole x e
      item c h =
          sym (ap (λ (k : ℕ). k * F.whole y f) (sum-mass names c (F.branches x e)))
          ∙ (eqb-iff (sum names c (F.branches x e) * F.whole y f) (sum names c (F.branches y f) * F.whole x e)).0
          ((all-below F.size (λ k. eqb (sum names k (F.branches x e) * F.whole y f) (sum names k (F.branches y f) * F.whole x e))).0
          ((and-iff (eqb (F.action x e) (F.action y f)) (all_below F.size
          (λ k. eqb (sum names k (F.branches x e) * F.whole y f) (sum names k (F.branches y f) * F.whole x e)))).0 is).1 c h)
          ∙ ap (λ (k : ℕ). k * F.whole x e) (sum-mass names c (F.branches y f))

      cross : (m : ℕ) → ((c : ℕ) × (c < F.size) × (name_of names c ≡ m)) ⊎ (mass_of m (named names (F.branches x e)) ≡ 0)
          → ((c : ℕ) × (c < F.size) × (name_of names c ≡ m)) ⊎ (mass_of m (named names (F.branches y f)) ≡ 0)
          → mass_of m (named names (F.branches x e)) * F.whole y f ≡ mass_of m (named names (F.branches y f)) * F.whole x e
      cross m (inl (c, h, is)) other =
          subst (λ (k : ℕ). mass_of k (named names (F.branches x e)) * F.whole y f ≡ mass_of k
          (named names (F.branches y f)) * F.whole x e) is (item c h)
      cross m (inr z) (inl (c, h, is)) =
          subst (λ (k : ℕ). mass_of k (named names (F.branches x e)) * F.whole y f ≡ mass_of k
          (named names (F.branches y f)) * F.whole x e) is (item c h)
      cross m (inr z) (inr z') =
          ap (λ (k : ℕ). k * F.whole y f) z ∙ zero-mul (F.whole y f) ∙ sym (zero-mul (F.whole x e)) ∙ sym
          (ap (λ (k : ℕ). k * F.whole x e) z')
