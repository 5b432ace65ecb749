-- Sets as rising lists: what is in them, and that equal lists are exactly equal sets.
use Rattle.std.specs.Prelude.{ℕ, ◌<◌, ◌≡◌, refl, Bool, true, false, ◌⊎◌, eqb, ltb}
use Rattle.std.proofs.Common.{arith, sym, ap₂, subst, inl, inr, ltb-true, ltb-false, eqb-true}
use mathlib.Core.List.{List, [], ◌∷◌, Memᴰ}
use Rattle.std.proofs.lemmas.Bool.{eqb-false}
use Rattle.signatures.specs.Sets.{put_in, set_of, Rising}

pub both : (b : Bool) → (b ≡ true) ⊎ (b ≡ false)
both true = inl refl
both false = inr refl

-- What is in it: the number, and what was there.
pub put_has : (v u : ℕ) (l : List ℕ) → Memᴰ u (put_in v l) → (u ≡ v) ⊎ Memᴰ u l
put_has v u [] (Memᴰ.tail m) = elim m [ ]
put_has v u [] (Memᴰ.head e) = inl e
put_has v u (x ∷ l) m = go (put_has v u l) (both (ltb v x)) (both (eqb v x)) m
  where
    go : (Memᴰ u (put_in v l) → (u ≡ v) ⊎ Memᴰ u l) → (ltb v x ≡ true) ⊎ (ltb v x ≡ false) → (eqb v x ≡ true) ⊎ (eqb v x ≡ false)
        → Memᴰ u (put_in v (x ∷ l)) → (u ≡ v) ⊎ Memᴰ u (x ∷ l)
    go ih (inl t) q = rw t first
      where
        first : Memᴰ u (v ∷ x ∷ l) → (u ≡ v) ⊎ Memᴰ u (x ∷ l)
        first (Memᴰ.head e) = inl e
        first (Memᴰ.tail m) = inr m
    go ih (inr f) (inl t) = rw (f, t) (λ m. inr m)
    go ih (inr f) (inr g) = rw (f, g) later
      where
        later : Memᴰ u (x ∷ put_in v l) → (u ≡ v) ⊎ Memᴰ u (x ∷ l)
        later (Memᴰ.head e) = inr (Memᴰ.head e)
        later (Memᴰ.tail m) = elim (ih m) [ inl e ↦ inl e | inr k ↦ inr (Memᴰ.tail k) ]

pub put-in : (v : ℕ) (l : List ℕ) → Memᴰ v (put_in v l)
put-in v [] = Memᴰ.head refl
put-in v (x ∷ l) =
    elim (both (ltb v x)) [
      | inl t ↦ rw t (Memᴰ.head refl)
      | inr f ↦ elim (both (eqb v x)) [
        | inl t ↦ rw (f, t) (Memᴰ.head (eqb-true v x t))
        | inr g ↦ rw (f, g) (Memᴰ.tail (put-in v l))
      ]
    ]

pub put_keeps : (v u : ℕ) (l : List ℕ) → Memᴰ u l → Memᴰ u (put_in v l)
put_keeps v u [] m = elim m [ ]
put_keeps v u (x ∷ l) m =
    elim (both (ltb v x)) [
      | inl t ↦ rw t (Memᴰ.tail m)
      | inr f ↦ elim (both (eqb v x)) [
        | inl t ↦ rw (f, t) m
        | inr g ↦ rw (f, g) (later (put_keeps v u l) m)
      ]
    ]
  where
    later : (Memᴰ u l → Memᴰ u (put_in v l)) → Memᴰ u (x ∷ l) → Memᴰ u (x ∷ put_in v l)
    later ih (Memᴰ.head e) = Memᴰ.head e
    later ih (Memᴰ.tail k) = Memᴰ.tail (ih k)

pub put-rises : (v : ℕ) (l : List ℕ) → Rising l → Rising (put_in v l)
put-rises v [] r = (λ u m. elim m [ ], omega arith)
put-rises v (x ∷ l) r =
    elim (both (ltb v x)) [
      | inl t ↦ rw t (below (ltb-true v x t), r)
      | inr f ↦ elim (both (eqb v x)) [
        | inl t ↦ rw (f, t) r
        | inr g ↦ rw (f, g) (above f g, put-rises v l r.1)
      ]
    ]
  where
    below : v < x → (u : ℕ) → Memᴰ u (x ∷ l) → v < u
    below h u (Memᴰ.head e) = subst (λ (s : ℕ). v < s) (sym e) h
    below h u (Memᴰ.tail m) = omega (arith, h, r.0 u m)

    above : ltb v x ≡ false → eqb v x ≡ false → (u : ℕ) → Memᴰ u (put_in v l) → x < u
    above f g u m =
        elim (put_has v u l m) [
          | inl e ↦ subst (λ (s : ℕ). x < s) (sym e) (omega (arith, ltb-false v x f, eqb-false v x g))
          | inr k ↦ r.0 u k
        ]

-- Rising lists with the same numbers are equal.
pub rising-same : (l m : List ℕ) → Rising l → Rising m → ((u : ℕ) → Memᴰ u l → Memᴰ u m)
    → ((u : ℕ) → Memᴰ u m → Memᴰ u l) → l ≡ m
rising-same [] [] r s to fro = refl
rising-same [] (y ∷ m) r s to fro = elim (fro y (Memᴰ.head refl)) [ ]
rising-same (x ∷ l) [] r s to fro = elim (to x (Memᴰ.head refl)) [ ]
rising-same (x ∷ l) (y ∷ m) r s to fro = ap₂ (λ (a : ℕ) (k : List ℕ). a ∷ k) heads (rising-same l m r.1 s.1 there back)
  where
    least : (a b : ℕ) (k : List ℕ) → ((u : ℕ) → Memᴰ u k → a < u) → Memᴰ b (a ∷ k) → ¬ (b < a)
    least a b k h (Memᴰ.head e) c = absurd (omega (arith, e, c))
    least a b k h (Memᴰ.tail n) c = absurd (omega (arith, h b n, c))

    heads : x ≡ y
    heads = omega (arith, least y x m s.0 (to x (Memᴰ.head refl)), least x y l r.0 (fro y (Memᴰ.head refl)))

    rest : (a : ℕ) (k : List ℕ) (u : ℕ) → a < u → Memᴰ u (a ∷ k) → Memᴰ u k
    rest a k u h (Memᴰ.head e) = absurd (omega (arith, e, h))
    rest a k u h (Memᴰ.tail n) = n

    there : (u : ℕ) → Memᴰ u l → Memᴰ u m
    there u n = rest y m u (subst (λ (s : ℕ). s < u) heads (r.0 u n)) (to u (Memᴰ.tail n))

    back : (u : ℕ) → Memᴰ u m → Memᴰ u l
    back u n = rest x l u (subst (λ (s : ℕ). s < u) (sym heads) (s.0 u n)) (fro u (Memᴰ.tail n))

pub set-rises : (l : List ℕ) → Rising (set_of l)
set-rises [] = omega arith
set-rises (v ∷ l) = put-rises v (set_of l) (set-rises l)

pub set-has : (u : ℕ) (l : List ℕ) → Memᴰ u (set_of l) → Memᴰ u l
set-has u [] m = elim m [ ]
set-has u (v ∷ l) m = elim (put_has v u (set_of l) m) [ inl e ↦ Memᴰ.head e | inr k ↦ Memᴰ.tail (set-has u l k) ]

pub set-in : (u : ℕ) (l : List ℕ) → Memᴰ u l → Memᴰ u (set_of l)
set-in u [] m = elim m [ ]
set-in u (v ∷ l) (Memᴰ.head e) = subst (λ (s : ℕ). Memᴰ s (put_in v (set_of l))) (sym e) (put-in v (set_of l))
set-in u (v ∷ l) (Memᴰ.tail m) = put_keeps v u (set_of l) (set-in u l m)

-- Equal sets exactly where the same numbers occur.
pub set_same : (l m : List ℕ) → ((u : ℕ) → Memᴰ u l → Memᴰ u m) → ((u : ℕ) → Memᴰ u m → Memᴰ u l) → set_of l ≡ set_of m
set_same l m to fro =
    rising-same (set_of l) (set_of m) (set-rises l) (set-rises m)
    (λ u k. set-in u m (to u (set-has u l k))) (λ u k. set-in u l (fro u (set-has u m k)))

pub same_set : (l m : List ℕ) → set_of l ≡ set_of m → (u : ℕ) → Memᴰ u l → Memᴰ u m
same_set l m e u k = set-has u m (subst (λ (s : List ℕ). Memᴰ u s) e (set-in u l k))
