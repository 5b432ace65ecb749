-- How what a dictionary holds grows.
use Rattle.std.specs.Prelude.{ℕ, suc, ◌+◌, ◌≤◌, ◌<◌, ◌≡◌, List, [], ◌∷◌, ◌++◌, ◌⊎◌, length, get_or, Result, Ok, Err}
use Rattle.std.proofs.Common.{arith, eq-or-lt_of_le, sym, ◌∙◌, ap, subst, inl, inr, ⊎_elim, length-append}
use Rattle.std.proofs.Math.ListN.{get_or-append}
use Rattle.std.proofs.Math.Seq.{get_or-append_seam}
use Rattle.signatures.specs.declared.dictionary.NoRoom.{NoRoom}
use Rattle.signatures.specs.Book.{room, At, Absent, Different, numbers_in, Fits, Told, Shut, Grows}

pub grows_same : (held : List (List ℕ)) → Grows held held
grows_same held = record { keeps = λ i s h. h; shuts = λ s h. h }

pub grows_then : (a b c : List (List ℕ)) → Grows a b → Grows b c → Grows a c
grows_then a b c g h = record { keeps = λ i s k. h.keeps i s (g.keeps i s k); shuts = λ s k. h.shuts s (g.shuts s k) }

pub numbers-append : (held more : List (List ℕ)) → numbers_in (held ++ more) ≡ numbers_in held + numbers_in more
unfolding numbers_in
numbers-append [] more = omega arith
numbers-append (s ∷ held) more = omega (arith, numbers-append held more)

module _ (held : List (List ℕ)) (s : List ℕ) where
  pub length_more : length (held ++ (s ∷ [])) ≡ suc (length held)
  length_more = omega (arith, length-append held (s ∷ []))

  pub numbers_more : numbers_in (held ++ (s ∷ [])) ≡ numbers_in held + length s
  unfolding numbers_in
  numbers_more = omega (arith, numbers-append held (s ∷ []))

  pub at-end : At (held ++ (s ∷ [])) (length held) s
  at-end = (omega (arith, length_more), get_or-append_seam held s [] [])

  at-keeps : (i : ℕ) (t : List ℕ) → At held i t → At (held ++ (s ∷ [])) i t
  at-keeps i t h = (omega (arith, length_more, h.0), get_or-append held (s ∷ []) [] i h.0 ∙ h.1)

  at_more : (i : ℕ) (t : List ℕ) → At (held ++ (s ∷ [])) i t → At held i t ⊎ ((i ≡ length held) × (t ≡ s))
  at_more i t h = let most : i ≤ length held = omega (arith, length_more, h.0) in go (eq-or-lt_of_le most)
    where
      go : (i ≡ length held) ⊎ (i < length held) → At held i t ⊎ ((i ≡ length held) × (t ≡ s))
      go (inr less) = inl (less, sym (get_or-append held (s ∷ []) [] i less) ∙ h.1)
      go (inl e) = inr (e, sym h.1 ∙ ap (λ (k : ℕ). get_or (held ++ (s ∷ [])) k []) e ∙ get_or-append_seam held s [] [])

  pub different-more : Different held → Absent held s → Different (held ++ (s ∷ []))
  different-more d a i j t hi hj = go (at_more i t hi) (at_more j t hj)
    where
      go : At held i t ⊎ ((i ≡ length held) × (t ≡ s)) → At held j t ⊎ ((j ≡ length held) × (t ≡ s)) → i ≡ j
      go (inl x) (inl y) = d i j t x y
      go (inl x) (inr y) = absurd (a i (x.0, x.1 ∙ y.1))
      go (inr x) (inl y) = absurd (a j (y.0, y.1 ∙ x.1))
      go (inr x) (inr y) = x.0 ∙ sym y.0

  pub grows-more : Fits held s → Grows held (held ++ (s ∷ []))
  grows-more f =
      record {
        keeps = at-keeps;
        shuts = λ t h. record {
          absent = λ i k. go t h (at_more i t k);
          large = λ g. h.large (omega (arith, length_more, g.0), omega (arith, numbers_more, g.1));
        };
      }
    where
      go : (t : List ℕ) → Shut held t → {i : ℕ} → At held i t ⊎ ((i ≡ length held) × (t ≡ s)) → ⊥
      go t h (inl k) = h.absent _ k
      go t h (inr k) = h.large (f.0, subst (λ (u : List ℕ). numbers_in held + length u ≤ room) (sym k.1) f.1)

pub told-grows : (s : List ℕ) (held held' : List (List ℕ)) (a : Result ℕ NoRoom) → Told s held held' a → Grows held held'
told-grows s held held' (Ok i) h =
    ⊎_elim (λ e. subst (λ (k : List (List ℕ)). Grows held k) (sym e) (grows_same held))
    (λ t. subst (λ (k : List (List ℕ)). Grows held k) (sym t.0) (grows-more held s t.2)) h.1
told-grows s held held' (Err _) h = subst (λ (k : List (List ℕ)). Grows held k) (sym h.0) (grows_same held)

-- Of a list that is not too long, and its id: how much more is held.
pub told-few : (s : List ℕ) (held held' : List (List ℕ)) (i : ℕ) → Told s held held' (Ok i)
    → (length held' ≤ length held + 1) × (numbers_in held' ≤ numbers_in held + length s)
told-few s held held' i h = ⊎_elim old new h.1
  where
    old : held' ≡ held → (length held' ≤ length held + 1) × (numbers_in held' ≤ numbers_in held + length s)
    old e = rw e (omega arith, omega arith)

    new : (held' ≡ held ++ (s ∷ [])) × Absent held s × Fits held s
        → (length held' ≤ length held + 1) × (numbers_in held' ≤ numbers_in held + length s)
    new t = rw t.0 (omega (arith, length_more held s), omega (arith, numbers_more held s))
