-- `all` and `any` over an iterator, by what is kept from step to step; and over a range.
use Rattle.std.proofs.Common.{arith, ap, sym, ◌∙◌, subst, inl, inr, refl}
use Rattle.std.specs.Prelude.{ℕ, ◌<◌, ◌≡◌, Bool, true, false, List, [], ◌∷◌, ◌⊎◌}
use Rattle.std.specs.Prelude.{Option, Some, None, MatchOption}
use Rattle.std.specs.Iterator.{YieldsThen, ChecksAll, ChecksAny}
use Rattle.std.specs.List.{FoldsTo}
use Rattle.std.specs.Fn.{Called}
use Rattle.std.specs.declared.ops.Range.{Range}
use Rattle.std.proofs.iter.Yields.{nat_range_steps}
use denote.Param.Members.{Mut}
use Rattle.bisimulation.specs.Finite.{all_below, some_below}
use Rattle.bisimulation.proofs.Laws.Tests.{clash, fails, same?, all-below, below-some, some_below_lem}

-- A call of the closure at an item, which leaves it as it was, keeps what is kept; or it ends the run; or the items end.
module _ {S A F : Type 0} (steps : S → Option A → S → Type 0) (g : Mut F (A × Unit {0}) Bool) (Kept : S → Type 0) (Yes No : Type 0)
    (f : F) where
  run : (on off : Bool) (r : Bool)
      → ((s t : S) (x : A) (q : F) → Kept s → steps s (Some x) t → Called g f (x, tt) on q → (q ≡ f) × Kept t)
      → ((s t : S) (x : A) (q : F) → Kept s → steps s (Some x) t → Called g f (x, tt) off q → No)
      → ((s t : S) → Kept s → steps s None t → Yes)
      → (xs : List A) (s u : S) (o : Option A) (j q : F) → q ≡ f → Kept s → YieldsThen steps s xs o u
      → FoldsTo (λ p x q. Called g p (x, tt) on q) q xs j
      → MatchOption o (r ≡ on) (λ x. (r ≡ off) × ((h : F) × Called g j (x, tt) off h))
      → ((r ≡ on) × Yes) ⊎ ((r ≡ off) × No)
  run on off r go stop end [] s u None j q same kept (t, at, last) folds told =
      inl (told, end s u kept (subst (λ (s' : S). steps s' None u) (sym at) last))
  run on off r go stop end [] s u (Some x) j q same kept (t, at, last) folds (told, (h, called)) =
      inr (
        told,
        stop s u x h kept (subst (λ (s' : S). steps s' (Some x) u) (sym at) last)
            (subst (λ (p : F). Called g p (x, tt) off h) (sym folds ∙ same) called),
      )
  run on off r go stop end (x ∷ xs) s u o j q same kept (t, (s', step, more), last) (q', called, folds) told =
      let (same', kept') = go s s' x q' kept step (subst (λ (p : F). Called g p (x, tt) on q') same called) in
      run on off r go stop end xs s' u o j q' same' kept' (t, more, last) folds told

  pub all-run : (s u : S) (r : Bool)
      → ((s t : S) (x : A) (q : F) → Kept s → steps s (Some x) t → Called g f (x, tt) true q → (q ≡ f) × Kept t)
      → ((s t : S) (x : A) (q : F) → Kept s → steps s (Some x) t → Called g f (x, tt) false q → No)
      → ((s t : S) → Kept s → steps s None t → Yes)
      → Kept s → ChecksAll steps g s f r u → ((r ≡ true) × Yes) ⊎ ((r ≡ false) × No)
  all-run s u r go stop end kept (xs, o, j, yields, folds, told) =
      run true false r go stop end xs s u o j f refl kept yields folds told

  pub any-run : (s u : S) (r : Bool)
      → ((s t : S) (x : A) (q : F) → Kept s → steps s (Some x) t → Called g f (x, tt) false q → (q ≡ f) × Kept t)
      → ((s t : S) (x : A) (q : F) → Kept s → steps s (Some x) t → Called g f (x, tt) true q → No)
      → ((s t : S) → Kept s → steps s None t → Yes)
      → Kept s → ChecksAny steps g s f r u → ((r ≡ false) × Yes) ⊎ ((r ≡ true) × No)
  any-run s u r go stop end kept (xs, o, j, yields, folds, told) =
      run false true r go stop end xs s u o j f refl kept yields folds told

-- ---- Over the numbers below n

module _ {F : Type 0} {g : Mut F (ℕ × Unit {0}) Bool} (test : ℕ → Bool) (n : ℕ) (f : F) (u : Range ℕ) (r : Bool)
    (gives : (x : ℕ) (b : Bool) (q : F) → x < n → Called g f (x, tt) b q → (q ≡ f) × (b ≡ test x)) where
  -- All numbers below the next one answer so.
  Below : Bool → Range ℕ → Type 0
  Below b s = (s.end ≡ n) × ((x : ℕ) → x < s.start → test x ≡ b)

  below-on : (b : Bool) (s t : Range ℕ) (x : ℕ) (q : F) → Below b s → nat_range_steps s (Some x) t → Called g f (x, tt) b q
      → (q ≡ f) × Below b t
  unfolding Below
  below-on b s t x q (end, past) (end', (some, at, next)) called =
      let (same, told) = gives x b q (omega arith) called in (
        same,
        (
          end' ∙ end,
          λ y h. elim (same? y x) [ inl here ↦ ap test here ∙ sym told | inr other ↦ past y (omega arith) ],
        ),
      )

  below-stop : (b : Bool) (s t : Range ℕ) (x : ℕ) (q : F) → Below (elim b [ true ↦ false | false ↦ true ]) s
      → nat_range_steps s (Some x) t → Called g f (x, tt) b q → (y : ℕ) × (y < n) × (test y ≡ b)
  unfolding Below
  below-stop b s t x q (end, past) (end', (some, at, next)) called =
      let (same, told) = gives x b q (omega arith) called in (x, omega arith, sym told)

  below-end : (b : Bool) (s t : Range ℕ) → Below b s → nat_range_steps s None t → (y : ℕ) → y < n → test y ≡ b
  unfolding Below
  below-end b s t (end, past) (end', (none, at)) y h = past y (omega arith)

  below-start : (b : Bool) → Below b (record { start = 0; end = n })
  unfolding Below
  below-start b = (refl, λ x h. absurd (omega arith))

  pub all-range : ChecksAll nat_range_steps g (record { start = 0; end = n }) f r u → r ≡ all_below n test
  all-range ran =
      elim (all-run nat_range_steps g (Below true) ((y : ℕ) → y < n → test y ≡ true) ((y : ℕ) × (y < n) × (test y ≡ false)) f _ u r
      (below-on true) (below-stop false) (below-end true) (below-start true) ran) [
        | inl (t, all) ↦ t ∙ sym ((all-below n test).1 all)
        | inr (t, other) ↦ t ∙ sym (fails (all_below n test) (λ all. clash ((all-below n test).0 all other.0 other.1) other.2))
      ]

  pub any-range : ChecksAny nat_range_steps g (record { start = 0; end = n }) f r u → r ≡ some_below n test
  any-range ran =
      elim (any-run nat_range_steps g (Below false) ((y : ℕ) → y < n → test y ≡ false) ((y : ℕ) × (y < n) × (test y ≡ true)) f _ u r
      (below-on false) (below-stop true) (below-end false) (below-start false) ran) [
        | inl (t, none) ↦ t ∙ sym (fails (some_below n test) (λ some. let (y, h, there) = some_below_lem n test some in clash there (none y h)))
        | inr (t, one) ↦ t ∙ sym (below-some n test one.0 one.1 one.2)
      ]
