-- The loops of a block's lines: the numbers that pass a test, found one after the other; and the branches of a row.
use Rattle.std.specs.Prelude.{ℕ, zero, suc, ◌+◌, ◌*◌, ◌≤◌, ◌<◌, ◌≡◌, refl, Bool, true, false, cond, eqb, length, get_or, take, set}
use Rattle.std.specs.Prelude.{Option, Some, None, is_some, unwrap_or, IfSome}
use Rattle.std.proofs.Common.{arith, eq-or-lt_of_le, inl, inr, sym, ◌∙◌, ap, ap₂, subst, take_all, take-suc-set, eq-eqb, ne_eqb}
use mathlib.Core.List.{List, [], ◌∷◌, ◌++◌, append-nil, cons-ne-nil}
use Rattle.std.proofs.lemmas.Bool.{false≢true}
use Rattle.partition.specs.Passed.{Branch}
use Rattle.text.specs.Text.{line_feed, delay_word, field, rising, each}
use Rattle.text.specs.Laws.Texts.{each_append, each_map, rising-hit, rising-skip}
use Rattle.listing.specs.Printed.{delay_line_of, is_among, targets_of, weight_into, share_field, shares_of}
use Rattle.listing.specs.Slices.{Next, branches_from}

add-one : (n : ℕ) → n + 1 ≡ suc n
add-one n = omega arith

-- ---- The numbers that pass a test

module _ (p : ℕ → Bool) where
  -- None passes up to the next one, and none up to the count where there is no next one.
  rising-next : (from count : ℕ) (o : Option ℕ) → from ≤ count → Next p from count o → rising p (unwrap_or o count) ≡ rising p from
  rising-next from count None h n = rising-skip p from count h n
  rising-next from count (Some c) h n = rising-skip p from c n.on n.between

  -- The next is past the last.
  pub next_past : (count c : ℕ) (o : Option ℕ) → c < count → Next p (c + 1) count o → c < unwrap_or o count
  next_past count c None h n = h
  next_past count c (Some d) h n = omega (arith, n.on)

  pub next-passes : (from count : ℕ) (o : Option ℕ) → Next p from count o → IfSome o (λ c. (c < count) × (p c ≡ true))
  next-passes from count None n = tt
  next-passes from count (Some c) n = (n.below, n.passes)

  -- Some number below n passes.
  rising-some : (n c : ℕ) → c < n → p c ≡ true → ¬ (rising p n ≡ [])
  rising-some zero c h e none = absurd (omega arith)
  rising-some (suc n) c h e none =
      elim (eq-or-lt_of_le h) [
        | inl q ↦
            let same : c ≡ n = omega arith in
            cons-ne-nil n []
            (ap (λ (b : Bool). cond b (n ∷ []) []) (sym (subst (λ (k : ℕ). p k ≡ true) same e)) ∙ last (rising p n) _ none)
        | inr l ↦ rising-some n c (omega arith) e (front (rising p n) _ none)
      ]
    where
      front : (l m : List ℕ) → l ++ m ≡ [] → l ≡ []
      front [] m e = refl
      front (x ∷ l) m e = absurd (cons-ne-nil x (l ++ m) e)

      last : (l m : List ℕ) → l ++ m ≡ [] → m ≡ []
      last [] m e = e
      last (x ∷ l) m e = absurd (cons-ne-nil x (l ++ m) e)

  -- The texts of those that pass: at the start none, with each that is found one more.
  module _ (f : ℕ → List ℕ) (count : ℕ) where
    pub found_none : (o : Option ℕ) → Next p 0 count o → [] ≡ each f (rising p (unwrap_or o count))
    found_none o n = sym (ap (each f) (rising-next 0 count o (omega arith) n))

    pub found-one : (c : ℕ) (o : Option ℕ) → c < count → p c ≡ true → Next p (c + 1) count o
        → each f (rising p c) ++ f c ≡ each f (rising p (unwrap_or o count))
    found-one c o h e n =
        sym
        (ap (each f) (rising-next (c + 1) count o (omega arith) n ∙ ap (rising p) (add-one c) ∙ rising-hit p c e)
        ∙ each_append f (rising p c) (c ∷ [])
        ∙ ap (λ (l : List ℕ). each f (rising p c) ++ l) (append-nil (f c)))

  -- The delay line is left out where there is no block to name.
  pub delay-none : (number count : ℕ) (o : Option ℕ) → Next p 0 count o → is_some o ≡ false → [] ≡ delay_line_of number (rising p count)
  delay-none number count None n e = ap (delay_line_of number) (sym (rising-next 0 count None (omega arith) n))
  delay-none number count (Some c) n e = absurd (false≢true (sym e))

  pub delay-some : (number count : ℕ) (o : Option ℕ) → Next p 0 count o → is_some o ≡ true
      → delay_word ++ (field number ++ (each field (rising p count) ++ (line_feed ∷ []))) ≡ delay_line_of number (rising p count)
  delay-some number count None n e = absurd (false≢true e)
  delay-some number count (Some c) n e = go (rising p count) (rising-some count c n.below n.passes)
    where
      go : (l : List ℕ) → ¬ (l ≡ []) → delay_word ++ (field number ++ (each field l ++ (line_feed ∷ []))) ≡ delay_line_of number l
      go [] some = absurd (some refl)
      go (x ∷ l) some = refl

-- ---- Shares

-- The text of a block landed in, and of all of them.
module _ (list : List ℕ) (denominator : ℕ) (branches : List (Branch ℕ)) where
  abbrev pub share_text : ℕ → List ℕ
  share_text c = share_field (record { block = c; weight = weight_into list c branches; denominator = denominator })

  pub share-all : (targets : List ℕ) (count : ℕ) → targets ≡ targets_of branches
      → each share_text (rising (λ b. is_among list b targets) count) ≡ each share_field (shares_of list count denominator branches)
  share-all targets count e =
      ap (λ (l : List ℕ). each share_text (rising (λ b. is_among list b l) count)) e
      ∙ sym (each_map share_field (λ c. record { block = c; weight = weight_into list c branches; denominator = denominator })
      (rising (λ b. is_among list b (targets_of branches)) count))

-- The weight into a block, of one branch more.
weight-more : (list rows : List ℕ) (c from i : ℕ)
    → weight_into list c (branches_from rows from (i + 1))
    ≡ weight_into list c (branches_from rows from i)
    + cond (eqb (get_or list (get_or rows (from + 2 * i + 1) 0) 0) c) (get_or rows (from + 2 * i) 0) 0
weight-more list rows c from i = ap (λ (k : ℕ). weight_into list c (branches_from rows from k)) (add-one i) ∙ go from i
  where
    one : (t : Bool) (w : ℕ) → cond t (w + 0) 0 ≡ 0 + cond t w 0
    one true w = omega arith
    one false w = refl

    both : (t : Bool) (w a b d : ℕ) → a ≡ b + d → cond t (w + a) a ≡ cond t (w + b) b + d
    both true w a b d e = omega (arith, e)
    both false w a b d e = e

    go : (from i : ℕ) → weight_into list c (branches_from rows from (suc i))
        ≡ weight_into list c (branches_from rows from i)
        + cond (eqb (get_or list (get_or rows (from + 2 * i + 1) 0) 0) c) (get_or rows (from + 2 * i) 0) 0
    go from zero =
        let same : from ≡ from + 2 * 0 = omega arith in
        ap (λ (k : ℕ). cond (eqb (get_or list (get_or rows (k + 1) 0) 0) c) (get_or rows k 0 + 0) 0) same
        ∙ one (eqb (get_or list (get_or rows (from + 2 * 0 + 1) 0) 0) c) (get_or rows (from + 2 * 0) 0)
    go from (suc i) =
        let same : from + 2 + 2 * i ≡ from + 2 * suc i = omega arith in
        both (eqb (get_or list (get_or rows (from + 1) 0) 0) c) (get_or rows from 0) _ _ _
        (go (from + 2) i
        ∙ ap (λ (k : ℕ). weight_into list c (branches_from rows (from + 2) i)
        + cond (eqb (get_or list (get_or rows (k + 1) 0) 0) c) (get_or rows k 0) 0) same)

module _ (list rows : List ℕ) (c from i : ℕ) where
  pub weight-hit : get_or list (get_or rows (from + 2 * i + 1) 0) 0 ≡ c
      → weight_into list c (branches_from rows from (i + 1)) ≡ weight_into list c (branches_from rows from i) + get_or rows (from + 2 * i) 0
  weight-hit e =
      weight-more list rows c from i
      ∙ ap (λ (t : Bool). weight_into list c (branches_from rows from i) + cond t (get_or rows (from + 2 * i) 0) 0) (eq-eqb _ c e)

  pub weight-miss : ¬ (get_or list (get_or rows (from + 2 * i + 1) 0) 0 ≡ c)
      → weight_into list c (branches_from rows from (i + 1)) ≡ weight_into list c (branches_from rows from i)
  weight-miss e =
      weight-more list rows c from i
      ∙ ap (λ (t : Bool). weight_into list c (branches_from rows from i) + cond t (get_or rows (from + 2 * i) 0) 0) (ne_eqb _ c e)
      ∙ omega arith

-- The targets, from the first branch on.
module _ (rows : List ℕ) where
  targets-end : (from i : ℕ) → targets_of (branches_from rows from (suc i))
      ≡ targets_of (branches_from rows from i) ++ (get_or rows (from + 2 * i + 1) 0 ∷ [])
  targets-end from zero =
      ap (λ (k : ℕ). get_or rows k 0 ∷ []) (let same : from + 1 ≡ from + 2 * 0 + 1 = omega arith in same)
  targets-end from (suc i) =
      ap (λ (l : List ℕ). get_or rows (from + 1) 0 ∷ l)
      (targets-end (from + 2) i
      ∙ ap (λ (k : ℕ). targets_of (branches_from rows (from + 2) i) ++ (get_or rows k 0 ∷ []))
      (let same : from + 2 + 2 * i + 1 ≡ from + 2 * suc i + 1 = omega arith in same))

  pub targets-one : (from i x : ℕ) (l : List ℕ) → i < length l → x ≡ get_or rows (from + 2 * i + 1) 0
      → take i l ≡ targets_of (branches_from rows from i) → take (i + 1) (set l i x) ≡ targets_of (branches_from rows from (i + 1))
  targets-one from i x l h e t =
      let next : i + 1 ≡ suc i = omega arith in
      ap (λ (k : ℕ). take k (set l i x)) next
      ∙ take-suc-set l i x h
      ∙ ap₂ (λ (m : List ℕ) (y : ℕ). m ++ (y ∷ [])) t e
      ∙ sym (targets-end from i)
      ∙ ap (λ (k : ℕ). targets_of (branches_from rows from k)) (sym next)

  pub targets-all : (from i n : ℕ) (l : List ℕ) → length l ≡ n → n ≤ i → i ≤ n → take i l ≡ targets_of (branches_from rows from i)
      → l ≡ targets_of (branches_from rows from n)
  targets-all from i n l h a b t =
      let all : i ≡ n = omega arith in
      sym (take_all i l (omega arith)) ∙ t ∙ ap (λ (k : ℕ). targets_of (branches_from rows from k)) all
