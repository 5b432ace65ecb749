-- All labels are counted; the line of one label more, and all lines, as texts that are put one after the other: laws that stand for a
-- reader of the definitions; the code needs none of them.
use Rattle.std.specs.Prelude.{ℕ, suc, ◌+◌, ◌≤◌, ◌<◌, ◌≡◌, refl, Bool, true, false, cond, ◌||◌, eqb, length, get_or, take}
use Rattle.std.proofs.Common.{add-one, arith, sym, ◌∙◌, ap, ap₂, subst, take_all}
use mathlib.Core.List.{List, [], ◌∷◌, ◌++◌, map}
use Rattle.text.specs.Text.{rising, each}
use Rattle.text.specs.Writing.{Adds}
use Rattle.text.specs.Laws.Texts.{each_append, each-one, each_map, rising-hit, rising-miss}
use Rattle.text.specs.Laws.Writing.{adds_then, adds_same}
use Rattle.totals.specs.Totals.{count, has_label, TotalRecord, total_of, label_line, all_line, total_lines}
use Rattle.totals.specs.Counts.{LabelCounts, totals_below}
use Rattle.totals.specs.Laws.Counts.{below_all, bytes_small}

-- All labels are counted.
pub counts_all : (labels counts : List ℕ) (i : ℕ) → length labels ≤ i → LabelCounts (take i labels) counts → LabelCounts labels counts
counts_all labels counts i h c = subst (λ (l : List ℕ). LabelCounts l counts) (take_all i labels h) c

count-some : (l : List ℕ) (label : ℕ) → 0 < count (λ x. eqb x label) l → has_label l label ≡ true
count-some [] label h = absurd (omega (arith, h))
count-some (x ∷ l) label h = go (eqb x label) (count-some l label) h
  where
    go : (b : Bool) → (0 < count (λ y. eqb y label) l → has_label l label ≡ true)
        → 0 < cond b (suc (count (λ y. eqb y label) l)) (count (λ y. eqb y label) l) → (b || has_label l label) ≡ true
    go true later k = refl
    go false later k = later k

count_none : (l : List ℕ) (label : ℕ) → count (λ x. eqb x label) l ≡ 0 → has_label l label ≡ false
count_none [] label h = refl
count_none (x ∷ l) label h = go (eqb x label) (count_none l label) h
  where
    go : (b : Bool) → (count (λ y. eqb y label) l ≡ 0 → has_label l label ≡ false)
        → cond b (suc (count (λ y. eqb y label) l)) (count (λ y. eqb y label) l) ≡ 0 → (b || has_label l label) ≡ false
    go true later k = absurd (omega (arith, k))
    go false later k = later k

module _ (regions blocks : List ℕ) (label : ℕ) where
  line-hit : has_label regions label ≡ true → each label_line (totals_below regions blocks (label + 1))
      ≡ each label_line (totals_below regions blocks label) ++ label_line (total_of regions blocks label)
  line-hit e =
      ap (λ (k : ℕ). each label_line (totals_below regions blocks k)) (add-one label)
      ∙ each_map label_line (total_of regions blocks) (rising (has_label regions) (suc label))
      ∙ ap (λ (l : List ℕ). each (λ x. label_line (total_of regions blocks x)) l) (rising-hit (has_label regions) label e)
      ∙ each_append (λ x. label_line (total_of regions blocks x)) (rising (has_label regions) label) (label ∷ [])
      ∙ ap₂ (λ (l k : List ℕ). l ++ k) (sym (each_map label_line (total_of regions blocks) (rising (has_label regions) label)))
      (each-one (λ x. label_line (total_of regions blocks x)) label)

  line-miss : has_label regions label ≡ false → each label_line (totals_below regions blocks (label + 1))
      ≡ each label_line (totals_below regions blocks label)
  line-miss e =
      ap (λ (k : ℕ). each label_line (totals_below regions blocks k)) (add-one label)
      ∙ ap (λ (l : List ℕ). each label_line (map (total_of regions blocks) l)) (rising-miss (has_label regions) label e)

  module _ (of-regions of_blocks : List ℕ) (r : LabelCounts regions of-regions) (b : LabelCounts blocks of_blocks) (h : label < 256)
      {text : List ℕ} {at : ℕ} {text₁ : List ℕ} {at₁ : ℕ} {text₂ : List ℕ} {at₂ : ℕ} where
    -- The line of a label that some region bears is put,
    pub label-put : {text₃ : List ℕ} {at₃ : ℕ} → text₃ ≡ text₂ → at₃ ≡ at₂ → 0 < get_or of-regions label 0
        → Adds text at text₁ at₁ (each label_line (totals_below regions blocks label))
        → Adds text₁ at₁ text₂ at₂
        (label_line (record { label = label; regions = get_or of-regions label 0; blocks = get_or of_blocks label 0 }))
        → Adds text at text₃ at₃ (each label_line (totals_below regions blocks (label + 1)))
    label-put to from some a l =
        let made : ℕ → ℕ → TotalRecord = λ x y. record { label = label; regions = x; blocks = y } in
        let is : label_line (made (get_or of-regions label 0) (get_or of_blocks label 0)) ≡ label_line (total_of regions blocks label) =
        ap₂ (λ (x y : ℕ). label_line (made x y)) (r.holds label h) (b.holds label h) in
        rw (to, from)
        (adds_same (sym (line-hit (count-some regions label (omega (arith, some, r.holds label h))))) (adds_then a (adds_same is l)))

    -- and for a label that none bears nothing is put.
    pub label-left : text₂ ≡ text₁ → at₂ ≡ at₁ → get_or of-regions label 0 ≤ 0
        → Adds text at text₁ at₁ (each label_line (totals_below regions blocks label))
        → Adds text at text₂ at₂ (each label_line (totals_below regions blocks (label + 1)))
    label-left to from none a =
        rw (to, from)
        (adds_same (sym (line-miss (count_none regions label (omega (arith, none, r.holds label h))))) a)

-- The lines of all labels are put, and then the last.
pub totals-put : (regions blocks : List ℕ) → ((i : ℕ) → get_or regions i 0 < 256)
    → {text : List ℕ} {at : ℕ} {text₁ : List ℕ} {at₁ : ℕ} {text₂ : List ℕ} {at₂ : ℕ}
    → Adds text at text₁ at₁ (each label_line (totals_below regions blocks 256))
    → Adds text₁ at₁ text₂ at₂ (all_line (length regions) (length blocks)) → Adds text at text₂ at₂ (total_lines regions blocks)
totals-put regions blocks small a b =
    adds_then (adds_same (ap (each label_line) (below_all regions blocks (bytes_small regions small))) a) b
