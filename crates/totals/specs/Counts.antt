-- What the code's slices of counts hold, and the totals of the labels below a bound, as the code's loops go.
use Rattle.std.specs.Prelude.{ℕ, ◌<◌, ◌≡◌, cond, List, [], map, eqb, ltb, length, get_or}
use Rattle.text.specs.Text.{rising, up_to}
use Rattle.totals.specs.Totals.{count, has_label, TotalRecord, total_of, label_line}

-- Number L of a slice is how many of some labels are L, for each label L: labels are bytes.
pub record LabelCounts (labels counts : List ℕ) : Type 0 where
  pub long : length counts ≡ 256
  pub holds : (label : ℕ) → label < 256 → get_or counts label 0 ≡ count (λ x. eqb x label) labels

-- The totals of the labels below a bound.
abbrev pub totals_below : (regions blocks : List ℕ) (end : ℕ) → List TotalRecord
totals_below regions blocks end = map (total_of regions blocks) (rising (has_label regions) end)

-- The lines of the labels below a bound that the first counts have, with the second counts beside them.
abbrev pub counted_lines : (regions blocks : List ℕ) (end : ℕ) → List ℕ
counted_lines regions blocks end =
    up_to (λ label.
    cond (ltb 0 (get_or regions label 0))
    (label_line (record { label = label; regions = get_or regions label 0; blocks = get_or blocks label 0 })) []) end
