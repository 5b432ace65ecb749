-- The totals at the foot of the listing (document 02, Job 1): how many regions and how many blocks bear each label. They are taken of two
-- lists: the labels of the region records, one for each, and the labels of the block records.
use Rattle.std.specs.Prelude.{ℕ, suc, ◌+◌, max, Bool, false, cond, ◌||◌, List, [], ◌∷◌, ◌++◌, map, eqb, length}
use Rattle.text.specs.Text.{line_feed, blank, field, rising, each, regions_word, blocks_word, label_word, all_word}

-- ---- Counts

-- How many items of a list pass a test.
abbrev pub count : {A : Type 0} → (A → Bool) → List A → ℕ
count p [] = 0
count p (x ∷ l) = cond (p x) (suc (count p l)) (count p l)

-- A label is among some labels.
abbrev pub has_label : List ℕ → ℕ → Bool
has_label [] label = false
has_label (x ∷ l) label = eqb x label || has_label l label

-- The largest of some labels, and 0 if there is none.
abbrev pub largest : List ℕ → ℕ
largest [] = 0
largest (x ∷ l) = max x (largest l)

-- "Each label that a reached region bears, labels rising".
abbrev pub distinct_labels : List ℕ → List ℕ
distinct_labels labels = rising (has_label labels) (suc (largest labels))

-- A label, and how many regions and how many blocks bear it.
pub record TotalRecord : Type 0 where
  pub label : ℕ
  pub regions : ℕ
  pub blocks : ℕ

-- The total of a label: how often it is among the labels of regions, and among those of blocks.
abbrev pub total_of : (of_regions of_blocks : List ℕ) (label : ℕ) → TotalRecord
total_of of_regions of_blocks label =
    record { label = label; regions = count (λ x. eqb x label) of_regions; blocks = count (λ x. eqb x label) of_blocks }

-- One for each label that a region bears.
abbrev pub totals_of : (of_regions of_blocks : List ℕ) → List TotalRecord
totals_of of_regions of_blocks = map (total_of of_regions of_blocks) (distinct_labels of_regions)

-- The sum of a number over the items of a list, such as a column over the totals.
abbrev pub sum_of : {A : Type 0} → (A → ℕ) → List A → ℕ
sum_of f [] = 0
sum_of f (x ∷ l) = f x + sum_of f l

-- ---- Lines

-- ` regions a blocks b`, and the line feed.
abbrev pub counts_text : (regions blocks : ℕ) → List ℕ
counts_text regions blocks =
    (blank ∷ regions_word) ++ (field regions ++ (blocks_word ++ (field blocks ++ (line_feed ∷ []))))

-- "`label L regions a blocks b`".
abbrev pub label_line : TotalRecord → List ℕ
label_line t = label_word ++ (field t.label ++ counts_text t.regions t.blocks)

-- "`all regions a blocks b`".
abbrev pub all_line : (regions blocks : ℕ) → List ℕ
all_line regions blocks = all_word ++ counts_text regions blocks

-- "For each label that a reached region bears, labels rising, `label L regions a blocks b`, then `all regions a blocks b`": of all regions
-- and all blocks, which are the sums of the lines above (`all-regions`, `all_blocks` of Laws). A label that blocks alone bear has no line
-- (a choice of ours: there is none in a listing, by `records-blocks` of `crates/listing`).
abbrev pub total_lines : (of_regions of_blocks : List ℕ) → List ℕ
total_lines of_regions of_blocks =
    each label_line (totals_of of_regions of_blocks) ++ all_line (length of_regions) (length of_blocks)
