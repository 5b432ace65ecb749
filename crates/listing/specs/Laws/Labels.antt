-- For the code of the totals: a slice that is filled from the front, the labels of blocks as they are met from the last region down, and
-- the text of the totals from both lists of labels.
use Rattle.std.specs.Prelude.{ℕ, ◌+◌, ◌-◌, ◌≤◌, ◌<◌, ◌≡◌, List, [], ◌∷◌, ◌++◌, length, get_or, take, set}
use Rattle.std.proofs.Math.Decide.{ℕ_discrete}
use Rattle.std.proofs.Common.{add-one, arith, sym, ◌∙◌, ap, ap₂, subst, length-set, take_all}
use Rattle.std.proofs.Common.{take-suc-set, get_or-set_same, get_or-set_other, ext_get_or}
use Rattle.partition.specs.Passed.{Model, max_entries, listed}
use Rattle.partition.specs.Instances.{graph}
use Rattle.partition.specs.Laws.View.{listed-length}
use Rattle.text.specs.Text.{up_to}
use Rattle.text.specs.Laws.Texts.{upto-length, upto-at}
use Rattle.totals.specs.Totals.{total_lines}
use Rattle.totals.specs.Laws.Counts.{bytes_small, totals-fit}
use Rattle.listing.specs.Printed.{lowest_from, lowest_of, region_records, block_records, totals_text}
use Rattle.listing.specs.Labels.{labels_to, block_labels}
use Rattle.listing.specs.Laws.Blocks.{lowest_start, lowest-here, lowest-past, lowest-none}
use Rattle.listing.specs.Laws.Totals.{region-labels, block-labels}

-- ---- A slice that is filled from the front

module _ (g : ℕ → ℕ) where
  pub filled_on : (l : List ℕ) (i v : ℕ) → i < length l → v ≡ g i → take i l ≡ up_to (λ x. g x ∷ []) i
      → take (i + 1) (set l i v) ≡ up_to (λ x. g x ∷ []) (i + 1)
  filled_on l i v h is before =
      ap (λ (k : ℕ). take k (set l i v)) (add-one i)
      ∙ take-suc-set l i v h
      ∙ ap₂ (λ (k : List ℕ) (y : ℕ). k ++ (y ∷ [])) before is
      ∙ ap (λ (k : ℕ). up_to (λ x. g x ∷ []) k) (sym (add-one i))

  pub filled-all : (l : List ℕ) (i n : ℕ) → length l ≡ n → n ≤ i → i ≤ n → take i l ≡ up_to (λ x. g x ∷ []) i
      → l ≡ up_to (λ x. g x ∷ []) n
  filled-all l i n long past within is =
      let all : i ≡ n = omega (arith, past, within) in
      sym (take_all i l (omega (arith, long, past))) ∙ is ∙ ap (λ (k : ℕ). up_to (λ x. g x ∷ []) k) all

-- ---- The labels of blocks

-- Each block has the label of its lowest region from x on, and that of region 0 where there is none.
pub record Labelled (regions list labels : List ℕ) (x : ℕ) : Type 0 where
  pub holds : (b : ℕ) → b < length labels → get_or labels b 0 ≡ get_or regions (lowest_from list b x (length list - x)) 0

module _ (regions list : List ℕ) where
  pub labelled-start : (labels : List ℕ) (k : ℕ) → labels ≡ up_to (λ b. get_or regions 0 0 ∷ []) k
      → Labelled regions list labels (length list)
  labelled-start labels k is =
      record {
        holds = λ b h.
            let long : length labels ≡ k = ap length is ∙ upto-length (λ b. get_or regions 0 0) k in
            ap (λ (l : List ℕ). get_or l b 0) is
            ∙ upto-at (λ b. get_or regions 0 0) k b 0 (omega (arith, h, long))
            ∙ ap (λ (y : ℕ). get_or regions y 0) (sym (lowest-none list b (length list) (length list) (omega arith)));
      }

  pub labelled-on : (labels : List ℕ) (x : ℕ) → 0 < x → x ≤ length list → Labelled regions list labels x
      → Labelled regions list (set labels (get_or list (x - 1) 0) (get_or regions (x - 1) 0)) (x - 1)
  labelled-on labels x some within l =
      record { holds = λ b h. at b (subst (λ (k : ℕ). b < k) (length-set labels c v) h) (ℕ_discrete b c) }
    where
      c : ℕ
      c = get_or list (x - 1) 0

      v : ℕ
      v = get_or regions (x - 1) 0

      back : x - 1 + 1 ≡ x
      back = omega (arith, some)

      at : (b : ℕ) → b < length labels → Dec (b ≡ c)
          → get_or (set labels c v) b 0 ≡ get_or regions (lowest_from list b (x - 1) (length list - (x - 1))) 0
      at b h (yes e) =
          ap (λ (k : ℕ). get_or (set labels c v) k 0) e
          ∙ get_or-set_same labels c v 0 (subst (λ (k : ℕ). k < length labels) e h)
          ∙ ap (λ (y : ℕ). get_or regions y 0) (sym (lowest-here list b (x - 1) (length list) (omega (arith, some, within)) (sym e)))
      at b h (no other) =
          get_or-set_other labels c b v 0 other
          ∙ l.holds b h
          ∙ ap (λ (y : ℕ). get_or regions y 0)
          (sym (lowest-past list b (x - 1) (length list) (omega (arith, some, within)) (λ e. other (sym e))
          ∙ ap (λ (k : ℕ). lowest_from list b k (length list - k)) back))

  pub labelled-all : (labels : List ℕ) (x n : ℕ) → x ≤ 0 → length labels ≡ n → Labelled regions list labels x
      → labels ≡ block_labels regions list n
  labelled-all labels x n none long l =
      ext_get_or 0 labels (block_labels regions list n) (long ∙ sym (upto-length (λ b. get_or regions (lowest_of list b) 0) n))
      (λ b h.
      let start : x ≡ 0 = omega (arith, none) in
      l.holds b h
      ∙ ap (λ (k : ℕ). get_or regions (lowest_from list b k (length list - k)) 0) start
      ∙ ap (λ (y : ℕ). get_or regions y 0) (sym (lowest_start list b (length list)))
      ∙ sym (upto-at (λ b. get_or regions (lowest_of list b) 0) n b 0 (omega (arith, h, long))))

  pub block-labels-length : (n : ℕ) → length (block_labels regions list n) ≡ n
  block-labels-length n = upto-length (λ b. get_or regions (lowest_of list b) 0) n

-- ---- The text

-- The totals of at most 4,096 regions and blocks fit.
pub totals-room : (regions list : List ℕ) (blocks : ℕ) → ((i : ℕ) → get_or regions i 0 < 256) → length regions ≡ length list
    → blocks ≤ length list → length list ≤ max_entries → length (total_lines regions (block_labels regions list blocks)) ≤ 9503
totals-room regions list blocks small long few most =
    totals-fit regions (block_labels regions list blocks) (bytes_small regions small) (omega (arith, long, most))
    (omega (arith, block-labels-length regions list blocks, few, most))

-- Over the labels of all regions and blocks they are those of the records.
pub totals-same : (m : Model) (es list labels : List ℕ) (blocks : ℕ) → 0 < length list
    → labels ≡ labels_to (graph m (listed es (length list))) (length list)
    → total_lines labels (block_labels labels list blocks)
    ≡ totals_text (region_records m (listed es (length list)) list) (block_records m (listed es (length list)) list blocks)
totals-same m es list labels blocks some is =
    let n : length (listed es (length list)) ≡ length list = listed-length es (length list) in
    let named : labels ≡ labels_to (graph m (listed es (length list))) (length (listed es (length list))) =
    is ∙ ap (labels_to (graph m (listed es (length list)))) (sym n) in
    ap (λ (l : List ℕ). total_lines l (block_labels l list blocks)) named
    ∙ ap₂ total_lines (sym (region-labels m (listed es (length list)) list))
    (sym (block-labels m (listed es (length list)) list blocks some (sym n)))
