-- For the code of the totals: counts one label at a time, lines one label at a time, and how long they are.
use Rattle.std.specs.Prelude.{ℕ, zero, suc, ◌+◌, ◌*◌, ◌≤◌, ◌<◌, ◌⊎◌, ◌≡◌, refl, Bool, true, false, cond, ◌||◌}
use Rattle.std.specs.Prelude.{eqb, ltb, length, get_or, take, set, replicate}
use Rattle.std.proofs.Math.Decide.{ℕ_discrete}
use Rattle.std.proofs.Common.{add-one, arith, inl, inr, sym, ◌∙◌, ap, ap₂, subst, length-append, length-set, take-suc}
use Rattle.std.proofs.Common.{get_or-set_same, get_or-set_other, eq-eqb, ne_eqb, ltb-true, ltb-false, append-nil}
use mathlib.Core.List.Memᴰ
use mathlib.Core.List.{List, [], ◌∷◌, ◌++◌, map, Memᴰ}
use Rattle.std.proofs.lemmas.List.{length-replicate, get_or-replicate}
use Rattle.text.specs.Text.{line_feed, blank, rising, each, regions_word, blocks_word, label_word, all_word}
use Rattle.text.specs.Laws.Texts.{each_append, each-one, each_map, each-upto-list, rising-hit, rising-miss, rising-skip}
use Rattle.text.specs.Laws.Lengths.{Fits, fits_word, fits-then, fits-upto, half-field, byte-field}
use Rattle.totals.specs.Totals.{count, has_label, largest, TotalRecord, total_of, totals_of, counts_text, label_line, all_line, total_lines}
use Rattle.totals.specs.Counts.{LabelCounts, totals_below, counted_lines}
use Rattle.totals.specs.Laws.Totals.{has_some, largest-most, one}

-- ---- Counts

pub count_most : {A : Type 0} (p : A → Bool) (l : List A) → count p l ≤ length l
count_most p [] = omega arith
count_most p (x ∷ l) = go (p x) (count_most p l)
  where
    go : (b : Bool) → count p l ≤ length l → cond b (suc (count p l)) (count p l) ≤ length (x ∷ l)
    go true rest = omega (arith, rest)
    go false rest = omega (arith, rest)

count-last : (label : ℕ) (l : List ℕ) (x : ℕ)
    → count (λ y. eqb y label) (l ++ (x ∷ [])) ≡ count (λ y. eqb y label) l + one x label
count-last label [] x = go (eqb x label)
  where
    go : (b : Bool) → cond b 1 0 ≡ 0 + cond b 1 0
    go true = refl
    go false = refl
count-last label (y ∷ l) x = go (eqb y label) (count-last label l x)
  where
    go : (b : Bool) → count (λ z. eqb z label) (l ++ (x ∷ [])) ≡ count (λ z. eqb z label) l + one x label
        → cond b (suc (count (λ z. eqb z label) (l ++ (x ∷ [])))) (count (λ z. eqb z label) (l ++ (x ∷ [])))
        ≡ cond b (suc (count (λ z. eqb z label) l)) (count (λ z. eqb z label) l) + one x label
    go true rest = omega (arith, rest)
    go false rest = rest

-- Before the first label all counts are 0.
pub counts-none : (labels : List ℕ) → LabelCounts (take 0 labels) (replicate 256 0)
counts-none labels =
    record { long = length-replicate {A = ℕ} 256 0; holds = λ label h. get_or-replicate 256 label 0 0 h }

-- One label more is counted.
pub counts-on : (labels counts : List ℕ) (i : ℕ) → i < length labels → get_or labels i 0 < 256 → LabelCounts (take i labels) counts
    → LabelCounts (take (i + 1) labels) (set counts (get_or labels i 0) (get_or counts (get_or labels i 0) 0 + 1))
counts-on labels counts i h small c =
    record {
      long = length-set counts x (get_or counts x 0 + 1) ∙ c.long;
      holds = λ label below. at label below (ℕ_discrete label x);
    }
  where
    x : ℕ
    x = get_or labels i 0

    now : (label : ℕ) → count (λ y. eqb y label) (take (i + 1) labels) ≡ count (λ y. eqb y label) (take i labels) + one x label
    now label =
        ap (λ (k : ℕ). count (λ y. eqb y label) (take k labels)) (add-one i)
        ∙ ap (λ (l : List ℕ). count (λ y. eqb y label) l) (take-suc labels i 0 h)
        ∙ count-last label (take i labels) x

    at : (label : ℕ) → label < 256 → Dec (label ≡ x)
        → get_or (set counts x (get_or counts x 0 + 1)) label 0 ≡ count (λ y. eqb y label) (take (i + 1) labels)
    at label below (yes e) =
        let this : one x label ≡ 1 = rw (eq-eqb x label (sym e)) refl in
        let set_here : get_or (set counts x (get_or counts x 0 + 1)) label 0 ≡ get_or counts x 0 + 1 =
        ap (λ (k : ℕ). get_or (set counts x (get_or counts x 0 + 1)) k 0) e
        ∙ get_or-set_same counts x (get_or counts x 0 + 1) 0 (omega (arith, c.long, small)) in
        let before : get_or counts x 0 ≡ count (λ y. eqb y label) (take i labels) =
        ap (λ (k : ℕ). get_or counts k 0) (sym e) ∙ c.holds label below in
        omega (arith, set_here, before, this, now label)
    at label below (no other) =
        let this : one x label ≡ 0 = rw (ne_eqb x label (λ e. other (sym e))) refl in
        let kept = get_or-set_other counts x label (get_or counts x 0 + 1) 0 other in
        omega (arith, kept, c.holds label below, this, now label)

-- What a count comes to is at most how many labels are counted.
pub counts-most : (labels counts : List ℕ) (label : ℕ) → label < 256 → LabelCounts labels counts → get_or counts label 0 ≤ length labels
counts-most labels counts label h c = omega (arith, c.holds label h, count_most (λ x. eqb x label) labels)

-- ---- Lines

count-some : (l : List ℕ) (label : ℕ) → 0 < count (λ x. eqb x label) l → has_label l label ≡ true
count-some [] label h = absurd (omega (arith, h))
count-some (x ∷ l) label h = go (eqb x label) (count-some l label) h
  where
    go : (b : Bool) → (0 < count (λ y. eqb y label) l → has_label l label ≡ true)
        → 0 < cond b (suc (count (λ y. eqb y label) l)) (count (λ y. eqb y label) l) → (b || has_label l label) ≡ true
    go true later k = refl
    go false later k = later k

count_none : (l : List ℕ) (label : ℕ) → count (λ x. eqb x label) l ≡ 0 → has_label l label ≡ false
count_none [] label h = refl
count_none (x ∷ l) label h = go (eqb x label) (count_none l label) h
  where
    go : (b : Bool) → (count (λ y. eqb y label) l ≡ 0 → has_label l label ≡ false)
        → cond b (suc (count (λ y. eqb y label) l)) (count (λ y. eqb y label) l) ≡ 0 → (b || has_label l label) ≡ false
    go true later k = absurd (omega (arith, k))
    go false later k = later k

module _ (regions blocks : List ℕ) (label : ℕ) where
  line-hit : has_label regions label ≡ true → each label_line (totals_below regions blocks (suc label))
      ≡ each label_line (totals_below regions blocks label) ++ label_line (total_of regions blocks label)
  line-hit e =
      each_map label_line (total_of regions blocks) (rising (has_label regions) (suc label))
      ∙ ap (λ (l : List ℕ). each (λ x. label_line (total_of regions blocks x)) l) (rising-hit (has_label regions) label e)
      ∙ each_append (λ x. label_line (total_of regions blocks x)) (rising (has_label regions) label) (label ∷ [])
      ∙ ap₂ (λ (l k : List ℕ). l ++ k) (sym (each_map label_line (total_of regions blocks) (rising (has_label regions) label)))
      (each-one (λ x. label_line (total_of regions blocks x)) label)

  line-miss : has_label regions label ≡ false → each label_line (totals_below regions blocks (suc label))
      ≡ each label_line (totals_below regions blocks label)
  line-miss e = ap (λ (l : List ℕ). each label_line (map (total_of regions blocks) l)) (rising-miss (has_label regions) label e)

-- The lines that go by the counts are those of the labels that regions bear.
module _ (regions blocks of_regions of_blocks : List ℕ) (r : LabelCounts regions of_regions) (b : LabelCounts blocks of_blocks) where
  counted_below : (n : ℕ) → n ≤ 256 → counted_lines of_regions of_blocks n ≡ each label_line (totals_below regions blocks n)
  counted_below zero h = refl
  counted_below (suc n) h = go (counted_below n (omega (arith, h))) (ltb 0 (get_or of_regions n 0)) refl
    where
      made : ℕ → ℕ → TotalRecord
      made x y = record { label = n; regions = x; blocks = y }

      go : counted_lines of_regions of_blocks n ≡ each label_line (totals_below regions blocks n)
          → (t : Bool) → ltb 0 (get_or of_regions n 0) ≡ t
          → counted_lines of_regions of_blocks n ++ cond t (label_line (made (get_or of_regions n 0) (get_or of_blocks n 0))) []
          ≡ each label_line (totals_below regions blocks (suc n))
      go before true e =
          ap₂ (λ (l k : List ℕ). l ++ k) before
          (ap₂ (λ (x y : ℕ). label_line (made x y)) (r.holds n h) (b.holds n h))
          ∙ sym (line-hit regions blocks n (count-some regions n (omega (arith, ltb-true 0 (get_or of_regions n 0) e, r.holds n h))))
      go before false e =
          append-nil (counted_lines of_regions of_blocks n)
          ∙ before
          ∙ sym (line-miss regions blocks n (count_none regions n (omega (arith, ltb-false 0 (get_or of_regions n 0) e, r.holds n h))))

-- Labels are bytes, so that those below 256 are all.
module _ (regions blocks : List ℕ) (small : (x : ℕ) → Memᴰ x regions → x < 256) where
  few : (l : List ℕ) → ((x : ℕ) → Memᴰ x l → x < 256) → largest l < 256
  few [] each = omega arith
  few (x ∷ l) each =
      let first = each x (Memᴰ.head refl) in
      let rest = few l (λ y m. each y (Memᴰ.tail m)) in
      omega (arith, first, rest)

  none-past : (j : ℕ) → suc (largest regions) ≤ j → has_label regions j ≡ false
  none-past j h = go (has_label regions j) refl
    where
      go : (b : Bool) → has_label regions j ≡ b → b ≡ false
      go true e = absurd (omega (arith, h, largest-most regions j (has_some regions j e)))
      go false e = refl

  pub below_all : totals_below regions blocks 256 ≡ totals_of regions blocks
  below_all =
      ap (map (total_of regions blocks))
      (rising-skip (has_label regions) (suc (largest regions)) 256 (omega (arith, few regions small)) (λ j h k. none-past j h))

-- Numbers of a slice of bytes.
pub bytes_small : (l : List ℕ) → ((i : ℕ) → get_or l i 0 < 256) → (x : ℕ) → Memᴰ x l → x < 256
bytes_small [] small x m = absurd (Memᴰ.not-nil m)
bytes_small (y ∷ l) small x m = go (Memᴰ.cases_cons m) (bytes_small l (λ i. small (suc i)) x)
  where
    go : (x ≡ y) ⊎ Memᴰ x l → (Memᴰ x l → x < 256) → x < 256
    go (inl e) later = subst (λ (k : ℕ). k < 256) (sym e) (small 0)
    go (inr k) later = later k

-- The lines of all labels, and then the last.
pub counted-lines : (regions blocks of_regions of_blocks : List ℕ) → ((i : ℕ) → get_or regions i 0 < 256)
    → LabelCounts regions of_regions → LabelCounts blocks of_blocks
    → counted_lines of_regions of_blocks (length of_regions) ++ all_line (length regions) (length blocks) ≡ total_lines regions blocks
counted-lines regions blocks of_regions of_blocks small r b =
    ap (λ (l : List ℕ). l ++ all_line (length regions) (length blocks))
    (ap (λ (n : ℕ). counted_lines of_regions of_blocks n) r.long
    ∙ counted_below regions blocks of_regions of_blocks r b 256 (omega arith)
    ∙ ap (each label_line) (below_all regions blocks (bytes_small regions small)))

-- ---- How long they are

-- There is always the last line.
pub totals-some : (regions blocks : List ℕ) → 0 < length (total_lines regions blocks)
totals-some regions blocks =
    omega (arith, length-append (each label_line (totals_of regions blocks)) (all_line (length regions) (length blocks)))

counts-fit : (regions blocks : ℕ) → regions < 65536 → blocks < 65536 → Fits (counts_text regions blocks) 28
counts-fit regions blocks hr hb =
    fits-then (fits_word (blank ∷ regions_word)) (fits-then (half-field regions hr)
    (fits-then (fits_word blocks_word) (fits-then (half-field blocks hb) (fits_word (line_feed ∷ [])))))

module _ (regions blocks : List ℕ) (small : (x : ℕ) → Memᴰ x regions → x < 256) (hr : length regions < 65536)
    (hb : length blocks < 65536) where
  line-fits : (label : ℕ) → label < 256 → Fits (label_line (total_of regions blocks label)) 37
  line-fits label h =
      fits-then (fits_word label_word) (fits-then (byte-field label h)
      (counts-fit (count (λ x. eqb x label) regions) (count (λ x. eqb x label) blocks)
      (omega (arith, count_most (λ x. eqb x label) regions, hr)) (omega (arith, count_most (λ x. eqb x label) blocks, hb))))

  lines_fit : Fits (each label_line (totals_below regions blocks 256)) (37 * 256)
  lines_fit =
      subst (λ (l : List ℕ). Fits l (37 * 256))
      (sym (each_map label_line (total_of regions blocks) (rising (has_label regions) 256)
      ∙ each-upto-list (λ x. label_line (total_of regions blocks x)) (λ c. cond (has_label regions c) (c ∷ []) []) 256))
      (fits-upto (λ c. each (λ x. label_line (total_of regions blocks x)) (cond (has_label regions c) (c ∷ []) [])) 256 37
      (λ c h. go c h (has_label regions c)))
    where
      go : (c : ℕ) → c < 256 → (b : Bool) → Fits (each (λ x. label_line (total_of regions blocks x)) (cond b (c ∷ []) [])) 37
      go c h true = fits-then (line-fits c h) (fits_word [])
      go c h false = record { within = omega arith }

  -- 256 lines of at most 37 bytes, and the last of at most 31.
  pub totals-fit : length (total_lines regions blocks) ≤ 9503
  totals-fit =
      let lines = subst (λ (l : List TotalRecord). Fits (each label_line l) (37 * 256)) (below_all regions blocks small) lines_fit in
      let all = fits-then (fits_word all_word) (counts-fit (length regions) (length blocks) hr hb) in
      omega (arith, (fits-then lines all).within)
