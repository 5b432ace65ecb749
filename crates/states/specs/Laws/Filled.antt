-- Every well-formed region has a state in it (`filled-placed`): over the denominator 5 a clock has its integer part and, as
-- its fraction, its rank, which is at most 4; a clock that is over is above its bound by one part. Ranks have no gaps, so
-- closing up gives them back.
use Rattle.std.specs.Prelude.{ℕ, zero, suc, ◌+◌, ◌*◌, ◌/◌, ◌%◌, ◌≤◌, ◌<◌, ◌≡◌, refl, cond, eqb, length, take}
use Rattle.std.proofs.Common.{arith, ◌∙◌, ap₂, eqb-true, eq-eqb, ne_eqb, lt-ltb, le-ltb}
use Rattle.std.proofs.Math.Logic.{inl, inr}
use Rattle.std.proofs.Math.Path.{sym, ap}
use mathlib.Core.List.{List, [], ◌∷◌}
use Rattle.std.proofs.Math.ListN.{get_or, length-take}
use Rattle.std.proofs.Math.Seq.{get_or-take}
use Rattle.std.proofs.lemmas.Bool.{eqb-false}
use Rattle.clocks.specs.Cells.{Cell, over, at, close}
use Rattle.clocks.specs.Packed.{over_part, cell_of, clock_of, clock_at, unpack, byte_at, pack}
use Rattle.states.specs.States.{State}
use Rattle.states.specs.Placing.{value_cell, state_cell, state_cells, placed}
use Rattle.clocks.proofs.Laws.Cells.{both}
use Rattle.regions.specs.Laws.Formed.{within, is_read, over-or, cell-is, cell-is-over, proper-at}
use Rattle.regions.specs.Formed.{Small, Formed}
use Rattle.regions.specs.Laws.Formed.{formed-rank}
use Rattle.states.specs.Laws.Fractions.{close-still}
use Rattle.clocks.specs.declared.region.Bounds.{Bounds}
use Rattle.clocks.specs.declared.region.Region.{Region}

-- Clock i of a region, over 5.
abbrev fifths : Bounds → Region → ℕ → ℕ
fifths bounds r i =
    cond (eqb (get_or r.whole i 0) over_part) (5 * get_or bounds.bound i 0 + 1) (5 * get_or r.whole i 0 + get_or r.rank i 0)

abbrev four_fifths : Bounds → Region → List ℕ
four_fifths bounds r = fifths bounds r 0 ∷ fifths bounds r 1 ∷ fifths bounds r 2 ∷ fifths bounds r 3 ∷ []

-- A state in a region. Clocks beyond the count are no values.
unfoldable pub state_in : Bounds → Region → State
state_in bounds r = record { location = r.location; values = take bounds.count (four_fifths bounds r); denominator = 5 }

pub filled-location : (bounds : Bounds) (r : Region) → (state_in bounds r).location ≡ r.location
unfolding state_in
filled-location bounds r = refl

pub filled-denominator : (bounds : Bounds) (r : Region) → 1 ≤ (state_in bounds r).denominator
unfolding state_in
filled-denominator bounds r = omega arith

value-over : (m v : ℕ) → v ≡ 5 * m + 1 → value_cell 5 m v ≡ over m
value-over m v e = rw (lt-ltb (m * 5) v (omega arith)) refl

value-at : (m w f v : ℕ) → v ≡ 5 * w + f → f ≤ 4 → w ≤ m → (w ≡ m → f ≡ 0) → value_cell 5 m v ≡ at m w f
value-at m w f v e few low top =
    let most : v ≤ m * 5 =
    elim (both (eqb w m)) [
      | inl t ↦ omega (arith, e, eqb-true w m t, top (eqb-true w m t))
      | inr t ↦ omega (arith, e, few, low, eqb-false w m t)
    ] in
    let part : v / 5 ≡ w = omega arith in
    let rest : v % 5 ≡ f = omega arith in
    rw (le-ltb (m * 5) v most) (ap₂ (at m) part rest)

four-fifths : (bounds : Bounds) (r : Region) (i : ℕ) → i < 4 → get_or (four_fifths bounds r) i 0 ≡ fifths bounds r i
four-fifths bounds r zero h = refl
four-fifths bounds r (suc zero) h = refl
four-fifths bounds r (suc (suc zero)) h = refl
four-fifths bounds r (suc (suc (suc zero))) h = refl
four-fifths bounds r (suc (suc (suc (suc i)))) h = absurd (omega arith)

-- A list of four numbers, by its numbers.
four-list : (l : List ℕ) → length l ≡ 4 → get_or l 0 0 ∷ get_or l 1 0 ∷ get_or l 2 0 ∷ get_or l 3 0 ∷ [] ≡ l
four-list [] e = absurd (omega arith)
four-list (a ∷ []) e = absurd (omega arith)
four-list (a ∷ b ∷ []) e = absurd (omega arith)
four-list (a ∷ b ∷ c ∷ []) e = absurd (omega arith)
four-list (a ∷ b ∷ c ∷ d ∷ []) e = refl
four-list (a ∷ b ∷ c ∷ d ∷ x ∷ l) e = absurd (omega arith)

module _ (bounds : Bounds) (r : Region) (small : Small bounds) (formed : Formed bounds r) where
  -- The cells of the state are those of the region.
  filled-cell : (i : ℕ) → state_cell bounds (state_in bounds r) i ≡ cell_of (clock_at bounds r i)
  unfolding state_cell state_in
  filled-cell i =
      elim (within bounds i) [
        | inl h ↦
            let v : get_or (take bounds.count (four_fifths bounds r)) i 0 ≡ fifths bounds r i =
            get_or-take bounds.count (four_fifths bounds r) i 0 h ∙ four-fifths bounds r i (omega (arith, small.few, h)) in
            rw (lt-ltb i bounds.count h, v) (elim (over-or bounds r small formed i) [
              | inl e ↦ value-over _ _ (rw (eq-eqb _ _ e) refl) ∙ sym (cell-is-over bounds r small formed i h e)
              | inr e ↦
                  let p = proper-at bounds r small formed i h e in
                  value-at _ _ _ _ (rw (ne_eqb _ _ e) refl) (formed-rank bounds r small formed i) p.0 p.1
                  ∙ sym (cell-is bounds r small formed i h e)
            ])
        | inr h ↦ rw (le-ltb i bounds.count h) (sym ((is_read bounds r i).1 h))
      ]

  -- The bytes of the region's cells are its own.
  whole-byte : (i : ℕ) → byte_at bounds.count i (clock_of (cell_of (clock_at bounds r i))).whole ≡ get_or r.whole i 0
  whole-byte i =
      elim (within bounds i) [
        | inl h ↦ rw (lt-ltb i bounds.count h) (elim (over-or bounds r small formed i) [
          | inl e ↦ ap (λ c. (clock_of c).whole) (cell-is-over bounds r small formed i h e) ∙ sym e
          | inr e ↦
              let low = (proper-at bounds r small formed i h e).0 in
              ap (λ c. (clock_of c).whole) (cell-is bounds r small formed i h e) ∙ omega (arith, low, small.low i)
        ])
        | inr h ↦ rw (le-ltb i bounds.count h) (sym (formed.beyond i h).0)
      ]

  rank-byte : (i : ℕ) → byte_at bounds.count i (clock_of (cell_of (clock_at bounds r i))).rank ≡ get_or r.rank i 0
  rank-byte i =
      elim (within bounds i) [
        | inl h ↦ rw (lt-ltb i bounds.count h) (elim (over-or bounds r small formed i) [
          | inl e ↦ ap (λ c. (clock_of c).rank) (cell-is-over bounds r small formed i h e) ∙ sym (formed.over-rank i e)
          | inr e ↦
              let few = formed-rank bounds r small formed i in
              ap (λ c. (clock_of c).rank) (cell-is bounds r small formed i h e) ∙ omega (arith, few)
        ])
        | inr h ↦ rw (le-ltb i bounds.count h) (sym (formed.beyond i h).1)
      ]

  pack-unpack : pack bounds r.location (unpack bounds r) ≡ r
  pack-unpack =
      ap₂ (λ (x y : List ℕ). record { location = r.location; whole = x; rank = y })
      ((λ j. whole-byte 0 j ∷ whole-byte 1 j ∷ whole-byte 2 j ∷ whole-byte 3 j ∷ []) ∙ four-list r.whole formed.wholes)
      ((λ j. rank-byte 0 j ∷ rank-byte 1 j ∷ rank-byte 2 j ∷ rank-byte 3 j ∷ []) ∙ four-list r.rank formed.ranks)

  -- The state lies in the region.
  pub filled-placed : placed bounds (state_in bounds r) ≡ r
  unfolding placed
  filled-placed =
      let cells : state_cells bounds (state_in bounds r) ≡ unpack bounds r =
      λ j. filled-cell 0 j ∷ filled-cell 1 j ∷ filled-cell 2 j ∷ filled-cell 3 j ∷ [] in
      at-location
      ∙ ap (λ (cs : List Cell). pack bounds r.location (close cs)) cells
      ∙ ap (pack bounds r.location) (close-still (unpack bounds r) formed.no_gap)
      ∙ pack-unpack
    where
      at-location : pack bounds (state_in bounds r).location (close (state_cells bounds (state_in bounds r)))
          ≡ pack bounds r.location (close (state_cells bounds (state_in bounds r)))
      at-location = ap (λ (l : ℕ). pack bounds l (close (state_cells bounds (state_in bounds r)))) (filled-location bounds r)

  -- It has a value for each clock.
  pub filled-values : length (state_in bounds r).values ≡ bounds.count
  unfolding state_in
  filled-values = length-take bounds.count (four_fifths bounds r) ∙ omega (arith, small.few)
