-- Laws for the code that places a state: each clock by its whole part and fraction, ranks by counting, and the region of the four clocks.
use Rattle.std.specs.Prelude.{ℕ, zero, suc, ◌+◌, ◌*◌, ◌/◌, ◌%◌, ◌≤◌, ◌<◌, min, ◌≡◌, refl, Bool, true, false, cond}
use Rattle.std.specs.Prelude.{not, ◌&&◌, ◌||◌, List, [], ◌∷◌, map, eqb, leb, ltb, length, get_or, take, drop, ◌-◌}
use Rattle.std.specs.List.{list_any}
use Rattle.std.proofs.lemmas.List.{take_all}
use Rattle.std.proofs.Common.{arith, add-one, drop-cons, drop_of_length-le, length-drop, mul-le-mul_right, div-lt_iff_lt-mul}
use Rattle.std.proofs.Common.{sym, ◌∙◌, ap, ap₂, eq-eqb, ne_eqb, eqb-true, lt-ltb, le-ltb, le-leb, leb-true, leb-false}
use Rattle.std.proofs.lemmas.Bool.{eqb-false, lt-leb}
use Rattle.clocks.specs.Cells.{Cell, over, at, fraction_of, member, member-any, rank, closed, close}
use Rattle.clocks.specs.Packed.{over_part, clock_of, byte_at, pack}
use Rattle.states.specs.States.{State}
use Rattle.states.specs.Placing.{state_cell, state_cells, placed}
use Rattle.clocks.specs.declared.region.Bounds.{Bounds}
use Rattle.states.specs.declared.state.Spot.{Spot}
use Rattle.states.specs.Spots.{spot_of, spot_wholes, spot_ranks, is_fresh, fresh_count}

-- ---- One clock

-- A byte times a denominator that the call takes.
pub product_small : (b d : ℕ) → b < 256 → d ≤ 1000000 → b * d < 18446744073709551616
product_small b d hb hd =
    let most : b ≤ 255 = omega arith in
    omega (arith, mul-le-mul_right d most, hd)

-- The whole part of a value is at most the bound that the value does not exceed.
pub whole-small : (b d v : ℕ) → b < 256 → 0 < d → v ≤ b * d → v / d < 256
whole-small b d v byte positive low =
    let most : b ≤ 255 = omega arith in
    let product : b * d ≤ 255 * d = mul-le-mul_right d most in
    (div-lt_iff_lt-mul positive).1 (omega (arith, product, low, positive))

module _ (bounds : Bounds) (s : State) (i b v : ℕ) (bound : b ≡ get_or bounds.bound i 0) (value : v ≡ get_or s.values i 0) where
  -- The clock has a whole part and a fraction.
  pub spot-at : i < bounds.count → v ≤ b * s.denominator → v / s.denominator < 256
      → record { whole = v / s.denominator; fraction = v % s.denominator } ≡ spot_of (state_cell bounds s i)
  unfolding state_cell
  spot-at h low byte =
      let small : v / s.denominator ≡ min (v / s.denominator) 255 = omega (arith, byte) in
      rw (← bound, ← value, lt-ltb i bounds.count h, le-ltb (b * s.denominator) v low)
      (ap (λ (x : ℕ). record { whole = x; fraction = v % s.denominator }) small)

  -- It is over, or the model does not have it.
  pub spot-over : b * s.denominator < v → record { whole = over_part; fraction = 0 } ≡ spot_of (state_cell bounds s i)
  unfolding state_cell
  spot-over past = rw (← bound, ← value, lt-ltb (b * s.denominator) v past) (either (ltb i bounds.count))
    where
      either : (here : Bool) → record { whole = over_part; fraction = 0 } ≡ spot_of (cond here (over b) (over 0))
      either true = refl
      either false = refl

  pub spot-beyond : bounds.count ≤ i → record { whole = over_part; fraction = 0 } ≡ spot_of (state_cell bounds s i)
  unfolding state_cell
  spot-beyond h = rw (le-ltb i bounds.count h) refl

-- ---- Ranks by counting

-- One fraction more: it adds to the rank where it is fresh.
pub rank-more : (x : ℕ) (l : List ℕ) (f : ℕ) → rank (x ∷ l) f ≡ rank l f + fresh_count f x l
rank-more x l zero = none (eqb x 0) refl
  where
    none : (b : Bool) → eqb x 0 ≡ b → 0 ≡ 0 + fresh_count 0 x l
    none true e = rw e refl
    none false e = rw (e, lt-leb x 0 (omega (arith, eqb-false x 0 e))) refl
rank-more x l (suc f) = go (eqb (suc f) x) refl (rank-more x l f)
  where
    go : (b : Bool) → eqb (suc f) x ≡ b → rank (x ∷ l) f ≡ rank l f + fresh_count f x l
        → cond (b || member (suc f) l) (suc (rank (x ∷ l) f)) (rank (x ∷ l) f)
        ≡ cond (member (suc f) l) (suc (rank l f)) (rank l f) + fresh_count (suc f) x l
    go true e before =
        let same : suc f ≡ x = eqb-true (suc f) x e in
        let old : rank (x ∷ l) f ≡ rank l f = before ∙ rw (lt-leb x f (omega (arith, same))) (zeros (eqb x 0) (member x l)) in
        at_last (member (suc f) l) refl old same
      where
        zeros : (a c : Bool) → rank l f + cond ((not a && false) && not c) 1 0 ≡ rank l f
        zeros true c = omega arith
        zeros false c = omega arith

        at_last : (c : Bool) → member (suc f) l ≡ c → rank (x ∷ l) f ≡ rank l f → suc f ≡ x
            → suc (rank (x ∷ l) f) ≡ cond c (suc (rank l f)) (rank l f) + fresh_count (suc f) x l
        at_last true m old same =
            let t : is_fresh (suc f) x l ≡ false = rw (sym same, m) (falls (not (eqb (suc f) 0) && leb (suc f) (suc f))) in
            rw t (omega (arith, old))
          where
            falls : (a : Bool) → (a && false) ≡ false
            falls true = refl
            falls false = refl
        at_last false m old same =
            let t : is_fresh (suc f) x l ≡ true =
            rw (sym same, m, ne_eqb (suc f) 0 (λ q. omega (arith, q)), le-leb (suc f) (suc f) (omega arith)) refl in
            rw t (omega (arith, old))
    go false e before =
        rw (sym (later (leb x f) refl)) (kept (member (suc f) l) before)
      where
        later : (c : Bool) → leb x f ≡ c → is_fresh f x l ≡ is_fresh (suc f) x l
        later true h = rw (h, le-leb x (suc f) (omega (arith, leb-true x f h))) refl
        later false h = rw (h, lt-leb x (suc f) (omega (arith, leb-false x f h, eqb-false (suc f) x e))) refl

        kept : (c : Bool) → rank (x ∷ l) f ≡ rank l f + fresh_count f x l
            → cond c (suc (rank (x ∷ l) f)) (rank (x ∷ l) f) ≡ cond c (suc (rank l f)) (rank l f) + fresh_count f x l
        kept true b = omega (arith, b)
        kept false b = b

-- One fraction more of a list, looked at from the first on.
pub rank-rest : (f : ℕ) (fs : List ℕ) (i : ℕ) → i < length fs
    → rank (drop i fs) f ≡ rank (drop (i + 1) fs) f + fresh_count f (get_or fs i 0) (drop (i + 1) fs)
rank-rest f fs i h =
    ap (λ l. rank l f) (drop-cons fs i 0 h)
    ∙ rank-more (get_or fs i 0) (drop (suc i) fs) f
    ∙ ap (λ k. rank (drop k fs) f + fresh_count f (get_or fs i 0) (drop k fs)) (sym (add-one i))

pub rank-none : (f : ℕ) → rank [] f ≡ 0
rank-none zero = refl
rank-none (suc f) = rank-none f

pub rank-end : (f : ℕ) (fs : List ℕ) (i : ℕ) → length fs ≤ i → rank (drop i fs) f ≡ 0
rank-end f fs i h = ap (λ l. rank l f) (drop_of_length-le fs h) ∙ rank-none f

-- The fractions after one of four.
pub rest-of : (fs : List ℕ) (i : ℕ) → length fs ≡ 4 → take (4 - (i + 1)) (drop (i + 1) fs) ≡ drop (i + 1) fs
rest-of fs i four = take_all (4 - (i + 1)) (drop (i + 1) fs) (omega (arith, length-drop (i + 1) fs, four))

-- What a fraction adds, by the tests of the code.
module _ (f x : ℕ) (l : List ℕ) where
  pub fresh-one : 0 < x → x ≤ f → list_any (λ y. eqb y x) l ≡ false → fresh_count f x l ≡ 1
  fresh-one h low e = rw (ne_eqb x 0 (λ q. omega (arith, q)), le-leb x f low, sym (member-any x l) ∙ e) refl

  pub fresh-zero : x ≤ 0 → fresh_count f x l ≡ 0
  fresh-zero h = rw (eq-eqb x 0 (omega arith)) refl

  pub fresh-above : f < x → fresh_count f x l ≡ 0
  fresh-above h = rw (lt-leb x f h) (falls (not (eqb x 0)))
    where
      falls : (a : Bool) → ◌≡◌ {A = ℕ} (cond ((a && false) && not (member x l)) 1 0) 0
      falls true = refl
      falls false = refl

  pub fresh-met : list_any (λ y. eqb y x) l ≡ true → fresh_count f x l ≡ 0
  fresh-met e = rw (sym (member-any x l) ∙ e) (falls (not (eqb x 0) && leb x f))
    where
      falls : (a : Bool) → ◌≡◌ {A = ℕ} (cond (a && false) 1 0) 0
      falls true = refl
      falls false = refl

pub fresh-most : (f x : ℕ) (l : List ℕ) → fresh_count f x l ≤ 1
fresh-most f x l = one (is_fresh f x l)
  where
    one : (b : Bool) → cond b 1 0 ≤ 1
    one true = omega arith
    one false = omega arith

-- ---- The region

closed-whole : (fs : List ℕ) (c : Cell) → (clock_of (closed fs c)).whole ≡ (clock_of c).whole
closed-whole fs (over m) = refl
closed-whole fs (at m w f) = refl

closed-rank : (fs : List ℕ) (c : Cell) → (clock_of (closed fs c)).rank ≡ min (rank fs (fraction_of c)) 255
closed-rank fs (over m) = refl
closed-rank fs (at m w f) = refl

-- A rank among four is at most four.
few : (fs : List ℕ) (f : ℕ) → rank fs f ≤ length fs
few [] f = omega (arith, rank-none f)
few (x ∷ l) f = omega (arith, rank-more x l f, few l f, fresh-most f x l)

-- The region of the four clocks of a state is the state's region.
pub region-is : (bounds : Bounds) (s : State) (ss : List Spot) (ws rs : List ℕ) → ss ≡ map spot_of (state_cells bounds s)
    → ws ≡ spot_wholes bounds.count ss → rs ≡ spot_ranks bounds.count ss
    → record { location = s.location; whole = ws; rank = rs } ≡ placed bounds s
unfolding placed
region-is bounds s ss ws rs is ew er =
    ap₂ (λ (x y : List ℕ). record { location = s.location; whole = x; rank = y })
    (ew ∙ ap (spot_wholes bounds.count) is ∙ wholes)
    (er ∙ ap (spot_ranks bounds.count) is ∙ ranks)
  where
    cs : List Cell
    cs = state_cells bounds s

    fs : List ℕ
    fs = map fraction_of cs

    whole-byte : (i : ℕ) (c : Cell) → byte_at bounds.count i (spot_of c).whole ≡ byte_at bounds.count i (clock_of (closed fs c)).whole
    whole-byte i c = ap (byte_at bounds.count i) (sym (closed-whole fs c))

    wholes : spot_wholes bounds.count (map spot_of cs) ≡ (pack bounds s.location (close cs)).whole
    wholes =
        rw (
          whole-byte 0 (state_cell bounds s 0),
          whole-byte 1 (state_cell bounds s 1),
          whole-byte 2 (state_cell bounds s 2),
          whole-byte 3 (state_cell bounds s 3),
        ) refl

    rank-byte : (i : ℕ) (c : Cell) → byte_at bounds.count i (rank fs (fraction_of c)) ≡ byte_at bounds.count i (clock_of (closed fs c)).rank
    rank-byte i c =
        let small : rank fs (fraction_of c) ≡ min (rank fs (fraction_of c)) 255 = omega (arith, few fs (fraction_of c)) in
        ap (byte_at bounds.count i) (small ∙ sym (closed-rank fs c))

    ranks : spot_ranks bounds.count (map spot_of cs) ≡ (pack bounds s.location (close cs)).rank
    ranks =
        rw (
          rank-byte 0 (state_cell bounds s 0),
          rank-byte 1 (state_cell bounds s 1),
          rank-byte 2 (state_cell bounds s 2),
          rank-byte 3 (state_cell bounds s 3),
        ) refl
