-- Every region that is reached is well formed (`reached-formed`): its bytes are as document 01 says, its clocks are within their
-- bounds, and its ranks have no gaps. Delay and reset keep a region so (`delayed-formed`, `reset-formed`). What it says about the bytes
-- is in `formed-..`.
use Prim.Native.Nat.{ℕ, zero, suc, ◌+◌, ◌≤◌, ◌<◌, min}
use native.Mathlib.Omega.{arith}
use Rattle.std.specs.Prelude.{◌⊎◌, ◌≡◌, Bool, false, cond, eqb, ltb, length, Some}
use Rattle.std.proofs.Common.{inl, inr, sym, ◌∙◌, ap, ap₂, eqb-true, ne_eqb, ltb-true, ltb-false, lt-ltb, le-ltb}
use Rattle.std.proofs.Math.Path.{refl, subst}
use Rattle.std.proofs.Math.Bool.{true}
use mathlib.Core.List.Memᴰ
use mathlib.Core.List.{List, [], ◌∷◌, map, Memᴰ}
use Rattle.std.proofs.Math.ListN.{get_or}
use Rattle.std.proofs.lemmas.Bool.{eqb-false}
use Rattle.table.proofs.Laws.Models.{sound}
use Rattle.table.specs.Model.{Model, Edge, reset_in}
use Rattle.table.specs.Reading.{accepted, read_table}
use Rattle.table.specs.declared.model.Branch.{Branch}
use Rattle.clocks.specs.Cells.{Cell, over, at, fraction_of, member, closed, restart, restarted, reset}
use Rattle.clocks.specs.Cells.{leaving, some, leave, highest, arrive, Follow, nothing, cells, delay}
use Rattle.clocks.specs.Packed.{over_part, cell_of, clock_of, clock_at, unpack, byte_at, pack, moved_to, delayed, after_reset}
use Rattle.clocks.specs.Packed.{cell-over, cell_at, clock-within, clock-beyond}
use Rattle.regions.specs.Graph.{largest_constant, bounds_of, landing, available, delay_next, gather, edge_next, first}
use Rattle.regions.specs.Graph.{by-delay, by-edge, Reached, begun, led}
use Rattle.regions.specs.Laws.Bounds.{constants-small}
use Rattle.clocks.specs.Cells.{Proper, NoGap}
use Rattle.regions.specs.Formed.{Small, Formed}
use Rattle.clocks.proofs.Laws.Cells.{reset-proper, delay-proper, reset-no-gap, delay-no-gap, delay-cases, gives-own, has}
use Rattle.regions.specs.Laws.Worklist.{no_more}
use Rattle.regions.specs.Worklist.{Different}
use Rattle.regions.specs.Laws.Call.{false-true, follows, gathered, kept}
use Rattle.clocks.specs.declared.clock.Clock.{Clock}
use Rattle.clocks.specs.declared.region.Region.{Region}
use Rattle.clocks.specs.declared.region.Bounds.{Bounds}

both : (b : Bool) → (b ≡ true) ⊎ (b ≡ false)
both true = inl refl
both false = inr refl

-- ---- Ranks without gaps are no more than the clocks

-- The numbers from n down to 1.
down : ℕ → List ℕ
down zero = []
down (suc n) = suc n ∷ down n

-- They are n different numbers, each from 1 to n.

down-length : (n : ℕ) → length (down n) ≡ n
unfolding down
down-length zero = refl
down-length (suc n) = omega (arith, down-length n)

down-at : (d n i : ℕ) → i < n → get_or (down n) i d + i ≡ n
unfolding down
down-at d zero i h = absurd (omega arith)
down-at d (suc n) zero h = omega arith
down-at d (suc n) (suc i) h = omega (arith, down-at d n i (omega arith))

down-different : (n : ℕ) → Different (down n)
down-different n d i j p q e =
    omega (arith, down-length n, e, down-at d n i (omega (arith, p, down-length n)), down-at d n j (omega (arith, q, down-length n)))

down-within : (n x : ℕ) → Memᴰ x (down n) → (0 < x) × (x ≤ n)
unfolding down
down-within zero x m = absurd (Memᴰ.not-nil m)
down-within (suc n) x (Memᴰ.head p) = (omega (arith, p), omega (arith, p))
down-within (suc n) x (Memᴰ.tail m) = let r = down-within n x m in (r.0, omega (arith, r.1))

listed : (k : ℕ) (l : List ℕ) → member k l ≡ true → Memᴰ k l
listed k [] e = false-true e
listed k (x ∷ l) e =
    elim (both (eqb k x)) [ inl t ↦ Memᴰ.head (eqb-true k x t) | inr t ↦ Memᴰ.tail (listed k l (rw t at e)) ]

few-ranks : (cs : List Cell) (f : ℕ) → NoGap cs → member f (map fraction_of cs) ≡ true → f ≤ length (map fraction_of cs)
few-ranks cs f h e =
    let fs = map fraction_of cs in
    let n = no_more (down f) fs (down-different f) (λ x m. let r = down-within f x m in listed x fs (h f e x r.0 r.1)) in
    omega (arith, n, down-length f)

-- ---- Well-formed regions

-- The bound that a cell carries.
abbrev pub bound_of : Cell → ℕ
bound_of (over m) = m
bound_of (at m w f) = m

-- Four cells by their numbers.
abbrev pub cells_by : (ℕ → Cell) → List Cell
cells_by c = c 0 ∷ c 1 ∷ c 2 ∷ c 3 ∷ []

-- ---- Cells that are written and read again

module _ (bounds : Bounds) where
  -- What cell i of a list that is read is, and what it must be to be written.
  abbrev pub Read : ℕ → Cell → Type 0
  Read i c = (i < bounds.count → bound_of c ≡ get_or bounds.bound i 0) × (bounds.count ≤ i → c ≡ over 0)

  abbrev Fit : ℕ → Cell → Type 0
  Fit i c = (i < bounds.count → bound_of c ≡ get_or bounds.bound i 0) × (bounds.count ≤ i → fraction_of c ≡ 0)

  bound-kept : (k : Clock) → bound_of (cell_of k) ≡ k.bound
  bound-kept k = go (eqb k.whole over_part)
    where
      go : (b : Bool) → bound_of (cond b (over k.bound) (at k.bound k.whole k.rank)) ≡ k.bound
      go true = refl
      go false = refl

  -- A clock of a region, as it is read.
  pub is_read : (r : Region) (i : ℕ) → Read i (cell_of (clock_at bounds r i))
  is_read r i = (
    λ h. bound-kept (clock_at bounds r i) ∙ ap (λ (k : Clock). k.bound) (sym (clock-within bounds r i _ _ _ h refl refl refl)),
    λ h. ap cell_of (sym (clock-beyond bounds r i h)),
  )

  -- A change that keeps bounds, and makes no rank where the clock was over.
  read-fit : (g : Cell → Cell) → ((c : Cell) → bound_of (g c) ≡ bound_of c) → fraction_of (g (over 0)) ≡ 0 → (i : ℕ) (c : Cell)
      → Read i c → Fit i (g c)
  read-fit g same none i c h = (λ p. same c ∙ h.0 p, λ p. ap (λ x. fraction_of (g x)) (h.1 p) ∙ none)

  -- Delay and reset are such changes.

  leave-bound : (any : Bool) (c : Cell) → bound_of (leave any c) ≡ bound_of c
  leave-bound any (over m) = refl
  leave-bound any (at m w zero) = go (ltb w m)
    where
      go : (b : Bool) → bound_of (cond b (at m w 1) (over m)) ≡ m
      go true = refl
      go false = refl
  leave-bound any (at m w (suc f)) = refl

  arrive-bound : (top : ℕ) (c : Cell) → bound_of (arrive top c) ≡ bound_of c
  arrive-bound top (over m) = refl
  arrive-bound top (at m w f) = go (eqb f top)
    where
      go : (b : Bool) → bound_of (cond b (at m (suc w) 0) (at m w f)) ≡ m
      go true = refl
      go false = refl

  closed-bound : (fs : List ℕ) (b : Bool) (c : Cell) → bound_of (closed fs (cond b (restart c) c)) ≡ bound_of c
  closed-bound fs true (over m) = refl
  closed-bound fs true (at m w f) = refl
  closed-bound fs false (over m) = refl
  closed-bound fs false (at m w f) = refl

  closed_none : (fs : List ℕ) (b : Bool) → fraction_of (closed fs (cond b (restart (over 0)) (over 0))) ≡ 0
  closed_none fs true = refl
  closed_none fs false = refl

  -- The byte of a clock.

  byte-within : (i x : ℕ) → i < bounds.count → byte_at bounds.count i x ≡ x
  byte-within i x h = rw (lt-ltb i bounds.count h) refl

  byte-beyond : (i x : ℕ) → bounds.count ≤ i → byte_at bounds.count i x ≡ 0
  byte-beyond i x h = rw (le-ltb i bounds.count h) refl

  -- A proper cell is what its bytes stand for.
  own : (c : Cell) → bound_of c ≤ 15 → Proper c → fraction_of c ≤ 4
      → cell_of (record { bound = bound_of c; whole = (clock_of c).whole; rank = (clock_of c).rank }) ≡ c
  own (over m) h p few = cell-over (record { bound = m; whole = over_part; rank = 0 }) refl
  own (at m w f) h p few =
      let low = p.0 in
      let ew : min w 255 ≡ w = omega (arith, low, h) in
      let ef : min f 255 ≡ f = omega (arith, few) in
      cell_at (record { bound = m; whole = min w 255; rank = min f 255 }) (λ e. omega (arith, e, low, h))
      ∙ ap₂ (λ (x y : ℕ). at m x y) ew ef

  over-byte : (c : Cell) → bound_of c ≤ 15 → Proper c → (clock_of c).whole ≡ over_part → (clock_of c).rank ≡ 0
  over-byte (over m) h p e = refl
  over-byte (at m w f) h p e = let low = p.0 in absurd (omega (arith, low, h, e))

  pub within : (i : ℕ) → (i < bounds.count) ⊎ (bounds.count ≤ i)
  within i =
      elim (both (ltb i bounds.count)) [
        | inl e ↦ inl (ltb-true i bounds.count e)
        | inr e ↦ inr (ltb-false i bounds.count e)
      ]

  -- A region whose bytes of clock i are those of a cell that fits: the cell that is read there.
  module _ (small : Small bounds) (r : Region) (i : ℕ) (c : Cell)
      (whole_is : get_or r.whole i 0 ≡ byte_at bounds.count i (clock_of c).whole)
      (rank_is : get_or r.rank i 0 ≡ byte_at bounds.count i (clock_of c).rank)
      (fit : Fit i c) (p : Proper c) (few : fraction_of c ≤ 4) where
    low-bound : i < bounds.count → bound_of c ≤ 15
    low-bound h = omega (arith, fit.0 h, small.low i)

    again : i < bounds.count → cell_of (clock_at bounds r i) ≡ c
    again h =
        ap cell_of (sym (clock-within bounds r i (bound_of c) (clock_of c).whole (clock_of c).rank h (fit.0 h)
        (sym (whole_is ∙ byte-within i _ h)) (sym (rank_is ∙ byte-within i _ h))))
        ∙ own c (low-bound h) p few

    again-rank : fraction_of c ≡ fraction_of (cell_of (clock_at bounds r i))
    again-rank =
        elim (within i) [
          | inl h ↦ ap fraction_of (sym (again h))
          | inr h ↦ fit.1 h ∙ sym (ap fraction_of ((is_read r i).1 h))
        ]

    again-proper : Proper (cell_of (clock_at bounds r i))
    again-proper =
        elim (within i) [
          | inl h ↦ subst Proper (sym (again h)) p
          | inr h ↦ subst Proper (sym ((is_read r i).1 h)) tt
        ]

    again-over : get_or r.whole i 0 ≡ over_part → get_or r.rank i 0 ≡ 0
    again-over e =
        elim (within i) [
          | inl h ↦ rank_is ∙ byte-within i _ h ∙ over-byte c (low-bound h) p (sym (whole_is ∙ byte-within i _ h) ∙ e)
          | inr h ↦ rank_is ∙ byte-beyond i _ h
        ]

    again-beyond : bounds.count ≤ i → (get_or r.whole i 0 ≡ 0) × (get_or r.rank i 0 ≡ 0)
    again-beyond h = (whole_is ∙ byte-beyond i _ h, rank_is ∙ byte-beyond i _ h)

  -- Four cells that fit, written as a region.
  module _ (small : Small bounds) (l : ℕ) (x y z w : Cell) (fx : Fit 0 x) (fy : Fit 1 y) (fz : Fit 2 z) (fw : Fit 3 w)
      (p : (c : Cell) → Memᴰ c (x ∷ y ∷ z ∷ w ∷ []) → Proper c) (g : NoGap (x ∷ y ∷ z ∷ w ∷ [])) where
    abbrev four : List Cell
    four = x ∷ y ∷ z ∷ w ∷ []

    low-rank : (c : Cell) → Memᴰ c four → fraction_of c ≤ 4
    low-rank c m = few-ranks four (fraction_of c) g (gives-own (fraction_of c) four c m refl)

    mx : Memᴰ x four
    mx = Memᴰ.head refl

    my : Memᴰ y four
    my = Memᴰ.tail (Memᴰ.head refl)

    mz : Memᴰ z four
    mz = Memᴰ.tail (Memᴰ.tail (Memᴰ.head refl))

    mw : Memᴰ w four
    mw = Memᴰ.tail (Memᴰ.tail (Memᴰ.tail (Memᴰ.head refl)))

    abbrev written : Region
    written = pack bounds l four

    written_over : (i : ℕ) → get_or written.whole i 0 ≡ over_part → get_or written.rank i 0 ≡ 0
    written_over zero = again-over small written 0 x refl refl fx (p x mx) (low-rank x mx)
    written_over (suc zero) = again-over small written 1 y refl refl fy (p y my) (low-rank y my)
    written_over (suc (suc zero)) = again-over small written 2 z refl refl fz (p z mz) (low-rank z mz)
    written_over (suc (suc (suc zero))) = again-over small written 3 w refl refl fw (p w mw) (low-rank w mw)
    written_over (suc (suc (suc (suc i)))) = λ e. refl

    written-beyond : (i : ℕ) → bounds.count ≤ i → (get_or written.whole i 0 ≡ 0) × (get_or written.rank i 0 ≡ 0)
    written-beyond zero = again-beyond small written 0 x refl refl fx (p x mx) (low-rank x mx)
    written-beyond (suc zero) = again-beyond small written 1 y refl refl fy (p y my) (low-rank y my)
    written-beyond (suc (suc zero)) = again-beyond small written 2 z refl refl fz (p z mz) (low-rank z mz)
    written-beyond (suc (suc (suc zero))) = again-beyond small written 3 w refl refl fw (p w mw) (low-rank w mw)
    written-beyond (suc (suc (suc (suc i)))) = λ e. (refl, refl)

    written-proper : (c : Cell) → Memᴰ c (unpack bounds written) → Proper c
    written-proper c (Memᴰ.head e) = subst Proper (sym e) (again-proper small written 0 x refl refl fx (p x mx) (low-rank x mx))
    written-proper c (Memᴰ.tail (Memᴰ.head e)) =
        subst Proper (sym e) (again-proper small written 1 y refl refl fy (p y my) (low-rank y my))
    written-proper c (Memᴰ.tail (Memᴰ.tail (Memᴰ.head e))) =
        subst Proper (sym e) (again-proper small written 2 z refl refl fz (p z mz) (low-rank z mz))
    written-proper c (Memᴰ.tail (Memᴰ.tail (Memᴰ.tail (Memᴰ.head e)))) =
        subst Proper (sym e) (again-proper small written 3 w refl refl fw (p w mw) (low-rank w mw))
    written-proper c (Memᴰ.tail (Memᴰ.tail (Memᴰ.tail (Memᴰ.tail n)))) = absurd (Memᴰ.not-nil n)

    written-ranks : map fraction_of four ≡ map fraction_of (unpack bounds written)
    written-ranks =
        rw (
          sym (again-rank small written 0 x refl refl fx (p x mx) (low-rank x mx)),
          sym (again-rank small written 1 y refl refl fy (p y my) (low-rank y my)),
          sym (again-rank small written 2 z refl refl fz (p z mz) (low-rank z mz)),
          sym (again-rank small written 3 w refl refl fw (p w mw) (low-rank w mw)),
        ) refl

    written-formed : Formed bounds written
    written-formed =
        record {
          wholes = refl;
          ranks = refl;
          over-rank = written_over;
          beyond = written-beyond;
          proper = written-proper;
          no_gap = subst
              (λ (fs : List ℕ). (f : ℕ) → member f fs ≡ true → (k : ℕ) → 0 < k → k ≤ f → member k fs ≡ true)
              written-ranks g;
        }

  -- Cells as they are read, written as a region: it is well formed, and they are what is read there.
  module _ (small : Small bounds) (l : ℕ) (c : ℕ → Cell) (read : (i : ℕ) → Read i (c i))
      (p : (x : Cell) → Memᴰ x (cells_by c) → Proper x) (g : NoGap (cells_by c)) where
    fit : (i : ℕ) → Fit i (c i)
    fit i = read-fit (λ x. x) (λ x. refl) refl i (c i) (read i)

    pub cells-formed : Formed bounds (pack bounds l (cells_by c))
    cells-formed = written-formed small l (c 0) (c 1) (c 2) (c 3) (fit 0) (fit 1) (fit 2) (fit 3) p g

    cell-again : (i : ℕ) → Memᴰ (c i) (cells_by c)
        → get_or (pack bounds l (cells_by c)).whole i 0 ≡ byte_at bounds.count i (clock_of (c i)).whole
        → get_or (pack bounds l (cells_by c)).rank i 0 ≡ byte_at bounds.count i (clock_of (c i)).rank
        → cell_of (clock_at bounds (pack bounds l (cells_by c)) i) ≡ c i
    cell-again i n ew er =
        elim (within i) [
          | inl h ↦
              let few = few-ranks (cells_by c) (fraction_of (c i)) g (gives-own (fraction_of (c i)) (cells_by c) (c i) n refl) in
              again small (pack bounds l (cells_by c)) i (c i) ew er (fit i) (p (c i) n) few h
          | inr h ↦ (is_read (pack bounds l (cells_by c)) i).1 h ∙ sym ((read i).1 h)
        ]

    pub cells-again : unpack bounds (pack bounds l (cells_by c)) ≡ cells_by c
    cells-again =
        let e₀ = cell-again 0 (Memᴰ.head refl) refl refl in
        let e₁ = cell-again 1 (Memᴰ.tail (Memᴰ.head refl)) refl refl in
        let e₂ = cell-again 2 (Memᴰ.tail (Memᴰ.tail (Memᴰ.head refl))) refl refl in
        let e₃ = cell-again 3 (Memᴰ.tail (Memᴰ.tail (Memᴰ.tail (Memᴰ.head refl)))) refl refl in
        λ j. e₀ j ∷ e₁ j ∷ e₂ j ∷ e₃ j ∷ []

-- ---- Delay and reset keep a region well formed

module _ (bounds : Bounds) (r : Region) (small : Small bounds) (formed : Formed bounds r) where
  -- The region of cells that follow by delay.
  follow-formed : (cs : List Cell) → delay (unpack bounds r) ≡ cells cs → Formed bounds (pack bounds r.location cs)
  follow-formed cs e =
      elim (delay-cases us cs e) [
        | inl q ↦ subst (λ ds. Formed bounds (pack bounds r.location ds)) q
            (by (leave (some leaving us)) (leave-bound bounds (some leaving us)) refl (e ∙ ap cells (sym q)))
        | inr q ↦ subst (λ ds. Formed bounds (pack bounds r.location ds)) q.1
            (by (arrive (highest us)) (arrive-bound bounds (highest us)) refl (e ∙ ap cells (sym q.1)))
      ]
    where
      us : List Cell
      us = unpack bounds r

      by : (g : Cell → Cell) → ((c : Cell) → bound_of (g c) ≡ bound_of c) → fraction_of (g (over 0)) ≡ 0
          → delay (unpack bounds r) ≡ cells (map g (unpack bounds r)) → Formed bounds (pack bounds r.location (map g (unpack bounds r)))
      by g same none d =
          let fit : (i : ℕ) → Fit bounds i (g (cell_of (clock_at bounds r i))) =
          λ i. read-fit bounds g same none i _ (is_read bounds r i) in
          written-formed bounds small r.location _ _ _ _ (fit 0) (fit 1) (fit 2) (fit 3)
          (delay-proper (unpack bounds r) _ formed.proper d) (delay-no-gap (unpack bounds r) _ formed.no_gap d)

  moved-formed : (f : Follow) → delay (unpack bounds r) ≡ f → (q : Region) → moved_to bounds r f ≡ Some q → Formed bounds q
  moved-formed nothing e q a = absurd (let z : ◌≡◌ {A = ℕ} 0 1 = cc in omega arith)
  moved-formed (cells cs) e q a =
      let same : pack bounds r.location cs ≡ q = cc in
      subst (Formed bounds) same (follow-formed cs e)

  pub delayed-formed : (q : Region) → delayed bounds r ≡ Some q → Formed bounds q
  unfolding delayed
  delayed-formed q a = moved-formed (delay (unpack bounds r)) refl q a

  -- The cells after a reset, at any location.
  landed-formed : (mask l : ℕ) → Formed bounds (pack bounds l (reset mask (unpack bounds r)))
  landed-formed mask l =
      written-formed bounds small l _ _ _ _ (fit 0) (fit 1) (fit 2) (fit 3)
      (reset-proper mask (unpack bounds r) formed.proper) (reset-no-gap mask (unpack bounds r))
    where
      fs : List ℕ
      fs = map fraction_of (restarted mask 0 (unpack bounds r))

      fit : (i : ℕ)
          → Fit bounds i (closed fs (cond (reset_in mask i) (restart (cell_of (clock_at bounds r i))) (cell_of (clock_at bounds r i))))
      fit i =
          read-fit bounds (λ c. closed fs (cond (reset_in mask i) (restart c) c)) (closed-bound bounds fs (reset_in mask i))
          (closed_none bounds fs (reset_in mask i)) i _ (is_read bounds r i)

  pub reset-formed : (mask : ℕ) → Formed bounds (after_reset bounds r mask)
  unfolding after_reset
  reset-formed mask = landed-formed mask r.location

  landing-formed : (b : Branch) → Formed bounds (landing bounds r b)
  unfolding landing after_reset
  landing-formed b = landed-formed b.mask b.target

-- ---- Every region that is reached is well formed

-- The ranks of region 0.
abbrev no_ranks : List ℕ
no_ranks = 0 ∷ 0 ∷ 0 ∷ 0 ∷ []

module _ (m : Model) (few : m.clocks ≤ 4) (low : largest_constant m ≤ 15) where
  pub model-small : Small (bounds_of m)
  unfolding bounds_of
  model-small = record { few = few; low = each }
    where
      each : (i : ℕ) → get_or (largest_constant m ∷ largest_constant m ∷ largest_constant m ∷ largest_constant m ∷ []) i 0 ≤ 15
      each zero = low
      each (suc zero) = low
      each (suc (suc zero)) = low
      each (suc (suc (suc zero))) = low
      each (suc (suc (suc (suc i)))) = omega arith

  -- The clocks of region 0.
  zero-cell : (i : ℕ) → get_or (first m).whole i 0 ≡ 0 → get_or (first m).rank i 0 ≡ 0
      → Proper (cell_of (clock_at (bounds_of m) (first m) i)) × (fraction_of (cell_of (clock_at (bounds_of m) (first m) i)) ≡ 0)
  zero-cell i ew er =
      elim (within (bounds_of m) i) [
        | inl h ↦
            let e : cell_of (clock_at (bounds_of m) (first m) i) ≡ at (get_or (bounds_of m).bound i 0) 0 0 =
            ap cell_of (sym (clock-within (bounds_of m) (first m) i _ 0 0 h refl (sym ew) (sym er))) in
            (subst Proper (sym e) (omega arith, λ q. refl), ap fraction_of e)
        | inr h ↦
            let e = (is_read (bounds_of m) (first m) i).1 h in
            (subst Proper (sym e) tt, ap fraction_of e)
      ]

  first-formed : Formed (bounds_of m) (first m)
  unfolding first
  first-formed =
      record {
        wholes = refl;
        ranks = refl;
        over-rank = λ i e. zeros i;
        beyond = λ i h. (zeros i, zeros i);
        proper = all-proper;
        no_gap = subst (λ (fs : List ℕ). (f : ℕ) → member f fs ≡ true → (k : ℕ) → 0 < k → k ≤ f → member k fs ≡ true) no-ranks
            (λ f e k p q. absurd (none f e (omega (arith, p, q))));
      }
    where
      zeros : (i : ℕ) → get_or no_ranks i 0 ≡ 0
      zeros zero = refl
      zeros (suc zero) = refl
      zeros (suc (suc zero)) = refl
      zeros (suc (suc (suc zero))) = refl
      zeros (suc (suc (suc (suc i)))) = refl

      all-proper : (c : Cell) → Memᴰ c (unpack (bounds_of m) (first m)) → Proper c
      all-proper c (Memᴰ.head e) = subst Proper (sym e) (zero-cell 0 refl refl).0
      all-proper c (Memᴰ.tail (Memᴰ.head e)) = subst Proper (sym e) (zero-cell 1 refl refl).0
      all-proper c (Memᴰ.tail (Memᴰ.tail (Memᴰ.head e))) = subst Proper (sym e) (zero-cell 2 refl refl).0
      all-proper c (Memᴰ.tail (Memᴰ.tail (Memᴰ.tail (Memᴰ.head e)))) =
          subst Proper (sym e) (zero-cell 3 refl refl).0
      all-proper c (Memᴰ.tail (Memᴰ.tail (Memᴰ.tail (Memᴰ.tail n)))) = absurd (Memᴰ.not-nil n)

      no-ranks : no_ranks ≡ map fraction_of (unpack (bounds_of m) (first m))
      no-ranks =
          rw ((zero-cell 0 refl refl).1, (zero-cell 1 refl refl).1, (zero-cell 2 refl refl).1, (zero-cell 3 refl refl).1) refl

      none : (f : ℕ) → member f no_ranks ≡ true → 0 < f → ⊥
      none f e h = let t = ne_eqb f 0 (λ q. omega (arith, q, h)) in false-true (rw t at e)

  by-delay-formed : (r q : Region) → Formed (bounds_of m) r → Memᴰ q (delay_next m r) → Formed (bounds_of m) q
  by-delay-formed r q h n = delayed-formed (bounds_of m) r model-small h q (follows m r q n).0

  by-edge-formed : (r q : Region) (e : Edge) → Formed (bounds_of m) r → Memᴰ q (edge_next m r e) → Formed (bounds_of m) q
  unfolding edge_next
  by-edge-formed r q e h n =
      let land : Branch → List Region = λ b. landing (bounds_of m) r b ∷ [] in
      let k = kept m (available m e r) (gather land e.branches) q n in
      let s = gathered land q e.branches k.1 in
      subst (Formed (bounds_of m)) (sym (Memᴰ.eq_of_singleton s.2)) (landing-formed (bounds_of m) r model-small h s.0)

  pub reached-formed : (r : Region) → Reached m r → Formed (bounds_of m) r
  reached-formed r begun = first-formed
  reached-formed r (led {r = x} s (by-delay n)) = by-delay-formed x r (reached-formed x s) n
  reached-formed r (led {r = x} s (by-edge {e} a n)) = by-edge-formed x r e (reached-formed x s) n

-- ---- What a well-formed region says about its bytes

module _ (bounds : Bounds) (r : Region) (small : Small bounds) (formed : Formed bounds r) where
  listed-cell : (i : ℕ) → i < 4 → Memᴰ (cell_of (clock_at bounds r i)) (unpack bounds r)
  listed-cell zero h = Memᴰ.head refl
  listed-cell (suc zero) h = Memᴰ.tail (Memᴰ.head refl)
  listed-cell (suc (suc zero)) h = Memᴰ.tail (Memᴰ.tail (Memᴰ.head refl))
  listed-cell (suc (suc (suc zero))) h = Memᴰ.tail (Memᴰ.tail (Memᴰ.tail (Memᴰ.head refl)))
  listed-cell (suc (suc (suc (suc i)))) h = absurd (omega arith)

  -- A clock that is not over, as a cell.
  pub cell-is : (i : ℕ) → i < bounds.count → (get_or r.whole i 0 ≡ over_part → ⊥)
      → cell_of (clock_at bounds r i) ≡ at (get_or bounds.bound i 0) (get_or r.whole i 0) (get_or r.rank i 0)
  cell-is i h e =
      ap cell_of (sym (clock-within bounds r i _ _ _ h refl refl refl))
      ∙ cell_at (record { bound = get_or bounds.bound i 0; whole = get_or r.whole i 0; rank = get_or r.rank i 0 }) e

  -- One that is over.
  pub cell-is-over : (i : ℕ) → i < bounds.count → get_or r.whole i 0 ≡ over_part
      → cell_of (clock_at bounds r i) ≡ over (get_or bounds.bound i 0)
  cell-is-over i h e =
      ap cell_of (sym (clock-within bounds r i _ _ _ h refl refl refl))
      ∙ cell-over (record { bound = get_or bounds.bound i 0; whole = get_or r.whole i 0; rank = get_or r.rank i 0 }) e

  pub over-or : (i : ℕ) → (get_or r.whole i 0 ≡ over_part) ⊎ (get_or r.whole i 0 ≡ over_part → ⊥)
  over-or i =
      elim (both (eqb (get_or r.whole i 0) over_part)) [
        | inl e ↦ inl (eqb-true (get_or r.whole i 0) over_part e)
        | inr e ↦ inr (eqb-false (get_or r.whole i 0) over_part e)
      ]

  -- A clock that is not over is at most at its bound, and there it has rank 0.
  pub proper-at : (i : ℕ) → i < bounds.count → (get_or r.whole i 0 ≡ over_part → ⊥)
      → (get_or r.whole i 0 ≤ get_or bounds.bound i 0) × (get_or r.whole i 0 ≡ get_or bounds.bound i 0 → get_or r.rank i 0 ≡ 0)
  proper-at i h e = subst Proper (cell-is i h e) (formed.proper _ (listed-cell i (omega (arith, small.few, h))))

  -- A clock is over or at most at its bound, and there it has rank 0.
  pub formed-within : (i : ℕ) → i < bounds.count → (get_or r.whole i 0 ≡ over_part) ⊎ (get_or r.whole i 0 ≤ get_or bounds.bound i 0)
  formed-within i h = elim (over-or i) [ inl e ↦ inl e | inr e ↦ inr (proper-at i h e).0 ]

  pub formed-at-bound : (i : ℕ) → i < bounds.count → get_or r.whole i 0 ≡ get_or bounds.bound i 0 → get_or r.rank i 0 ≡ 0
  formed-at-bound i h q = elim (over-or i) [ inl e ↦ formed.over-rank i e | inr e ↦ (proper-at i h e).1 q ]

  rank-is-byte : (i : ℕ) → fraction_of (cell_of (clock_at bounds r i)) ≡ get_or r.rank i 0
  rank-is-byte i =
      elim (within bounds i) [
        | inl h ↦ elim (over-or i) [
          | inl e ↦ ap fraction_of (cell-is-over i h e) ∙ sym (formed.over-rank i e)
          | inr e ↦ ap fraction_of (cell-is i h e)
        ]
        | inr h ↦ ap fraction_of ((is_read bounds r i).1 h) ∙ sym (formed.beyond i h).1
      ]

  cell-rank : (c : Cell) (k : ℕ) → Memᴰ c (unpack bounds r) → k ≡ fraction_of c → (j : ℕ) × (get_or r.rank j 0 ≡ k)
  cell-rank c k (Memᴰ.head e) q = (0, sym (q ∙ ap fraction_of e ∙ rank-is-byte 0))
  cell-rank c k (Memᴰ.tail (Memᴰ.head e)) q = (1, sym (q ∙ ap fraction_of e ∙ rank-is-byte 1))
  cell-rank c k (Memᴰ.tail (Memᴰ.tail (Memᴰ.head e))) q = (2, sym (q ∙ ap fraction_of e ∙ rank-is-byte 2))
  cell-rank c k (Memᴰ.tail (Memᴰ.tail (Memᴰ.tail (Memᴰ.head e)))) q =
      (3, sym (q ∙ ap fraction_of e ∙ rank-is-byte 3))
  cell-rank c k (Memᴰ.tail (Memᴰ.tail (Memᴰ.tail (Memᴰ.tail n)))) q = absurd (Memᴰ.not-nil n)

  -- With a rank, every smaller one from 1 on is that of some clock.
  pub formed-no-gap : (i k : ℕ) → 0 < k → k ≤ get_or r.rank i 0 → (j : ℕ) × (get_or r.rank j 0 ≡ k)
  formed-no-gap i k p q =
      elim (within bounds i) [
        | inr h ↦ absurd (omega (arith, p, q, (formed.beyond i h).1))
        | inl h ↦
            let m = listed-cell i (omega (arith, small.few, h)) in
            let e = gives-own (get_or r.rank i 0) (unpack bounds r) _ m (sym (rank-is-byte i)) in
            let x = has k (unpack bounds r) (formed.no_gap (get_or r.rank i 0) e k p q) in
            cell-rank x.0 k x.1 x.2
      ]

  -- A rank is at most 4.
  pub formed-rank : (i : ℕ) → get_or r.rank i 0 ≤ 4
  formed-rank i =
      elim (within bounds i) [
        | inr h ↦ omega (arith, (formed.beyond i h).1)
        | inl h ↦
            let m = listed-cell i (omega (arith, small.few, h)) in
            few-ranks (unpack bounds r) (get_or r.rank i 0) formed.no_gap
            (gives-own (get_or r.rank i 0) (unpack bounds r) _ m (sym (rank-is-byte i)))
      ]

-- Every region that is reached in a model that was read is well formed, and its bounds are small.
pub read-formed : (table : List ℕ) (m : Model) → read_table table ≡ accepted m → (r : Region) → Reached m r
    → Small (bounds_of m) × Formed (bounds_of m) r
read-formed table m e r s =
    let ok = sound table m e in
    let low = constants-small m ok in
    (model-small m ok.clocks low, reached-formed m ok.clocks low r s)
