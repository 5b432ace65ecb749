-- Laws of the memo: what it holds stays right while the dictionary grows, and when a cell is written.
use Rattle.std.specs.Prelude.{ℕ, ◌+◌, ◌-◌, ◌*◌, ◌≤◌, ◌<◌, ◌≡◌, Bool, ◌⊎◌, set, drop}
use native.Mathlib.Omega.{arith}
use Rattle.std.proofs.Math.Path.{sym, ap}
use Rattle.std.proofs.Common.{◌∙◌, subst, inl, inr, ⊎_elim, length-set, length-append, get_or-set_same, get_or-set_other, get_or-take}
use Rattle.std.proofs.Common.{get_or-drop, drop_at}
use mathlib.Core.List.{List, ◌++◌, append_assoc}
use Rattle.std.proofs.Math.ListN.{length, get_or, take, length-drop, get_or-append}
use Rattle.std.proofs.Math.Seq.{length-take-le, ext_get_or, paste, take-length, take-append_seam}
use Rattle.std.proofs.lemmas.List.Edits.{length-paste, drop-paste}
use Rattle.signatures.specs.Laws.Order.{decide, cases}
use Rattle.std.specs.Prelude.{Ok}
use Rattle.signatures.specs.Book.{full, At, Grows}
use Rattle.signatures.specs.Laws.Book.{told-grows}
use Rattle.signatures.specs.Dictionary.{Dictionary, Interns, Tells, entries_of}
use Rattle.signatures.specs.Laws.Dictionary.{interned-old, count-is}
use Rattle.signatures.specs.Memo.{cells, memo_size, max_raw, raw_of, id_of, Noted, Holds, written, Notes}

pub noted-grows : (meaning : List ℕ → List ℕ) (held held' : List (List ℕ)) (memo : List ℕ) → Grows held held' → Noted meaning held memo
    → Noted meaning held' memo
noted-grows meaning held held' memo g n = record { size = n.size; short = n.short; right = λ c h k. g.keeps _ _ (n.right c h k) }

-- A hit.
pub noted-hit : (meaning : List ℕ → List ℕ) (held : List (List ℕ)) (memo : List ℕ) (c : ℕ) (raw : List ℕ) → Noted meaning held memo
    → c < cells → Holds memo c raw
    → At held (id_of memo c) (meaning raw)
noted-hit meaning held memo c raw n h k = subst (λ (r : List ℕ). At held (id_of memo c) (meaning r)) k.is (n.right c h k.some)

-- An empty memo is right.
pub noted-none : (meaning : List ℕ → List ℕ) (held : List (List ℕ)) (memo : List ℕ) → length memo ≡ memo_size →
    ((c : ℕ) → c < cells → get_or memo (11 * c) 0 ≡ 0) → Noted meaning held memo
noted-none meaning held memo size zeros =
    record { size = size; short = λ c h. omega (arith, zeros c h); right = λ c h k. absurd (omega (arith, zeros c h)) }

-- What a copy does not reach stays; what it reaches is there.
module _ (l : List ℕ) (at : ℕ) (raw : List ℕ) (fits : at + length raw ≤ length l) where
  paste-low : (k : ℕ) → k < at → get_or (paste l at raw (length raw)) k 0 ≡ get_or l k 0
  paste-low k h =
      get_or-append (take at l ++ take (length raw) raw) (drop (at + length raw) l) 0 k
      (omega (arith, length-append (take at l) (take (length raw) raw), here))
      ∙ get_or-append (take at l) (take (length raw) raw) 0 k (omega (arith, here)) ∙ get_or-take at l k 0 h
    where
      here : length (take at l) ≡ at
      here = length-take-le at l (omega arith)

  paste-high : (k : ℕ) → at + length raw ≤ k → get_or (paste l at raw (length raw)) k 0 ≡ get_or l k 0
  paste-high k h =
      let e : k ≡ (at + length raw) + (k - (at + length raw)) = omega arith in
      ap (λ (j : ℕ). get_or (paste l at raw (length raw)) j 0) e
      ∙ sym (get_or-drop (at + length raw) (paste l at raw (length raw)) (k - (at + length raw)) 0)
      ∙ ap (λ (r : List ℕ). get_or r (k - (at + length raw)) 0) (drop-paste l at raw (length raw) (omega arith) (omega arith))
      ∙ get_or-drop (at + length raw) l (k - (at + length raw)) 0 ∙ ap (λ (j : ℕ). get_or l j 0) (sym e)

  paste-part : take (length raw) (drop at (paste l at raw (length raw))) ≡ raw
  paste-part = ap (take (length raw)) (ap (drop at) (append_assoc (take at l) (take (length raw) raw) (drop (at + length raw) l))
      ∙ drop_at (take at l) (take (length raw) raw ++ drop (at + length raw) l) at (length-take-le at l (omega arith)))
      ∙ ap (λ (r : List ℕ). take (length raw) (r ++ drop (at + length raw) l)) (take-length raw)
      ∙ take-append_seam raw (drop (at + length raw) l)

module _ (memo : List ℕ) (c : ℕ) (raw : List ℕ) (id : ℕ) (size : length memo ≡ memo_size) (h : c < cells)
    (short : length raw ≤ max_raw) where
  abbrev one : List ℕ
  one = set memo (11 * c) (length raw + 1)

  abbrev two : List ℕ
  two = set one (11 * c + 1) id

  two_size : length two ≡ memo_size
  two_size = simp length-set size

  fits : 11 * c + 2 + length raw ≤ length two
  fits = omega (arith, two_size)

  written-size : length (written memo c raw id) ≡ memo_size
  written-size = length-paste two (11 * c + 2) raw (length raw) fits (omega arith) ∙ two_size

  pub written-head : get_or (written memo c raw id) (11 * c) 0 ≡ length raw + 1
  written-head =
      paste-low two (11 * c + 2) raw fits (11 * c) (omega arith) ∙ get_or-set_other one (11 * c + 1) (11 * c) id 0 (omega arith)
      ∙ get_or-set_same memo (11 * c) (length raw + 1) 0 (omega arith)

  written-id : id_of (written memo c raw id) c ≡ id
  written-id =
      paste-low two (11 * c + 2) raw fits (11 * c + 1) (omega arith)
      ∙ get_or-set_same one (11 * c + 1) id 0 (omega (arith, length-set memo (11 * c) (length raw + 1)))

  written-raw : raw_of (written memo c raw id) c ≡ raw
  unfolding raw_of
  written-raw =
      let e : get_or (written memo c raw id) (11 * c) 0 - 1 ≡ length raw = omega (arith, written-head) in
      ap (λ (k : ℕ). take k (drop (11 * c + 2) (written memo c raw id))) e ∙ paste-part two (11 * c + 2) raw fits

  written-far : (k : ℕ) → (k < 11 * c) ⊎ (11 * c + 11 ≤ k) → get_or (written memo c raw id) k 0 ≡ get_or memo k 0
  written-far k (inl l) =
      paste-low two (11 * c + 2) raw fits k (omega arith) ∙ get_or-set_other one (11 * c + 1) k id 0 (omega arith)
      ∙ get_or-set_other memo (11 * c) k (length raw + 1) 0 (omega arith)
  written-far k (inr l) =
      paste-high two (11 * c + 2) raw fits k (omega arith) ∙ get_or-set_other one (11 * c + 1) k id 0 (omega arith)
      ∙ get_or-set_other memo (11 * c) k (length raw + 1) 0 (omega arith)

  -- Another cell stays as it was.
  module _ (t : ℕ) (ht : t < cells) (other : t ≡ c → ⊥) where
    far : (j : ℕ) → j < 11 → get_or (written memo c raw id) (11 * t + j) 0 ≡ get_or memo (11 * t + j) 0
    far j l = written-far (11 * t + j) (⊎_elim (λ a. inl (omega arith)) (λ b. ⊎_elim (λ e. absurd (other e)) (λ a. inr (omega arith)) b)
        (cases t c))

    far-head : get_or (written memo c raw id) (11 * t) 0 ≡ get_or memo (11 * t) 0
    far-head =
        let e : 11 * t ≡ 11 * t + 0 = omega arith in
        ap (λ (k : ℕ). get_or (written memo c raw id) k 0) e ∙ far 0 (omega arith) ∙ ap (λ (k : ℕ). get_or memo k 0) (sym e)

    far-raw : get_or memo (11 * t) 0 ≤ max_raw + 1 → raw_of (written memo c raw id) t ≡ raw_of memo t
    unfolding raw_of
    far-raw few =
        ap (λ (k : ℕ). take (k - 1) (drop (11 * t + 2) (written memo c raw id))) far-head
        ∙ ext_get_or 0 _ _ (size_of (written memo c raw id) written-size ∙ sym (size_of memo size))
        (λ k l. agree k (omega (arith, size_of (written memo c raw id) written-size)))
      where
        size_of : (l : List ℕ) → length l ≡ memo_size → length (take (get_or memo (11 * t) 0 - 1) (drop (11 * t + 2) l)) ≡ get_or memo
            (11 * t) 0 - 1
        size_of l e = length-take-le (get_or memo (11 * t) 0 - 1) (drop (11 * t + 2) l) (omega (arith, length-drop (11 * t + 2) l))

        agree : (k : ℕ) → k < get_or memo (11 * t) 0 - 1
            → get_or (take (get_or memo (11 * t) 0 - 1) (drop (11 * t + 2) (written memo c raw id))) k 0
            ≡ get_or (take (get_or memo (11 * t) 0 - 1) (drop (11 * t + 2) memo)) k 0
        agree k l =
            let e : 11 * t + 2 + k ≡ 11 * t + (2 + k) = omega arith in
            get_or-take (get_or memo (11 * t) 0 - 1) (drop (11 * t + 2) (written memo c raw id)) k 0 l ∙ get_or-drop (11 * t + 2)
            (written memo c raw id) k 0
            ∙ ap (λ (j : ℕ). get_or (written memo c raw id) j 0) e ∙ far (2 + k) (omega arith) ∙ ap (λ (j : ℕ). get_or memo j 0) (sym e)
            ∙ sym (get_or-take (get_or memo (11 * t) 0 - 1) (drop (11 * t + 2) memo) k 0 l ∙ get_or-drop (11 * t + 2) memo k 0)

  pub noted-note : (meaning : List ℕ → List ℕ) (held : List (List ℕ)) → Noted meaning held memo → At held id (meaning raw)
      → Noted meaning held (written memo c raw id)
  noted-note meaning held n is =
      record {
        size = written-size;
        short = λ t ht. few t ht (decide t c);
        right = λ t ht some. same t ht some (decide t c);
      }
    where
      few : (t : ℕ) → t < cells → (t ≡ c) ⊎ (t ≡ c → ⊥) → get_or (written memo c raw id) (11 * t) 0 ≤ max_raw + 1
      few t ht (inl e) = rw e (omega (arith, written-head))
      few t ht (inr d) = omega (arith, far-head t ht d, n.short t ht)

      same : (t : ℕ) → t < cells → 0 < get_or (written memo c raw id) (11 * t) 0 → (t ≡ c) ⊎ (t ≡ c → ⊥)
          → At held (id_of (written memo c raw id) t) (meaning (raw_of (written memo c raw id) t))
      same t ht some (inl e) = rw e (rw (written-id, written-raw) is)
      same t ht some (inr d) = rw (far t ht d 1 (omega arith), far-raw t ht d (n.short t ht))
          (n.right t ht (omega (arith, far-head t ht d)))

-- ---- What the code does

module _ (memo : List ℕ) (c : ℕ) (h : c < cells) (size : length memo ≡ memo_size) (few : get_or memo (11 * c) 0 ≤ max_raw + 1) where
  pub holds-empty : (raw : List ℕ) → get_or memo (11 * c) 0 ≡ 0 → Holds memo c raw → ⊥
  holds-empty raw e k = omega (arith, k.some)

  -- The part that the code compares is the raw form of the cell.
  module _ (n : ℕ) (is : n ≡ get_or memo (11 * c) 0) (some : n ≡ 0 → ⊥) where
    pub part-fits : 11 * c + 2 + (n - 1) ≤ length memo
    part-fits = omega arith

    pub part-raw : take (11 * c + 2 + (n - 1) - (11 * c + 2)) (drop (11 * c + 2) memo) ≡ raw_of memo c
    unfolding raw_of
    part-raw =
        let e : 11 * c + 2 + (n - 1) - (11 * c + 2) ≡ get_or memo (11 * c) 0 - 1 = omega arith in
        ap (λ (k : ℕ). take k (drop (11 * c + 2) memo)) e

    pub holds-told : (raw : List ℕ) (b : Bool) → Tells b (take (11 * c + 2 + (n - 1) - (11 * c + 2)) (drop (11 * c + 2) memo) ≡ raw)
        → Tells b (Holds memo c raw)
    holds-told raw b t =
        record {
          holds = λ e. record { some = omega (arith, some); is = sym part-raw ∙ t.holds e };
          fails = λ e k. t.fails e (part-raw ∙ k.is);
        }

pub notes-hit : (meaning : List ℕ → List ℕ) (raw index numbers memo : List ℕ) (c id : ℕ) → Dictionary index numbers → Noted meaning
    (entries_of index numbers) memo → c < cells
    → Holds memo c raw → id ≡ id_of memo c → Notes meaning raw index numbers index numbers memo (Ok id)
notes-hit meaning raw index numbers memo c id d n h k e =
    record {
      interns = interned-old (meaning raw) index numbers id d (rw e (noted-hit meaning (entries_of index numbers) memo c raw n h k));
      noted = n;
    }

pub notes-full : (meaning : List ℕ → List ℕ) (raw index numbers index' numbers' memo : List ℕ) → Noted meaning
    (entries_of index numbers) memo
    → Interns (meaning raw) index numbers index' numbers' full → Notes meaning raw index numbers index' numbers' memo full
notes-full meaning raw index numbers index' numbers' memo n i =
    record { interns = i; noted = noted-grows meaning _ _ memo (told-grows (meaning raw) _ _ full i.told) n }

pub notes-new : (meaning : List ℕ → List ℕ) (raw index numbers index' numbers' memo memo' : List ℕ) (c id : ℕ) → Noted meaning
    (entries_of index numbers) memo → c < cells
    → length raw ≤ max_raw → Interns (meaning raw) index numbers index' numbers' (Ok id) → memo' ≡ written memo c raw id
    → Notes meaning raw index numbers index' numbers' memo' (Ok id)
notes-new meaning raw index numbers index' numbers' memo memo' c id n h short i e =
    record {
      interns = i;
      noted = subst (λ (m : List ℕ). Noted meaning (entries_of index' numbers') m) (sym e)
          (noted-note memo c raw id n.size h short meaning (entries_of index' numbers')
          (noted-grows meaning _ _ memo (told-grows (meaning raw) _ _ (Ok id) i.told) n) i.told.0);
    }

pub id-small : (raw index numbers index' numbers' : List ℕ) (id : ℕ) → Interns raw index numbers index' numbers' (Ok id) → id < 8192
id-small raw index numbers index' numbers' id i = omega (arith, i.told.0.0, count-is i.kept, i.kept.few)

-- One cell more is empty.
pub empty-on : (memo : List ℕ) (cell : ℕ) → 11 * cell < length memo → ((c : ℕ) → c < cell → get_or memo (11 * c) 0 ≡ 0)
    → (c : ℕ) → c < cell + 1 → get_or (set memo (11 * cell) 0) (11 * c) 0 ≡ 0
empty-on memo cell room before c h = go (decide c cell)
  where
    go : (c ≡ cell) ⊎ (c ≡ cell → ⊥) → get_or (set memo (11 * cell) 0) (11 * c) 0 ≡ 0
    go (inl e) = rw e (get_or-set_same memo (11 * cell) 0 0 room)
    go (inr d) = get_or-set_other memo (11 * cell) (11 * c) 0 0 (omega (arith, d)) ∙ before c (omega (arith, h, d))
