-- The reasons and places of refusals: whatever table is refused, the reason's number is from 1 to 13 (`refusal-numbers`), and the
-- place is within the table or at its end (`refusal-place`).
use Rattle.std.specs.Prelude.{Ok, Err, Some, None}
use Rattle.std.specs.Prelude.{ℕ, zero, suc, ◌≤◌, ◌<◌, ◌⊎◌, ◌≡◌, refl, Bool, true, false, cond, List, [], ◌∷◌, ltb, length}
use Rattle.std.proofs.Common.{arith, inl, inr, subst}
use Rattle.table.specs.Format.{max_bytes}
use Rattle.table.specs.Records.{Record, header, location, invariant, edge, guard, branch, end, record_at, past}
use Rattle.table.specs.Reasons.{number, refusal_at}
use Rattle.table.specs.Refusals.{Step, Row, decide, outer_rows, rows_of, next_of, step_at, start}
use Rattle.table.specs.Reading.{Item, item_at, Run, refused, ended, before, go, run, run_table}
use Rattle.table.specs.Reading.{refusal, answer_of, read_table}
use Rattle.table.proofs.Laws.Runs.{Denied, denials, stepped, next-within}
use Rattle.table.specs.declared.records.Progress.{Progress}
use Rattle.table.specs.declared.refusals.Reason.{Reason}
use Rattle.table.specs.declared.refusals.Reason.TheVariants.{Missing, TooLong}
use Rattle.table.specs.declared.refusals.Refusal.{Refusal}

-- A reason and a place that a refusal of a table of so many bytes may have.
record Fair (size : ℕ) (r : Reason) (place : ℕ) : Type 0 where
  low : 1 ≤ number r
  high : number r ≤ 13
  inside : place ≤ size

-- All rows have such.
abbrev Rows : ℕ → List Row → Type 0
Rows size [] = Unit
Rows size (r ∷ rows) = Fair size r.reason r.place × Rows size rows

refused-same : (size : ℕ) (e f : Refusal) → ◌≡◌ {A = Step} (Err e) (Err f) → Fair size e.reason e.place → Fair size f.reason f.place
refused-same size e f same fair = let e≡f : e ≡ f = cc in subst (λ (x : Refusal). Fair size x.reason x.place) e≡f fair

-- A refusal is that of a row, or comes after all rows.
decided : (size : ℕ) (x : Refusal) (rows : List Row) (next : Step) → Rows size rows → decide rows next ≡ Err x
    → Fair size x.reason x.place ⊎ (Denied rows × (next ≡ Err x))
decided size x [] next f e = inr (tt, e)
decided size x (r ∷ rows) next f e = by r.holds refl e (decided size x rows next f.1)
  where
    by : (b : Bool) → r.holds ≡ b → cond b (Err (refusal_at r.reason r.place)) (decide rows next) ≡ Err x
        → (decide rows next ≡ Err x → Fair size x.reason x.place ⊎ (Denied rows × (next ≡ Err x)))
        → Fair size x.reason x.place ⊎ (Denied (r ∷ rows) × (next ≡ Err x))
    by true h g later = inl (refused-same size (refusal_at r.reason r.place) x g f.0)
    by false h g later = elim (later g) [ inl x ↦ inl x | inr x ↦ inr ((h, x.0), x.1) ]

rows-fair : (size : ℕ) (p : Progress) (at : ℕ) (r : Record) → at < size → p.place ≤ at → Rows size (rows_of p at size r)
unfolding rows_of
rows-fair size p at (header n l i) h k = omega arith
rows-fair size p at (location x) h k = omega arith
rows-fair size p at (invariant a) h k = omega arith
rows-fair size p at (edge s a w) h k = omega arith
rows-fair size p at (guard g) h k = omega arith
rows-fair size p at (branch b) h k = omega arith
rows-fair size p at end h k = omega arith

no-refusal : (p : Progress) (at : ℕ) (r : Record) (x : Refusal) → next_of p at r ≡ Err x → ⊥
unfolding next_of
no-refusal p at (header n l i) x e = let z : ◌≡◌ {A = ℕ} 0 1 = cc in omega arith
no-refusal p at (location l) x e = let z : ◌≡◌ {A = ℕ} 0 1 = cc in omega arith
no-refusal p at (invariant a) x e = let z : ◌≡◌ {A = ℕ} 0 1 = cc in omega arith
no-refusal p at (edge s a w) x e = let z : ◌≡◌ {A = ℕ} 0 1 = cc in omega arith
no-refusal p at (guard g) x e = let z : ◌≡◌ {A = ℕ} 0 1 = cc in omega arith
no-refusal p at (branch b) x e = let z : ◌≡◌ {A = ℕ} 0 1 = cc in omega arith
no-refusal p at end x e = let z : ◌≡◌ {A = ℕ} 0 1 = cc in omega arith

step-fair : (t : List ℕ) (p : Progress) (at : ℕ) (x : Refusal) → at ≤ length t → p.place ≤ at → step_at t p at ≡ Err x
    → Fair (length t) x.reason x.place
unfolding step_at
step-fair t p at e h k eq =
    elim (decided (length t) e (outer_rows t at) _ (omega arith) eq) [
      | inl f ↦ f
      | inr x ↦
          let denied = x.0 in
          elim (decided (length t) e (rows_of p at (length t) (record_at t at)) (next_of p at (record_at t at))
          (rows-fair (length t) p at (record_at t at) (omega denials) k) x.1) [
            | inl f ↦ f
            | inr y ↦ absurd (no-refusal p at (record_at t at) e y.1)
          ]
    ]

-- The place of the last edge stays before the records that follow.
next-same : (a b : Progress) → ◌≡◌ {A = Step} (Ok (Some a)) (Ok (Some b)) → a ≡ b
next-same a b e = cc

place-next : (p q : Progress) (at : ℕ) (r : Record) → next_of p at r ≡ Ok (Some q) → p.place ≤ at → q.place ≤ at
unfolding next_of
place-next p q at (header n l i) e h = rw (← next-same _ _ e) (omega arith)
place-next p q at (location x) e h = rw (← next-same _ _ e) h
place-next p q at (invariant a) e h = rw (← next-same _ _ e) h
place-next p q at (edge s a w) e h = rw (← next-same _ _ e) (omega arith)
place-next p q at (guard g) e h = rw (← next-same _ _ e) h
place-next p q at (branch b) e h = rw (← next-same _ _ e) h
place-next p q at end e h = absurd (let z : ◌≡◌ {A = ℕ} 0 1 = cc in omega arith)

before-refused : (i : Item) (r : Run) (n : Reason) (place : ℕ) → before i r ≡ refused n place → r ≡ refused n place
before-refused i (refused k q) n place e = e
before-refused i (ended q items) n place e = absurd (let z : ◌≡◌ {A = ℕ} 0 1 = cc in omega arith)

run-same : (size : ℕ) (n : Reason) (place : ℕ) (k : Reason) (q : ℕ) → refused k q ≡ refused n place → Fair size k q → Fair size n place
run-same size n place k q e f =
    let a : k ≡ n = cc in
    let b : q ≡ place = cc in
    rw (← a, ← b) f

run-fair : (fuel : ℕ) (t : List ℕ) (p : Progress) (at : ℕ) (n : Reason) (place : ℕ) → at ≤ length t → p.place ≤ at
    → run fuel t p at ≡ refused n place → Fair (length t) n place
unfolding run
run-fair zero t p at n place h k e = run-same (length t) n place Missing at e (omega arith)
run-fair (suc fuel) t p at n place h k e = by (step_at t p at) refl e (λ q. run-fair fuel t q (past t at) n place)
  where
    by : (s : Step) → step_at t p at ≡ s → go (λ q. run fuel t q (past t at)) p (item_at t at) s ≡ refused n place
        → ((q : Progress) → past t at ≤ length t → q.place ≤ past t at → run fuel t q (past t at) ≡ refused n place
        → Fair (length t) n place)
        → Fair (length t) n place
    by (Err x) s g later = run-same (length t) n place x.reason x.place g (step-fair t p at x h k s)
    by (Ok (Some q)) s g later =
        let w = next-within t p q at s in
        let low = place-next p q at (record_at t at) (stepped t p at (Ok (Some q)) s tt).next k in
        later q w.1 (omega arith) (before-refused (item_at t at) (run fuel t q (past t at)) n place g)
    by (Ok None) s g later = absurd (let z : ◌≡◌ {A = ℕ} 0 1 = cc in omega arith)

table-fair : (t : List ℕ) (n : Reason) (place : ℕ) → run_table t ≡ refused n place → Fair (length t) n place
unfolding run_table
table-fair t n place e = by (ltb max_bytes (length t)) e
  where
    by : (b : Bool) → cond b (refused TooLong 0) (run (suc (length t)) t start 0) ≡ refused n place → Fair (length t) n place
    by true g = run-same (length t) n place TooLong 0 g (omega arith)
    by false g = run-fair (suc (length t)) t start 0 n place (omega arith) (omega arith) g

answer-refused : (r : Run) (n : Reason) (place : ℕ) → answer_of r ≡ refusal n place → r ≡ refused n place
answer-refused (refused k q) n place e = cc
answer-refused (ended q items) n place e = absurd (let z : ◌≡◌ {A = ℕ} 0 1 = cc in omega arith)

module _ (table : List ℕ) (n : Reason) (place : ℕ) (e : read_table table ≡ refusal n place) where
  fair : Fair (length table) n place
  unfolding read_table
  fair = table-fair table n place (answer-refused (run_table table) n place e)

  -- A table is refused with a reason whose number is from 1 to 13.
  pub refusal-numbers : (1 ≤ number n) × (number n ≤ 13)
  refusal-numbers = (fair.low, fair.high)

  -- A refusal's place is within the table, or at its end.
  pub refusal-place : place ≤ length table
  refusal-place = fair.inside
