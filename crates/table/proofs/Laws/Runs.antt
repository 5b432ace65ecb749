-- What an accepted table went through. A step that was not refused denies every row of its record; so a table that was
-- accepted is a header and then, record by record, the rest (`Whole`, `Rest`). `Models` draws the theorems from that.
use Rattle.std.specs.Prelude.{ℕ, zero, suc, ◌+◌, ◌*◌, ◌/◌, ◌%◌, ◌≤◌, ◌<◌, ◌⊎◌, ◌≡◌, refl, Bool, true, false, cond}
use Rattle.std.specs.Prelude.{Ok, Err, Some, None, not, List, [], ◌∷◌, ◌++◌, eqb, leb, ltb, length, get_or, drop}
use Rattle.std.proofs.Common.{arith, add-one, inl, inr, sym, ap, subst, drop-cons, add-zero, add-suc}
use Rattle.std.proofs.Common.{suc-add, ltb-false, leb-true, leb-false, eqb-true}
use Rattle.std.proofs.lemmas.Bool.{eqb-false, not-false}
use Rattle.table.specs.Format.{body_length, max_bytes}
use Rattle.table.specs.Model.{Model}
use Rattle.table.specs.Records.{Record, header, location, invariant, edge, guard, branch, end}
use Rattle.table.specs.Records.{kind_of, body_of, record_of, body_at, kind_at, record_at, past}
use Rattle.table.specs.Refusals.{Step, Row, decide, turn, outer_rows, rows_of, next_of, step_at, start}
use Rattle.table.specs.Refusals.{header_rows, location_rows, invariant_rows, edge_rows, guard_rows, branch_rows, end_rows}
use Rattle.table.specs.Refusals.{after_header, after_location, after_invariant, after_edge, after_guard, after_branch}
use Rattle.table.specs.Reading.{Item, item_at, Run, refused, ended, before, go, run, run_table}
use Rattle.table.specs.Reading.{Parts, no_parts, add, gather, model_of, accepted, answer_of, read_table}
use Rattle.table.specs.Written.{Bytes, bytes_of}
use Rattle.table.specs.declared.model.Invariant.{Invariant}
use Rattle.table.specs.declared.model.Guard.{Guard}
use Rattle.table.specs.declared.model.Branch.{Branch}
use Rattle.table.specs.declared.records.Stage.TheVariants.{InLocations, InInvariants}
use Rattle.table.specs.declared.records.Progress.{Progress}
use Rattle.table.specs.declared.refusals.Reason.TheVariants.{TooLong}

-- No row of a list holds.
abbrev pub Denied : List Row → Type 0
Denied [] = Unit
Denied (r ∷ rows) = (r.holds ≡ false) × Denied rows

-- What a row that does not hold says: `omega denials` reads it.
pub unequal-false : (a b : ℕ) → not (eqb a b) ≡ false → a ≡ b
unequal-false a b e = eqb-true a b (not-false (eqb a b) e)

pub zero-false : (a : ℕ) → eqb a 0 ≡ false → 1 ≤ a
zero-false zero e = absurd (eqb-false 0 0 e refl)
zero-false (suc a) e = omega arith

pub ruleset denials = (arith, ltb-false, leb-false, unequal-false, zero-false)

-- A step that is no refusal.
abbrev pub Passes : Step → Type 0
Passes (Err r) = ⊥
Passes (Ok (Some q)) = Unit
Passes (Ok None) = Unit

first-denied : (b : Bool) (x y s : Step) → cond b x y ≡ s → (x ≡ s → ⊥) → (b ≡ false) × (y ≡ s)
first-denied true x y s e never = absurd (never e)
first-denied false x y s e never = (refl, e)

decided : (rows : List Row) (next s : Step) → decide rows next ≡ s → Passes s → Denied rows × (next ≡ s)
decided [] next s e ok = (tt, e)
decided (r ∷ rows) next s e ok =
    let (h, e') = first-denied r.holds _ _ s e (λ x. subst Passes (sym x) ok) in
    let (d, n) = decided rows next s e' ok in
    ((h, d), n)

-- The record r at a place leads to a step that is no refusal.
pub record Stepped (t : List ℕ) (p : Progress) (at : ℕ) (r : Record) (s : Step) : Type 0 where
  pub outer : Denied (outer_rows t at)
  pub own : Denied (rows_of p at (length t) r)
  pub next : next_of p at r ≡ s

pub stepped : (t : List ℕ) (p : Progress) (at : ℕ) (s : Step) → step_at t p at ≡ s → Passes s → Stepped t p at (record_at t at) s
unfolding step_at
stepped t p at s e ok =
    let (outer, e') = decided (outer_rows t at) _ s e ok in
    let (own, next) = decided (rows_of p at (length t) (record_at t at)) (next_of p at (record_at t at)) s e' ok in
    record { outer = outer; own = own; next = next }

-- A record that another may follow ends within the table, past its beginning.
pub next-within : (t : List ℕ) (p q : Progress) (at : ℕ) → step_at t p at ≡ Ok (Some q) → (at < past t at) × (past t at ≤ length t)
unfolding past
next-within t p q at e = let s = stepped t p at (Ok (Some q)) e tt in omega denials

go_same : (a b : Progress → Run) (p : Progress) (i : Item) (s : Step) → ((q : Progress) → s ≡ Ok (Some q) → a q ≡ b q)
    → go a p i s ≡ go b p i s
go_same a b p i (Err r) same = refl
go_same a b p i (Ok (Some q)) same = ap (before i) (same q refl)
go_same a b p i (Ok None) same = refl

-- Any fuel that is more than the bytes left gives the same run.
pub run-enough : (f g : ℕ) (t : List ℕ) (p : Progress) (at : ℕ) → length t < f + at → length t < g + at
    → at ≤ length t → run f t p at ≡ run g t p at
unfolding run
run-enough zero g t p at hf hg h = absurd (omega arith)
run-enough (suc f) zero t p at hf hg h = absurd (omega arith)
run-enough (suc f) (suc g) t p at hf hg h =
    go_same _ _ p (item_at t at) (step_at t p at)
    (λ q e.
    let w = next-within t p q at e in
    run-enough f g t q (past t at) (omega arith) (omega arith) w.1)

-- `count` bytes of a table, from byte i after a place on.
abbrev spelled : ℕ → List ℕ → ℕ → ℕ → List ℕ
spelled zero t at i = []
spelled (suc count) t at i = get_or t (at + i) 0 ∷ spelled count t at (suc i)

spelled-first : (count : ℕ) (t : List ℕ) (at i : ℕ) → at + i + count ≤ length t
    → drop (at + i) t ≡ spelled count t at i ++ drop (at + i + count) t
spelled-first zero t at i h = rw add-zero
spelled-first (suc count) t at i h =
    let inside : at + i < length t = omega arith in
    let e = spelled-first count t at (suc i) (omega arith) in
    rw (drop-cons t (at + i) 0, add-suc (at + i) count, ← suc-add (at + i) count, ← add-suc at i)
    (ap (λ l. get_or t (at + i) 0 ∷ l) e)

low_byte : (a b : ℕ) → a < 256 → (a + 256 * b) % 256 ≡ a
low_byte a b h = omega arith

high_byte : (a b : ℕ) → a < 256 → (a + 256 * b) / 256 ≡ b
high_byte a b h = omega arith

-- The record of a kind is written with that kind, as long as the format says, and in the bytes that it was read from.
BodyIs : List ℕ → ℕ → ℕ → Record → Type 0
BodyIs t at kind r =
    (kind_of r ≡ kind) × (length (body_of r) ≡ body_length kind) × (Bytes t → body_of r ≡ spelled (body_length kind) t at 1)

body_is : (t : List ℕ) (at kind : ℕ) → 1 ≤ kind → kind ≤ 7 → BodyIs t at kind (record_of kind (body_at t at))
unfolding BodyIs record_of body_at kind_of body_of body_length
body_is t at zero h k = absurd (omega arith)
body_is t at (suc zero) h k = (refl, refl, λ b. refl)
body_is t at (suc (suc zero)) h k = (refl, refl, λ b. refl)
body_is t at (suc (suc (suc zero))) h k = (refl, refl, λ b. refl)
body_is t at (suc (suc (suc (suc zero)))) h k =
    (refl, refl, λ b. rw (low_byte _ _ (b (at + 3)), high_byte _ _ (b (at + 3))))
body_is t at (suc (suc (suc (suc (suc zero))))) h k = (refl, refl, λ b. refl)
body_is t at (suc (suc (suc (suc (suc (suc zero)))))) h k =
    (refl, refl, λ b. rw (low_byte _ _ (b (at + 1)), high_byte _ _ (b (at + 1))))
body_is t at (suc (suc (suc (suc (suc (suc (suc zero))))))) h k = (refl, refl, λ b. refl)
body_is t at (suc (suc (suc (suc (suc (suc (suc (suc kind)))))))) h k = absurd (omega arith)

-- The record r stands at a place: the next is as many bytes further as it is long, and it is written in them.
pub record Stands (t : List ℕ) (at : ℕ) (r : Record) : Type 0 where
  pub long : past t at ≡ at + length (bytes_of r)
  pub bytes : Bytes t → drop at t ≡ bytes_of r ++ drop (past t at) t

stands : (t : List ℕ) (at : ℕ) → Denied (outer_rows t at) → Stands t at (record_at t at)
unfolding past record_at BodyIs
stands t at d =
    let (k, l, b) = body_is t at (kind_at t at) (omega denials) (omega denials) in
    let first = spelled-first (body_length (kind_at t at)) t at 1 (omega denials) in
    record { long = omega arith; bytes = λ bytes. rw (k, b bytes, ← first, add-one) (drop-cons t at 0 (omega denials)) }

only_end : (p : Progress) (at : ℕ) (r : Record) → next_of p at r ≡ Ok None → r ≡ end
unfolding next_of
only_end p at (header n l i) e = cc
only_end p at (location x) e = cc
only_end p at (invariant a) e = cc
only_end p at (edge s a w) e = cc
only_end p at (guard g) e = cc
only_end p at (branch b) e = cc
only_end p at end e = refl

at-end : (t : List ℕ) (p : Progress) (at : ℕ) → step_at t p at ≡ Ok None → Denied (end_rows p at (length t)) × Stands t at end
unfolding rows_of
at-end t p at e =
    let s = stepped t p at (Ok None) e tt in
    subst (λ r. Denied (rows_of p at (length t) r) × Stands t at r) (only_end p at _ s.next) (s.own, stands t at s.outer)

-- The end record is the table's last byte.
pub end-within : (t : List ℕ) (p : Progress) (at : ℕ) → step_at t p at ≡ Ok None → at + 1 ≡ length t
unfolding body_of past
end-within t p at e =
    let (d, w) = at-end t p at e in
    let s = stepped t p at (Ok None) e tt in
    omega denials

-- The rest of a table from a place on, where p is remembered: its records up to the end, where q is remembered, and the
-- parts that they say.
pub data Rest (t : List ℕ) : Progress → ℕ → Progress → Parts → Type 0 where
  a-location : {p q : Progress} {at : ℕ} {g : Parts} (x : ℕ) → Denied (location_rows p at) → Stands t at (location x)
      → Rest t (after_location p) (past t at) q g → Rest t p at q (add at (location x) g)
  an-invariant : {p q : Progress} {at : ℕ} {g : Parts} (a : Invariant) → Denied (invariant_rows p at a) → Stands t at (invariant a)
      → Rest t (after_invariant p) (past t at) q g → Rest t p at q (add at (invariant a) g)
  an-edge : {p q : Progress} {at : ℕ} {g : Parts} (s a w : ℕ) → Denied (edge_rows p at s w) → Stands t at (edge s a w)
      → Rest t (after_edge p at w) (past t at) q g → Rest t p at q (add at (edge s a w) g)
  a-guard : {p q : Progress} {at : ℕ} {g : Parts} (x : Guard) → Denied (guard_rows p at x) → Stands t at (guard x)
      → Rest t (after_guard p) (past t at) q g → Rest t p at q (add at (guard x) g)
  a-branch : {p q : Progress} {at : ℕ} {g : Parts} (b : Branch) → Denied (branch_rows p at b) → Stands t at (branch b)
      → Rest t (after_branch p b.weight) (past t at) q g → Rest t p at q (add at (branch b) g)
  the_end : {p : Progress} {at : ℕ} → Denied (end_rows p at (length t)) → Stands t at end → Rest t p at p no_parts

-- The model of what a header and the parts behind it say.
abbrev pub model_with : ℕ → ℕ → ℕ → Parts → Model
model_with n l i g =
    record { clocks = n; locations = l; initial = i; labels = g.labels; invariants = g.invariants; edges = g.edges }

-- A table from its header on, where p is remembered: its rest, where q is remembered at the end, and its model.
pub data Whole (t : List ℕ) : Progress → ℕ → Progress → Model → Type 0 where
  whole : {p q : Progress} {at : ℕ} {g : Parts} (n l i : ℕ) → Denied (header_rows p at n l i) → Stands t at (header n l i)
      → Rest t (after_header n l i) (past t at) q g → Whole t p at q (model_with n l i g)

-- The stage after a location says whether it was the last.
pub location-stage : (p : Progress)
    → ((turn (after_location p).stage ≡ turn InInvariants) × (p.locations ≤ p.labels + 1))
    ⊎ ((turn (after_location p).stage ≡ turn InLocations) × (p.labels + 1 < p.locations))
location-stage p = split (leb p.locations (p.labels + 1)) refl
  where
    split : (b : Bool) → leb p.locations (p.labels + 1) ≡ b
        → ((turn (cond b InInvariants InLocations) ≡ turn InInvariants) × (p.locations ≤ p.labels + 1))
        ⊎ ((turn (cond b InInvariants InLocations) ≡ turn InLocations) × (p.labels + 1 < p.locations))
    split true e = inl (refl, leb-true _ _ e)
    split false e = inr (refl, leb-false _ _ e)

-- From p on, once a header was read, there is a rest.
abbrev Onward : List ℕ → Progress → ℕ → Progress → Parts → Type 0
Onward t p at q g = 0 < turn p.stage → Rest t p at q g

onward : {t : List ℕ} {p p' q : Progress} {at : ℕ} {g : Parts} → ◌≡◌ {A = Step} (Ok (Some p)) (Ok (Some p')) → Onward t p' at q g
    → Onward t p at q g
onward {t} {p} {p'} {q} {at} {g} e rest = let same : p' ≡ p = cc in subst (λ x. Onward t x at q g) same rest

no_step : {p : Progress} → ◌≡◌ {A = Step} (Ok None) (Ok (Some p)) → ⊥
no_step e = let z : ◌≡◌ {A = ℕ} 0 1 = cc in omega arith

-- A record after the header is one of the rest.
follow : {t : List ℕ} {p p' q : Progress} {at : ℕ} {g : Parts} (r : Record) → Stepped t p at r (Ok (Some p')) → Stands t at r
    → Onward t p' (past t at) q g → Onward t p at q (add at r g)
unfolding rows_of next_of
follow (header n l i) s w rest h = absurd (omega denials)
follow {p = p} (location x) s w rest h =
    a-location x s.own w
    (onward s.next rest (elim (location-stage p) [ inl k ↦ omega arith | inr k ↦ omega arith ]))
follow (invariant a) s w rest h = an-invariant a s.own w (onward s.next rest (omega denials))
follow (edge f a n) s w rest h = an-edge f a n s.own w (onward s.next rest (omega denials))
follow (guard x) s w rest h = a-guard x s.own w (onward s.next rest (omega denials))
follow (branch b) s w rest h = a-branch b s.own w (onward s.next rest (omega denials))
follow end s w rest h = absurd (no_step s.next)

-- The first record is the header.
open_at : {t : List ℕ} {p p' q : Progress} {at : ℕ} {g : Parts} (r : Record) → Stepped t p at r (Ok (Some p')) → Stands t at r
    → Onward t p' (past t at) q g → turn p.stage ≡ 0
    → Whole t p at q (model_with (add at r g).clocks (add at r g).locations (add at r g).initial (add at r g))
unfolding rows_of next_of add
open_at (header n l i) s w rest h = whole n l i s.own w (onward s.next rest (omega arith))
open_at (location x) s w rest h = absurd (omega denials)
open_at (invariant a) s w rest h = absurd (omega denials)
open_at (edge f a n) s w rest h = absurd (omega denials)
open_at (guard x) s w rest h = absurd (omega denials)
open_at (branch b) s w rest h = absurd (omega denials)
open_at end s w rest h = absurd (no_step s.next)

-- What a run that ended says of the table.
abbrev Ran : List ℕ → Progress → ℕ → Run → Type 0
Ran t p at (refused n k) = Unit
Ran t p at (ended q items) = Onward t p at q (gather items) × (turn p.stage ≡ 0 → Whole t p at q (model_of items))

ran-before : (t : List ℕ) (p p' : Progress) (at : ℕ) (r : Run) → step_at t p at ≡ Ok (Some p') → Ran t p' (past t at) r
    → Ran t p at (before (item_at t at) r)
unfolding gather item_at model_of
ran-before t p p' at (refused n k) e rest = tt
ran-before t p p' at (ended q items) e rest =
    let s = stepped t p at (Ok (Some p')) e tt in
    let w = stands t at s.outer in
    (follow (record_at t at) s w rest.0, open_at (record_at t at) s w rest.0)

ran-end : (t : List ℕ) (p : Progress) (at : ℕ) → step_at t p at ≡ Ok None → Ran t p at (ended p (item_at t at ∷ []))
unfolding gather item_at add
ran-end t p at e =
    let (d, w) = at-end t p at e in
    let only = only_end p at _ (stepped t p at (Ok None) e tt).next in
    (λ h. rw only (the_end d w), λ h. absurd (omega denials))

ran-go : (t : List ℕ) (p : Progress) (at : ℕ) (rest : Progress → Run) (s : Step) → step_at t p at ≡ s
    → ((q : Progress) → Ran t q (past t at) (rest q)) → Ran t p at (go rest p (item_at t at) s)
ran-go t p at rest (Err r) e ran = tt
ran-go t p at rest (Ok (Some q)) e ran = ran-before t p q at (rest q) e (ran q)
ran-go t p at rest (Ok None) e ran = ran-end t p at e

ran : (f : ℕ) (t : List ℕ) (p : Progress) (at : ℕ) → Ran t p at (run f t p at)
unfolding run
ran zero t p at = tt
ran (suc f) t p at = ran-go t p at _ (step_at t p at) refl (λ q. ran f t q (past t at))

-- A table whose run ended is a header and its rest.
pub run-whole : (t : List ℕ) (q : Progress) (items : List Item) → run_table t ≡ ended q items → Whole t start 0 q (model_of items)
unfolding run_table
run-whole t q items e = (subst (Ran t start 0) e (short (ltb max_bytes (length t)))).1 refl
  where
    short : (b : Bool) → Ran t start 0 (cond b (refused TooLong 0) (run (suc (length t)) t start 0))
    short true = tt
    short false = ran (suc (length t)) t start 0

-- A table that is accepted was run to its end, which gave its model.
pub accepted-run : (t : List ℕ) (m : Model) → read_table t ≡ accepted m
    → (q : Progress) × (items : List Item) × (run_table t ≡ ended q items) × (model_of items ≡ m)
unfolding read_table
accepted-run t m e = opened (run_table t) refl e
  where
    opened : (r : Run) → run_table t ≡ r → answer_of r ≡ accepted m
        → (q : Progress) × (items : List Item) × (run_table t ≡ ended q items) × (model_of items ≡ m)
    opened (refused n k) e a = let z : ◌≡◌ {A = ℕ} 0 1 = cc in absurd (omega arith)
    opened (ended q items) e a = (q, items, e, cc)

-- A table that is accepted is a header and its rest.
pub accepted-whole : (t : List ℕ) (m : Model) → read_table t ≡ accepted m → (q : Progress) × Whole t start 0 q m
accepted-whole t m e =
    let (q, items, ran, same) = accepted-run t m e in
    (q, subst (Whole t start 0 q) same (run-whole t q items ran))
