-- Laws for the loop that reads a table: what each turn of it does to the run, and that its numbers stay small.
use Rattle.std.specs.Prelude.{Result, Ok, Err, Some, None, ℕ, zero, suc, ◌+◌, ◌-◌, ◌≤◌, ◌<◌, ◌≡◌, refl, List, length}
use Rattle.std.proofs.Common.{sym, ◌∙◌, arith, ne_eqb, le-ltb, lt-ltb}
use Rattle.std.proofs.Math.Path.{ap}
use Rattle.table.specs.Records.{Record, header, location, invariant, edge, guard, branch, end, record_of, record_at, body_at, kind_at, past}
use Rattle.table.specs.Format.{max_bytes}
use Rattle.table.specs.Answer.{reading_of}
use Rattle.table.proofs.Laws.Runs.{stepped, next-within, run-enough}
use Rattle.table.specs.Laws.Models.{shape_from}
use Rattle.table.proofs.Laws.Models.{shape}
use Rattle.table.specs.Laws.Turns.{Ranged}
use Rattle.table.specs.Reasons.{refusal_at}
use Rattle.table.specs.Refusals.{Step, next_of, step_at, start}
use Rattle.table.specs.Reading.{Item, item_at, Run, refused, ended, before, go, run, run_table, answer_of, read_table}
use Rattle.table.specs.Written.{Bytes}
use Rattle.table.specs.declared.model.Shape.{Shape}
use Rattle.table.specs.declared.bodies.Body.{Body}
use Rattle.table.specs.declared.records.Progress.{Progress}
use Rattle.table.specs.declared.refusals.Refusal.{Refusal}
use Rattle.table.specs.declared.refusals.Reason.TheVariants.{TooLong}

-- The answer that a run leads to.
abbrev pub told : Run → Result Shape Refusal
told (refused r p) = Err (refusal_at r p)
told (ended q items) = Ok (shape_from q)

told-before : (i : Item) (r : Run) → told (before i r) ≡ told r
told-before i (refused r p) = refl
told-before i (ended q items) = refl

module _ (fuel : ℕ) (table : List ℕ) (p : Progress) (at : ℕ) where
  pub turn-refused : (r : Refusal) → step_at table p at ≡ Err r → told (run (suc fuel) table p at) ≡ Err r
  unfolding run
  turn-refused r e = ap (λ (s : Step). told (go (λ q. run fuel table q (past table at)) p (item_at table at) s)) e

  pub turn_end : step_at table p at ≡ Ok None → told (run (suc fuel) table p at) ≡ Ok (shape_from p)
  unfolding run
  turn_end e = ap (λ (s : Step). told (go (λ q. run fuel table q (past table at)) p (item_at table at) s)) e

  pub turn-next : (q : Progress) → step_at table p at ≡ Ok (Some q)
      → told (run (suc fuel) table p at) ≡ told (run fuel table q (past table at))
  unfolding run
  turn-next q e =
      ap (λ (s : Step). told (go (λ q. run fuel table q (past table at)) p (item_at table at) s)) e
      ∙ told-before (item_at table at) (run fuel table q (past table at))

-- Of a number that is none of the kinds 1 to 6 the record is `end`.
pub other-kind : (kind : ℕ) (b : Body) → (kind ≡ 1 → ⊥) → (kind ≡ 2 → ⊥) → (kind ≡ 3 → ⊥) → (kind ≡ 4 → ⊥) → (kind ≡ 5 → ⊥)
    → (kind ≡ 6 → ⊥) → record_of kind b ≡ end
unfolding record_of
other-kind kind b h₁ h₂ h₃ h₄ h₅ h₆ =
    simp (ne_eqb kind 1 h₁, ne_eqb kind 2 h₂, ne_eqb kind 3 h₃, ne_eqb kind 4 h₄, ne_eqb kind 5 h₅, ne_eqb kind 6 h₆)

next-same : (a b : Progress) → ◌≡◌ {A = Step} (Ok (Some a)) (Ok (Some b)) → a ≡ b
next-same a b e = cc

-- What a record adds to the sum of weights.
weight_of : Record → ℕ
weight_of (header n l i) = 0
weight_of (location x) = 0
weight_of (invariant a) = 0
weight_of (edge s a w) = 0
weight_of (guard g) = 0
weight_of (branch b) = b.weight
weight_of end = 0

light : (kind : ℕ) (b : Body) → b.a < 256 → b.b < 256 → weight_of (record_of kind b) ≤ 65535
unfolding record_of weight_of
light zero b ha hb = omega arith
light (suc zero) b ha hb = omega arith
light (suc (suc zero)) b ha hb = omega arith
light (suc (suc (suc zero))) b ha hb = omega arith
light (suc (suc (suc (suc zero)))) b ha hb = omega arith
light (suc (suc (suc (suc (suc zero))))) b ha hb = omega arith
light (suc (suc (suc (suc (suc (suc zero)))))) b ha hb = omega arith
light (suc (suc (suc (suc (suc (suc (suc k))))))) b ha hb =
    let other : ℕ = suc (suc (suc (suc (suc (suc (suc k)))))) in
    rw (other-kind other b (omega arith) (omega arith) (omega arith) (omega arith) (omega arith) (omega arith)) (omega arith)

ranged-after : (r : Record) (p q : Progress) (at next : ℕ) → next_of p at r ≡ Ok (Some q) → weight_of r ≤ 65535 → at < next
    → Ranged p at → Ranged q next
unfolding next_of weight_of
ranged-after (header n l i) p q at next e w h ranged = rw (← next-same _ _ e) (omega arith)
ranged-after (location x) p q at next e w h ranged = rw (← next-same _ _ e) (omega arith)
ranged-after (invariant a) p q at next e w h ranged = rw (← next-same _ _ e) (omega arith)
ranged-after (edge s a d) p q at next e w h ranged = rw (← next-same _ _ e) (omega arith)
ranged-after (guard g) p q at next e w h ranged = rw (← next-same _ _ e) (omega arith)
ranged-after (branch b) p q at next e w h ranged = rw (← next-same _ _ e) (omega arith)
ranged-after end p q at next e w h ranged = absurd (let z : ◌≡◌ {A = ℕ} 0 1 = cc in omega arith)

-- The numbers stay small.
pub ranged-next : (table : List ℕ) (p q : Progress) (at : ℕ) → Bytes table → step_at table p at ≡ Ok (Some q) → at < past table at
    → Ranged p at → Ranged q (past table at)
unfolding record_at body_at
ranged-next table p q at bytes e h ranged =
    ranged-after (record_at table at) p q at (past table at)
    (stepped table p at (Ok (Some q)) e tt).next
    (light (kind_at table at) (body_at table at) (bytes (at + 1)) (bytes (at + 2))) h ranged

-- The loop's invariant: reading on from here gives what reading from the start gives.
pub record Underway (table : List ℕ) (p : Progress) (at : ℕ) : Type 0 where
  pub short : length table ≤ max_bytes
  pub inside : at ≤ length table
  pub ranged : Ranged p at
  pub same : told (run (suc (length table - at)) table p at) ≡ told (run (suc (length table)) table start 0)

pub underway-next : (table : List ℕ) (p q : Progress) (at : ℕ) → Bytes table → Underway table p at → step_at table p at ≡ Ok (Some q)
    → Underway table q (past table at)
underway-next table p q at bytes u e =
    let within = next-within table p q at e in
    record {
      short = u.short;
      inside = within.1;
      ranged = ranged-next table p q at bytes e within.0 u.ranged;
      same =
          ap told
          (run-enough (suc (length table - past table at)) (length table - at) table q (past table at) (omega arith) (omega arith) within.1)
          ∙ sym (turn-next (length table - at) table p at q e) ∙ u.same;
    }

-- What the run tells is the answer of the definition.
told-ended : (table : List ℕ) (r : Run) → run_table table ≡ r → told r ≡ reading_of (answer_of r)
unfolding reading_of
told-ended table (refused r p) e = refl
told-ended table (ended q items) e = ap Ok (shape table q items e)

run_short : (table : List ℕ) → length table ≤ max_bytes → run_table table ≡ run (suc (length table)) table start 0
unfolding run_table
run_short table h = rw (le-ltb max_bytes (length table) h)

pub told-read : (table : List ℕ) → length table ≤ max_bytes
    → told (run (suc (length table)) table start 0) ≡ reading_of (read_table table)
unfolding read_table
told-read table h = ap told (sym (run_short table h)) ∙ told-ended table (run_table table) refl

pub read-long : (table : List ℕ) → max_bytes < length table → reading_of (read_table table) ≡ Err (refusal_at TooLong 0)
unfolding read_table run_table reading_of
read-long table h = rw (lt-ltb max_bytes (length table) h)

pub underway-refused : (table : List ℕ) (p : Progress) (at : ℕ) (r : Refusal) → Underway table p at → step_at table p at ≡ Err r
    → Err r ≡ reading_of (read_table table)
underway-refused table p at r u e =
    sym (turn-refused (length table - at) table p at r e) ∙ u.same ∙ told-read table u.short

pub underway-end : (table : List ℕ) (p : Progress) (at : ℕ) → Underway table p at → step_at table p at ≡ Ok None
    → Ok (shape_from p) ≡ reading_of (read_table table)
underway-end table p at u e = sym (turn_end (length table - at) table p at e) ∙ u.same ∙ told-read table u.short
