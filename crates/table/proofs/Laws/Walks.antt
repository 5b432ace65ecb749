-- Laws for the loop that walks over records of one kind, and for reading the record that it comes to.
use Rattle.std.specs.Prelude.{ℕ, zero, suc, ◌+◌, ◌*◌, ◌-◌, ◌≤◌, ◌<◌, ◌≡◌, refl, Bool, true, false, cond, List, [], ◌∷◌, eqb, length}
use Rattle.std.proofs.Common.{arith, zero-add, sym, ◌∙◌, ap, eq-eqb, ne_eqb}
use Rattle.std.proofs.Math.Nat.{sub-zero, mul-zero, mul-suc}
use Rattle.std.proofs.lemmas.Bool.{eqb-true}
use Rattle.table.specs.Format.{body_length}
use Rattle.table.specs.Records.{kind_at, body_at}
use Rattle.table.specs.Access.{walk_to, passed, item_from, no_body, no_invariant, no_guard, no_branch}
use Rattle.table.specs.Access.{read_label, read_invariant, read_guard, read_branch}
use Rattle.table.specs.Records.{invariant_of, guard_of, branch_of}
use Rattle.table.specs.declared.bodies.Body.{Body}

-- A byte that is not 0 stands within the table.
pub inside : (table : List ℕ) (at kind : ℕ) → kind_at table at ≡ kind → 0 < kind → at < length table
inside [] at kind e h = absurd (omega arith)
inside (x ∷ table) zero kind e h = omega arith
inside (x ∷ table) (suc at) kind e h = let k = inside table at kind e h in omega arith

-- The loop's invariant: going on from `at`, after `n` records, comes to where the whole walk from `first` comes to.
pub record Walking (table : List ℕ) (first kind most at n : ℕ) : Type 0 where
  pub few : n ≤ most
  pub comes : walk_to kind (most - n) table at ≡ walk_to kind most table first
  pub counts : n + passed kind (most - n) table at ≡ passed kind most table first

pub walking_start : (table : List ℕ) (first kind most : ℕ) → Walking table first kind most first 0
walking_start table first kind most = record { few = omega arith; comes = rw sub-zero; counts = rw (sub-zero, zero-add) }

stays : (table : List ℕ) (at kind k : ℕ) → (kind_at table at ≡ kind → ⊥) → walk_to kind k table at ≡ at
unfolding walk_to
stays table at kind zero other = refl
stays table at kind (suc k) other = rw (ne_eqb (kind_at table at) kind other)

passes_none : (table : List ℕ) (at kind k : ℕ) → (kind_at table at ≡ kind → ⊥) → passed kind k table at ≡ 0
unfolding passed
passes_none table at kind zero other = refl
passes_none table at kind (suc k) other = rw (ne_eqb (kind_at table at) kind other)

-- Another record stands here: the walk is over.
pub walked-other : (table : List ℕ) (first kind most at n : ℕ) → Walking table first kind most at n → (kind_at table at ≡ kind → ⊥)
    → (at ≡ walk_to kind most table first) × (n ≡ passed kind most table first)
walked-other table first kind most at n w other = (
  sym (stays table at kind (most - n) other) ∙ w.comes,
  omega (arith, w.counts, passes_none table at kind (most - n) other),
)

-- None is left to pass.
pub walked_all : (table : List ℕ) (first kind most at n : ℕ) → Walking table first kind most at n → most ≤ n
    → (at ≡ walk_to kind most table first) × (n ≡ passed kind most table first)
unfolding walk_to passed
walked_all table first kind most at n w all =
    let over : most - n ≡ 0 = omega arith in (
      sym (ap (λ k. walk_to kind k table at) over) ∙ w.comes,
      omega (arith, w.counts, ap (λ k. passed kind k table at) over),
    )

-- A record of the kind stands here, and one more is to be passed.
pub walking_on : (table : List ℕ) (first kind most at n : ℕ) → Walking table first kind most at n → n < most → kind_at table at ≡ kind
    → Walking table first kind most (at + 1 + body_length kind) (n + 1)
unfolding walk_to passed
walking_on table first kind most at n w less here =
    let k : ℕ = most - (n + 1) in
    let more : most - n ≡ suc k = omega arith in
    let test : eqb (kind_at table at) kind ≡ true = eq-eqb (kind_at table at) kind here in
    record {
      few = omega arith;
      comes =
          sym (ap (λ b. cond b (walk_to kind k table (at + 1 + body_length kind)) at) test)
          ∙ sym (ap (λ k. walk_to kind k table at) more)
          ∙ w.comes;
      counts =
          omega (
            arith,
            w.counts,
            ap (λ k. passed kind k table at) more,
            ap (λ b. cond b (suc (passed kind k table (at + 1 + body_length kind))) 0) test,
          );
    }

-- Item i of those that a walk passes stands i records after the first.
abbrev pub StandsAt : List ℕ → ℕ → ℕ → ℕ → Type 0
StandsAt table first kind i =
    (walk_to kind i table first ≡ first + (1 + body_length kind) * i) × (kind_at table (first + (1 + body_length kind) * i) ≡ kind)

pub passed-at : (table : List ℕ) (first kind most i : ℕ) → i < passed kind most table first → StandsAt table first kind i
unfolding walk_to passed
passed-at table first kind zero i h = absurd (omega arith)
passed-at table first kind (suc most) i h =
    of (eqb (kind_at table first) kind) refl i h (passed-at table (first + 1 + body_length kind) kind most)
  where
    of : (b : Bool) → eqb (kind_at table first) kind ≡ b → (i : ℕ)
        → i < cond b (suc (passed kind most table (first + 1 + body_length kind))) 0
        → ((j : ℕ) → j < passed kind most table (first + 1 + body_length kind) → StandsAt table (first + 1 + body_length kind) kind j)
        → StandsAt table first kind i
    of false test i h later = absurd (omega arith)
    of true test zero h later =
        let here : first + (1 + body_length kind) * 0 ≡ first = omega (arith, mul-zero (1 + body_length kind)) in
        (sym here, ap (kind_at table) here ∙ eqb-true (kind_at table first) kind test)
    of true test (suc i) h later =
        let next = later i (omega arith) in
        let on : first + 1 + body_length kind + (1 + body_length kind) * i ≡ first + (1 + body_length kind) * suc i =
        omega (arith, mul-suc (1 + body_length kind) i) in (
          ap (λ b. cond b (walk_to kind i table (first + 1 + body_length kind)) first) test ∙ next.0 ∙ on,
          ap (kind_at table) (sym on) ∙ next.1,
        )

-- A part of the record that is read is that part of what is read of it.
pub item-part : {A : Type 0} (f : Body → A) (table : List ℕ) (first kind i : ℕ)
    → f (item_from kind no_body body_at table first i) ≡ item_from kind (f no_body) (λ t at. f (body_at t at)) table first i
item-part f table first kind i = part (eqb (kind_at table (walk_to kind i table first)) kind)
  where
    part : (b : Bool) → f (cond b (body_at table (walk_to kind i table first)) no_body)
        ≡ cond b (f (body_at table (walk_to kind i table first))) (f no_body)
    part true = refl
    part false = refl

pub label-part : (table : List ℕ) (first i : ℕ)
    → (item_from 2 no_body body_at table first i).a ≡ item_from 2 0 read_label table first i
label-part table first i = item-part (λ b. b.a) table first 2 i

pub invariant-part : (table : List ℕ) (first i : ℕ)
    → invariant_of (item_from 3 no_body body_at table first i) ≡ item_from 3 no_invariant read_invariant table first i
invariant-part table first i = item-part invariant_of table first 3 i

pub guard-part : (table : List ℕ) (first i : ℕ)
    → guard_of (item_from 5 no_body body_at table first i) ≡ item_from 5 no_guard read_guard table first i
guard-part table first i = item-part guard_of table first 5 i

pub branch-part : (table : List ℕ) (first i : ℕ)
    → branch_of (item_from 6 no_body body_at table first i) ≡ item_from 6 no_branch read_branch table first i
branch-part table first i = item-part branch_of table first 6 i
