-- Bytes that a writer puts one after the other, and what its text holds in the end.
use Rattle.std.specs.Prelude.{ℕ, ◌+◌, ◌<◌, ◌≤◌, get_or, ◌≡◌, refl, List, [], ◌∷◌, ◌++◌, length, take}
use Rattle.std.proofs.Common.{arith, sym, ◌∙◌, subst, append_assoc}
use Rattle.std.proofs.lemmas.List.{take_more}
use Rattle.text.specs.declared.writing.Writer.{Writer}
use Rattle.text.specs.Writing.{Adds, Added, Puts}
use Rattle.text.specs.Laws.Writing.{adds_none, adds_then, adds-all, adds-is}

-- Some bytes are put, and then others.
pub added_then : (a b c : Writer) (one two : List ℕ) → Added a b one → Added b c two → Added a c (one ++ two)
unfolding Added
added_then a b c one two p q = adds_then p q

-- Nothing is put.
pub added_none : (a : Writer) → Added a a []
unfolding Added
added_none a = adds_none a.text.now a.at

-- One byte more of a word is put.
pub added_more : (a b c : Writer) (word : List ℕ) (i : ℕ) → i < length word → Added a b (take i word) → Added b c (get_or word i 0 ∷ [])
    → Added a c (take (i + 1) word)
added_more a b c word i inside p q =
    subst (Added a c) (sym (take_more word i 0 inside)) (added_then a b c (take i word) (get_or word i 0 ∷ []) p q)

-- The steps of code that puts text together.
pub ruleset writing = (added_then, added_none, added_more, append_assoc)

pub puts_then : {a b c : Writer} {one two : List ℕ} → Puts a b one → Puts b c two → Puts a c (one ++ two)
puts_then {a} {b} {c} {one} {two} p q =
    record { same_reference = q.same_reference ∙ p.same_reference; added = added_then a b c one two p.added q.added }

pub puts_none : (a : Writer) → Puts a a []
puts_none a = record { same_reference = refl; added = added_none a }

-- The same bytes, otherwise said.
pub puts_same : {a b : Writer} {one two : List ℕ} → one ≡ two → Puts a b one → Puts a b two
puts_same {a} {b} e p = subst (Puts a b) e p

-- What is put keeps a writer's place within its text, where it was so, as `new` makes it.
pub puts_within : {a b : Writer} {bytes : List ℕ} → Puts a b bytes → a.at ≤ length a.text.now → b.at ≤ length b.text.now
unfolding Added
puts_within p within = omega (arith, (adds-is p.added within).0, p.added.as_long)

-- What was put from the front of a text on, where there is room for it.
pub puts-all : {a b : Writer} {bytes : List ℕ} → Puts a b bytes → a.at ≡ 0 → length bytes ≤ length a.text.now
    → (b.at ≡ length bytes) × (take b.at b.text.now ≡ bytes)
unfolding Added
puts-all {a} {b} {bytes} p front room =
    adds-all (subst (λ (k : ℕ). Adds a.text.now k b.text.now b.at bytes) front p.added) room
