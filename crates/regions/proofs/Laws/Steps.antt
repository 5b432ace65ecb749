-- What tells whether two regions are equal, and what follows by delay, test by test: laws that stand for a reader of the definitions; the
-- code needs none of them.
use Rattle.std.specs.Prelude.{ℕ, ◌≡◌, refl, Bool, true, false, List, [], ◌∷◌, Option, None, Some, eqb, length, get_or}
use Rattle.std.proofs.Common.{arith, sym, ◌∙◌, ap, eqb-true}
use Rattle.std.proofs.lemmas.Bool.{false≢true, eqb-false}
use Rattle.table.specs.Model.{Model}
use Rattle.clocks.specs.Packed.{delayed}
use Rattle.clocks.specs.declared.region.Bounds.{Bounds}
use Rattle.clocks.specs.declared.region.Region.{Region}
use Rattle.regions.specs.Entries.{four_from}
use Rattle.regions.specs.Graph.{bounds_of, meets, delay_next}
use Rattle.regions.specs.Laws.Graph.{delay-none, delay-breaks, delay-some}

-- ---- Equal regions

-- An answer tells whether a statement holds.
pub record Tells (b : Bool) (P : Type 0) : Type 0 where
  pub holds : b ≡ true → P
  pub fails : b ≡ false → P → ⊥

-- What does not hold is told by false.
pub tells-not : {P : Type 0} → (P → ⊥) → Tells false P
tells-not differ = record { holds = λ e. absurd (false≢true e); fails = λ e. differ }

-- A list of four is its four bytes.
four-whole : (l : List ℕ) → length l ≡ 4 → four_from l 0 ≡ l
four-whole [] e = absurd (omega arith)
four-whole (a ∷ []) e = absurd (omega arith)
four-whole (a ∷ b ∷ []) e = absurd (omega arith)
four-whole (a ∷ b ∷ c ∷ []) e = absurd (omega arith)
four-whole (a ∷ b ∷ c ∷ d ∷ []) e = refl
four-whole (a ∷ b ∷ c ∷ d ∷ x ∷ l) e = absurd (omega arith)

-- Two lists of four of which only the last byte is left to compare.
pub four-rest : (a b : List ℕ) → length a ≡ 4 → length b ≡ 4 → get_or a 0 0 ≡ get_or b 0 0 → get_or a 1 0 ≡ get_or b 1 0
    → get_or a 2 0 ≡ get_or b 2 0 → Tells (eqb (get_or a 3 0) (get_or b 3 0)) (a ≡ b)
four-rest a b la lb e₀ e₁ e₂ =
    record {
      holds = λ e. sym (four-whole a la) ∙ rw (e₀, e₁, e₂, eqb-true (get_or a 3 0) (get_or b 3 0) e) (four-whole b lb);
      fails = λ e same. eqb-false (get_or a 3 0) (get_or b 3 0) e (ap (λ l. get_or l 3 0) same);
    }

-- Two regions of which only the ranks are left to compare.
pub region-rest : (a b : Region) (same : Bool) → a.location ≡ b.location → a.whole ≡ b.whole → Tells same (a.rank ≡ b.rank)
    → Tells same (a ≡ b)
region-rest a b same e₀ e₁ rest =
    record {
      holds = λ e. rw (e₀, e₁, rest.holds e);
      fails = λ e equal. rest.fails e (ap (λ r. r.rank) equal);
    }

-- ---- What follows by delay: nothing, a region that breaks its invariant, or one that does not

module _ (m : Model) (bounds : Bounds) (same : bounds ≡ bounds_of m) (at : Region) (moved : Option Region)
    (is : moved ≡ delayed bounds at) where
  told : moved ≡ delayed (bounds_of m) at
  told = is ∙ ap (λ (x : Bounds). delayed x at) same

  pub moved_none : moved ≡ None → delay_next m at ≡ []
  moved_none e = delay-none m at (sym told ∙ e)

  module _ (q : Region) (e : moved ≡ Some q) where
    meets-is : meets (bounds_of m) m.invariants q ≡ meets bounds m.invariants q
    meets-is = ap (λ (x : Bounds). meets x m.invariants q) (sym same)

    pub moved-breaks : meets bounds m.invariants q ≡ false → delay_next m at ≡ []
    moved-breaks b = delay-breaks m at q (sym told ∙ e) (meets-is ∙ b)

    pub moved-some : meets bounds m.invariants q ≡ true → delay_next m at ≡ q ∷ []
    moved-some b = delay-some m at q (sym told ∙ e) (meets-is ∙ b)
