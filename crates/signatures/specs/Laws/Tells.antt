-- What the ids of a pass tell of the next round in a closed structure: items have equal ids exactly if it relates them, and an item without
-- an id is related to none that has one.
use Rattle.std.specs.Prelude.{ℕ, zero, suc, ◌≤◌, ◌<◌, ◌≡◌, refl, true, cond, List, [], ◌∷◌, ◌↔◌, ltb, eqb, length, get_or}
use Rattle.std.proofs.Common.{arith, ◌∙◌, ap, subst, inl, inr, ltb-true, ne_eqb}
use Rattle.std.proofs.Math.Path.{sym}
use Rattle.bisimulation.specs.Structures.{Closed}
use Rattle.bisimulation.specs.Finite.{Finite, structure, next}
use Rattle.bisimulation.proofs.Laws.Tests.{both}
use Rattle.graph.specs.Readers.{delay_of}
use Rattle.graph.proofs.Laws.Bounds.{denominator-small}
use Rattle.signatures.specs.Sets.{set_of}
use Rattle.signatures.specs.Steps.{name_of}
use Rattle.signatures.specs.Signatures.{names_of, SameSignature}
use Rattle.signatures.specs.Structure.{chain_from, edge_of, structure_of}
use Rattle.signatures.specs.Named.{Alike, items_in, jump_of, Skips, reached_from, steps_from, no_id, Passed}
use Rattle.signatures.specs.Laws.Sets.{set_same}
use Rattle.signatures.specs.Laws.Reached.{skip-to, skip-from}
use Rattle.signatures.specs.Laws.Signatures.{Small, signature-tells}
use Rattle.signatures.specs.Laws.Named.{named-same, named-alike, refused-apart}

-- Where to go on along delays is right: the names met are those of all that is reached by delay.
abbrev pub Jumps : (graph edges names : List ℕ) → Type 0
Jumps graph edges names =
    (x : ℕ) → x < items_in names → reached_from names x ≡ set_of (names_of names ((structure_of (items_in names) graph edges).delays x))

-- It is, where each item goes on to what follows it.
chain_same : (next next' : ℕ → ℕ) (n : ℕ) → ((y : ℕ) → y < n → next y ≡ next' y) → (steps x : ℕ)
    → chain_from next n steps x ≡ chain_from next' n steps x
chain_same next next' n same zero x = refl
chain_same next next' n same (suc steps) x =
    elim (both (ltb x n)) [
      | inl e ↦ rw e (ap (λ (l : List ℕ). x ∷ l)
          (ap (chain_from next n steps) (same x (ltb-true x n e)) ∙ chain_same next next' n same steps (next' x)))
      | inr e ↦ rw e refl
    ]

pub jumps-plain : (graph edges names : List ℕ) → ((y : ℕ) → y < items_in names → jump_of names y ≡ delay_of graph y)
    → Jumps graph edges names
unfolding reached_from structure_of
jumps-plain graph edges names same x h =
    ap (λ (l : List ℕ). set_of (names_of names l)) (chain_same (jump_of names) (delay_of graph) (items_in names) same (items_in names) x)

-- It is too, where each item's jump passes items of its own name alone.
pub jumps-skip : (graph edges names : List ℕ) → Skips graph names → Jumps graph edges names
unfolding reached_from structure_of
jumps-skip graph edges names skips x h =
    set_same (names_of names (chain_from (jump_of names) (items_in names) (items_in names) x))
    (names_of names (chain_from (delay_of graph) (items_in names) (items_in names) x))
    (skip-to graph names skips x) (skip-from graph names skips x)

-- Denominators are below 2^30 in any slices.
pub slices-small : (n : ℕ) (graph edges : List ℕ) → Small (structure_of n graph edges)
unfolding structure_of
slices-small n graph edges x e = denominator-small edges (edge_of graph x e)

module _ {graph edges names items items' : List ℕ} (passed : Passed graph edges names items items')
    (closed : Closed (structure (structure_of (items_in names) graph edges))) (jumps : Jumps graph edges names) where
  abbrev F : Finite
  F = structure_of (items_in names) graph edges

  module _ (j k : ℕ) (hj : j < length items) (hk : k < length items) (nj : get_or items j 0 < items_in names)
      (nk : get_or items k 0 < items_in names) where
    alike_same : Alike (name_of names (get_or items j 0)) (reached_from names (get_or items j 0))
        (steps_from graph edges names (get_or items j 0))
        (name_of names (get_or items k 0)) (reached_from names (get_or items k 0)) (steps_from graph edges names (get_or items k 0))
        → SameSignature F names (get_or items j 0) (get_or items k 0)
    unfolding steps_from
    alike_same a =
        record {
          name = a.same;
          delays = sym (jumps (get_or items j 0) nj) ∙ a.reaches ∙ jumps (get_or items k 0) nk;
          steps-to = a.to;
          steps-from = a.fro;
        }

    same_alike : SameSignature F names (get_or items j 0) (get_or items k 0)
        → Alike (name_of names (get_or items j 0)) (reached_from names (get_or items j 0)) (steps_from graph edges names (get_or items j 0))
        (name_of names (get_or items k 0)) (reached_from names (get_or items k 0)) (steps_from graph edges names (get_or items k 0))
    unfolding steps_from
    same_alike s =
        record {
          same = s.name;
          reaches = jumps (get_or items j 0) nj ∙ s.delays ∙ sym (jumps (get_or items k 0) nk);
          to = s.steps-to;
          fro = s.steps-from;
        }

    tells : (next F names (get_or items j 0) (get_or items k 0) ≡ true) ↔ SameSignature F names (get_or items j 0) (get_or items k 0)
    unfolding structure_of
    tells = signature-tells F closed (slices-small (items_in names) graph edges) names (get_or items j 0) (get_or items k 0) nj nk

    pub pass-tells : (get_or items' j 0 ≡ no_id → ⊥) → (get_or items' k 0 ≡ no_id → ⊥)
        → (get_or items' j 0 ≡ get_or items' k 0) ↔ (next F names (get_or items j 0) (get_or items k 0) ≡ true)
    pass-tells sj sk = (
      λ e. tells.1 (alike_same (named-alike passed.different (passed.all.id j hj sj) (passed.all.id k hk sk) e)),
      λ is. named-same passed.different (passed.all.id j hj sj) (passed.all.id k hk sk) (same_alike (tells.0 is)),
    )

    pub pass-apart : get_or items' j 0 ≡ no_id → (get_or items' k 0 ≡ no_id → ⊥) → next F names (get_or items j 0) (get_or items k 0) ≡ true
        → ⊥
    pass-apart none some is =
        refused-apart passed.different (passed.all.refused j hj none) (passed.all.id k hk some) (same_alike (tells.0 is))

-- The first item has an id; and ids are below 8,192.
module _ {graph edges names items items' : List ℕ} (passed : Passed graph edges names items items') where
  pub pass-first : 0 < length items → get_or items' 0 0 ≡ no_id → ⊥
  pass-first = passed.all.first

  pub pass-small : (j : ℕ) → j < length items → (get_or items' j 0 ≡ no_id → ⊥) → get_or items' j 0 < 8192
  pass-small j h some = omega (arith, (passed.all.id j h some).whole.0, passed.few)

-- So fewer items wait after a pass than it was given.
abbrev pub waiting : List ℕ → ℕ
waiting [] = 0
waiting (x ∷ l) = cond (eqb x no_id) (suc (waiting l)) (waiting l)

waiting-most : (l : List ℕ) → waiting l ≤ length l
waiting-most [] = omega arith
waiting-most (x ∷ l) =
    elim (both (eqb x no_id)) [
      | inl e ↦ rw e (omega (arith, waiting-most l))
      | inr e ↦ rw e (omega (arith, waiting-most l))
    ]

waiting-less : (l : List ℕ) → 0 < length l → (get_or l 0 0 ≡ no_id → ⊥) → waiting l < length l
waiting-less [] h some = absurd (omega (arith, h))
waiting-less (x ∷ l) h some = rw (ne_eqb x no_id some) (omega (arith, waiting-most l))

pub pass-progress : {graph edges names items items' : List ℕ} → Passed graph edges names items items' → 0 < length items
    → waiting items' < length items
pass-progress {items = items} {items' = items'} passed h =
    subst (λ (n : ℕ). waiting items' < n) passed.all.size
    (waiting-less items' (omega (arith, passed.all.size, h)) (passed.all.first h))
