-- Weights that land in a block, summed branch by branch.
use Rattle.std.proofs.Common.{arith, ap, sym, ◌∙◌, subst, eq-eqb, ne_eqb, eqb-true, refl, eqb}
use Rattle.std.specs.Prelude.{Option, Some, None, is_some}
use Rattle.std.specs.Prelude.{ℕ, suc, ◌+◌, ◌-◌, ◌≤◌, ◌<◌, ◌≡◌, true, List, get_or}
use Rattle.bisimulation.specs.Finite.{sum, all_below, some_below}
use Rattle.bisimulation.proofs.Laws.Tests.{all-below, some_below_lem}
use Rattle.comparison.specs.Laws.Compare.{sum_same, answers-on}
use Rattle.comparison.specs.Laws.Codes.{one-answers}
use Rattle.comparison.specs.declared.held.Graph.{Graph}
use Rattle.comparison.specs.Held.{branches_from}
use Rattle.comparison.specs.Compare.{weighed as weighed_in}
use Rattle.comparison.specs.Graphs.{count, weight, target_at, number_of, weighed, is_open, BothAlike, some_answers, Found}
use Rattle.comparison.specs.Shares.{weighed_from, balanced_by}

module _ (g : Graph) (list : List ℕ) (c x e : ℕ) where
  pub weighed-first : weighed_from g list c x e 0 ≡ weighed g list c x e
  unfolding weighed_in
  weighed-first =
      let all : count g e - 0 ≡ count g e = omega arith in
      ap (λ (m : ℕ). sum list c (branches_from g.resets.now g.spots.now g.rows.now x e 0 m)) all

  module _ (i : ℕ) (inside : i < count g e) where
    -- A branch into the block, and one into another block.
    pub weighed-hit : number_of g list x e i ≡ get_or list c 0
        → weighed_from g list c x e i ≡ weight g e i + weighed_from g list c x e (i + 1)
    weighed-hit same =
        let more : count g e - i ≡ suc (count g e - (i + 1)) = omega arith in
        let next : i + 1 ≡ suc i = omega arith in
        rw (more, eq-eqb (number_of g list x e i) (get_or list c 0) same, next) refl

    pub weighed-miss : ¬ (number_of g list x e i ≡ get_or list c 0)
        → weighed_from g list c x e i ≡ weighed_from g list c x e (i + 1)
    weighed-miss other =
        let more : count g e - i ≡ suc (count g e - (i + 1)) = omega arith in
        let next : i + 1 ≡ suc i = omega arith in
        rw (more, ne_eqb (number_of g list x e i) (get_or list c 0) other, next) refl

  pub weighed-over : (i : ℕ) → count g e ≤ i → weighed_from g list c x e i ≡ 0
  weighed-over i h = let none : count g e - i ≡ 0 = omega arith in rw none refl

-- Items of one block are landed the same weight, and balance passes between them.
pub weighed-same : (g : Graph) (list : List ℕ) (t c x e : ℕ) → get_or list t 0 ≡ get_or list c 0
    → weighed g list t x e ≡ weighed g list c x e
unfolding weighed_in
weighed-same g list t c x e same =
    sum_same list t c (eq-eqb (get_or list t 0) (get_or list c 0) same)
    (branches_from g.resets.now g.spots.now g.rows.now x e 0 (count g e))

module _ (g h : Graph) (list list' : List ℕ) (other : list' ≡ list) (x e y f : ℕ) where
  pub balanced-same : (t c : ℕ) → get_or list t 0 ≡ get_or list c 0
      → balanced_by g list x e h list' y f t ≡ balanced_by g list x e h list' y f c
  balanced-same t c same =
      rw (
        weighed-same g list t c x e same,
        weighed-same h list' t c y f (subst (λ (l : List ℕ). get_or l t 0 ≡ get_or l c 0) (sym other) same),
      ) refl

  -- Edges that are balanced at the targets of the first are balanced at every item that has the number of one of these targets.
  pub balanced-into : (c : ℕ)
      → all_below (count g e) (λ i. balanced_by g list x e h list' y f (target_at g x e i)) ≡ true
      → some_below (count g e) (λ i. eqb (number_of g list x e i) (get_or list c 0)) ≡ true
      → balanced_by g list x e h list' y f c ≡ true
  balanced-into c all some =
      let (i, below, same) = some_below_lem (count g e) (λ i. eqb (number_of g list x e i) (get_or list c 0)) some in
      sym (balanced-same (target_at g x e i) c (eqb-true (number_of g list x e i) (get_or list c 0) same))
      ∙ (all-below (count g e) (λ i. balanced_by g list x e h list' y f (target_at g x e i))).0 all i below

-- Available edges that are alike both ways have an answer, each at the other's item.
pub paired-answers : (g : Graph) (list : List ℕ) (x e y f : ℕ) → e < g.k → f < g.k → is_open g x e ≡ true → is_open g y f ≡ true
    → BothAlike g list x e y f → (some_answers g list x e y ≡ true) × (some_answers g list y f x ≡ true)
paired-answers g list x e y f he hf open-e open-f (there, back) = (
  one-answers g.k list g.flags.now g.resets.now g.spots.now g.rows.now x e y f hf
      (answers-on list g.flags.now g.resets.now g.spots.now g.rows.now x e y f open-f ∙ there),
  one-answers g.k list g.flags.now g.resets.now g.spots.now g.rows.now y f x e he
      (answers-on list g.flags.now g.resets.now g.spots.now g.rows.now y f x e open-e ∙ back),
)

-- A search that found something tells that there is an answer.
pub found-tells : (g : Graph) (list : List ℕ) (x e y : ℕ) (r : Option ℕ) → Found g list x e y r → is_some r ≡ some_answers g list x e y
found-tells g list x e y None none = sym none
found-tells g list x e y (Some f) (below, answer) =
    sym (one-answers g.k list g.flags.now g.resets.now g.spots.now g.rows.now x e y f below answer)
