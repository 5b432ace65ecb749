-- The cases of what the code does step by step: along the links of a bucket or of a class, word by word, and where a reset is known.
use Prim.Native.Nat.{ℕ, zero, suc, ◌+◌, ◌*◌, ◌-◌, ◌%◌, ◌≤◌, ◌<◌}
use native.Mathlib.Omega.{arith}
use Rattle.std.specs.Prelude.{◌≡◌, Bool, true, false, ◌⊎◌, eqb}
use Rattle.std.proofs.Math.Path.{refl, sym, ap}
use Rattle.std.proofs.Common.{◌∙◌, inl, inr, eqb-true, eq-eqb, ne_eqb}
use Rattle.std.proofs.Math.Bool.{cond}
use mathlib.Core.List.{List, [], ◌∷◌}
use Rattle.graph.specs.Columns.{nothing, store, most_regions, resets, available}
use Rattle.graph.specs.Readers.{class_of, region_head, region_link, walk, region_at, reset_class, source_head, source_link, sources_from}
use Rattle.graph.specs.Readers.{sources_of}
use Rattle.graph.proofs.Laws.Latest.{both}
use Rattle.graph.specs.Writers.{cleared_words, with_none_available, with_source, with_reset}

module _ (graph : List ℕ) (class : ℕ) where
  pub walk_start : (location : ℕ) → walk graph 4096 (region_head graph class location) class ≡ region_at graph class location
  unfolding region_at
  walk_start location = refl

  module _ (steps x : ℕ) where
    -- So many steps are left, and one is taken.
    one_less : steps < 4096 → 4096 - steps ≡ suc (4096 - (steps + 1))
    one_less h = omega arith

    pub walk_ends : steps < 4096 → x ≡ nothing → nothing ≡ walk graph (4096 - steps) x class
    unfolding walk
    walk_ends h e = sym (ap (λ (k : ℕ). walk graph k x class) (one_less h) ∙ ap
        (λ (b : Bool). cond b nothing (cond (eqb (class_of graph x) class) x (walk graph (4096 - (steps + 1)) (region_link graph x) class)))
        (eq-eqb x nothing e))

    pub walk_here : steps < 4096 → (x ≡ nothing → ⊥) → class_of graph x ≡ class → x ≡ walk graph (4096 - steps) x class
    unfolding walk
    walk_here h some e =
        sym (ap (λ (k : ℕ). walk graph k x class) (one_less h) ∙ ap
        (λ (b : Bool). cond b nothing (cond (eqb (class_of graph x) class) x
        (walk graph (4096 - (steps + 1)) (region_link graph x) class)))
        (ne_eqb x nothing some)
        ∙ ap (λ (b : Bool). cond b x (walk graph (4096 - (steps + 1)) (region_link graph x) class)) (eq-eqb (class_of graph x) class e))

    pub walk-on : steps < 4096 → (x ≡ nothing → ⊥) → (class_of graph x ≡ class → ⊥)
        → walk graph (4096 - (steps + 1)) (region_link graph x) class ≡ walk graph (4096 - steps) x class
    unfolding walk
    walk-on h some other =
        sym (ap (λ (k : ℕ). walk graph k x class) (one_less h) ∙ ap
        (λ (b : Bool). cond b nothing (cond (eqb (class_of graph x) class) x
        (walk graph (4096 - (steps + 1)) (region_link graph x) class)))
        (ne_eqb x nothing some)
        ∙ ap (λ (b : Bool). cond b x (walk graph (4096 - (steps + 1)) (region_link graph x) class)) (ne_eqb (class_of graph x) class other))

    pub walk-over : 4096 ≤ steps → nothing ≡ walk graph (4096 - steps) x class
    unfolding walk
    walk-over h = let none : 4096 - steps ≡ 0 = omega arith in sym (ap (λ (k : ℕ). walk graph k x class) none)

-- The steps of the walk along the resets that lead to a class.
module _ (graph : List ℕ) where
  pub sources-start : (class : ℕ) → sources_from graph 61440 (source_head graph class) ≡ sources_of graph class
  unfolding sources_of
  sources-start class = refl

  module _ (steps reset : ℕ) where
    pub sources-end : steps < 61440 → reset ≡ nothing → [] ≡ sources_from graph (61440 - steps) reset
    unfolding sources_from
    sources-end h e =
        let less : 61440 - steps ≡ suc (61440 - (steps + 1)) = omega arith in
        sym (ap (λ (k : ℕ). sources_from graph k reset) less ∙ ap
        (λ (b : Bool). cond b [] (reset ∷ sources_from graph (61440 - (steps + 1)) (source_link graph reset))) (eq-eqb reset nothing e))

    pub sources-on : steps < 61440 → (reset ≡ nothing → ⊥)
        → reset ∷ sources_from graph (61440 - (steps + 1)) (source_link graph reset) ≡ sources_from graph (61440 - steps) reset
    unfolding sources_from
    sources-on h some =
        let less : 61440 - steps ≡ suc (61440 - (steps + 1)) = omega arith in
        sym (ap (λ (k : ℕ). sources_from graph k reset) less ∙ ap
        (λ (b : Bool). cond b [] (reset ∷ sources_from graph (61440 - (steps + 1)) (source_link graph reset))) (ne_eqb reset nothing some))

    pub sources-over : 61440 ≤ steps → [] ≡ sources_from graph (61440 - steps) reset
    unfolding sources_from
    sources-over h = let none : 61440 - steps ≡ 0 = omega arith in sym (ap (λ (k : ℕ). sources_from graph k reset) none)

-- The region that a walk finds has the class that it was sought by, whatever the slice holds.
walk-class : (graph : List ℕ) (c steps x u : ℕ) → walk graph steps x c ≡ u → (u ≡ nothing → ⊥) → class_of graph u ≡ c
unfolding walk
walk-class graph c zero x u is some = absurd (some (sym is))
walk-class graph c (suc steps) x u is some =
    go (walk-class graph c steps (region_link graph x) u) (both (eqb x nothing)) (both (eqb (class_of graph x) c))
  where
    go : (walk graph steps (region_link graph x) c ≡ u → (u ≡ nothing → ⊥) → class_of graph u ≡ c)
        → (eqb x nothing ≡ true) ⊎ (eqb x nothing ≡ false) → (eqb (class_of graph x) c ≡ true) ⊎ (eqb (class_of graph x) c ≡ false)
        → class_of graph u ≡ c
    go rest (inl e) w = absurd (some (sym is ∙ ap
        (λ (b : Bool). cond b nothing (cond (eqb (class_of graph x) c) x (walk graph steps (region_link graph x) c))) e))
    go rest (inr e) (inl w) =
        let here : x ≡ u = sym (ap
        (λ (b : Bool). cond b nothing (cond (eqb (class_of graph x) c) x (walk graph steps (region_link graph x) c))) e
        ∙ ap (λ (b : Bool). cond b x (walk graph steps (region_link graph x) c)) w) ∙ is in
        ap (class_of graph) (sym here) ∙ eqb-true (class_of graph x) c w
    go rest (inr e) (inr w) =
        rest (sym (ap (λ (b : Bool). cond b nothing (cond (eqb (class_of graph x) c) x (walk graph steps (region_link graph x) c))) e
        ∙ ap (λ (b : Bool). cond b x (walk graph steps (region_link graph x) c)) w) ∙ is) some

pub landing-class : (graph : List ℕ) (c l u : ℕ) → region_at graph c l ≡ u → (u ≡ nothing → ⊥) → class_of graph u ≡ c
unfolding region_at
landing-class graph c l u is some = walk-class graph c most_regions (region_head graph c l) u is some

module _ (graph : List ℕ) (region : ℕ) where
  pub cleared-none : graph ≡ cleared_words graph region 0
  unfolding cleared_words
  cleared-none = refl

  pub cleared_more : (graph' : List ℕ) (words : ℕ) → graph' ≡ cleared_words graph region words
      → store available graph' (8 * (region % most_regions) + words) 0 ≡ cleared_words graph region (words + 1)
  unfolding cleared_words
  cleared_more graph' words e =
      let next : words + 1 ≡ suc words = omega arith in
      ap (λ (g : List ℕ). store available g (8 * (region % most_regions) + words) 0) e ∙ sym (ap (cleared_words graph region) next)

  pub cleared-all : (words : ℕ) → words ≤ 8 → 8 ≤ words → cleared_words graph region words ≡ with_none_available graph region
  unfolding with_none_available
  cleared-all words h k = let e : words ≡ 8 = omega arith in ap (cleared_words graph region) e

module _ (graph : List ℕ) (class mask after : ℕ) where
  pub reset-known : (reset_class graph class mask ≡ nothing → ⊥) → with_reset graph class mask after ≡ graph
  unfolding with_reset
  reset-known known = ap (λ (b : Bool). cond b
      (cond (eqb (mask % 16) 0) (store resets graph (16 * (class % most_regions) + mask % 16) after)
      (with_source (store resets graph (16 * (class % most_regions) + mask % 16) after) class (mask % 16) after)) graph)
      (ne_eqb (reset_class graph class mask) nothing known)

  pub reset-plain : reset_class graph class mask ≡ nothing → mask % 16 ≡ 0
      → with_reset graph class mask after ≡ store resets graph (16 * (class % most_regions) + mask % 16) after
  unfolding with_reset
  reset-plain fresh none =
      ap (λ (b : Bool). cond b (cond (eqb (mask % 16) 0) (store resets graph (16 * (class % most_regions) + mask % 16) after)
      (with_source (store resets graph (16 * (class % most_regions) + mask % 16) after) class (mask % 16) after)) graph)
      (eq-eqb (reset_class graph class mask) nothing fresh)
      ∙ ap (λ (b : Bool). cond b (store resets graph (16 * (class % most_regions) + mask % 16) after)
      (with_source (store resets graph (16 * (class % most_regions) + mask % 16) after) class (mask % 16) after))
      (eq-eqb (mask % 16) 0 none)

  pub reset-both : reset_class graph class mask ≡ nothing → (mask % 16 ≡ 0 → ⊥)
      → with_reset graph class mask after
      ≡ with_source (store resets graph (16 * (class % most_regions) + mask % 16) after) class (mask % 16) after
  unfolding with_reset
  reset-both fresh some =
      ap (λ (b : Bool). cond b (cond (eqb (mask % 16) 0) (store resets graph (16 * (class % most_regions) + mask % 16) after)
      (with_source (store resets graph (16 * (class % most_regions) + mask % 16) after) class (mask % 16) after)) graph)
      (eq-eqb (reset_class graph class mask) nothing fresh)
      ∙ ap (λ (b : Bool). cond b (store resets graph (16 * (class % most_regions) + mask % 16) after)
      (with_source (store resets graph (16 * (class % most_regions) + mask % 16) after) class (mask % 16) after))
      (ne_eqb (mask % 16) 0 some)
