-- Available edges, one after the other, and the steps of an item.
use Prim.Native.Nat.{ℕ, zero, suc, ◌+◌, ◌-◌, ◌≤◌, ◌<◌}
use native.Mathlib.Omega.{arith}
use Rattle.std.proofs.Common.{eq-or-lt_of_le, sym, ◌∙◌, inl, inr, add-one, lt-ltb, le-ltb}
use Rattle.std.specs.Prelude.{◌≡◌, Bool, true, false, cond, ◌&&◌, ◌⊎◌, length, take}
use Rattle.std.proofs.Math.Path.{refl, ap, subst}
use mathlib.Core.List.{List, [], ◌∷◌, Memᴰ}
use Rattle.graph.specs.Readers.{edge_count, branch_count, denominator_of, class_of, location_of, is_available}
use Rattle.graph.proofs.Laws.Bounds.{edges_few, branches-few}
use Rattle.bisimulation.specs.Structures.{Branch}
use Rattle.bisimulation.specs.Finite.{Finite}
use Rattle.std.specs.Prelude.{Ok}
use Rattle.signatures.specs.Sets.{put_in, set_of}
use Rattle.signatures.specs.Book.{full, Told, Grows}
use Rattle.signatures.specs.Laws.Book.{grows_then, told-grows}
use Rattle.signatures.specs.Steps.{named, target_names, mass_of, step_list, step_of}
use Rattle.signatures.specs.Signatures.{steps_below, steps_of}
use Rattle.signatures.specs.Laws.Signatures.{step_in}
use Rattle.signatures.specs.Structure.{branches_from, edge_of, structure_of, step_at}
use Rattle.signatures.specs.Available.{NextAvailable}
use Rattle.signatures.specs.Named.{Partial, Signed}
use Rattle.signatures.specs.Laws.Insert.{put-size}
use Rattle.signatures.specs.Laws.Raw.{shares-size}
use Rattle.signatures.specs.Laws.Named.{partial-none, partial-on, partial-full, partial-put}

pub none-on : (graph : List ℕ) (x from rank : ℕ) → is_available graph x rank ≡ false
    → ((j : ℕ) → from ≤ j → j < rank → is_available graph x j ≡ false)
    → (j : ℕ) → from ≤ j → j < rank + 1 → is_available graph x j ≡ false
none-on graph x from rank here before j h k = let most : j ≤ rank = omega arith in go (eq-or-lt_of_le most)
  where
    go : (j ≡ rank) ⊎ (j < rank) → is_available graph x j ≡ false
    go (inl e) = rw e here
    go (inr l) = before j h l

-- ---- The steps of a finite structure

module _ (F : Finite) (names : List ℕ) (x : ℕ) where
  pub steps-here : (k : ℕ) → F.available x k ≡ true → steps_below F names x (suc k) ≡ step_of F names x k ∷ steps_below F names x k
  steps-here k e = ap (λ (b : Bool). cond b (step_of F names x k ∷ steps_below F names x k) (steps_below F names x k)) e

  pub steps-past : (k : ℕ) → F.available x k ≡ false → steps_below F names x (suc k) ≡ steps_below F names x k
  steps-past k e = ap (λ (b : Bool). cond b (step_of F names x k ∷ steps_below F names x k) (steps_below F names x k)) e

  -- None is available from k on, for d ranks.
  pub steps-skip : (k d : ℕ) → ((j : ℕ) → k ≤ j → j < k + d → F.available x j ≡ false) → steps_below F names x
      (k + d) ≡ steps_below F names x k
  steps-skip k zero none = let e : k + 0 ≡ k = omega arith in ap (steps_below F names x) e
  steps-skip k (suc d) none =
      let e : k + suc d ≡ suc (k + d) = omega arith in
      ap (steps_below F names x) e ∙ steps-past (k + d) (none (k + d) (omega arith) (omega arith))
      ∙ steps-skip k d (λ j h l. none j h (omega arith))

-- ---- Of the slices

module _ (n : ℕ) (graph edges names : List ℕ) (x : ℕ) where
  pub available-is : (j : ℕ) → j < edge_count graph (location_of graph x)
      → (structure_of n graph edges).available x j ≡ is_available graph x j
  unfolding structure_of
  available-is j h = ap (λ (b : Bool). b && is_available graph x j) (lt-ltb j (edge_count graph (location_of graph x)) h)

  pub available-past : (j : ℕ) → edge_count graph (location_of graph x) ≤ j → (structure_of n graph edges).available x j ≡ false
  unfolding structure_of
  available-past j h = ap (λ (b : Bool). b && is_available graph x j) (le-ltb j (edge_count graph (location_of graph x)) h)

  pub step_is : (j : ℕ) → step_of (structure_of n graph edges) names x j ≡ step_at graph edges names (class_of graph x) (edge_of graph x j)
  unfolding structure_of step_of step_at
  step_is j = refl

-- ---- A step is short

pub set-size : (l : List ℕ) → length (set_of l) ≤ length l
set-size [] = omega arith
set-size (v ∷ l) = omega (arith, put-size v (set_of l), set-size l)

targets-size : (l : List (Branch ℕ)) → length (target_names l) ≡ length l
targets-size [] = refl
targets-size (b ∷ l) = ap suc (targets-size l)

named-size : (names : List ℕ) (l : List (Branch ℕ)) → length (named names l) ≡ length l
named-size names [] = refl
named-size names (b ∷ l) = ap suc (named-size names l)

branches-size : (graph edges : List ℕ) (class edge i left : ℕ) → length (branches_from graph edges class edge i left) ≡ left
branches-size graph edges class edge i zero = refl
branches-size graph edges class edge i (suc left) = ap suc (branches-size graph edges class edge (suc i) left)

pub step-short : (graph edges names : List ℕ) (class edge : ℕ) → length (step_at graph edges names class edge) ≤ 25
unfolding step_at step_list
step-short graph edges names class edge =
    let l : List (Branch ℕ) = named names (branches_from graph edges class edge 0 (branch_count graph edge)) in
    omega (
      arith,
      shares-size (λ m. mass_of m l) (denominator_of edges edge) (set_of (target_names l)),
      set-size (target_names l),
      targets-size l,
      named-size names (branches_from graph edges class edge 0 (branch_count graph edge)),
      branches-size graph edges class edge 0 (branch_count graph edge),
      branches-few graph edge,
    )

-- ---- The steps of an item, one after the other

-- More may be counted.
partial-more : {held₀ held : List (List ℕ)} {steps : List (List ℕ)} {k : ℕ} {list : List ℕ} {len : ℕ} → Partial held₀ held steps k list len
    → (k' : ℕ) → k ≤ k' → Partial held₀ held steps k' list len
partial-more p k' h =
    record {
      ids = p.ids;
      each = p.each;
      put = p.put;
      short = omega (arith, p.short, h);
      grows = p.grows;
      few = omega (arith, p.few, h);
      small = omega (arith, p.small, h);
    }

module _ (n : ℕ) (graph edges names : List ℕ) (x : ℕ) where
  abbrev F : Finite
  F = structure_of n graph edges

  -- No step stands between two available ranks.
  skip : (from count rank : ℕ) → count ≡ edge_count graph (location_of graph x) → NextAvailable graph x from count rank
      → steps_below F names x rank ≡ steps_below F names x from
  skip from count rank is next =
      let e : rank ≡ from + (rank - from) = omega (arith, next.after) in
      ap (steps_below F names x) e
      ∙ steps-skip F names x from (rank - from) (λ j h l.
      let less : j < rank = omega (arith, l, next.after) in
      available-is n graph edges names x j (omega (arith, less, next.within, is)) ∙ next.none j h less)

  pub steps-start : (held : List (List ℕ)) (list : List ℕ) (count rank : ℕ) → count ≡ edge_count graph (location_of graph x)
      → NextAvailable graph x 0 count rank → Partial held held (steps_below F names x rank) rank list 0
  steps-start held list count rank is next =
      subst (λ (s : List (List ℕ)). Partial held held s rank list 0) (sym (skip 0 count rank is next))
      (partial-more (partial-none held list) rank (omega arith))

  module _ {held₀ held : List (List ℕ)} {rank : ℕ} {list : List ℕ} {len : ℕ}
      (p : Partial held₀ held (steps_below F names x rank) rank list len)
      (count : ℕ) (is : count ≡ edge_count graph (location_of graph x)) where
    module _ (h : rank < count) (here : is_available graph x rank ≡ true) (held' : List (List ℕ)) where
      open-here : F.available x rank ≡ true
      open-here = available-is n graph edges names x rank (omega (arith, h, is)) ∙ here

      pub steps-turn : (list' : List ℕ) (len' id rank' : ℕ) → Told
          (step_at graph edges names (class_of graph x) (edge_of graph x rank)) held held' (Ok id)
          → take len' list' ≡ put_in id (take len list) → len' ≤ len + 1 → NextAvailable graph x (rank + 1) count rank'
          → Partial held₀ held' (steps_below F names x rank') rank' list' len'
      steps-turn list' len' id rank' told put short next =
          let s : List ℕ = step_at graph edges names (class_of graph x) (edge_of graph x rank) in
          subst (λ (l : List (List ℕ)). Partial held₀ held' l rank' list' len')
          (sym (skip (rank + 1) count rank' is next ∙ ap (steps_below F names x) (add-one rank) ∙ steps-here F names x rank open-here
          ∙ ap (λ (t : List ℕ). t ∷ steps_below F names x rank) (step_is n graph edges names x rank)))
          (partial-more (partial-on p held' s list' len' id
          (step-short graph edges names (class_of graph x) (edge_of graph x rank)) told put short)
          rank' next.after)

      pub steps-full : Told (step_at graph edges names (class_of graph x) (edge_of graph x rank)) held held' full
          → Grows held₀ held' × ((name : ℕ) (delays : List ℕ) → Signed held₀ held' name delays (steps_of F names x) full)
      unfolding structure_of
      steps-full told =
          let s : List ℕ = step_at graph edges names (class_of graph x) (edge_of graph x rank) in
          let below : rank < 128 = omega (arith, h, is, edges_few graph (location_of graph x)) in (
            grows_then held₀ held held' p.grows (told-grows s held held' full told),
            λ name delays.
                partial-full p held' name delays s (steps_of (structure_of n graph edges) names x)
                (subst (λ (t : List ℕ). Memᴰ t (steps_of (structure_of n graph edges) names x)) (step_is n graph edges names x rank)
                (step_in (structure_of n graph edges) names x 128 rank below open-here)) below
                (step-short graph edges names (class_of graph x) (edge_of graph x rank)) told,
          )

    pub steps-end : count ≤ rank → rank ≤ count → Partial held₀ held (steps_of F names x) 128 list len
    unfolding structure_of
    steps-end past within =
        let few : rank ≤ 128 = omega (arith, within, is, edges_few graph (location_of graph x)) in
        let e : 128 ≡ rank + (128 - rank) = omega arith in
        subst (λ (l : List (List ℕ)). Partial held₀ held l 128 list len)
        (sym (ap (steps_below (structure_of n graph edges) names x) e
        ∙ steps-skip (structure_of n graph edges) names x rank (128 - rank)
        (λ j a b. available-past n graph edges names x j (omega (arith, a, past, is)))))
        (partial-more p 128 few)

-- ---- The same, rank by rank, for a set that is a list

module _ (n : ℕ) (graph edges names : List ℕ) (x : ℕ) where
  abbrev F' : Finite
  F' = structure_of n graph edges

  module _ {held₀ held : List (List ℕ)} {rank : ℕ} {set : List ℕ}
      (p : Partial held₀ held (steps_below F' names x rank) rank set (length set))
      (count : ℕ) (is : count ≡ edge_count graph (location_of graph x)) (h : rank < count) where
    -- The edge of the rank is not available.
    pub rank-past : is_available graph x rank ≡ false
        → Partial held₀ held (steps_below F' names x (rank + 1)) (rank + 1) set (length set)
    rank-past none =
        let shut = available-is n graph edges names x rank (omega (arith, h, is)) ∙ none in
        subst (λ (l : List (List ℕ)). Partial held₀ held l (rank + 1) set (length set))
        (sym (ap (steps_below F' names x) (add-one rank) ∙ steps-past F' names x rank shut)) (partial-more p (rank + 1) (omega arith))

    module _ (here : is_available graph x rank ≡ true) (held' : List (List ℕ)) where
      opened : F'.available x rank ≡ true
      opened = available-is n graph edges names x rank (omega (arith, h, is)) ∙ here

      pub rank-turn : (id : ℕ) → Told (step_at graph edges names (class_of graph x) (edge_of graph x rank)) held held' (Ok id)
          → Partial held₀ held' (steps_below F' names x (rank + 1)) (rank + 1) (put_in id set) (length (put_in id set))
      rank-turn id told =
          let s : List ℕ = step_at graph edges names (class_of graph x) (edge_of graph x rank) in
          subst (λ (l : List (List ℕ)). Partial held₀ held' l (rank + 1) (put_in id set) (length (put_in id set)))
          (sym (ap (steps_below F' names x) (add-one rank) ∙ steps-here F' names x rank opened
          ∙ ap (λ (t : List ℕ). t ∷ steps_below F' names x rank) (step_is n graph edges names x rank)))
          (partial-put p held' s id (step-short graph edges names (class_of graph x) (edge_of graph x rank)) told)

      pub rank-full : Told (step_at graph edges names (class_of graph x) (edge_of graph x rank)) held held' full
          → (name : ℕ) (delays : List ℕ) → Signed held₀ held' name delays (steps_of F' names x) full
      rank-full told = (steps-full n graph edges names x p count is h here held' told).1
