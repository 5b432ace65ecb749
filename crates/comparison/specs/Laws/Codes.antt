-- Edges are matched by their codes: in a closed structure those that answer have the code of the edge that they answer to
-- (`answers-tell`), so that only edges of that code need to be compared with it. Edges that are their own pairs, and the shelf. Then the
-- test of the next round from its parts.
use Prim.Native.Nat.{ℕ, ◌+◌, ◌*◌, ◌-◌, ◌≤◌, ◌<◌}
use Rattle.std.proofs.Common.{arith, ◌∙◌, ap, subst, inl, inr, length-set, get_or-set_same, get_or-set_other}
use Rattle.std.specs.Prelude.{◌≡◌, Bool, cond, ◌&&◌, List, ◌⊎◌, eqb, ltb, length, get_or, set, replicate}
use Rattle.std.proofs.Math.Path.{refl, sym}
use Rattle.std.proofs.Math.Bool.{true, false}
use Rattle.std.proofs.lemmas.List.{length-replicate}
use borrow.Author.Tests.{eq-eqb, eqb-true, lt-ltb, le-ltb}
use Rattle.bisimulation.specs.Structures.{Closed}
use Rattle.bisimulation.specs.Finite.{Finite, structure, related}
use Rattle.bisimulation.proofs.Laws.Tests.{fails, and-iff, below-some, same?, same_test}
use Rattle.comparison.specs.Held.{most_edges, Held, is_open, action_at, whole_at, count_at, target_at}
use Rattle.comparison.specs.Compare.{weighed, balanced, balanced_over, delays_answered, edges_alike}
use Rattle.comparison.specs.Compare.{answers, some_answers, edge_answered, edges_answered, answered, next_in}
use Rattle.comparison.specs.Keys.{code_of, Coded, ToldBy, Told, Own, Found, Met, Shelved}
use Rattle.comparison.specs.Laws.Steps.{zeros-at}
use Rattle.comparison.specs.Laws.Compare.{answers-fails, answered-free, answered-on, all-fails, all-agree}
use Rattle.comparison.specs.Laws.Keys.{code_same, whole-positive}
use Rattle.comparison.specs.Laws.Down.{none_open, each-open}

pub answers-tell : (F : Finite) (n k : ℕ) (list labels nexts flags resets spots rows : List ℕ)
    → Held F n k labels nexts flags resets spots rows → Closed (structure F) → (x y : ℕ) → x < n → y < n
    → Told k list flags resets spots rows x y
unfolding answers
answers-tell F n k list labels nexts flags resets spots rows held closed x y hx hy e he ready f hf answer =
    let (there, alike) = (and-iff (is_open flags y f) (edges_alike list resets spots rows x e y f)).0 answer in
    sym (code_same list resets spots rows x e y f alike
    (whole-positive F n k list labels nexts flags resets spots rows held closed x e hx he ready)
    (whole-positive F n k list labels nexts flags resets spots rows held closed y f hy hf there))

-- ---- Answers, looked for among the available edges

-- Edge f at y is no answer to edge e at x; edge e at x has an answer at y.
abbrev pub NoAnswer : (list flags resets spots rows : List ℕ) → (x e y f : ℕ) → Type 0
NoAnswer list flags resets spots rows x e y f = answers list flags resets spots rows x e y f ≡ false

abbrev pub HasAnswer : (k : ℕ) → (list flags resets spots rows : List ℕ) → (x y e : ℕ) → Type 0
HasAnswer k list flags resets spots rows x y e = some_answers k list flags resets spots rows x e y ≡ true

module _ (k : ℕ) (list flags resets spots rows : List ℕ) where
  -- An edge at y of another code is no answer.
  pub other-code : (x e y code : ℕ) (codes : List ℕ) → Coded k y list flags resets spots rows codes
      → ToldBy k list flags resets spots rows x e y code → (f : ℕ) → f < k → is_open flags y f ≡ true → ¬ (get_or codes f 0 ≡ code)
      → NoAnswer list flags resets spots rows x e y f
  other-code x e y code codes coded told f h ready other =
      fails (answers list flags resets spots rows x e y f) (λ t. other (coded f h ready ∙ told f h t))

  -- The code that is kept of an edge at x is that of its answers.
  pub told_at_lem : (x y e code : ℕ) (codes : List ℕ) → Told k list flags resets spots rows x y
      → Coded k x list flags resets spots rows codes → e < k → is_open flags x e ≡ true → code ≡ get_or codes e 0
      → ToldBy k list flags resets spots rows x e y code
  told_at_lem x y e code codes told coded h ready kept f hf t = told e h ready f hf t ∙ sym (kept ∙ coded e h ready)

  pub one-answers : (x e y f : ℕ) → f < k → answers list flags resets spots rows x e y f ≡ true
      → some_answers k list flags resets spots rows x e y ≡ true
  unfolding some_answers
  one-answers x e y f h t = below-some k (λ f. answers list flags resets spots rows x e y f) f h t

  pub none_answers : (x e y : ℕ)
      → ((f : ℕ) → f < k → is_open flags y f ≡ true → NoAnswer list flags resets spots rows x e y f)
      → some_answers k list flags resets spots rows x e y ≡ false
  unfolding some_answers
  none_answers x e y none =
      none_open (is_open flags y) (λ f. answers list flags resets spots rows x e y f) k
      (λ f closed. answers-fails list flags resets spots rows x e y f closed) none

  pub one-unanswered : (x y e : ℕ) → e < k → is_open flags x e ≡ true → some_answers k list flags resets spots rows x e y ≡ false
      → edges_answered k list flags resets spots rows x y ≡ false
  unfolding edges_answered
  one-unanswered x y e h ready none =
      all-fails k (λ e. edge_answered k list flags resets spots rows x y e) e h
      (answered-on list flags resets spots rows k x y e ready ∙ none)

  pub all-answered : (x y : ℕ)
      → ((e : ℕ) → e < k → is_open flags x e ≡ true → HasAnswer k list flags resets spots rows x y e)
      → edges_answered k list flags resets spots rows x y ≡ true
  unfolding edges_answered
  all-answered x y all =
      each-open (is_open flags x) (λ e. edge_answered k list flags resets spots rows x y e) k
      (λ e closed. answered-free list flags resets spots rows k x y e closed)
      (λ e h ready. answered-on list flags resets spots rows k x y e ready ∙ all e h ready)

-- ---- Answers, both ways

module _ (list resets spots rows : List ℕ) (x e y f : ℕ) where
  balanced-back : (c : ℕ) → balanced list resets spots rows x e y f c ≡ balanced list resets spots rows y f x e c
  unfolding balanced
  balanced-back c =
      same_test (eqb one other) (eqb other one) (λ t. eq-eqb other one (sym (eqb-true one other t)))
      (λ t. eq-eqb one other (sym (eqb-true other one t)))
    where
      one : ℕ
      one = weighed list resets spots rows c x e * whole_at rows f

      other : ℕ
      other = weighed list resets spots rows c y f * whole_at rows e

  over-back : (z g : ℕ) → balanced_over list resets spots rows z g x e y f ≡ balanced_over list resets spots rows z g y f x e
  unfolding balanced_over
  over-back z g =
      all-agree (count_at rows g) (λ i. balanced list resets spots rows x e y f (target_at resets spots rows z g i))
      (λ i. balanced list resets spots rows y f x e (target_at resets spots rows z g i))
      (λ i _. balanced-back (target_at resets spots rows z g i))

  -- Edges are alike both ways.
  pub alike-back : edges_alike list resets spots rows x e y f ≡ true → edges_alike list resets spots rows y f x e ≡ true
  unfolding edges_alike
  alike-back t =
      let over_x = balanced_over list resets spots rows x e x e y f in
      let over_y = balanced_over list resets spots rows y f x e y f in
      let (action, over) = (and-iff (eqb (action_at rows e) (action_at rows f)) (over_x && over_y)).0 t in
      let (at_x, at_y) = (and-iff over_x over_y).0 over in
      (and-iff (eqb (action_at rows f) (action_at rows e))
      (balanced_over list resets spots rows y f y f x e && balanced_over list resets spots rows x e y f x e)).1 (
        eq-eqb (action_at rows f) (action_at rows e) (sym (eqb-true (action_at rows e) (action_at rows f) action)),
        (and-iff (balanced_over list resets spots rows y f y f x e) (balanced_over list resets spots rows x e y f x e)).1
            (sym (over-back y f) ∙ at_y, sym (over-back x e) ∙ at_x),
      )

module _ (k : ℕ) (list flags resets spots rows : List ℕ) where
  -- What a search found.
  pub found_none : (x e y r : ℕ) → Found k list flags resets spots rows x e y r → r ≡ 0
      → some_answers k list flags resets spots rows x e y ≡ false
  found_none x e y r (inl (_, none)) h = none
  found_none x e y r (inr (f, at, _, _)) h = absurd (omega (arith, at, h))

  pub found_some : (x e y r : ℕ) → Found k list flags resets spots rows x e y r → ¬ (r ≡ 0)
      → (r - 1 < k) × (answers list flags resets spots rows x e y (r - 1) ≡ true)
  found_some x e y r (inl (none, _)) h = absurd (h none)
  found_some x e y r (inr (f, at, below, t)) h =
      let same : f ≡ r - 1 = omega (arith, at) in
      subst (λ (g : ℕ). (g < k) × (answers list flags resets spots rows x e y g ≡ true)) same (below, t)

  pub found-tells : (x e y r : ℕ) → Found k list flags resets spots rows x e y r
      → ltb 0 r ≡ some_answers k list flags resets spots rows x e y
  found-tells x e y r (inl (at, none)) = le-ltb 0 r (omega (arith, at)) ∙ sym none
  found-tells x e y r (inr (f, at, below, t)) =
      lt-ltb 0 r (omega (arith, at)) ∙ sym (one-answers k list flags resets spots rows x e y f below t)

  -- An available edge answers to each edge that answers to it.
  answers-back : (x e y f : ℕ) → is_open flags x e ≡ true → answers list flags resets spots rows x e y f ≡ true
      → answers list flags resets spots rows y f x e ≡ true
  unfolding answers
  answers-back x e y f ready t =
      (and-iff (is_open flags x e) (edges_alike list resets spots rows y f x e)).1 (
        ready,
        alike-back list resets spots rows x e y f ((and-iff (is_open flags y f) (edges_alike list resets spots rows x e y f)).0 t).1,
      )

  -- Nothing is marked at first. Then an edge at y may be marked that answers to one available at x, since that one answers to it.
  pub met-none : (x y n : ℕ) → Met k list flags resets spots rows x y (replicate {A = ℕ} n 0)
  met-none x y n e t = absurd (omega (arith, sym (zeros-at n e) ∙ t))

  pub met-on : (x e y f : ℕ) (met : List ℕ) → Met k list flags resets spots rows y x met → e < k → is_open flags x e ≡ true
      → answers list flags resets spots rows x e y f ≡ true → Met k list flags resets spots rows y x (set met f 1)
  met-on x e y f met all h ready t g marked = go (same? g f)
    where
      go : (g ≡ f) ⊎ (¬ (g ≡ f)) → some_answers k list flags resets spots rows y g x ≡ true
      go (inl same) =
          subst (λ (g : ℕ). some_answers k list flags resets spots rows y g x ≡ true) (sym same)
          (one-answers k list flags resets spots rows y f x e h (answers-back x e y f ready t))
      go (inr other) = all g (sym (get_or-set_other met f g 1 0 other) ∙ marked)

  -- No edge is marked as its own pair at first. Then an edge available at y may be marked that answers at x to itself at y.
  pub own-none : (x y n : ℕ) → Own k list flags resets spots rows x y (replicate {A = ℕ} n 0)
  own-none x y n e h t = absurd (omega (arith, sym (zeros-at n e) ∙ t))

  pub own_on : (x y e : ℕ) (paired : Bool) (own : List ℕ) → Own k list flags resets spots rows x y own → is_open flags y e ≡ true
      → (paired ≡ true → answers list flags resets spots rows y e x e ≡ true)
      → Own k list flags resets spots rows x y (cond paired (set own e 1) own)
  own_on x y e false own all ready t g h marked = all g h marked
  own_on x y e true own all ready t g h marked = go (same? g e)
    where
      go : (g ≡ e) ⊎ (¬ (g ≡ e)) → answers list flags resets spots rows x g y g ≡ true
      go (inl same) =
          subst (λ (g : ℕ). answers list flags resets spots rows x g y g ≡ true) (sym same) (answers-back y e x e ready (t refl))
      go (inr other) = all g h (sym (get_or-set_other own e g 1 0 other) ∙ marked)

  -- Then the code at x is that at y.
  pub own-told : (x y e : ℕ) (ones : List ℕ) → Coded k x list flags resets spots rows ones → Told k list flags resets spots rows y x
      → e < k → is_open flags y e ≡ true → answers list flags resets spots rows y e x e ≡ true
      → get_or ones e 0 ≡ code_of list resets spots rows y e
  unfolding answers
  own-told x y e ones coded told h ready t =
      coded e h ((and-iff (is_open flags x e) (edges_alike list resets spots rows y e x e)).0 t).0 ∙ told e h ready e h t

  -- A shelf that is empty, and one on which codes were put.
  pub shelf-none : Shelved k list flags resets spots rows (replicate {A = ℕ} 129 0)
  shelf-none = (
    omega (arith, length-replicate {A = ℕ} 129 0),
    λ x e. absurd (omega (arith, sym (zeros-at 129 most_edges) ∙ e)),
  )

  pub shelf-on : (x : ℕ) (codes : List ℕ) → k ≤ most_edges → most_edges < length codes → Coded k x list flags resets spots rows codes
      → Shelved k list flags resets spots rows (set codes most_edges (x + 1))
      × Coded k x list flags resets spots rows (set codes most_edges (x + 1))
  shelf-on x codes few room coded = (
    (
      omega (arith, room, length-set codes most_edges (x + 1)),
      λ z e.
          let same : z ≡ x = omega (arith, sym (get_or-set_same codes most_edges (x + 1) 0 room) ∙ e) in
          subst (λ (z : ℕ). Coded k z list flags resets spots rows (set codes most_edges (x + 1))) (sym same) kept,
    ),
    kept,
  )
    where
      kept : Coded k x list flags resets spots rows (set codes most_edges (x + 1))
      kept f h ready =
          get_or-set_other codes most_edges f (x + 1) 0 (λ s. absurd (omega (arith, s, h, few))) ∙ coded f h ready

-- ---- The next round: first this round and the delays of both, then the edges of both

module _ (n k : ℕ) (list nexts flags resets spots rows : List ℕ) (x y : ℕ) where
  abbrev first_both : Bool
  first_both = related list x y && (delays_answered n list nexts x y && delays_answered n list nexts y x)

  abbrev edges_both : Bool
  edges_both = edges_answered k list flags resets spots rows x y && edges_answered k list flags resets spots rows y x

  -- Both conditions both ways, sorted otherwise.
  next-sorted : next_in n k list nexts flags resets spots rows x y ≡ (first_both && edges_both)
  unfolding next_in answered
  next-sorted =
      sort (related list x y) (delays_answered n list nexts x y) (edges_answered k list flags resets spots rows x y)
      (delays_answered n list nexts y x) (edges_answered k list flags resets spots rows y x)
    where
      sort : (r a b c d : Bool) → (r && ((a && b) && (c && d))) ≡ ((r && (a && c)) && (b && d))
      sort false a b c d = refl
      sort true true true c d = refl
      sort true true false true d = refl
      sort true true false false d = refl
      sort true false b c d = refl

  pub next-fails : first_both ≡ false → next_in n k list nexts flags resets spots rows x y ≡ false
  next-fails none = next-sorted ∙ ap (λ (b : Bool). b && edges_both) none

  pub next-edges : first_both ≡ true → next_in n k list nexts flags resets spots rows x y ≡ edges_both
  next-edges all = next-sorted ∙ ap (λ (b : Bool). b && edges_both) all
