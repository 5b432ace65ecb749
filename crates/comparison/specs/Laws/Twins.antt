-- Items that are plainly alike are related in the next round (`twin-next`), and the steps of the loops that look for them.
use Rattle.std.specs.Prelude.{ℕ, zero, suc, ◌+◌, ◌*◌, ◌-◌, ◌≤◌, ◌<◌, ◌≡◌, refl, true, false, cond, ◌&&◌, ◌⊎◌, eqb, ltb, get_or}
use Rattle.std.proofs.Common.{arith, sym, ◌∙◌, ap₂, subst, inl, inr}
use Rattle.std.proofs.Math.Path.{ap}
use Rattle.std.proofs.Math.Bool.{Bool}
use mathlib.Core.List.{List, [], Memᴰ}
use borrow.Author.Tests.{eq-eqb, eqb-true, ltb-true}
use Rattle.bisimulation.specs.Finite.{related, sum, all_below}
use Rattle.bisimulation.proofs.Laws.Tests.{and-iff, all-below, all-of, any-of, of-any}
use Rattle.comparison.specs.Held.{row_room, chain, Onward, open_below, is_open, action_at}
use Rattle.comparison.specs.Held.{whole_at, count_at, weight_at, target_at, branches_from}
use Rattle.comparison.specs.Compare.{reaches_related, delays_answered, weighed, balanced, balanced_over, edges_alike}
use Rattle.comparison.specs.Compare.{edges_answered, next_in}
use Rattle.comparison.specs.Twins.{RunTo, DelaysAgree, BothAlike, SameRow}
use Rattle.comparison.specs.Laws.Compare.{answers-on, matched-on, next-on}
use Rattle.comparison.specs.Laws.Down.{Down, down-first, down-on, down-over}
use Rattle.comparison.specs.Laws.Codes.{HasAnswer, one-answers, all-answered}

-- ---- Related items have the same number

module _ (list : List ℕ) where
  related-self : (x : ℕ) → related list x x ≡ true
  related-self x = eq-eqb (get_or list x 0) (get_or list x 0) refl

  related-back : (x y : ℕ) → related list x y ≡ true → related list y x ≡ true
  related-back x y t = eq-eqb (get_or list y 0) (get_or list x 0) (sym (eqb-true (get_or list x 0) (get_or list y 0) t))

  related-on : (x y z : ℕ) → related list x y ≡ true → related list y z ≡ true → related list x z ≡ true
  related-on x y z t u =
      eq-eqb (get_or list x 0) (get_or list z 0)
      (eqb-true (get_or list x 0) (get_or list y 0) t ∙ eqb-true (get_or list y 0) (get_or list z 0) u)

-- ---- What an item reaches by delay

module _ (n : ℕ) (nexts : List ℕ) where
  -- Itself.
  chain-self : (more x : ℕ) → Memᴰ x (chain n nexts more x)
  chain-self zero x = Memᴰ.head refl
  chain-self (suc more) x = Memᴰ.head refl

  -- With one step more, no less.
  chain_more : (more x u : ℕ) → Memᴰ u (chain n nexts more x) → Memᴰ u (chain n nexts (suc more) x)
  chain_more zero x u (Memᴰ.head e) = Memᴰ.head e
  chain_more zero x u (Memᴰ.tail m) = elim m [ ]
  chain_more (suc more) x u (Memᴰ.head e) = Memᴰ.head e
  chain_more (suc more) x u (Memᴰ.tail m) =
      Memᴰ.tail (go (ltb (get_or nexts x 0) n) (chain_more more (get_or nexts x 0) u) m)
    where
      go : (b : Bool)
          → (Memᴰ u (chain n nexts more (get_or nexts x 0)) → Memᴰ u (chain n nexts (suc more) (get_or nexts x 0)))
          → Memᴰ u (cond b (chain n nexts more (get_or nexts x 0)) [])
          → Memᴰ u (cond b (chain n nexts (suc more) (get_or nexts x 0)) [])
      go true rest m = rest m
      go false rest m = elim m [ ]

  -- It is the item, or what follows the item is an item and reaches it.
  chain-cases : (more x u : ℕ) → Memᴰ u (chain n nexts more x)
      → (u ≡ x) ⊎ ((get_or nexts x 0 < n) × Memᴰ u (chain n nexts more (get_or nexts x 0)))
  chain-cases zero x u (Memᴰ.head e) = inl e
  chain-cases zero x u (Memᴰ.tail m) = elim m [ ]
  chain-cases (suc more) x u (Memᴰ.head e) = inl e
  chain-cases (suc more) x u (Memᴰ.tail m) = inr (go (ltb (get_or nexts x 0) n) refl m)
    where
      go : (b : Bool) → ltb (get_or nexts x 0) n ≡ b → Memᴰ u (cond b (chain n nexts more (get_or nexts x 0)) [])
          → (get_or nexts x 0 < n) × Memᴰ u (chain n nexts (suc more) (get_or nexts x 0))
      go true t m = (ltb-true (get_or nexts x 0) n t, chain_more more (get_or nexts x 0) u m)
      go false t m = elim m [ ]

-- ---- Delays that answer each other

module _ (n : ℕ) (list nexts : List ℕ) where
  -- What the test of delays says: to each item that x reaches one that y reaches is related.
  abbrev Reply : (x y : ℕ) → Type 0
  Reply x y = (u : ℕ) → Memᴰ u (chain n nexts n x) → (v : ℕ) × Memᴰ v (chain n nexts n y) × (related list u v ≡ true)

  to-reply : (x y : ℕ) → delays_answered n list nexts x y ≡ true → Reply x y
  unfolding delays_answered reaches_related
  to-reply x y t u m =
      any-of (λ v. related list u v) (chain n nexts n y)
      ((all-of (λ w. reaches_related n list nexts w y) (chain n nexts n x)).0 t u m)

  of-reply : (x y : ℕ) → Reply x y → delays_answered n list nexts x y ≡ true
  unfolding delays_answered reaches_related
  of-reply x y r =
      (all-of (λ w. reaches_related n list nexts w y) (chain n nexts n x)).1
      (λ u m. let (v, k, t) = r u m in of-any (λ w. related list u w) (chain n nexts n y) v k t)

  -- An item answers itself, and so does an item after which nothing comes to each that is related to it.
  delays-self : (x : ℕ) → delays_answered n list nexts x x ≡ true
  delays-self x = of-reply x x (λ u m. (u, m, related-self list u))

  delays-end : (x y : ℕ) → n ≤ get_or nexts x 0 → related list x y ≡ true → delays_answered n list nexts x y ≡ true
  delays-end x y h t =
      of-reply x y (λ u m. elim (chain-cases n nexts n x u m) [
        | inl e ↦ (y, chain-self n nexts n y, subst (λ (w : ℕ). related list w y ≡ true) (sym e) t)
        | inr q ↦ let inside = q.0 in absurd (omega (arith, h, inside))
      ])

  -- What answers the successor of x answers x, where x is related to it; what the successor answers x answers.
  delays-there : (x y z : ℕ) → related list x y ≡ true → z ≡ get_or nexts x 0
      → delays_answered n list nexts z y ≡ true → delays_answered n list nexts x y ≡ true
  delays-there x y z t same h =
      of-reply x y (λ u m. elim (chain-cases n nexts n x u m) [
        | inl e ↦ (y, chain-self n nexts n y, subst (λ (w : ℕ). related list w y ≡ true) (sym e) t)
        | inr q ↦ to-reply z y h u (subst (λ (w : ℕ). Memᴰ u (chain n nexts n w)) (sym same) q.1)
      ])

  delays-back : (x y z : ℕ) → Onward n nexts → x < n → z ≡ get_or nexts x 0 → z < n
      → delays_answered n list nexts y z ≡ true → delays_answered n list nexts y x ≡ true
  delays-back x y z onward hx same hz h =
      of-reply y x
      (λ u m. let (v, k, t) = to-reply y z h u m in
      (v, onward x v hx (subst (λ (w : ℕ). w < n) same hz) (subst (λ (w : ℕ). Memᴰ v (chain n nexts n w)) same k), t))

  -- ---- A run: from an item on by delay, as long as the number stays

  pub run_none : (x : ℕ) → x < n → RunTo n list nexts x x
  run_none x h = record { inside = h; same = related-self list x; there = λ y _ t. t; back = λ y t. t }

  pub run_on : (x at z : ℕ) → Onward n nexts → RunTo n list nexts x at → z ≡ get_or nexts at 0 → z < n → related list at z ≡ true
      → RunTo n list nexts x z
  run_on x at z onward run same h t =
      record {
        inside = h;
        same = related-on list x at z run.same t;
        there =
            λ y r k. run.there y r
            (delays-there at y z (related-on list at x y (related-back list x at run.same) r) same k);
        back = λ y k. run.back y (delays-back at y z onward run.inside same h k);
      }

  -- ---- Two items whose delays are followed side by side

  -- Two related items, so that the delays of x and y agree where theirs do.
  pub record Beside (x y one other : ℕ) : Type 0 where
    pub inside : one < n
    pub within : other < n
    pub same : related list one other ≡ true
    pub enough : DelaysAgree n list nexts one other → DelaysAgree n list nexts x y

  pub beside-start : (x y : ℕ) → x < n → y < n → related list x y ≡ true → Beside x y x y
  beside-start x y hx hy t = record { inside = hx; within = hy; same = t; enough = λ h. h }

  -- At the ends of their runs.
  pub beside-ends : (x y one other end stop : ℕ) → Onward n nexts → Beside x y one other
      → (Onward n nexts → one < n → RunTo n list nexts one end) → (Onward n nexts → other < n → RunTo n list nexts other stop)
      → Beside x y end stop
  beside-ends x y one other end stop onward kept first second =
      let run = first onward kept.inside in
      let way = second onward kept.within in
      record {
        inside = run.inside;
        within = way.inside;
        same =
            related-on list end one stop (related-back list one end run.same)
            (related-on list one other stop kept.same way.same);
        enough =
            λ h. kept.enough (
              run.there other kept.same (way.back end h.0),
              way.there one (related-back list one other kept.same) (run.back stop h.1),
            );
      }

  -- Where both ends are one item, and where nothing comes after either.
  pub beside-met : (x y end stop : ℕ) → Beside x y end stop → end ≡ stop → DelaysAgree n list nexts x y
  beside-met x y end stop kept e =
      kept.enough (
        subst (λ (w : ℕ). delays_answered n list nexts end w ≡ true) e (delays-self end),
        subst (λ (w : ℕ). delays_answered n list nexts w end ≡ true) e (delays-self end),
      )

  pub beside-over : (x y end stop : ℕ) → Beside x y end stop → n ≤ get_or nexts end 0 → n ≤ get_or nexts stop 0
      → DelaysAgree n list nexts x y
  beside-over x y end stop kept h k =
      kept.enough (delays-end end stop h kept.same, delays-end stop end k (related-back list end stop kept.same))

  -- One step on.
  pub beside-on : (x y end stop z w : ℕ) → Onward n nexts → Beside x y end stop → z ≡ get_or nexts end 0 → z < n
      → w ≡ get_or nexts stop 0 → w < n → related list z w ≡ true → Beside x y z w
  beside-on x y end stop z w onward kept p hz q hw t =
      record {
        inside = hz;
        within = hw;
        same = t;
        enough =
            λ h. kept.enough (
              delays-there end stop z kept.same p (delays-back stop z w onward kept.within q hw h.0),
              delays-there stop end w (related-back list end stop kept.same) q
                  (delays-back end w z onward kept.inside p hz h.1),
            );
      }

-- ---- Edges with equal rows

module _ (rows : List ℕ) where
  pub row-self : (e f : ℕ) → e ≡ f → SameRow rows e f
  row-self e f same =
      subst (λ (g : ℕ). SameRow rows e g) same (record { action = refl; whole = refl; count = refl; weight = λ i _. refl })

  -- Number by number.
  pub row_of : (e f : ℕ) → get_or rows (row_room * e + 0) 0 ≡ get_or rows (row_room * f + 0) 0 → whole_at rows e ≡ whole_at rows f
      → count_at rows e ≡ count_at rows f → ((i : ℕ) → i < count_at rows e → weight_at rows e i ≡ weight_at rows f i) → SameRow rows e f
  row_of e f action whole count weight =
      let none : (a : ℕ) → a + 0 ≡ a = λ a. omega arith in
      record {
        action =
            ap (λ (a : ℕ). get_or rows a 0) (sym (none (row_room * e))) ∙ action ∙ ap (λ (a : ℕ). get_or rows a 0) (none (row_room * f));
        whole = whole;
        count = count;
        weight = weight;
      }

  pub weight-of : (e f i : ℕ) → get_or rows (row_room * e + (3 + 3 * i)) 0 ≡ get_or rows (row_room * f + (3 + 3 * i)) 0
      → weight_at rows e i ≡ weight_at rows f i
  weight-of e f i same =
      let group : (a : ℕ) → a + 3 + 3 * i ≡ a + (3 + 3 * i) = λ a. omega arith in
      ap (λ (a : ℕ). get_or rows a 0) (group (row_room * e)) ∙ same ∙ sym (ap (λ (a : ℕ). get_or rows a 0) (group (row_room * f)))

  row_back : (e f : ℕ) → SameRow rows e f → SameRow rows f e
  row_back e f row =
      record {
        action = sym row.action;
        whole = sym row.whole;
        count = sym row.count;
        weight = λ i h. sym (row.weight i (subst (λ (m : ℕ). i < m) (sym row.count) h));
      }

-- Branches one by one: they lead to related items.
abbrev pub Lead : (list resets spots rows : List ℕ) → (x e y f i : ℕ) → Type 0
Lead list resets spots rows x e y f i = related list (target_at resets spots rows x e i) (target_at resets spots rows y f i) ≡ true

module _ (list resets spots rows : List ℕ) where
  -- Branches of the same weights that lead to related items give every block the same share.
  sum-paired : (c x e y f i left : ℕ)
      → ((j : ℕ) → i ≤ j → j < i + left → (weight_at rows e j ≡ weight_at rows f j) × Lead list resets spots rows x e y f j)
      → sum list c (branches_from resets spots rows x e i left) ≡ sum list c (branches_from resets spots rows y f i left)
  sum-paired c x e y f i zero all = refl
  sum-paired c x e y f i (suc left) all =
      let (heavy, led) = all i (omega arith) (omega arith) in
      rw (
        heavy,
        eqb-true (get_or list (target_at resets spots rows x e i) 0) (get_or list (target_at resets spots rows y f i) 0) led,
        sum-paired c x e y f (suc i) left (λ j a b. all j (omega arith) (omega arith)),
      ) refl

  module _ (x e y f : ℕ) (row : SameRow rows e f)
      (led : (i : ℕ) → i < count_at rows e → Lead list resets spots rows x e y f i) where
    paired-weighed : (c : ℕ) → weighed list resets spots rows c x e ≡ weighed list resets spots rows c y f
    unfolding weighed
    paired-weighed c =
        sum-paired c x e y f 0 (count_at rows e) (λ j _ h. (row.weight j (omega arith), led j (omega arith)))
        ∙ ap (λ (m : ℕ). sum list c (branches_from resets spots rows y f 0 m)) row.count

    paired-balanced : (c : ℕ) → balanced list resets spots rows x e y f c ≡ true
    unfolding balanced
    paired-balanced c =
        eq-eqb (weighed list resets spots rows c x e * whole_at rows f) (weighed list resets spots rows c y f * whole_at rows e)
        (ap₂ (λ (a b : ℕ). a * b) (paired-weighed c) (sym row.whole))

    paired_alike : edges_alike list resets spots rows x e y f ≡ true
    unfolding edges_alike balanced_over
    paired_alike =
        (and-iff (eqb (action_at rows e) (action_at rows f)) (over x e && over y f)).1
        (eq-eqb (action_at rows e) (action_at rows f) row.action, (and-iff (over x e) (over y f)).1 (all x e, all y f))
      where
        over : (z g : ℕ) → Bool
        over z g = all_below (count_at rows g) (λ i. balanced list resets spots rows x e y f (target_at resets spots rows z g i))

        all : (z g : ℕ) → over z g ≡ true
        all z g =
            (all-below (count_at rows g) (λ i. balanced list resets spots rows x e y f (target_at resets spots rows z g i))).1
            (λ i _. paired-balanced (target_at resets spots rows z g i))

  -- Both ways.
  pub both-alike : (x e y f : ℕ) → SameRow rows e f → ((i : ℕ) → i < count_at rows e → Lead list resets spots rows x e y f i)
      → BothAlike list resets spots rows x e y f
  both-alike x e y f row led = (
    paired_alike x e y f row led,
    paired_alike y f x e (row_back rows e f row)
        (λ i h. related-back list (target_at resets spots rows x e i) (target_at resets spots rows y f i)
        (led i (subst (λ (m : ℕ). i < m) (sym row.count) h))),
  )

-- ---- All available edges, from the last down

module _ (k : ℕ) (list flags resets spots rows : List ℕ) where
  -- Both ways: those of x from e on have answers at y, and those of y from f on have answers at x.
  abbrev pub Downs : (x y e f : ℕ) → Type 0
  Downs x y e f =
      Down (is_open flags x) (HasAnswer k list flags resets spots rows x y) k e
      × Down (is_open flags y) (HasAnswer k list flags resets spots rows y x) k f

  pub downs-start : (x y e f : ℕ) → e ≡ open_below (is_open flags x) k → f ≡ open_below (is_open flags y) k → Downs x y e f
  downs-start x y e f p q = (
    down-first (is_open flags x) (HasAnswer k list flags resets spots rows x y) k e p,
    down-first (is_open flags y) (HasAnswer k list flags resets spots rows y x) k f q,
  )

  -- One step: the last edge of x and the last one of y, both available, are alike.
  pub downs-on : (x y e f e' f' : ℕ) → Downs x y e f → 0 < e → e ≤ k → 0 < f → f ≤ k
      → BothAlike list resets spots rows x (e - 1) y (f - 1) → e' ≡ open_below (is_open flags x) (e - 1)
      → f' ≡ open_below (is_open flags y) (f - 1) → Downs x y e' f'
  downs-on x y e f e' f' kept he ke hf kf alike p q = (
    down-on (is_open flags x) (HasAnswer k list flags resets spots rows x y) k e e' he kept.0
        (one-answers k list flags resets spots rows x (e - 1) y (f - 1) (omega arith)
        (answers-on list flags resets spots rows x (e - 1) y (f - 1) (kept.1.at hf) ∙ alike.0)) p,
    down-on (is_open flags y) (HasAnswer k list flags resets spots rows y x) k f f' hf kept.1
        (one-answers k list flags resets spots rows y (f - 1) x (e - 1) (omega arith)
        (answers-on list flags resets spots rows y (f - 1) x (e - 1) (kept.0.at he) ∙ alike.1)) q,
  )

  pub downs-over : (x y e f : ℕ) → Downs x y e f → e ≡ 0 → f ≡ 0
      → (edges_answered k list flags resets spots rows x y ≡ true) × (edges_answered k list flags resets spots rows y x ≡ true)
  downs-over x y e f kept p q = (
    all-answered k list flags resets spots rows x y
        (down-over (is_open flags x) (HasAnswer k list flags resets spots rows x y) k e (omega (arith, p)) kept.0),
    all-answered k list flags resets spots rows y x
        (down-over (is_open flags y) (HasAnswer k list flags resets spots rows y x) k f (omega (arith, q)) kept.1),
  )

-- ---- Both

pub twin-next : (n k : ℕ) (list nexts flags resets spots rows : List ℕ) (x y : ℕ) → related list x y ≡ true
    → DelaysAgree n list nexts x y
    → (edges_answered k list flags resets spots rows x y ≡ true) × (edges_answered k list flags resets spots rows y x ≡ true)
    → next_in n k list nexts flags resets spots rows x y ≡ true
twin-next n k list nexts flags resets spots rows x y t delays edges =
    next-on n k list nexts flags resets spots rows x y t
    (matched-on n k list nexts flags resets spots rows x y delays.0 ∙ edges.0)
    ∙ matched-on n k list nexts flags resets spots rows y x delays.1
    ∙ edges.1
