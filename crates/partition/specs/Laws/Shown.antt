-- The slices that the region layer fills hold the region graph, as the rounds go by it (`shown-held`).
use Prim.Native.Nat.{ℕ, zero, suc, ◌+◌, ◌*◌, ◌≤◌, ◌<◌}
use Rattle.std.proofs.Common.{arith, sym, ◌∙◌, inl, inr, ltb-true, lt-ltb, eq-eqb, ne_eqb}
use Rattle.std.specs.Prelude.{◌≡◌, Bool, true, false, eqb, ltb, length}
use Rattle.std.proofs.Math.Path.{refl, ap, ap₂, subst}
use Rattle.std.proofs.Math.Bool.{cond}
use mathlib.Core.List.{List, [], ◌∷◌, map, append-nil, Memᴰ}
use Rattle.std.proofs.Math.ListN.{get_or}
use Rattle.regions.specs.Passed.{Model, edge_of, no_branch, read_table, accepted, Branch as ModelBranch, Region}
use Rattle.regions.specs.Graph.{bounds_of, meets, landing, available, delay_next, gather, first, goes}
use Rattle.regions.specs.View.{number_in, delay_numbers}
use Rattle.regions.specs.Shown.{Shown, open_below as shown_below}
use Rattle.regions.specs.Call.{whole, outcome_of}
use Rattle.regions.specs.Laws.Call.{whole-graph, whole-model}
use Rattle.regions.specs.Order.{AllRegions}
use Rattle.regions.specs.Laws.Shown.{few-edges}
use Rattle.regions.specs.Laws.View.{number_at, delay-number}
use Rattle.regions.specs.Laws.Worklist.{member}
use Rattle.bisimulation.specs.Structures.{Branch}
use Rattle.bisimulation.proofs.Laws.Tests.{both}
use Rattle.partition.specs.Instances.{region_of, delays_from, lands_at, graph}
use Rattle.comparison.specs.Held.{Held, flag_room, chain, Onward, open_below, is_open, Opened, weight_at, target_at, branches_from}
use Rattle.comparison.specs.Laws.Open.{open-yes, open_no, open-most, open-agree}
use Rattle.partition.specs.Laws.Delays.{from-map, delays-are}

-- ---- Lists of at most one number

module _ {A : Type 0} (x : A) (l : List A) where
  not-nil : [] ≡ x ∷ l → ⊥
  not-nil e = let z : ◌≡◌ {A = ℕ} 0 (suc (length l)) = ap length e in omega arith

  not-cons : x ∷ l ≡ [] → ⊥
  not-cons e = not-nil (sym e)

-- The number of the last edge up to e that is available says whether e is.
flag-says : (p : ℕ → Bool) (e v : ℕ) → v ≡ open_below p (suc e) → p e ≡ eqb v (suc e)
flag-says p e v is =
    elim (both (p e)) [
      | inl t ↦ t ∙ sym (eq-eqb v (suc e) (is ∙ open-yes p e t))
      | inr f ↦ f ∙ sym (ne_eqb v (suc e) (λ same. absurd (omega (arith, same, is, open_no p e f, open-most p e))))
    ]

-- The region layer tells the last available edge in the same way.
same-open : (p : ℕ → Bool) (e : ℕ) → shown_below p e ≡ open_below p e
unfolding shown_below open_below
same-open p zero = refl
same-open p (suc e) = ap (cond (p e) (suc e)) (same-open p e)

module _ (m : Model) (found : List Region) (all : AllRegions m found) (labels nexts flags resets spots rows : List ℕ)
    (shown : Shown m found labels nexts flags resets spots rows) where
  abbrev n : ℕ
  n = length found

  abbrev number : Region → ℕ
  number = number_in found

  is-listed : (x : ℕ) → x < n → Memᴰ (region_of m found x) found
  is-listed x h = member (first m) found x h

  -- ---- Delays

  -- What follows a region, and what follows that.
  followed : (more x : ℕ) → x < n → (l : List Region) → delay_next m (region_of m found x) ≡ l
      → (b : Bool) → ltb (get_or nexts x 0) n ≡ b → map number l ≡ cond b (get_or nexts x 0 ∷ []) []
      → ((y : ℕ) → y < n → map number (delays_from m more (region_of m found y)) ≡ chain n nexts more y)
      → map number (gather (delays_from m more) l) ≡ cond b (chain n nexts more (get_or nexts x 0)) []
  followed more x h [] is true t e rest = absurd (not-nil (get_or nexts x 0) [] e)
  followed more x h [] is false t e rest = refl
  followed more x h (q ∷ l) is false t e rest = absurd (not-cons (number q) (map number l) e)
  followed more x h (q ∷ (p ∷ l)) is true t e rest = absurd (let z = ap length e in omega (arith, z))
  followed more x h (q ∷ []) is true t e rest =
      let y : ℕ = get_or nexts x 0 in
      let inside : y < n = ltb-true y n t in
      let same : number q ≡ y = ap (λ (k : List ℕ). get_or k 0 0) e in
      let k = delay-number m found all (region_of m found x) q (is-listed x h) (subst (Memᴰ q) (sym is) (Memᴰ.head refl)) in
      let there : q ≡ region_of m found y = sym (k.is (first m)) ∙ ap (region_of m found) same in
      ap (map number) (append-nil (delays_from m more q))
      ∙ ap (λ (r : Region). map number (delays_from m more r)) there
      ∙ rest y inside

  chained : (more x : ℕ) → x < n → map number (delays_from m more (region_of m found x)) ≡ chain n nexts more x
  unfolding delays_from delay_numbers
  chained zero x h = ap (λ (k : ℕ). k ∷ []) (number_at found all.different (first m) x h)
  chained (suc more) x h =
      ap₂ (λ (k : ℕ) (l : List ℕ). k ∷ l) (number_at found all.different (first m) x h)
      (followed more x h (delay_next m (region_of m found x)) refl (ltb (get_or nexts x 0) n) refl (shown.delay x h) (chained more))

  -- What follows a region by delay is the region with its number.
  follows : (x : ℕ) → x < n → get_or nexts x 0 < n → Memᴰ (region_of m found (get_or nexts x 0)) (delay_next m (region_of m found x))
  unfolding delay_numbers
  follows x h inside =
      let is : map number (delay_next m (region_of m found x)) ≡ get_or nexts x 0 ∷ [] =
      shown.delay x h ∙ ap (λ (b : Bool). cond b (get_or nexts x 0 ∷ []) []) (lt-ltb (get_or nexts x 0) n inside) in
      let (q, k, e) = from-map number (delay_next m (region_of m found x))
      (subst (Memᴰ (get_or nexts x 0)) (sym is) (Memᴰ.head refl)) in
      let there = (delay-number m found all (region_of m found x) q (is-listed x h) k).is (first m) in
      subst (λ (r : Region). Memᴰ r (delay_next m (region_of m found x))) (sym there ∙ ap (region_of m found) (sym e)) k

  -- What comes after it reaches nothing that it does not reach.
  onward : meets (bounds_of m) m.invariants (first m) ≡ true → Onward n nexts
  onward fine x y h inside reached =
      let z : ℕ = get_or nexts x 0 in
      let (there, d) = (delays-are m found all fine z y inside).0 (subst (Memᴰ y) (sym (chained n z inside)) reached) in
      subst (Memᴰ y) (chained n x h) ((delays-are m found all fine x y h).1 (there, goes (follows x h inside) d))

  -- ---- Available edges

  module _ (flag : (x e : ℕ) → x < n → e < length m.edges
      → get_or flags (flag_room * x + e) 0 ≡ open_below (λ f. available m (edge_of m f) (region_of m found x)) (suc e)) where
    availables : (x e : ℕ) → x < n → e < length m.edges → available m (edge_of m e) (region_of m found x) ≡ is_open flags x e
    availables x e h k =
        flag-says (λ f. available m (edge_of m f) (region_of m found x)) e (get_or flags (flag_room * x + e) 0) (flag x e h k)

    opens : Opened n (length m.edges) flags
    opens x e h k =
        flag x e h k
        ∙ open-agree (λ f. available m (edge_of m f) (region_of m found x)) (is_open flags x) (suc e)
        (λ f b. availables x f h (omega arith))

  -- ---- Branches

  module _ (x e : ℕ) where
    -- Branches from number i on, each as its numbers say.
    run : (l : List ModelBranch) (i : ℕ)
        → ((j : ℕ) → j < length l → (weight_at rows e (i + j) ≡ (get_or l j no_branch).weight)
        × (target_at resets spots rows x e (i + j) ≡ number (landing (bounds_of m) (region_of m found x) (get_or l j no_branch))))
        → map (lands_at m found (region_of m found x)) l ≡ branches_from resets spots rows x e i (length l)
    run [] i each = refl
    run (b ∷ l) i each =
        let here : i + 0 ≡ i = omega arith in
        let (w, t) = each 0 (omega arith) in
        let weight : weight_at rows e i ≡ b.weight = ap (λ (k : ℕ). weight_at rows e k) (sym here) ∙ w in
        let target : target_at resets spots rows x e i ≡ number (landing (bounds_of m) (region_of m found x) b) =
        ap (λ (k : ℕ). target_at resets spots rows x e k) (sym here) ∙ t in
        let made : ℕ → ℕ → List (Branch ℕ) → List (Branch ℕ) = λ u v k. record { weight = u; target = v } ∷ k in
        ap₂ (λ (u v : ℕ). made u v (map (lands_at m found (region_of m found x)) l)) (sym weight) (sym target)
        ∙ ap (made (weight_at rows e i) (target_at resets spots rows x e i))
        (run l (suc i)
        (λ j h.
        let on : suc i + j ≡ i + suc j = omega arith in
        let (w, t) = each (suc j) (omega arith) in
        (ap (λ (k : ℕ). weight_at rows e k) on ∙ w, ap (λ (k : ℕ). target_at resets spots rows x e k) on ∙ t)))

    branches-are : x < n → e < length m.edges → available m (edge_of m e) (region_of m found x) ≡ true
        → map (lands_at m found (region_of m found x)) (edge_of m e).branches
        ≡ branches_from resets spots rows x e 0 (length (edge_of m e).branches)
    branches-are hx he can =
        run (edge_of m e).branches 0
        (λ j h.
        let first_on : 0 + j ≡ j = omega arith in (
          ap (λ (k : ℕ). weight_at rows e k) first_on ∙ shown.weight e j he h,
          ap (λ (k : ℕ). target_at resets spots rows x e k) first_on
              ∙ ap₂ (λ (u v : ℕ). get_or spots (64 * get_or resets (16 * x + u) 0 + v) 0) (shown.mask e j he h) (shown.spot e j he h)
              ∙ shown.target x e j hx he h can,
        ))

  -- ---- All together

  pub shown-held : meets (bounds_of m) m.invariants (first m) ≡ true → n ≤ 4096 → length m.edges ≤ 128
      → Held (graph m found) (length found) (length m.edges) labels nexts flags resets spots rows
  shown-held fine few edges =
      let flag : (x e : ℕ) → x < n → e < length m.edges
      → get_or flags (flag_room * x + e) 0 ≡ open_below (λ f. available m (edge_of m f) (region_of m found x)) (suc e) =
      λ x e h k. shown.flag x e h k ∙ same-open (λ f. available m (edge_of m f) (region_of m found x)) (suc e) in
      record {
        few = few;
        few-edges = edges;
        size = refl;
        edges = refl;
        label = shown.label;
        delays = λ x h. chained n x h;
        onward = onward fine;
        opened = opens flag;
        available = availables flag;
        action = λ x e h k. sym (shown.action e k);
        whole = λ x e h k. sym (shown.whole e k);
        branches = λ x e h k can.
            branches-are x e h k can ∙ ap (branches_from resets spots rows x e 0) (sym (shown.count e k));
      }

-- The same where the graph call answers N.
pub whole-held : (table : List ℕ) (cap : ℕ) (m : Model) (found : List Region) (labels nexts flags resets spots rows : List ℕ)
    → cap ≤ 4096 → read_table table ≡ accepted m → outcome_of table cap ≡ whole found
    → Shown m found labels nexts flags resets spots rows
    → Held (graph m found) (length found) (length m.edges) labels nexts flags resets spots rows
whole-held table cap m found labels nexts flags resets spots rows room read is shown =
    let (all, fine) = whole-model table cap found m is read in
    shown-held m found all labels nexts flags resets spots rows shown fine
    (omega (arith, (whole-graph table cap found is).2)) (few-edges table m read)
