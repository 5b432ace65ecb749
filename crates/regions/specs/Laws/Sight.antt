-- Laws for the code that says what is known of one region: the labels of locations, whether the region is seen, the rows of its edges,
-- and their branches.
use Rattle.std.specs.Prelude.{ℕ, zero, suc, ◌+◌, ◌*◌, ◌%◌, ◌≤◌, ◌<◌, ◌≡◌, refl, Bool, true, false, cond, ◌&&◌, List}
use Rattle.std.specs.Prelude.{[], ◌∷◌, ◌++◌, map, leb, ltb, eqb, length, get_or, take, set, drop, Some, None, Ok}
use Rattle.std.proofs.Common.{arith, add-one, sym, ◌∙◌, ap, ap₂, subst, length-set, length-append, take_all, take-suc-set}
use Rattle.std.proofs.Common.{get_or-set_same, get_or-set_other, eqb-true, ltb-true, ltb-false, leb-true, lt-ltb, le-ltb, le-leb}
use Rattle.std.proofs.lemmas.Bool.{false≢true, eqb-false, lt-leb}
use Rattle.std.proofs.lemmas.List.{length-map, get_or_at}
use Rattle.std.proofs.Math.ListN.{get_or-append}
use Rattle.table.specs.Model.{Model}
use Rattle.table.specs.Access.{no_branch}
use Rattle.table.specs.Reading.{Answer, refusal, accepted}
use Rattle.table.specs.Reads.{edge_of}
use Rattle.table.specs.declared.model.Branch.{Branch}
use Rattle.regions.specs.Entries.{entry_bytes, max_entries, region_at}
use Rattle.regions.specs.Graph.{bounds_of, landing, available}
use Rattle.regions.specs.Explore.{listed}
use Rattle.regions.specs.View.{number_in, label_of, Way, way_of}
use Rattle.regions.specs.Shown.{branch_of}
use Rattle.regions.specs.Filling.{Before, Fitting}
use Rattle.regions.specs.Sight.{location_labels, entry_in, delay_list, ways_from, Ways, Stepping, is_seen, sight_of, Sighted}
use Rattle.regions.specs.Laws.Filling.{before-none, before_on}
use Rattle.clocks.specs.declared.region.Region.{Region}
use Rattle.table.specs.declared.refusals.Reason.{Reason}

-- An entry with a number below 4,096 is looked at.
pub entry-inside : (es : List ℕ) (j : ℕ) → j < max_entries → entry_in es j ≡ region_at es j
entry-inside es j h = rw (lt-ltb j max_entries h) refl

-- ---- The labels of locations

pub labels-on : (m : Model) (l : List ℕ) (i v : ℕ) → i < length l → v ≡ get_or m.labels i 0 → take i l ≡ location_labels m i
    → take (i + 1) (set l i v) ≡ location_labels m (i + 1)
labels-on m l i v h is before =
    ap (λ (k : ℕ). take k (set l i v)) (add-one i)
    ∙ take-suc-set l i v h
    ∙ ap₂ (λ (k : List ℕ) (y : ℕ). k ++ (y ∷ [])) before is
    ∙ ap (location_labels m) (sym (add-one i))

pub labels-all : (m : Model) (l : List ℕ) (i n : ℕ) → length l ≡ n → n ≤ i → i ≤ n → take i l ≡ location_labels m i
    → l ≡ location_labels m n
labels-all m l i n long past within is =
    let all : i ≡ n = omega (arith, past, within) in
    sym (take_all i l (omega (arith, long, past))) ∙ is ∙ ap (location_labels m) all

labels_length : (m : Model) (n : ℕ) → length (location_labels m n) ≡ n
labels_length m zero = refl
labels_length m (suc n) = length-append (location_labels m n) (get_or m.labels n 0 ∷ []) ∙ omega (arith, labels_length m n)

pub labels_at : (m : Model) (n i : ℕ) → i < n → get_or (location_labels m n) i 0 ≡ get_or m.labels i 0
labels_at m zero i h = absurd (omega (arith, h))
labels_at m (suc n) i h = go (ltb i n) refl (labels_at m n i)
  where
    go : (b : Bool) → ltb i n ≡ b → (i < n → get_or (location_labels m n) i 0 ≡ get_or m.labels i 0)
        → get_or (location_labels m n ++ (get_or m.labels n 0 ∷ [])) i 0 ≡ get_or m.labels i 0
    go true e rest =
        get_or-append (location_labels m n) (get_or m.labels n 0 ∷ []) 0 i (omega (arith, labels_length m n, ltb-true i n e))
        ∙ rest (ltb-true i n e)
    go false e rest =
        let last : n ≡ i = omega (arith, h, ltb-false i n e) in
        get_or_at (location_labels m n) (get_or m.labels n 0) [] 0 i (labels_length m n ∙ last) ∙ ap (λ (k : ℕ). get_or m.labels k 0) last

-- ---- Whether a region is seen

and_both : (a b : Bool) → a && b ≡ true → (a ≡ true) × (b ≡ true)
and_both true b e = (refl, e)
and_both false b e = absurd (false≢true e)

module _ (n x entries delays rows : ℕ) where
  pub seen_parts : is_seen n x entries delays rows ≡ true
      → (n ≤ max_entries) × (x < n) × (entry_bytes * n ≤ entries) × (n < delays) × (4096 ≤ rows)
  seen_parts e =
      let (a, s) = and_both (leb n max_entries) _ e in
      let (b, t) = and_both (ltb x n) _ s in
      let (c, u) = and_both (leb (entry_bytes * n) entries) _ t in
      let (d, v) = and_both (ltb n delays) _ u in
      (leb-true n max_entries a, ltb-true x n b, leb-true (entry_bytes * n) entries c, ltb-true n delays d, leb-true 4096 rows v)

  pub unseen-many : max_entries < n → false ≡ is_seen n x entries delays rows
  unseen-many h = rw (lt-leb n max_entries h)

  module _ (a : n ≤ max_entries) where
    pub unseen-past : n ≤ x → false ≡ is_seen n x entries delays rows
    unseen-past h = rw (le-leb n max_entries a, le-ltb x n h)

    module _ (b : x < n) where
      pub unseen-short : entries < entry_bytes * n → false ≡ is_seen n x entries delays rows
      unseen-short h = rw (le-leb n max_entries a, lt-ltb x n b, lt-leb (entry_bytes * n) entries h)

      module _ (c : entry_bytes * n ≤ entries) where
        pub unseen-narrow : delays ≤ n → false ≡ is_seen n x entries delays rows
        unseen-narrow h = rw (le-leb n max_entries a, lt-ltb x n b, le-leb (entry_bytes * n) entries c, le-ltb n delays h)

        pub seen-rest : n < delays → leb 4096 rows ≡ is_seen n x entries delays rows
        seen-rest h = rw (le-leb n max_entries a, lt-ltb x n b, le-leb (entry_bytes * n) entries c, lt-ltb n delays h)

-- ---- The branches of an edge

-- Its first i branches stand in the row from place `at` on, and their count.
pub record WaysTo (m : Model) (found : List Region) (r : Region) (e at i : ℕ) (rows : List ℕ) : Type 0 where
  pub count : get_or rows (at + 3) 0 ≡ length (edge_of m e).branches
  pub weight : (j : ℕ) → j < i → get_or rows (at + 4 + 2 * j) 0 ≡ (branch_of m e j).weight
  pub target : (j : ℕ) → j < i → get_or rows (at + 5 + 2 * j) 0 ≡ number_in found (landing (bounds_of m) r (branch_of m e j))

-- The count alone.
pub ways-start : (m : Model) (found : List Region) (r : Region) (e at n : ℕ) (l l' : List ℕ) → Fitting (edge_of m e)
    → at + 32 ≤ length l → n ≡ length (edge_of m e).branches → l' ≡ set l (at + 3) (n % 65536) → WaysTo m found r e at 0 l'
ways-start m found r e at n l l' fitting room is stored =
    let few = fitting.few in
    let small : n % 65536 ≡ length (edge_of m e).branches = omega (arith, few, is) in
    record {
      count = ap (λ x. get_or x (at + 3) 0) stored ∙ get_or-set_same l (at + 3) (n % 65536) 0 (omega arith) ∙ small;
      weight = λ j h. absurd (omega arith);
      target = λ j h. absurd (omega arith);
    }

-- One number of each of the first branches, and that of one more.
part-on : (p i k : ℕ) (f : ℕ → ℕ) (l l' : List ℕ) → p ≤ k + 1 → Before (k + 2 * i) l l' → get_or l' (p + 2 * i) 0 ≡ f i
    → ((j : ℕ) → j < i → get_or l (p + 2 * j) 0 ≡ f j) → (j : ℕ) → j < i + 1 → get_or l' (p + 2 * j) 0 ≡ f j
part-on p i k f l l' low before here old j h = go (eqb j i) refl
  where
    go : (b : Bool) → eqb j i ≡ b → get_or l' (p + 2 * j) 0 ≡ f j
    go true t = subst (λ k. get_or l' (p + 2 * k) 0 ≡ f k) (sym (eqb-true j i t)) here
    go false t =
        let less : j < i = omega (arith, h, eqb-false j i t) in
        before.below (p + 2 * j) (omega (arith, less, low)) ∙ old j less

-- One more branch.
pub ways_on : (m : Model) (found : List Region) (r : Region) (e at i : ℕ) (l l' l'' : List ℕ) (b : Branch) (k : ℕ)
    → Fitting (edge_of m e) → at + 32 ≤ length l → i < length (edge_of m e).branches → b ≡ branch_of m e i
    → k ≡ number_in found (landing (bounds_of m) r b) → k < 65536
    → l' ≡ set l (at + 4 + 2 * i) (b.weight % 65536) → l'' ≡ set l' (at + 5 + 2 * i) (k % 65536)
    → WaysTo m found r e at i l → WaysTo m found r e at (i + 1) l''
ways_on m found r e at i l l' l'' b k fitting room h is number low stored stored' ways =
    let few = fitting.few in
    let fits = fitting.weight i h in
    let p : ℕ = at + 4 + 2 * i in
    let weight : b.weight % 65536 ≡ (branch_of m e i).weight = omega (arith, fits, ap (λ (x : Branch). x.weight) is) in
    let target : k % 65536 ≡ number_in found (landing (bounds_of m) r (branch_of m e i)) =
    let whole : k % 65536 ≡ k = omega arith in
    whole ∙ number ∙ ap (λ (x : Branch). number_in found (landing (bounds_of m) r x)) is in
    let long : length l' ≡ length l = ap length stored ∙ length-set l p (b.weight % 65536) in
    let first : Before p l l' = before_on p p (b.weight % 65536) l l l' (omega arith) stored (before-none p l) in
    let before : Before p l l'' = before_on p (at + 5 + 2 * i) (k % 65536) l l' l'' (omega arith) stored' first in
    record {
      count = before.below (at + 3) (omega arith) ∙ ways.count;
      weight = part-on (at + 4) i (at + 4) (λ j. (branch_of m e j).weight) l l'' (omega arith) before
          (ap (λ x. get_or x p 0) stored' ∙ get_or-set_other l' (at + 5 + 2 * i) p (k % 65536) 0 (omega arith)
          ∙ ap (λ x. get_or x p 0) stored ∙ get_or-set_same l p (b.weight % 65536) 0 (omega (arith, room, h, few)) ∙ weight) ways.weight;
      target = part-on (at + 5) i (at + 4) (λ j. number_in found (landing (bounds_of m) r (branch_of m e j))) l l'' (omega arith) before
          (ap (λ x. get_or x (at + 5 + 2 * i) 0) stored'
          ∙ get_or-set_same l' (at + 5 + 2 * i) (k % 65536) 0 (omega (arith, room, h, few, long)) ∙ target) ways.target;
    }

-- All of them, place by place, are the list.
ways-list : (m : Model) (found : List Region) (r : Region) (l : List Branch) (at : ℕ) (rows : List ℕ)
    → ((j : ℕ) → j < length l → get_or rows (at + 2 * j) 0 ≡ (get_or l j no_branch).weight)
    → ((j : ℕ) → j < length l → get_or rows (at + 1 + 2 * j) 0 ≡ number_in found (landing (bounds_of m) r (get_or l j no_branch)))
    → ways_from rows at (length l) ≡ map (way_of m found r) l
ways-list m found r [] at rows weight target = refl
ways-list m found r (b ∷ l) at rows weight target =
    let one : get_or rows at 0 ≡ b.weight = ap (λ (k : ℕ). get_or rows k 0) (omega arith) ∙ weight 0 (omega arith) in
    let two : get_or rows (at + 1) 0 ≡ number_in found (landing (bounds_of m) r b) =
    ap (λ (k : ℕ). get_or rows k 0) (omega arith) ∙ target 0 (omega arith) in
    let way : ℕ → ℕ → Way = λ w t. record { weight = w; target = t } in
    ap₂ (λ (w : Way) (k : List Way). w ∷ k) (ap₂ way one two)
    (ways-list m found r l (at + 2) rows
    (λ j h. ap (λ (k : ℕ). get_or rows k 0) (omega arith) ∙ weight (suc j) (omega arith))
    (λ j h. ap (λ (k : ℕ). get_or rows k 0) (omega arith) ∙ target (suc j) (omega arith)))

pub ways-whole : (m : Model) (found : List Region) (r : Region) (e at i : ℕ) (rows : List ℕ) → i ≡ length (edge_of m e).branches
    → WaysTo m found r e at i rows → Ways m found r e at rows
ways-whole m found r e at i rows all ways =
    ap (ways_from rows (at + 4)) ways.count
    ∙ ways-list m found r (edge_of m e).branches (at + 4) rows
    (λ j h. ways.weight j (omega arith))
    (λ j h. ap (λ (k : ℕ). get_or rows k 0) (omega arith) ∙ ways.target j (omega arith))

-- ---- Rows

-- What was before a place stays so where more is stored from there on.
pub before-less : (at k : ℕ) (l l' l'' : List ℕ) → at ≤ k → Before at l l' → Before k l' l'' → Before at l l''
before-less at k l l' l'' h a b = record { as_long = b.as_long ∙ a.as_long; below = λ i less. b.below i (omega arith) ∙ a.below i less }

-- An available edge: three numbers, and then its branches.
pub step-on : (m : Model) (found : List Region) (r : Region) (e at a d : ℕ) (l l₁ l₂ l₃ l₄ : List ℕ) → Fitting (edge_of m e)
    → at + 32 ≤ length l → at ≡ 32 * e → available m (edge_of m e) r ≡ true
    → a ≡ (edge_of m e).action → d ≡ (edge_of m e).denominator
    → l₁ ≡ set l at 1 → l₂ ≡ set l₁ (at + 1) (a % 65536) → l₃ ≡ set l₂ (at + 2) (d % 65536)
    → Before (at + 3) l₃ l₄ → Ways m found r e at l₄ → Stepping m found r e l₄
step-on m found r e at a d l l₁ l₂ l₃ l₄ fitting room place can ea ed is₁ is₂ is₃ before ways =
    let fits = fitting.action in
    let fits' = fitting.whole in
    let small : a % 65536 ≡ (edge_of m e).action = omega (arith, fits, ea) in
    let small' : d % 65536 ≡ (edge_of m e).denominator = omega (arith, fits', ed) in
    let long₁ : length l₁ ≡ length l = ap length is₁ ∙ length-set l at 1 in
    let long₂ : length l₂ ≡ length l = ap length is₂ ∙ length-set l₁ (at + 1) (a % 65536) ∙ long₁ in
    let one : get_or l₄ at 0 ≡ 1 =
    before.below at (omega arith)
    ∙ ap (λ x. get_or x at 0) is₃ ∙ get_or-set_other l₂ (at + 2) at (d % 65536) 0 (omega arith)
    ∙ ap (λ x. get_or x at 0) is₂ ∙ get_or-set_other l₁ (at + 1) at (a % 65536) 0 (omega arith)
    ∙ ap (λ x. get_or x at 0) is₁ ∙ get_or-set_same l at 1 0 (omega arith) in
    let two : get_or l₄ (at + 1) 0 ≡ (edge_of m e).action =
    before.below (at + 1) (omega arith)
    ∙ ap (λ x. get_or x (at + 1) 0) is₃ ∙ get_or-set_other l₂ (at + 2) (at + 1) (d % 65536) 0 (omega arith)
    ∙ ap (λ x. get_or x (at + 1) 0) is₂ ∙ get_or-set_same l₁ (at + 1) (a % 65536) 0 (omega (arith, room, long₁)) ∙ small in
    let three : get_or l₄ (at + 2) 0 ≡ (edge_of m e).denominator =
    before.below (at + 2) (omega arith)
    ∙ ap (λ x. get_or x (at + 2) 0) is₃ ∙ get_or-set_same l₂ (at + 2) (d % 65536) 0 (omega (arith, room, long₂)) ∙ small' in
    record {
      flag = ap (λ (k : ℕ). get_or l₄ k 0) (sym place) ∙ one ∙ ap (λ (b : Bool). cond {A = ℕ} b 1 0) (sym can);
      action = λ t. ap (λ (k : ℕ). get_or l₄ (k + 1) 0) (sym place) ∙ two;
      whole = λ t. ap (λ (k : ℕ). get_or l₄ (k + 2) 0) (sym place) ∙ three;
      ways = λ t. subst (λ (k : ℕ). Ways m found r e k l₄) place ways;
    }

-- An edge that is not available: one number.
pub step-off : (m : Model) (found : List Region) (r : Region) (e at : ℕ) (l l' : List ℕ) → at + 32 ≤ length l → at ≡ 32 * e
    → available m (edge_of m e) r ≡ false → l' ≡ set l at 0 → Stepping m found r e l'
step-off m found r e at l l' room place cannot is =
    record {
      flag = ap (λ (k : ℕ). get_or l' k 0) (sym place) ∙ ap (λ x. get_or x at 0) is ∙ get_or-set_same l at 0 0 (omega arith)
          ∙ ap (λ (b : Bool). cond {A = ℕ} b 1 0) (sym cannot);
      action = λ t. absurd (false≢true (sym cannot ∙ t));
      whole = λ t. absurd (false≢true (sym cannot ∙ t));
      ways = λ t. absurd (false≢true (sym cannot ∙ t));
    }

ways-length : (rows : List ℕ) (at k : ℕ) → length (ways_from rows at k) ≡ k
ways-length rows at zero = refl
ways-length rows at (suc k) = ap suc (ways-length rows (at + 2) k)

ways-kept : (l l' : List ℕ) (at k b : ℕ) → at + 2 * k ≤ b → Before b l l' → ways_from l' at k ≡ ways_from l at k
ways-kept l l' at zero b h before = refl
ways-kept l l' at (suc k) b h before =
    let way : ℕ → ℕ → Way = λ w t. record { weight = w; target = t } in
    ap₂ (λ (w : Way) (r : List Way). w ∷ r)
    (ap₂ way (before.below at (omega arith)) (before.below (at + 1) (omega arith)))
    (ways-kept l l' (at + 2) k b (omega arith) before)

-- A row stays where the numbers up to its end do.
step_kept : (m : Model) (found : List Region) (r : Region) (e k : ℕ) (l l' : List ℕ) → Fitting (edge_of m e) → 32 * e + 32 ≤ k
    → Before k l l' → Stepping m found r e l → Stepping m found r e l'
step_kept m found r e k l l' fitting h before step =
    let few = fitting.few in
    record {
      flag = before.below (32 * e) (omega arith) ∙ step.flag;
      action = λ t. before.below (32 * e + 1) (omega arith) ∙ step.action t;
      whole = λ t. before.below (32 * e + 2) (omega arith) ∙ step.whole t;
      ways = λ t.
          let n : ℕ = get_or l (32 * e + 3) 0 in
          let count : n ≡ length (edge_of m e).branches =
          sym (ways-length l (32 * e + 4) n) ∙ ap length (step.ways t) ∙ length-map (edge_of m e).branches (way_of m found r) in
          ap (ways_from l' (32 * e + 4)) (before.below (32 * e + 3) (omega arith))
          ∙ ways-kept l l' (32 * e + 4) n k (omega (arith, count, few, h)) before
          ∙ step.ways t;
    }

-- One more row.
pub steps_on : (m : Model) (found : List Region) (r : Region) (k : ℕ) (l l' : List ℕ)
    → ((e : ℕ) → e < length m.edges → Fitting (edge_of m e)) → k < length m.edges → Before (32 * k) l l'
    → ((e : ℕ) → e < k → Stepping m found r e l) → Stepping m found r k l' → (e : ℕ) → e < k + 1 → Stepping m found r e l'
steps_on m found r k l l' fitting inside before steps step e h = go (eqb e k) refl
  where
    go : (b : Bool) → eqb e k ≡ b → Stepping m found r e l'
    go true t = subst (λ (i : ℕ). Stepping m found r i l') (sym (eqb-true e k t)) step
    go false t =
        let less : e < k = omega (arith, h, eqb-false e k t) in
        step_kept m found r e (32 * k) l l' (fitting e (omega arith)) (omega arith) before (steps e less)

-- ---- The call

abbrev is_refusal : Answer → Bool
is_refusal (refusal reason place) = true
is_refusal (accepted m) = false

-- Region x, under another name.
pub sighted : (m : Model) (es : List ℕ) (n x : ℕ) (r : Region) (k : ℕ) (delays delays' rows' : List ℕ) → r ≡ region_at es x
    → (k ≡ length (delay_list m (listed es n) r))
    × (delays' ≡ delay_list m (listed es n) r ++ drop (length (delay_list m (listed es n) r)) delays)
    → ((e : ℕ) → e < length m.edges → Stepping m (listed es n) r e rows')
    → (k ≡ length (delay_list m (listed es n) (region_at es x))) × Sighted m es n x delays delays' rows'
sighted m es n x r k delays delays' rows' is reached rows =
    let (count, shown) =
    subst (λ (q : Region). (k ≡ length (delay_list m (listed es n) q))
    × (delays' ≡ delay_list m (listed es n) q ++ drop (length (delay_list m (listed es n) q)) delays)) is reached in
    (count, record { delays-are = shown; rows_are = λ e h. subst (λ (q : Region). Stepping m (listed es n) q e rows') is (rows e h) })

pub sight-unseen : (m : Model) (es : List ℕ) (n x : ℕ) (seen : Bool) → seen ≡ false → Ok None ≡ sight_of seen es n x (accepted m)
sight-unseen m es n x seen out = rw out

pub sight-seen : (m : Model) (es : List ℕ) (n x : ℕ) (seen : Bool) → seen ≡ true → (r : Region) (label reached edges : ℕ)
    → r ≡ region_at es x → label ≡ get_or m.labels r.location 0 → reached ≡ length (delay_list m (listed es n) (region_at es x))
    → edges ≡ length m.edges → Ok (Some (record { label = label; reached = reached; edges = edges })) ≡ sight_of seen es n x (accepted m)
unfolding label_of
sight-seen m es n x seen out r label reached edges is named long many =
    let called : label ≡ label_of m (region_at es x) = named ∙ ap (λ (q : Region). get_or m.labels q.location 0) is in
    rw (out, called, long, many)

-- A table is not both refused and read.
pub refused-not : (reason : Reason) (place : ℕ) (m : Model) → refusal reason place ≡ accepted m → ⊥
refused-not reason place m e = let t : true ≡ false = ap is_refusal e in false≢true (sym t)
