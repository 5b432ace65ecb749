-- Laws for the code that lists what a region reaches by delay: the search for the lowest number of a region, and numbers that are
-- stored from the front of a slice on.
use Rattle.std.specs.Prelude.{ℕ, zero, suc, ◌+◌, ◌-◌, ◌≤◌, ◌<◌, ◌≡◌, Bool, true, false, ltb, length, get_or, set, drop}
use Rattle.std.proofs.Common.{arith, add-one, ◌∙◌, subst, length-append, length-set, get_or-set_same, drop-cons, drop-set-lt}
use Rattle.std.proofs.Math.Path.{refl, sym, ap}
use mathlib.Core.List.{List, [], ◌∷◌, ◌++◌, map, append-nil}
use Rattle.std.proofs.Math.Seq.{append_snoc}
use Rattle.std.proofs.lemmas.List.{set_at}
use borrow.Author.Tests.{eq-eqb, eqb-true, ltb-true, ltb-false}
use Rattle.table.specs.Model.{Model}
use Rattle.regions.specs.Entries.{max_entries, region_at}
use Rattle.regions.specs.Graph.{delay_next, gather}
use Rattle.regions.specs.Index.{hash_of, last, in_bucket, last-most, last-passes, last-covers, Index, Walking, walking_start}
use Rattle.regions.specs.Explore.{listed, listed-length, listed_at}
use Rattle.regions.specs.View.{number_in}
use Rattle.regions.specs.Sight.{delays_from, delay_list}
use Rattle.regions.specs.Laws.View.{number-start, number-here, number-on, number-over}
use Rattle.clocks.specs.declared.region.Region.{Region}

-- ---- The lowest number of a region

-- The search has come to a link: `best` is the lowest entry at or past it that is the region, and n where there is none.
pub record Lowest (es : List ℕ) (n : ℕ) (q : Region) (link best : ℕ) : Type 0 where
  pub walk : Walking es best q link
  pub most : best ≤ n
  pub is : best < n → region_at es best ≡ q

module _ (es heads nexts : List ℕ) (n : ℕ) (q : Region) (i : Index es heads nexts n) where
  pub lowest_start : Lowest es n q (get_or heads (hash_of q) 0) n
  lowest_start =
      record { walk = walking_start es heads nexts n q i; most = omega arith; is = λ h. absurd (omega arith) }

  module _ (link best : ℕ) (w : Lowest es n q link best) (some : 0 < link) where
    chain : ℕ → Bool
    chain = in_bucket es (hash_of (region_at es (link - 1)))

    next_last : get_or nexts (link - 1) 0 ≡ last chain (link - 1)
    unfolding chain
    next_last = i.next (link - 1) (omega (arith, w.walk.within, w.most))

    pub lowest-falls : get_or nexts (link - 1) 0 < link
    lowest-falls = omega (arith, next_last, last-most chain (link - 1))

    -- The next link is that of a search among the entries before this one.
    walk-below : Walking es (link - 1) q (get_or nexts (link - 1) 0)
    unfolding chain
    walk-below =
        let here : hash_of (region_at es (link - 1)) ≡ hash_of q = w.walk.inside (link - 1) (omega arith) in
        rw next_last (record {
          within = last-most chain (link - 1);
          inside = λ j e.
              eqb-true (hash_of (region_at es j)) (hash_of (region_at es (link - 1))) (last-passes chain (link - 1) j e) ∙ here;
          ahead = λ j h same.
              last-covers chain (link - 1) j h
              (eq-eqb (hash_of (region_at es j)) (hash_of (region_at es (link - 1))) (ap hash_of same ∙ sym here));
        })

    -- The entry of the link is the region: it is the lowest so far.
    pub lowest-here : (best' : ℕ) → best' ≡ link - 1 → region_at es (link - 1) ≡ q → Lowest es n q (get_or nexts (link - 1) 0) best'
    lowest-here best' e same =
        record {
          walk = subst (λ k. Walking es k q (get_or nexts (link - 1) 0)) (sym e) walk-below;
          most = omega (arith, w.walk.within, w.most);
          is = λ h. ap (region_at es) e ∙ same;
        }

    -- It is not: what was the lowest so far still is.
    pub lowest-past : (best' : ℕ) → best' ≡ best → (region_at es (link - 1) ≡ q → ⊥) → Lowest es n q (get_or nexts (link - 1) 0) best'
    lowest-past best' e differs =
        record {
          walk = subst (λ k. Walking es k q (get_or nexts (link - 1) 0)) (sym e) (record {
            within = omega (arith, walk-below.within, w.walk.within);
            inside = walk-below.inside;
            ahead = λ j h same.
                let other : j ≡ link - 1 → ⊥ = λ at. differs (ap (region_at es) (sym at) ∙ same) in
                walk-below.ahead j (omega (arith, other, w.walk.ahead j h same)) same;
          });
          most = omega (arith, w.most);
          is = λ h. ap (region_at es) e ∙ w.is (omega arith);
        }

-- The first j of a list's regions are not this one: its number is looked for from place j on.
passed_over : (l : List Region) (q : Region) (j : ℕ) → j ≤ length l → ((k : ℕ) → k < j → get_or l k q ≡ q → ⊥)
    → number_in l q ≡ j + number_in (drop j l) q
passed_over l q zero h none = number-start l q
passed_over l q (suc j) h none =
    subst (λ k. number_in l q ≡ k + number_in (drop k l) q) (add-one j)
    (number-on l q j q (passed_over l q j (omega arith) (λ k less. none k (omega arith))) (omega arith)
    (λ e. none j (omega arith) (sym e)))

-- The search is over: the lowest entry that is the region is its number.
pub lowest-number : (es : List ℕ) (n : ℕ) (q : Region) (link best : ℕ) → Lowest es n q link best → link ≤ 0
    → best ≡ number_in (listed es n) q
lowest-number es n q link best w none = go (ltb best n) refl
  where
    so_far : number_in (listed es n) q ≡ best + number_in (drop best (listed es n)) q
    so_far =
        passed_over (listed es n) q best (omega (arith, listed-length es n, w.most))
        (λ k less e. omega
        (arith, w.walk.ahead k less (sym (listed_at es n k q (omega (arith, w.most))) ∙ e)))

    go : (b : Bool) → ltb best n ≡ b → best ≡ number_in (listed es n) q
    go true t =
        let low : best < n = ltb-true best n t in
        sym (number-here (listed es n) q best q so_far (omega (arith, listed-length es n))
        (sym (listed_at es n best q low ∙ w.is low)))
    go false t =
        sym (number-over (listed es n) q best so_far (omega (arith, listed-length es n, ltb-false best n t)))

-- ---- Numbers stored from the front on

-- Of a whole list of numbers those in `front`, i of them, are stored, and v after them; past v a slice is as it was before. What is
-- left of the whole begins with v.
pub record Laid (whole rest before after : List ℕ) (i v : ℕ) : Type 0 where
  pub front : List ℕ
  pub long : length front ≡ i
  pub all : whole ≡ front ++ rest
  pub is : after ≡ front ++ (v ∷ drop (suc i) before)

laid_on : (whole rest before after after' : List ℕ) (i v v' : ℕ) → Laid whole (v ∷ rest) before after i v → suc i < length before
    → after' ≡ set after (suc i) v' → Laid whole rest before after' (suc i) v'
laid_on whole rest before after after' i v v' l room e =
    record {
      front = more;
      long = longer;
      all = l.all ∙ sym (append_snoc l.front v rest);
      is =
          e
          ∙ ap (λ k. set k (suc i) v')
          (l.is ∙ sym (append_snoc l.front v (drop (suc i) before)) ∙ ap (λ k. more ++ k) (drop-cons before (suc i) 0 room))
          ∙ set_at more (get_or before (suc i) 0) (drop (suc (suc i)) before) v' (suc i) longer;
    }
  where
    more : List ℕ
    more = l.front ++ (v ∷ [])

    longer : length more ≡ suc i
    longer = length-append l.front (v ∷ []) ∙ omega (arith, l.long)

laid-over : (whole before after : List ℕ) (i v : ℕ) → Laid whole (v ∷ []) before after i v
    → (i + 1 ≡ length whole) × (after ≡ whole ++ drop (length whole) before)
laid-over whole before after i v l =
    let long : suc i ≡ length whole =
    sym (ap length l.all ∙ length-append l.front (v ∷ []) ∙ omega (arith, l.long)) in (
      add-one i ∙ long,
      l.is
          ∙ sym (append_snoc l.front v (drop (suc i) before))
          ∙ ap (λ k. k ++ drop (suc i) before) (sym l.all)
          ∙ ap (λ k. whole ++ drop k before) long,
    )

-- ---- What is reached by delay

module _ (m : Model) (found : List Region) (at : Region) where
  rest-on : (more : ℕ) (q : Region) → delay_next m at ≡ q ∷ []
      → map (number_in found) (delays_from m (suc more) at) ≡ number_in found at ∷ map (number_in found) (delays_from m more q)
  unfolding delays_from
  rest-on more q e =
      ap (λ l. map (number_in found) (at ∷ l)) (ap (gather (delays_from m more)) e ∙ append-nil (delays_from m more q))

  rest-none : (more : ℕ) → delay_next m at ≡ [] → map (number_in found) (delays_from m (suc more) at) ≡ number_in found at ∷ []
  unfolding delays_from
  rest-none more e = ap (λ l. map (number_in found) (at ∷ gather (delays_from m more) l)) e

  rest-last : map (number_in found) (delays_from m 0 at) ≡ number_in found at ∷ []
  unfolding delays_from
  rest-last = refl

-- Of what region r reaches by delay the first i and region `at` are stored, and what `at` reaches is left.
abbrev pub Reaching : Model → List Region → (n : ℕ) (r at : Region) (i : ℕ) (before after : List ℕ) → Type 0
Reaching m found n r at i before after =
    Laid (delay_list m found r) (map (number_in found) (delays_from m (n - i) at)) before after i (number_in found at)

module _ (m : Model) (es : List ℕ) (n : ℕ) (few : n ≤ max_entries) (r : Region) where
  pub reaching-start : (l before : List ℕ) (v : ℕ) → 0 < length l → before ≡ set l 0 v → v ≡ number_in (listed es n) r
      → Reaching m (listed es n) n r r 0 before before
  reaching-start l before v room e is =
      record {
        front = [];
        long = refl;
        all =
            let same : length (listed es n) ≡ n - 0 = omega (arith, listed-length es n) in
            ap (λ k. map (number_in (listed es n)) (delays_from m k r)) same;
        is =
            let some : 0 < length before = omega (arith, ap length e ∙ length-set l 0 v) in
            let one : get_or before 0 0 ≡ number_in (listed es n) r =
            ap (λ k. get_or k 0 0) e ∙ get_or-set_same l 0 v 0 room ∙ is in
            drop-cons before 0 0 some ∙ ap (λ k. k ∷ drop 1 before) one;
      }

  module _ (at : Region) (i : ℕ) (before after : List ℕ) (w : Reaching m (listed es n) n r at i before after) where
    -- Region q follows.
    pub reaching-on : (q : Region) (v : ℕ) (after' : List ℕ) → i < n → n < length before → delay_next m at ≡ q ∷ []
        → v ≡ number_in (listed es n) q → after' ≡ set after (i + 1) v
        → Reaching m (listed es n) n r q (i + 1) before after'
    reaching-on q v after' h room e is new =
        let left : n - i ≡ suc (n - suc i) = omega arith in
        let rest-is : map (number_in (listed es n)) (delays_from m (n - i) at)
        ≡ number_in (listed es n) at ∷ map (number_in (listed es n)) (delays_from m (n - suc i) q) =
        ap (λ k. map (number_in (listed es n)) (delays_from m k at)) left ∙ rest-on m (listed es n) at (n - suc i) q e in
        rw (add-one i)
        (laid_on (delay_list m (listed es n) r) (map (number_in (listed es n)) (delays_from m (n - suc i) q)) before after after' i
        (number_in (listed es n) at) (number_in (listed es n) q)
        (subst (λ k. Laid (delay_list m (listed es n) r) k before after i (number_in (listed es n) at)) rest-is w)
        (omega arith)
        (new ∙ ap (λ k. set after k v) (add-one i) ∙ ap (set after (suc i)) is))

    module _ (l : List ℕ) (v : ℕ) (e : before ≡ set l 0 v) where
      over : map (number_in (listed es n)) (delays_from m (n - i) at) ≡ number_in (listed es n) at ∷ []
          → (i + 1 ≡ length (delay_list m (listed es n) r))
          × (after ≡ delay_list m (listed es n) r ++ drop (length (delay_list m (listed es n) r)) l)
      over none =
          let whole = delay_list m (listed es n) r in
          let (long, is) = laid-over whole before after i (number_in (listed es n) at)
          (subst (λ k. Laid whole k before after i (number_in (listed es n) at)) none w) in
          (long, is ∙ ap (λ k. whole ++ k) (ap (drop (length whole)) e ∙ drop-set-lt (length whole) l 0 v (omega (arith, long))))

      -- Nothing follows.
      pub reaching-none : i < n → delay_next m at ≡ [] → (i + 1 ≡ length (delay_list m (listed es n) r))
          × (after ≡ delay_list m (listed es n) r ++ drop (length (delay_list m (listed es n) r)) l)
      reaching-none h stop =
          let left : n - i ≡ suc (n - suc i) = omega arith in
          over (ap (λ k. map (number_in (listed es n)) (delays_from m k at)) left ∙ rest-none m (listed es n) at (n - suc i) stop)

      -- There were as many steps as there are regions.
      pub reaching-over : i ≤ n → n ≤ i → (n + 1 ≡ length (delay_list m (listed es n) r))
          × (after ≡ delay_list m (listed es n) r ++ drop (length (delay_list m (listed es n) r)) l)
      reaching-over most least =
          let left : n - i ≡ 0 = omega arith in
          let (long, is) =
          over (ap (λ k. map (number_in (listed es n)) (delays_from m k at)) left ∙ rest-last m (listed es n) at) in
          (omega (arith, long), is)
