-- Blocks in a list of block numbers: the lowest region of a block, its size, and the next block that some regions have.
use Rattle.std.specs.Prelude.{ℕ, zero, suc, ◌+◌, ◌-◌, ◌≤◌, ◌<◌, min, ◌≡◌, refl, Bool, true, false, cond, not, ◌&&◌, ◌⊎◌}
use Rattle.std.specs.Prelude.{◌||◌, List, [], ◌∷◌, eqb, leb, ltb, length, get_or, take, drop, map, filter}
use Rattle.std.specs.Prelude.{count_by, position, Option, Some, None, unwrap_or}
use Rattle.std.specs.List.{fold, reduce, position_or_len}
use Rattle.std.proofs.Common.{arith, add-one, sym, ◌∙◌, ap, subst, take_all, drop-cons, inl, inr}
use Rattle.std.proofs.Common.{eq-eqb, ne_eqb, le-leb, lt-ltb, le-ltb, leb-true, ltb-true}
use Rattle.std.proofs.lemmas.List.Sums.{count_by_more_yes, count_by_more_no}
use Rattle.std.proofs.lemmas.Bool.{false≢true}
use Rattle.std.proofs.Math.Decide.{dec_lt}
use Rattle.listing.specs.Printed.{lowest_from, lowest_of, size_below, is_among}
use Rattle.listing.specs.Slices.{IsNext, Next}

-- ---- The lowest region of a block

cond_yes : {A : Type 0} (t : Bool) (x y : A) → t ≡ true → cond t x y ≡ x
cond_yes t x y e = ap (λ (s : Bool). cond s x y) e

cond_no : {A : Type 0} (t : Bool) (x y : A) → t ≡ false → cond t x y ≡ y
cond_no t x y e = ap (λ (s : Bool). cond s x y) e

pub lowest_start : (list : List ℕ) (b n : ℕ) → lowest_from list b 0 n ≡ lowest_from list b 0 (n - 0)
lowest_start list b n =
    let all : n ≡ n - 0 = omega arith in
    ap (λ (k : ℕ). lowest_from list b 0 k) all

pub lowest-here : (list : List ℕ) (b x n : ℕ) → x < n → get_or list x 0 ≡ b → lowest_from list b x (n - x) ≡ x
lowest-here list b x n h e =
    let more : n - x ≡ suc (n - suc x) = omega (arith, h) in
    ap (λ (k : ℕ). lowest_from list b x k) more
    ∙ cond_yes (eqb (get_or list x 0) b) x (lowest_from list b (suc x) (n - suc x)) (eq-eqb (get_or list x 0) b e)

pub lowest-past : (list : List ℕ) (b x n : ℕ) → x < n → ¬ (get_or list x 0 ≡ b)
    → lowest_from list b x (n - x) ≡ lowest_from list b (x + 1) (n - (x + 1))
lowest-past list b x n h o =
    let more : n - x ≡ suc (n - suc x) = omega (arith, h) in
    ap (λ (k : ℕ). lowest_from list b x k) more
    ∙ (cond_no (eqb (get_or list x 0) b) x (lowest_from list b (suc x) (n - suc x)) (ne_eqb (get_or list x 0) b o)
    ∙ ap (λ (k : ℕ). lowest_from list b k (n - k)) (sym (add-one x)))

pub lowest-none : (list : List ℕ) (b x n : ℕ) → n ≤ x → lowest_from list b x (n - x) ≡ 0
lowest-none list b x n h =
    let none : n - x ≡ 0 = omega (arith, h) in
    ap (λ (k : ℕ). lowest_from list b x k) none

module _ (list : List ℕ) (b : ℕ) where
  -- How many numbers from x on are of other blocks.
  abbrev others : ℕ → ℕ
  others x = position_or_len (λ c. eqb c b) (drop x list)

  lowest-position : (n x : ℕ) → x + n ≡ length list
      → cond (ltb (x + others x) (length list)) (x + others x) 0 ≡ lowest_from list b x n
  lowest-position zero x all = rw (le-ltb (x + others x) (length list) (omega arith)) refl
  lowest-position (suc n) x all = go (eqb (get_or list x 0) b) refl (lowest-position n (suc x) (omega arith))
    where
      inside : x < length list
      inside = omega arith

      more : others x ≡ cond (not (eqb (get_or list x 0) b)) (1 + others (suc x)) 0
      more = ap (position_or_len (λ c. eqb c b)) (drop-cons list x 0 inside)

      go : (t : Bool) → eqb (get_or list x 0) b ≡ t
          → cond (ltb (suc x + others (suc x)) (length list)) (suc x + others (suc x)) 0 ≡ lowest_from list b (suc x) n
          → cond (ltb (x + others x) (length list)) (x + others x) 0 ≡ cond t x (lowest_from list b (suc x) n)
      go true e rest =
          let none : x + others x ≡ x = omega (arith, more ∙ ap (λ (t : Bool). cond (not t) (1 + others (suc x)) 0) e) in
          ap (λ (k : ℕ). cond (ltb k (length list)) k 0) none ∙ rw (lt-ltb x (length list) inside) refl
      go false e rest =
          let one : x + others x ≡ suc x + others (suc x) =
          omega (arith, more ∙ ap (λ (t : Bool). cond (not t) (1 + others (suc x)) 0) e) in
          ap (λ (k : ℕ). cond (ltb k (length list)) k 0) one ∙ rest

  pub position_lowest : unwrap_or (position (λ c. eqb c b) list) 0 ≡ lowest_of list b
  position_lowest =
      go (ltb (others 0) (length list))
      ∙ ap (λ (k : ℕ). cond (ltb k (length list)) k 0) (let front : others 0 ≡ 0 + others 0 = omega arith in front)
      ∙ lowest-position (length list) 0 (omega arith)
    where
      go : (t : Bool) → unwrap_or (cond t (Some (others 0)) None) 0 ≡ cond t (others 0) 0
      go true = refl
      go false = refl

-- ---- How many regions a block has

pub size-count : (list : List ℕ) (b : ℕ) → count_by (λ c. eqb c b) list ≡ size_below list b (length list)
size-count list b =
    sym (ap (count_by (λ c. eqb c b)) (take_all (length list) list (omega arith))) ∙ upto (length list) (omega arith)
  where
    upto : (n : ℕ) → n ≤ length list → count_by (λ c. eqb c b) (take n list) ≡ size_below list b n
    upto zero h = refl
    upto (suc n) h = go (eqb (get_or list n 0) b) refl (upto n (omega arith))
      where
        step : (k : ℕ) → count_by (λ c. eqb c b) (take (n + 1) list) ≡ k → count_by (λ c. eqb c b) (take (suc n) list) ≡ k
        step k e = ap (λ (i : ℕ). count_by (λ c. eqb c b) (take i list)) (sym (add-one n)) ∙ e

        go : (t : Bool) → eqb (get_or list n 0) b ≡ t → count_by (λ c. eqb c b) (take n list) ≡ size_below list b n
            → count_by (λ c. eqb c b) (take (suc n) list) ≡ cond t (suc (size_below list b n)) (size_below list b n)
        go true e rest = step _ (count_by_more_yes (λ c. eqb c b) list n 0 h e ∙ omega (arith, rest))
        go false e rest = step _ (count_by_more_no (λ c. eqb c b) list n 0 h e ∙ rest)

-- ---- The next block

-- The blocks of some regions.
abbrev pub blocks_of : (list regions : List ℕ) → List ℕ
blocks_of list regions = map (λ x. get_or list x 0) regions

abbrev pub in_range : (from count c : ℕ) → Bool
in_range from count c = leb from c && ltb c count

and_parts : (s t : Bool) → (s && t) ≡ true → (s ≡ true) × (t ≡ true)
and_parts true t e = (refl, e)
and_parts false t e = absurd (false≢true e)

or_right : (s t : Bool) → t ≡ true → (s || t) ≡ true
or_right true t e = refl
or_right false t e = e

module _ (list : List ℕ) (from count : ℕ) where
  abbrev test : ℕ → Bool
  test c = in_range from count c

  -- The least of a number and of the blocks that are in the range.
  record Least (a m : ℕ) (regions : List ℕ) : Type 0 where
    most : m ≤ a
    one : (m ≡ a) ⊎ ((is_among list m regions ≡ true) × (test m ≡ true))
    none : (j : ℕ) → j < m → test j ≡ true → is_among list j regions ≡ false

  fold-least : (regions : List ℕ) (a : ℕ) → Least a (fold min a (filter test (blocks_of list regions))) regions
  fold-least [] a = record { most = omega arith; one = inl refl; none = λ j h t. refl }
  fold-least (x ∷ regions) a = go (test v) refl (fold-least regions a) (fold-least regions (min a v))
    where
      v : ℕ
      v = get_or list x 0

      later : (m : ℕ) → is_among list m regions ≡ true → is_among list m (x ∷ regions) ≡ true
      later m = or_right (eqb v m) (is_among list m regions)

      first : (m : ℕ) → m ≡ min a v → test v ≡ true → (m ≡ a) ⊎ ((is_among list m (x ∷ regions) ≡ true) × (test m ≡ true))
      first m same e = elim (dec_lt v a) [
        | yes less ↦
            let is : v ≡ m = omega (arith, same, less) in
            inr (ap (λ (t : Bool). t || is_among list m regions) (eq-eqb v m is), subst (λ (k : ℕ). test k ≡ true) is e)
        | no other ↦ inl (omega (arith, same, other))
      ]

      go : (t : Bool) → test v ≡ t → Least a (fold min a (filter test (blocks_of list regions))) regions
          → Least (min a v) (fold min (min a v) (filter test (blocks_of list regions))) regions
          → Least a (fold min a (cond t (v ∷ filter test (blocks_of list regions)) (filter test (blocks_of list regions)))) (x ∷ regions)
      go true e without least =
          record {
            most = omega (arith, least.most);
            one = elim least.one [
              | inl same ↦ first _ same e
              | inr hit ↦ inr (later _ hit.0, hit.1)
            ];
            none = λ j h t. rw (ne_eqb v j (λ q. omega (arith, least.most, h, q))) (least.none j h t);
          }
      go false e without least =
          record {
            most = without.most;
            one = elim without.one [ inl same ↦ inl same | inr hit ↦ inr (later _ hit.0, hit.1) ];
            none = λ j h t. rw (ne_eqb v j (λ q. false≢true (sym e ∙ ap test q ∙ t))) (without.none j h t);
          }

  pub next-least : (regions : List ℕ) → Next (λ b. is_among list b regions) from count (reduce min (filter test (blocks_of list regions)))
  next-least [] = λ j above below. refl
  next-least (x ∷ regions) = go (test v) refl (next-least regions) (fold-least regions v)
    where
      v : ℕ
      v = get_or list x 0

      passing : (j : ℕ) → from ≤ j → j < count → test j ≡ true
      passing j above below = rw (le-leb from j above, lt-ltb j count below) refl

      passes : (j : ℕ) → test j ≡ true → (from ≤ j) × (j < count)
      passes j t =
          let (low, less) = and_parts (leb from j) (ltb j count) t in
          (leb-true from j low, ltb-true j count less)

      past : (o : Option ℕ) → test v ≡ false → Next (λ b. is_among list b regions) from count o
          → Next (λ b. is_among list b (x ∷ regions)) from count o
      past None e n = λ j above below. rw (ne_eqb v j (λ q. false≢true (sym e ∙ ap test q ∙ passing j above below))) (n j above below)
      past (Some c) e n =
          record {
            below = n.below;
            on = n.on;
            passes = or_right (eqb v c) (is_among list c regions) n.passes;
            between = λ j above below.
                rw (ne_eqb v j (λ q. false≢true (sym e ∙ ap test q ∙ passing j above (omega (arith, below, n.below)))))
                (n.between j above below);
          }

      found : (m : ℕ) → test v ≡ true → Least v m regions → IsNext (λ b. is_among list b (x ∷ regions)) from count m
      found m e least =
          let (low, less) = passes v e in
          record {
            below = omega (arith, least.most, less);
            on = elim least.one [ inl same ↦ omega (arith, same, low) | inr hit ↦ (passes m hit.1).0 ];
            passes = elim least.one [
              | inl same ↦ ap (λ (t : Bool). t || is_among list m regions) (eq-eqb v m (sym same))
              | inr hit ↦ or_right (eqb v m) (is_among list m regions) hit.0
            ];
            between = λ j above below.
                rw (ne_eqb v j (λ q. omega (arith, least.most, below, q)))
                (least.none j below (passing j above (omega (arith, least.most, less, below))));
          }

      go : (t : Bool) → test v ≡ t → Next (λ b. is_among list b regions) from count (reduce min (filter test (blocks_of list regions)))
          → Least v (fold min v (filter test (blocks_of list regions))) regions
          → Next (λ b. is_among list b (x ∷ regions)) from count
          (reduce min (cond t (v ∷ filter test (blocks_of list regions)) (filter test (blocks_of list regions))))
      go true e skip least = found _ e least
      go false e skip least = past _ e skip
