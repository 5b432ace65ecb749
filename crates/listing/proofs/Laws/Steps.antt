-- One turn more of what a listing is put together of: the size of a block, the next block that some regions have, the numbers that pass
-- a test, the shares of a step, the edges of a row: laws that stand for a reader of the definitions; the code needs none of them.
use Rattle.std.specs.Prelude.{ℕ, zero, suc, ◌+◌, ◌-◌, ◌*◌, ◌≤◌, ◌<◌, ◌≡◌, refl, Bool, true, false, cond, not, ◌&&◌, ◌||◌, eqb, leb, ltb}
use Rattle.std.specs.Prelude.{length, get_or, take, Option, None, Some, unwrap_or}
use Rattle.std.proofs.Common.{arith, add-one, eq-or-lt_of_le, sym, ◌∙◌, ap, ap₂, subst, inl, inr, true≢false}
use Rattle.std.proofs.Common.{take-suc, take_all, length-take-le, eq-eqb, ne_eqb, le-leb, leb-true, ltb-true, ltb-false}
use mathlib.Core.List.{List, [], ◌∷◌, ◌++◌, append-nil, cons-ne-nil}
use Rattle.std.proofs.Math.Decide.{dec_lt}
use Rattle.partition.specs.Passed.{Branch}
use Rattle.text.specs.Text.{line_feed, delay_word, field, up_to, rising, each}
use Rattle.text.specs.Writing.{Adds}
use Rattle.text.specs.Laws.Texts.{each_append, each_map, rising-hit, rising-skip}
use Rattle.text.specs.Laws.Writing.{adds_none, adds_then, adds_same}
use Rattle.listing.specs.Printed.{size_below, is_among, delay_line_of, targets_of, weight_into, share_field, shares_of, step_line}
use Rattle.listing.specs.Slices.{Next, branches_from, step_at, step_text_at}
use Rattle.listing.specs.Laws.Rising.{share_text}

cond_yes : {A : Type 0} (t : Bool) (x y : A) → t ≡ true → cond t x y ≡ x
cond_yes t x y e = ap (λ (s : Bool). cond s x y) e

cond_no : {A : Type 0} (t : Bool) (x y : A) → t ≡ false → cond t x y ≡ y
cond_no t x y e = ap (λ (s : Bool). cond s x y) e

-- ---- How many regions a block has

pub size-hit : (list : List ℕ) (b x size : ℕ) → size ≡ size_below list b x → get_or list x 0 ≡ b
    → size + 1 ≡ size_below list b (x + 1)
size-hit list b x size s e =
    add-one size
    ∙ (ap suc s
    ∙ (sym (cond_yes (eqb (get_or list x 0) b) (suc (size_below list b x)) (size_below list b x) (eq-eqb (get_or list x 0) b e))
    ∙ ap (λ (k : ℕ). size_below list b k) (sym (add-one x))))

pub size-miss : (list : List ℕ) (b x size : ℕ) → size ≡ size_below list b x → ¬ (get_or list x 0 ≡ b)
    → size ≡ size_below list b (x + 1)
size-miss list b x size s o =
    s
    ∙ (sym (cond_no (eqb (get_or list x 0) b) (suc (size_below list b x)) (size_below list b x) (ne_eqb (get_or list x 0) b o))
    ∙ ap (λ (k : ℕ). size_below list b k) (sym (add-one x)))

-- ---- The next block

-- The next number from some one on, below a count, that passes a test; the count where there is none.
pub record NextAt (p : ℕ → Bool) (from count c : ℕ) : Type 0 where
  pub most : c ≤ count
  pub passes : c < count → (from ≤ c) × (p c ≡ true)
  pub between : (j : ℕ) → from ≤ j → j < c → p j ≡ false

-- It is what `Next` tells.
pub next-at : (p : ℕ → Bool) (from count : ℕ) (o : Option ℕ) → Next p from count o → NextAt p from count (unwrap_or o count)
next-at p from count None n = record { most = omega arith; passes = λ h. absurd (omega (arith, h)); between = n }
next-at p from count (Some c) n =
    record { most = omega (arith, n.below); passes = λ h. (n.on, n.passes); between = n.between }

or-none : (t : Bool) → (t || false) ≡ t
or-none true = refl
or-none false = refl

or_assoc : (s t u : Bool) → (s || (t || u)) ≡ ((s || t) || u)
or_assoc true t u = refl
or_assoc false t u = refl

or_left : (s t : Bool) → s ≡ true → (s || t) ≡ true
or_left s t e = ap (λ (k : Bool). k || t) e

or_right : (s t : Bool) → t ≡ true → (s || t) ≡ true
or_right true t e = refl
or_right false t e = e

or-neither : (s t : Bool) → s ≡ false → t ≡ false → (s || t) ≡ false
or-neither s t e f = ap (λ (k : Bool). k || t) e ∙ f

and_both : (s t : Bool) → s ≡ true → t ≡ true → (s && t) ≡ true
and_both s t e f = ap (λ (k : Bool). k && t) e ∙ f

and_parts : (s t : Bool) → (s && t) ≡ true → (s ≡ true) × (t ≡ true)
and_parts true t e = (refl, e)
and_parts false t e = absurd (true≢false (sym e))

and_first : (s t : Bool) → s ≡ false → (s && t) ≡ false
and_first s t e = ap (λ (k : Bool). k && t) e

and_second : (s t : Bool) → t ≡ false → (s && t) ≡ false
and_second true t f = f
and_second false t f = refl

among-more : (list : List ℕ) (b : ℕ) (l : List ℕ) (x : ℕ) → is_among list b (l ++ (x ∷ [])) ≡ (is_among list b l || eqb (get_or list x 0) b)
among-more list b [] x = or-none (eqb (get_or list x 0) b)
among-more list b (y ∷ l) x =
    ap (λ (t : Bool). eqb (get_or list y 0) b || t) (among-more list b l x)
    ∙ or_assoc (eqb (get_or list y 0) b) (is_among list b l) (eqb (get_or list x 0) b)

among-on : (list regions : List ℕ) (i j : ℕ) → i < length regions
    → is_among list j (take (i + 1) regions) ≡ (is_among list j (take i regions) || eqb (get_or list (get_or regions i 0) 0) j)
among-on list regions i j h =
    ap (λ (k : ℕ). is_among list j (take k regions)) (add-one i)
    ∙ (ap (λ (l : List ℕ). is_among list j l) (take-suc regions i 0 h)
    ∙ among-more list j (take i regions) (get_or regions i 0))

-- What the test of a better block tells.
pub better-yes : (from c best : ℕ) → (leb from c && ltb c best) ≡ true → (from ≤ c) × (c < best)
better-yes from c best e =
    let (low, less) = and_parts (leb from c) (ltb c best) e in
    (leb-true from c low, ltb-true c best less)

pub better-no : (from c best : ℕ) → (leb from c && ltb c best) ≡ false → from ≤ c → best ≤ c
better-no from c best e h =
    ltb-false c best (sym (ap (λ (t : Bool). t && ltb c best) (le-leb from c h)) ∙ e)

-- No region is seen.
pub next_start : (list regions : List ℕ) (from count : ℕ) → NextAt (λ b. is_among list b (take 0 regions)) from count count
next_start list regions from count =
    record { most = omega arith; passes = λ h. absurd (omega (arith, h)); between = λ j h k. refl }

-- The block of one more region is the best so far.
pub next-better : (list regions : List ℕ) (from count best i v : ℕ) → i < length regions → v ≡ get_or list (get_or regions i 0) 0
    → NextAt (λ b. is_among list b (take i regions)) from count best → from ≤ v → v < best
    → NextAt (λ b. is_among list b (take (i + 1) regions)) from count v
next-better list regions from count best i v h e n low better =
    record {
      most = omega (arith, n.most, better);
      passes = λ _. (
        low,
        among-on list regions i v h ∙ or_right (is_among list v (take i regions)) (eqb (get_or list (get_or regions i 0) 0) v)
            (eq-eqb (get_or list (get_or regions i 0) 0) v (sym e)),
      );
      between = λ j above below.
          among-on list regions i j h
          ∙ or-neither (is_among list j (take i regions)) (eqb (get_or list (get_or regions i 0) 0) j)
          (n.between j above (omega (arith, below, better)))
          (ne_eqb (get_or list (get_or regions i 0) 0) j (λ q. absurd (omega (arith, e, q, below))));
    }

-- It is not.
pub next-same : (list regions : List ℕ) (from count best i v : ℕ) → i < length regions → v ≡ get_or list (get_or regions i 0) 0
    → NextAt (λ b. is_among list b (take i regions)) from count best → (from ≤ v → best ≤ v)
    → NextAt (λ b. is_among list b (take (i + 1) regions)) from count best
next-same list regions from count best i v h e n worse =
    record {
      most = n.most;
      passes = λ k. (
        (n.passes k).0,
        among-on list regions i best h ∙ or_left (is_among list best (take i regions)) (eqb (get_or list (get_or regions i 0) 0) best)
            (n.passes k).1,
      );
      between = λ j above below.
          among-on list regions i j h
          ∙ or-neither (is_among list j (take i regions)) (eqb (get_or list (get_or regions i 0) 0) j)
          (n.between j above below)
          (ne_eqb (get_or list (get_or regions i 0) 0) j (λ q.
          let s : v ≡ j = e ∙ q in
          let far = worse (omega (arith, s, above)) in
          absurd (omega (arith, s, far, below))));
    }

-- All regions are seen.
pub next-end : (list regions : List ℕ) (from count best i : ℕ) → length regions ≤ i
    → NextAt (λ b. is_among list b (take i regions)) from count best → NextAt (λ b. is_among list b regions) from count best
next-end list regions from count best i h n =
    record {
      most = n.most;
      passes = λ k. ((n.passes k).0, sym (all best) ∙ (n.passes k).1);
      between = λ j above below. sym (all j) ∙ n.between j above below;
    }
  where
    all : (j : ℕ) → is_among list j (take i regions) ≡ is_among list j regions
    all j = ap (λ (l : List ℕ). is_among list j l) (take_all i regions h)

-- ---- The next block but one's own

-- The next block is another one.
pub next-other : {p : ℕ → Bool} {from count c : ℕ} (own : ℕ) → NextAt p from count c → ¬ (c ≡ own)
    → NextAt (λ b. not (eqb b own) && p b) from count c
next-other {p} {from} {count} {c} own n o =
    record {
      most = n.most;
      passes = λ k. (
        (n.passes k).0,
        and_both (not (eqb c own)) (p c) (ap not (ne_eqb c own o)) (n.passes k).1,
      );
      between = λ j above below. and_second (not (eqb j own)) (p j) (n.between j above below);
    }

-- It is one's own, and the next after that one is looked for.
pub next-after : {p : ℕ → Bool} {from count c d : ℕ} (own : ℕ) → own < count → NextAt p from count c → c ≡ own → NextAt p (own + 1) count d
    → NextAt (λ b. not (eqb b own) && p b) from count d
next-after {p} {from} {count} {c} {d} own h n e m =
    record {
      most = m.most;
      passes = λ k.
          let past = (m.passes k).0 in (
            omega (arith, past, low),
            and_both (not (eqb d own)) (p d) (ap not (ne_eqb d own (λ q. absurd (omega (arith, past, q))))) (m.passes k).1,
          );
      between = λ j above below. at j above below (dec_lt j own) (dec_lt own j);
    }
  where
    low : from ≤ own
    low = let first = (n.passes (omega (arith, h, e))).0 in omega (arith, first, e)

    at : (j : ℕ) → from ≤ j → j < d → Dec (j < own) → Dec (own < j) → (not (eqb j own) && p j) ≡ false
    at j above below (yes less) _ = and_second (not (eqb j own)) (p j) (n.between j above (omega (arith, less, e)))
    at j above below (no _) (yes more) = and_second (not (eqb j own)) (p j) (m.between j (omega (arith, more)) below)
    at j above below (no l) (no g) =
        and_first (not (eqb j own)) (p j) (ap not (eq-eqb j own (omega (arith, l, g))))

-- ---- The numbers that pass a test

module _ (p : ℕ → Bool) where
  rising-next : (from count c : ℕ) → from ≤ count → NextAt p from count c → rising p c ≡ rising p from
  rising-next from count c h n =
      elim (eq-or-lt_of_le n.most) [
        | inl e ↦ rising-skip p from c (omega arith) n.between
        | inr l ↦ rising-skip p from c (n.passes l).0 n.between
      ]

  -- The next is past the last.
  pub next_past : (count c d : ℕ) → c < count → NextAt p (c + 1) count d → c < d
  next_past count c d h n =
      elim (eq-or-lt_of_le n.most) [
        | inl e ↦ omega arith
        | inr l ↦ let from : c + 1 ≤ d = (n.passes l).0 in omega arith
      ]

  -- Some number below n passes.
  rising-some : (n c : ℕ) → c < n → p c ≡ true → ¬ (rising p n ≡ [])
  rising-some zero c h e none = absurd (omega arith)
  rising-some (suc n) c h e none =
      elim (eq-or-lt_of_le h) [
        | inl q ↦
            let same : c ≡ n = omega arith in
            cons-ne-nil n []
            (ap (λ (b : Bool). cond b (n ∷ []) []) (sym (subst (λ (k : ℕ). p k ≡ true) same e)) ∙ last (rising p n) _ none)
        | inr l ↦ rising-some n c (omega arith) e (front (rising p n) _ none)
      ]
    where
      front : (l m : List ℕ) → l ++ m ≡ [] → l ≡ []
      front [] m e = refl
      front (x ∷ l) m e = absurd (cons-ne-nil x (l ++ m) e)

      last : (l m : List ℕ) → l ++ m ≡ [] → m ≡ []
      last [] m e = e
      last (x ∷ l) m e = absurd (cons-ne-nil x (l ++ m) e)

  -- The texts of those that pass are put one after the other: at the start, with each that is found, and when there are no more.
  module _ (f : ℕ → List ℕ) (count : ℕ) {text : List ℕ} {at : ℕ} where
    pub found_none : (c : ℕ) → NextAt p 0 count c → Adds text at text at (each f (rising p c))
    found_none c n = adds_same (ap (λ (l : List ℕ). each f l) (sym (rising-next 0 count c (omega arith) n))) (adds_none text at)

    pub found-one : {text₁ : List ℕ} {at₁ : ℕ} {text₂ : List ℕ} {at₂ : ℕ} (c d : ℕ) → c < count → p c ≡ true
        → NextAt p (c + 1) count d → Adds text at text₁ at₁ (each f (rising p c)) → Adds text₁ at₁ text₂ at₂ (f c)
        → Adds text at text₂ at₂ (each f (rising p d))
    found-one c d h e n a b = adds_same (sym same) (adds_then a b)
      where
        same : each f (rising p d) ≡ each f (rising p c) ++ f c
        same =
            ap (λ (l : List ℕ). each f l)
            (rising-next (c + 1) count d (omega arith) n ∙ ap (λ (k : ℕ). rising p k) (add-one c) ∙ rising-hit p c e)
            ∙ each_append f (rising p c) (c ∷ [])
            ∙ ap (λ (l : List ℕ). each f (rising p c) ++ l) (append-nil (f c))

    pub found_all : {text₁ : List ℕ} {at₁ : ℕ} (c : ℕ) → c ≤ count → count ≤ c → Adds text at text₁ at₁ (each f (rising p c))
        → Adds text at text₁ at₁ (each f (rising p count))
    found_all c h k a = adds_same (ap (λ (n : ℕ). each f (rising p n)) (let all : c ≡ count = omega arith in all)) a

  -- The delay line is left out where there is no block to name.
  pub delay-none : (number count c : ℕ) → count ≤ c → NextAt p 0 count c → [] ≡ delay_line_of number (rising p count)
  delay-none number count c h n =
      ap (delay_line_of number)
      (sym (rising-next 0 count c (omega arith) n) ∙ ap (λ (k : ℕ). rising p k) (let all : c ≡ count = omega (arith, n.most) in all))

  pub delay-some : (number count c : ℕ) → c < count → NextAt p 0 count c
      → delay_word ++ (field number ++ (each field (rising p count) ++ (line_feed ∷ []))) ≡ delay_line_of number (rising p count)
  delay-some number count c h n = go (rising p count) (rising-some count c h (n.passes h).1)
    where
      go : (l : List ℕ) → ¬ (l ≡ []) → delay_word ++ (field number ++ (each field l ++ (line_feed ∷ []))) ≡ delay_line_of number l
      go [] some = absurd (some refl)
      go (x ∷ l) some = refl

-- ---- Shares

-- The text of a block landed in, and of all of them.
module _ (list : List ℕ) (denominator : ℕ) (branches : List (Branch ℕ)) where
  module _ {text : List ℕ} {at : ℕ} {text₁ : List ℕ} {at₁ : ℕ} where
    pub share-one : (c weight : ℕ) → weight ≡ weight_into list c branches
        → Adds text at text₁ at₁ (share_field (record { block = c; weight = weight; denominator = denominator }))
        → Adds text at text₁ at₁ (share_text list denominator branches c)
    share-one c weight e =
        adds_same (ap (λ (w : ℕ). share_field (record { block = c; weight = w; denominator = denominator })) e)

    pub share-all : (targets : List ℕ) (count : ℕ) → targets ≡ targets_of branches
        → Adds text at text₁ at₁ (each (share_text list denominator branches) (rising (λ b. is_among list b targets) count))
        → Adds text at text₁ at₁ (each share_field (shares_of list count denominator branches))
    share-all targets count e =
        adds_same
        (ap (λ (l : List ℕ). each (share_text list denominator branches) (rising (λ b. is_among list b l) count)) e
        ∙ sym (each_map share_field (λ c. record { block = c; weight = weight_into list c branches; denominator = denominator })
        (rising (λ b. is_among list b (targets_of branches)) count)))

-- The weight into a block, from the last branch on.
module _ (list rows : List ℕ) (c from k : ℕ) where
  turn : (i : ℕ) → 0 < i → i ≤ k
      → branches_from rows (from + 2 * (i - 1)) (k - (i - 1))
      ≡ record { weight = get_or rows (from + 2 * (i - 1)) 0; target = get_or rows (from + 2 * (i - 1) + 1) 0 }
      ∷ branches_from rows (from + 2 * i) (k - i)
  turn i h m =
      let more : k - (i - 1) ≡ suc (k - i) = omega arith in
      let on : from + 2 * (i - 1) + 2 ≡ from + 2 * i = omega arith in
      ap (branches_from rows (from + 2 * (i - 1))) more
      ∙ ap (λ (at : ℕ).
      record { weight = get_or rows (from + 2 * (i - 1)) 0; target = get_or rows (from + 2 * (i - 1) + 1) 0 }
      ∷ branches_from rows at (k - i)) on

  pub weight-none : 0 ≡ weight_into list c (branches_from rows (from + 2 * k) (k - k))
  weight-none =
      let none : k - k ≡ 0 = omega arith in
      ap (λ (n : ℕ). weight_into list c (branches_from rows (from + 2 * k) n)) (sym none)

  pub weight-hit : (i total : ℕ) → 0 < i → i ≤ k → get_or list (get_or rows (from + 2 * (i - 1) + 1) 0) 0 ≡ c
      → total ≡ weight_into list c (branches_from rows (from + 2 * i) (k - i))
      → total + get_or rows (from + 2 * (i - 1)) 0 ≡ weight_into list c (branches_from rows (from + 2 * (i - 1)) (k - (i - 1)))
  weight-hit i total h m e t =
      let w : ℕ = get_or rows (from + 2 * (i - 1)) 0 in
      let rest : ℕ = weight_into list c (branches_from rows (from + 2 * i) (k - i)) in
      let swap : total + w ≡ w + rest = omega (arith, t) in
      swap ∙ sym (ap (weight_into list c) (turn i h m) ∙ ap (λ (b : Bool). cond b (w + rest) rest) (eq-eqb _ _ e))

  pub weight-miss : (i total : ℕ) → 0 < i → i ≤ k → ¬ (get_or list (get_or rows (from + 2 * (i - 1) + 1) 0) 0 ≡ c)
      → total ≡ weight_into list c (branches_from rows (from + 2 * i) (k - i))
      → total ≡ weight_into list c (branches_from rows (from + 2 * (i - 1)) (k - (i - 1)))
  weight-miss i total h m e t =
      let w : ℕ = get_or rows (from + 2 * (i - 1)) 0 in
      let rest : ℕ = weight_into list c (branches_from rows (from + 2 * i) (k - i)) in
      t ∙ sym (ap (weight_into list c) (turn i h m) ∙ ap (λ (b : Bool). cond b (w + rest) rest) (ne_eqb _ _ e))

  pub weight-all : (i total : ℕ) → i ≤ 0 → total ≡ weight_into list c (branches_from rows (from + 2 * i) (k - i))
      → total ≡ weight_into list c (branches_from rows from k)
  weight-all i total h t =
      let start : from + 2 * i ≡ from = omega arith in
      let all : k - i ≡ k = omega arith in
      t ∙ ap₂ (λ (a n : ℕ). weight_into list c (branches_from rows a n)) start all

-- The front of the room for targets.
pub room-front : (k : ℕ) → k ≤ 8 → length (take {A = ℕ} k (0 ∷ 0 ∷ 0 ∷ 0 ∷ 0 ∷ 0 ∷ 0 ∷ 0 ∷ [])) ≡ k
room-front k h = length-take-le {A = ℕ} k (0 ∷ 0 ∷ 0 ∷ 0 ∷ 0 ∷ 0 ∷ 0 ∷ 0 ∷ []) h

-- ---- Steps

-- The text of the edges up to one, which is available, or is not.
module _ (list rows : List ℕ) (count own e : ℕ) {text : List ℕ} {at : ℕ} {text₁ : List ℕ} {at₁ : ℕ} {text₂ : List ℕ} {at₂ : ℕ} where
  pub step-taken : {text₃ : List ℕ} {at₃ : ℕ} → text₃ ≡ text₂ → at₃ ≡ at₂ → get_or rows (32 * e) 0 ≡ 1
      → Adds text at text₁ at₁ (up_to (step_text_at list rows count own) e)
      → Adds text₁ at₁ text₂ at₂ (step_line own (step_at list rows count e))
      → Adds text at text₃ at₃ (up_to (step_text_at list rows count own) (e + 1))
  step-taken to from h a b = rw (to, from) (adds_same (sym same) (adds_then a b))
    where
      same : up_to (step_text_at list rows count own) (e + 1)
          ≡ up_to (step_text_at list rows count own) e ++ step_line own (step_at list rows count e)
      same =
          ap (up_to (step_text_at list rows count own)) (add-one e)
          ∙ ap (λ (b : Bool). up_to (step_text_at list rows count own) e ++ cond b (step_line own (step_at list rows count e)) [])
          (eq-eqb _ _ h)

  pub step_left : text₂ ≡ text₁ → at₂ ≡ at₁ → ¬ (get_or rows (32 * e) 0 ≡ 1)
      → Adds text at text₁ at₁ (up_to (step_text_at list rows count own) e)
      → Adds text at text₂ at₂ (up_to (step_text_at list rows count own) (e + 1))
  step_left to from h a = rw (to, from) (adds_same (sym same) a)
    where
      same : up_to (step_text_at list rows count own) (e + 1) ≡ up_to (step_text_at list rows count own) e
      same =
          ap (up_to (step_text_at list rows count own)) (add-one e)
          ∙ ap (λ (b : Bool). up_to (step_text_at list rows count own) e ++ cond b (step_line own (step_at list rows count e)) [])
          (ne_eqb _ _ h)
          ∙ append-nil (up_to (step_text_at list rows count own) e)
