-- What the loops that compute keys keep, one law for each turn, and that nothing grows too large there.
use Rattle.std.specs.Prelude.{ℕ, zero, suc, ◌+◌, ◌*◌, ◌-◌, ◌%◌, ◌≤◌, ◌<◌, ◌≡◌, Bool, true, false, ◌&&◌}
use Rattle.std.specs.Prelude.{◌||◌, List, [], ◌∷◌, ◌⊎◌, ltb, length, get_or, set, replicate}
use Rattle.std.proofs.Common.{arith, mul-le-mul, mod-lt, mod-eq_of_lt, add-one, ◌∙◌, ap₂, subst, inl, inr, length-set, get_or-set_same}
use Rattle.std.proofs.Common.{get_or-set_other, eq-eqb, ne_eqb, eqb-true, ltb-true, ltb-false}
use Rattle.std.proofs.Math.Path.{refl, sym, ap}
use Rattle.std.proofs.Math.Bool.{cond, not}
use Rattle.std.proofs.Math.Dec.{eqb}
use Rattle.std.proofs.Math.Seq.{set_out}
use Rattle.bisimulation.specs.Finite.{some_below, any_of}
use Rattle.bisimulation.proofs.Laws.Tests.{both, fails, same?, and-iff}
use Rattle.comparison.specs.Held.{most_items, chain, open_below, is_open}
use Rattle.comparison.specs.Keys.{sum_below, scatter, delay_room, delay_mark, is_reached, delay_key, code_of, is_new, key_of}
use Rattle.comparison.specs.Keys.{Known, AskedFor, BothAsked, Coded}
use Rattle.comparison.specs.Keys.{ForgottenAt, Forgotten, keys_after}
use Rattle.comparison.specs.Laws.Compare.{some-agree}
use Rattle.comparison.specs.Laws.Keys.{sum-agree, sum-flip, sum-most, code_bound, code-small}
use Rattle.comparison.specs.Laws.Down.{Down, none_open, down-on}
use Rattle.comparison.specs.Laws.Steps.{below_one, cond_yes, cond_no, zeros-at}

-- ---- Sums and lists from the front

pub sum-none : (f : ℕ → ℕ) → sum_below 0 f ≡ 0
unfolding sum_below
sum-none f = refl

pub sum-next : (i : ℕ) (f : ℕ → ℕ) (s w : ℕ) → s ≡ sum_below i f → w ≡ f i → s + w ≡ sum_below (i + 1) f
unfolding sum_below
sum-next i f s w p q = rw (add-one i, p, q)

pub sum_done : (n i : ℕ) (f : ℕ → ℕ) (s : ℕ) → i ≤ n → n ≤ i → s ≡ sum_below i f → s ≡ sum_below n f
sum_done n i f s h k p = let same : i ≡ n = omega arith in p ∙ ap (λ (m : ℕ). sum_below m f) same

-- ---- Tests

pub and_no : (a b : Bool) → a ≡ false → (a && b) ≡ false
and_no a b e = ap (λ (t : Bool). t && b) e

pub and_yes : (a b : Bool) → a ≡ true → (a && b) ≡ b
and_yes a b e = ap (λ (t : Bool). t && b) e

or_assoc : (a b c : Bool) → ((a || b) || c) ≡ (a || (b || c))
or_assoc true b c = refl
or_assoc false b c = refl

or_no : (a b : Bool) → b ≡ false → (a || b) ≡ a
or_no true b e = refl
or_no false b e = e

-- ---- Nothing grows too large

scatter-small : (v : ℕ) → scatter v ≤ 1048572
unfolding scatter
scatter-small v = let below = mod-lt ((v + 77) * ((v + 1003) * (v + 2001))) {m = 1048573} (omega arith) in omega arith

pub scatter-inner : (v : ℕ) → v < most_items → (v + 1003) * (v + 2001) ≤ 31077408
scatter-inner v h = mul-le-mul {n₁ = v + 1003} {m₁ = v + 2001} {n₂ = 5098} {m₂ = 6096} (omega arith) (omega arith)

pub scatter-outer : (v : ℕ) → v < most_items → (v + 77) * ((v + 1003) * (v + 2001)) ≤ 129654946176
scatter-outer v h =
    mul-le-mul {n₁ = v + 77} {m₁ = (v + 1003) * (v + 2001)} {n₂ = 4172} {m₂ = 31077408} (omega arith) (scatter-inner v h)

pub mix-inner : (v : ℕ) → v < most_items → v * (v * 131 + 524309) ≤ 4343787630
mix-inner v h = mul-le-mul {n₁ = v} {m₁ = v * 131 + 524309} {n₂ = 4095} {m₂ = 1060754} (omega arith) (omega arith)

pub remainders-small : (a b : ℕ) → a < 2147483629 → b < 2147483629 → a * b ≤ 4611685932528042384
remainders-small a b h k = mul-le-mul {n₁ = a} {m₁ = b} {n₂ = 2147483628} {m₂ = 2147483628} (omega arith) (omega arith)

pub square-small : (m : ℕ) → (m % 2147483629) * (m % 2147483629) ≤ 4611685932528042384
square-small m =
    let below = mod-lt m {m = 2147483629} (omega arith) in
    remainders-small (m % 2147483629) (m % 2147483629) below below

-- ---- Delays: blocks are marked along a chain

abbrev pub is_marked : List ℕ → ℕ → Bool
is_marked marks u = eqb (get_or marks u 0) 1

-- Is item y in block u?
abbrev is_in : List ℕ → (u y : ℕ) → Bool
is_in list u y = eqb u (delay_mark list y)

-- Nothing is marked.
abbrev pub Clear : List ℕ → Type 0
Clear marks = (u : ℕ) → is_marked marks u ≡ false

pub clear-zeros : (n : ℕ) → Clear (replicate {A = ℕ} n 0)
clear-zeros n u = ap (λ (z : ℕ). eqb z 1) (zeros-at n u)

-- What a block counts, and the sum over the marked blocks.
abbrev count_of : List ℕ → ℕ → ℕ
count_of marks u = cond (is_marked marks u) (scatter u) 0

abbrev pub mark_sum : List ℕ → ℕ
mark_sum marks = sum_below delay_room (count_of marks)

-- With these items left: the blocks that x reaches are those that are marked and those that are still to be met.
pub record Marking (n : ℕ) (list nexts : List ℕ) (x : ℕ) (marks : List ℕ) (total : ℕ) (left : List ℕ) : Type 0 where
  pub room : length marks ≡ delay_room
  pub counted : total ≡ mark_sum marks
  pub reached : (u : ℕ) → (is_marked marks u || any_of (is_in list u) left) ≡ is_reached n list nexts x u

marks-small : (marks : List ℕ) → mark_sum marks ≤ 536868864
marks-small marks = sum-most delay_room 1048572 (count_of marks) (λ u _. go u (is_marked marks u))
  where
    go : (u : ℕ) → (b : Bool) → cond b (scatter u) 0 ≤ 1048572
    go u true = scatter-small u
    go u false = omega arith

marks-none : (marks : List ℕ) → Clear marks → mark_sum marks ≡ 0
marks-none marks clear =
    let none = sum-most delay_room 0 (count_of marks)
    (λ u _. let e = cond_no (is_marked marks u) (scatter u) 0 (clear u) in omega arith) in
    omega arith

marked-test : (marks : List ℕ) (v : ℕ) → v < length marks → (u : ℕ)
    → is_marked (set marks v 1) u ≡ (is_marked marks u || eqb u v)
marked-test marks v h u = go (same? u v)
  where
    go : (u ≡ v) ⊎ (¬ (u ≡ v)) → is_marked (set marks v 1) u ≡ (is_marked marks u || eqb u v)
    go (inl s) = rw (s, get_or-set_same marks v 1 0 h, eq-eqb v v refl) (last (is_marked marks v))
      where
        last : (b : Bool) → true ≡ (b || true)
        last true = refl
        last false = refl
    go (inr o) = rw (get_or-set_other marks v u 1 0 o) (sym (or_no (is_marked marks u) (eqb u v) (ne_eqb u v o)))

-- Block v is marked.
marks-on : (marks : List ℕ) (v total w : ℕ) → length marks ≡ delay_room → v < delay_room → total ≡ mark_sum marks
    → w ≡ cond (is_marked marks v) 0 (scatter v) → total + w ≡ mark_sum (set marks v 1)
marks-on marks v total w room h counted added = go (both (is_marked marks v))
  where
    inside : v < length marks
    inside = omega arith

    other : (u : ℕ) → ¬ (u ≡ v) → is_marked (set marks v 1) u ≡ is_marked marks u
    other u o = marked-test marks v inside u ∙ or_no (is_marked marks u) (eqb u v) (ne_eqb u v o)

    here : is_marked (set marks v 1) v ≡ true
    here = rw (get_or-set_same marks v 1 0 inside) refl

    again : is_marked marks v ≡ true → (u : ℕ) → (u ≡ v) ⊎ (¬ (u ≡ v))
        → is_marked marks u ≡ is_marked (set marks v 1) u
    again t u (inl s) = rw s (t ∙ sym here)
    again t u (inr o) = sym (other u o)

    go : (is_marked marks v ≡ true) ⊎ (is_marked marks v ≡ false) → total + w ≡ mark_sum (set marks v 1)
    go (inl t) =
        let none : w ≡ 0 = added ∙ cond_yes (is_marked marks v) 0 (scatter v) t in
        let same : mark_sum marks ≡ mark_sum (set marks v 1) =
        sum-agree delay_room (count_of marks) (count_of (set marks v 1))
        (λ u _. ap (λ (b : Bool). cond b (scatter u) 0) (again t u (same? u v))) in
        let total-same : total + w ≡ total = omega arith in
        total-same ∙ counted ∙ same
    go (inr f) =
        let some : w ≡ scatter v = added ∙ cond_no (is_marked marks v) 0 (scatter v) f in
        rw (counted, some) (sym (sum-flip delay_room (is_marked marks) (is_marked (set marks v 1)) scatter v h f here other))

module _ (n : ℕ) (list nexts : List ℕ) (x : ℕ) where
  pub marking-none : (marks left : List ℕ) → length marks ≡ delay_room → Clear marks → left ≡ chain n nexts n x
      → Marking n list nexts x marks 0 left
  unfolding is_reached
  marking-none marks left room clear all =
      record {
        room = room;
        counted = sym (marks-none marks clear);
        reached = λ u. rw all (ap (λ (b : Bool). b || any_of (is_in list u) (chain n nexts n x)) (clear u));
      }

  module _ (marks : List ℕ) (total : ℕ) (left : List ℕ) (marking : Marking n list nexts x marks total left) where
    pub marking-small : total ≤ 536868864
    marking-small = let small = marks-small marks in let e = marking.counted in omega arith

    -- One more item is met, in block v, which counts w.
    pub marking-on : (at : ℕ) (left' : List ℕ) (v w : ℕ) → left ≡ at ∷ left' → v < delay_room → v ≡ delay_mark list at
        → w ≡ cond (is_marked marks v) 0 (scatter v) → Marking n list nexts x (set marks v 1) (total + w) left'
    marking-on at left' v w step hv ev ew =
        let room = marking.room in
        let inside : v < length marks = omega arith in
        record {
          room = length-set marks v 1 ∙ marking.room;
          counted = marks-on marks v total w marking.room hv marking.counted ew;
          reached =
              λ u.
              ap (λ (b : Bool). b || any_of (is_in list u) left') (marked-test marks v inside u)
              ∙ or_assoc (is_marked marks u) (eqb u v) (any_of (is_in list u) left')
              ∙ ap (λ (m : ℕ). is_marked marks u || (eqb u m || any_of (is_in list u) left')) ev
              ∙ ap (λ (l : List ℕ). is_marked marks u || any_of (is_in list u) l) (sym step)
              ∙ marking.reached u;
        }

    -- All items were met.
    pub marking-over : left ≡ [] → total ≡ delay_key n list nexts x
    unfolding delay_key
    marking-over end =
        marking.counted
        ∙ sum-agree delay_room (count_of marks) (λ u. cond (is_reached n list nexts x u) (scatter u) 0)
        (λ u _. ap (λ (b : Bool). cond b (scatter u) 0)
        (sym (or_no (is_marked marks u) false refl)
        ∙ ap (λ (l : List ℕ). is_marked marks u || any_of (is_in list u) l) (sym end)
        ∙ marking.reached u))

-- ---- Edges

-- Whether edge f is available at x, and kept with this code; what edge e adds at x.
abbrev pub has_code : (flags codes : List ℕ) → (x code f : ℕ) → Bool
has_code flags codes x code f = is_open flags x f && eqb (get_or codes f 0) code

abbrev pub added_by : (list flags resets spots rows : List ℕ) → (x e : ℕ) → ℕ
added_by list flags resets spots rows x e = cond (is_new list flags resets spots rows x e) (code_of list resets spots rows x e) 0

-- Edge f is not available at x with this code.
abbrev pub NoCode : (flags codes : List ℕ) → (x code f : ℕ) → Type 0
NoCode flags codes x code f = has_code flags codes x code f ≡ false

module _ (flags codes : List ℕ) (x code : ℕ) where
  pub code-hit : (f : ℕ) → is_open flags x f ≡ true → get_or codes f 0 ≡ code → has_code flags codes x code f ≡ true
  code-hit f ready same =
      (and-iff (is_open flags x f) (eqb (get_or codes f 0) code)).1 (ready, eq-eqb (get_or codes f 0) code same)

  pub code-miss : (f : ℕ) → ¬ (get_or codes f 0 ≡ code) → NoCode flags codes x code f
  code-miss f other =
      fails (has_code flags codes x code f)
      (λ t. other (eqb-true (get_or codes f 0) code ((and-iff (is_open flags x f) (eqb (get_or codes f 0) code)).0 t).1))

  pub code-none : (e : ℕ) → ((f : ℕ) → f < e → is_open flags x f ≡ true → NoCode flags codes x code f)
      → some_below e (has_code flags codes x code) ≡ false
  code-none e none =
      none_open (is_open flags x) (has_code flags codes x code) e
      (λ f closed. and_no (is_open flags x f) (eqb (get_or codes f 0) code) closed) none

-- What an edge adds by the codes that are kept: its code where that is new, and else nothing.
abbrev pub kept_adds : (flags codes : List ℕ) → (x e : ℕ) → ℕ
kept_adds flags codes x e = cond (not (some_below e (has_code flags codes x (get_or codes e 0)))) (get_or codes e 0) 0

module _ (flags codes : List ℕ) (x e code : ℕ) (kept : code ≡ get_or codes e 0)
    (new : Bool) (told : new ≡ not (some_below e (has_code flags codes x code))) where
  new-kept : not (some_below e (has_code flags codes x (get_or codes e 0))) ≡ new
  new-kept = ap (λ (m : ℕ). not (some_below e (has_code flags codes x m))) (sym kept) ∙ sym told

  pub code-adds : new ≡ true → get_or codes e 0 < code_bound → code % code_bound ≡ kept_adds flags codes x e
  code-adds t small =
      ap (λ (m : ℕ). m % code_bound) kept
      ∙ mod-eq_of_lt small
      ∙ sym (cond_yes (not (some_below e (has_code flags codes x (get_or codes e 0)))) (get_or codes e 0) 0 (new-kept ∙ t))

  pub code-adds-none : new ≡ false → 0 ≡ kept_adds flags codes x e
  code-adds-none f = sym (cond_no (not (some_below e (has_code flags codes x (get_or codes e 0)))) (get_or codes e 0) 0 (new-kept ∙ f))

-- Codes are kept, from the last edge down.
abbrev pub KeptAt : (x : ℕ) → (list resets spots rows codes : List ℕ) → (f : ℕ) → Type 0
KeptAt x list resets spots rows codes f = get_or codes f 0 ≡ code_of list resets spots rows x f

pub kept_on : (k x e e' code : ℕ) (list flags resets spots rows codes : List ℕ) → 0 < e → e ≤ length codes
    → Down (is_open flags x) (KeptAt x list resets spots rows codes) k e → code ≡ code_of list resets spots rows x (e - 1)
    → e' ≡ open_below (is_open flags x) (e - 1)
    → Down (is_open flags x) (KeptAt x list resets spots rows (set codes (e - 1) code)) k e'
kept_on k x e e' code list flags resets spots rows codes h inside down same told =
    down-on (is_open flags x) (KeptAt x list resets spots rows (set codes (e - 1) code)) k e e' h
    (record {
      at = down.at;
      past =
          λ g a b ready.
          get_or-set_other codes (e - 1) g code 0 (λ s. absurd (omega (arith, s, a, h))) ∙ down.past g a b ready;
    })
    (get_or-set_same codes (e - 1) code 0 (omega arith) ∙ same) told

-- What edges add where their codes are kept.
pub adds_none : (list flags resets spots rows : List ℕ) (x e : ℕ) → is_open flags x e ≡ false
    → added_by list flags resets spots rows x e ≡ 0
unfolding is_new
adds_none list flags resets spots rows x e closed =
    cond_no (is_new list flags resets spots rows x e) (code_of list resets spots rows x e) 0 (and_no (is_open flags x e) _ closed)

module _ (k x : ℕ) (list flags resets spots rows codes : List ℕ) (coded : Coded k x list flags resets spots rows codes)
    (e : ℕ) (below : e < k) (ready : is_open flags x e ≡ true) where
  pub coded-small : get_or codes e 0 < code_bound
  coded-small = subst (λ (m : ℕ). m < code_bound) (sym (coded e below ready)) (code-small list resets spots rows x e)

  new-test : not (some_below e (has_code flags codes x (get_or codes e 0))) ≡ is_new list flags resets spots rows x e
  unfolding is_new
  new-test =
      ap not (some-agree e (has_code flags codes x (get_or codes e 0))
      (λ f. is_open flags x f && eqb (code_of list resets spots rows x f) (code_of list resets spots rows x e))
      (λ f h. at f h (both (is_open flags x f))))
      ∙ sym (and_yes (is_open flags x e) _ ready)
    where
      at : (f : ℕ) → f < e → (is_open flags x f ≡ true) ⊎ (is_open flags x f ≡ false)
          → has_code flags codes x (get_or codes e 0) f
          ≡ (is_open flags x f && eqb (code_of list resets spots rows x f) (code_of list resets spots rows x e))
      at f h (inl t) = rw (coded f (omega arith) t, coded e below ready) refl
      at f h (inr n) = rw n refl

  pub coded-adds : kept_adds flags codes x e ≡ added_by list flags resets spots rows x e
  coded-adds = ap₂ (λ (b : Bool) (m : ℕ). cond b m 0) new-test (coded e below ready)

-- ---- Keys that are known, and keys that are forgotten

-- Where a 0 was stored there is a 0, past the end too.
zero-there : (l : List ℕ) (x : ℕ) → get_or (set l x 0) x 0 ≡ 0
zero-there [] x = refl
zero-there (a ∷ l) zero = refl
zero-there (a ∷ l) (suc x) = zero-there l x

module _ (n k : ℕ) (names keys nexts flags resets spots rows : List ℕ) (known : Known n k names keys nexts flags resets spots rows)
    (x : ℕ) where
  pub known-old : x < n → ¬ (get_or keys x 0 ≡ 0) → get_or keys x 0 ≡ key_of n k names nexts flags resets spots rows x
  known-old h some = elim (known x h) [ inl none ↦ absurd (some none) | inr same ↦ same ]

  pub known-new : (key : ℕ) → key ≡ key_of n k names nexts flags resets spots rows x
      → Known n k names (set keys x key) nexts flags resets spots rows
  known-new key same y h =
      elim (same? y x) [
        | inl s ↦
            elim (both (ltb x (length keys))) [
              | inl t ↦ rw s (inr (get_or-set_same keys x key 0 (ltb-true x (length keys) t) ∙ same))
              | inr f ↦ rw (set_out keys x key (ltb-false x (length keys) f)) (known y h)
            ]
        | inr o ↦ rw (get_or-set_other keys x y key 0 o) (known y h)
      ]

-- Asking for a key stores it where none is known; asking for two, one after the other.
pub asked-put : (x key : ℕ) (keys : List ℕ) → get_or keys x 0 ≡ 0 → AskedFor x keys (set keys x key)
asked-put x key keys none z =
    elim (same? z x) [
      | inl s ↦ inr (s, ap (λ (i : ℕ). get_or keys i 0) s ∙ none)
      | inr o ↦ inl (get_or-set_other keys x z key 0 o)
    ]

pub asked-both : (x y : ℕ) (keys one two : List ℕ) → AskedFor x keys one → AskedFor y one two → BothAsked x y keys two
asked-both x y keys one two first second z =
    elim (first z) [
      | inl kept ↦
          elim (second z) [
            | inl same ↦ inl (same ∙ kept)
            | inr new ↦ inr (inr new.0, sym kept ∙ new.1)
          ]
      | inr new ↦ inr (inl new.0, new.1)
    ]

module _ (keys₀ keys stirred : List ℕ) (x : ℕ) (keys' : List ℕ) (after : keys' ≡ keys_after keys stirred x) where
  pub forgotten-length : length keys' ≡ length keys
  forgotten-length = ap length after ∙ go (eqb (get_or stirred x 0) 0)
    where
      go : (b : Bool) → length (cond b keys (set keys x 0)) ≡ length keys
      go true = refl
      go false = length-set keys x 0

  pub forgotten-on : Forgotten x keys₀ keys stirred → Forgotten (x + 1) keys₀ keys' stirred
  forgotten-on (done, rest) = rw after (go (both (eqb (get_or stirred x 0) 0)))
    where
      other : (y : ℕ) → ¬ (y ≡ x) → get_or (set keys x 0) y 0 ≡ get_or keys y 0
      other y o = get_or-set_other keys x y 0 0 o

      go : (eqb (get_or stirred x 0) 0 ≡ true) ⊎ (eqb (get_or stirred x 0) 0 ≡ false)
          → Forgotten (x + 1) keys₀ (cond (eqb (get_or stirred x 0) 0) keys (set keys x 0)) stirred
      go (inl t) = rw t (λ y h. at y (below_one h), λ y h. rest y (omega arith))
        where
          at : (y : ℕ) → (y ≡ x) ⊎ (y < x) → ForgottenAt keys₀ keys stirred y
          at y (inl s) = rw s (rest x (omega arith) ∙ sym (cond_yes (eqb (get_or stirred x 0) 0) (get_or keys₀ x 0) 0 t))
          at y (inr b) = done y b
      go (inr f) = rw f (λ y h. at y (below_one h), λ y h. other y (λ s. absurd (omega (arith, s))) ∙ rest y (omega arith))
        where
          at : (y : ℕ) → (y ≡ x) ⊎ (y < x) → ForgottenAt keys₀ (set keys x 0) stirred y
          at y (inl s) = rw s (zero-there keys x ∙ sym (cond_no (eqb (get_or stirred x 0) 0) (get_or keys₀ x 0) 0 f))
          at y (inr b) = rw (other y (λ s. absurd (omega (arith, s)))) (done y b)
