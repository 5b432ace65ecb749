-- Items that join their block's anchor need no search: anchors as they are found, and what the marks then tell.
use Rattle.std.specs.Prelude.{ℕ, zero, suc, ◌+◌, ◌-◌, ◌%◌, ◌≤◌, ◌<◌, ◌≡◌, refl, Bool, true}
use Rattle.std.specs.Prelude.{false, List, ◌⊎◌, eqb, length, get_or, set}
use Rattle.std.proofs.Common.{arith, sym, ◌∙◌, ap, ap₂, inl, inr, get_or-set_same, get_or-set_other, eq-eqb, ne_eqb, eqb-true}
use Rattle.bisimulation.specs.Finite.{related, lead}
use Rattle.bisimulation.proofs.Laws.Tests.{clash, fails, same?, same_test}
use Rattle.bisimulation.proofs.Laws.Leads.{related-equivalence, reps-own, reps-agree}
use Rattle.bisimulation.specs.Below.{EquivalenceBelow, FinerBelow, Reps}
use Rattle.bisimulation.proofs.Laws.Leads.{lead_low, lead-lowest, lead-of, lead-found}
use Rattle.rounds.specs.Changes.{Settled}
use Rattle.rounds.specs.Rounds.{Anchored, joined_by, join_mark, MarkedTo, Sorted}
use Rattle.comparison.specs.Laws.Steps.{below_one, cond_yes, cond_no}

-- ---- Anchors

module _ (old : List ℕ) (stirred : List Bool) (anchors : List ℕ) where
  pub anchored-none : ((b : ℕ) → get_or anchors b 0 ≡ 0) → Anchored 0 old stirred anchors
  anchored-none none = record { some = λ x h. absurd (omega arith); calm = λ b a e. absurd (omega (arith, none b)) }

  module _ (x : ℕ) (anchored : Anchored x old stirred anchors) where
    earlier : (b a : ℕ) → get_or anchors b 0 ≡ suc a → (a < x + 1) × (get_or old a 0 ≡ b) × (get_or stirred a false ≡ false)
    earlier b a e = let (h, o, s) = anchored.calm b a e in (omega arith, o, s)

    -- A stirred item is no anchor, and an item whose block has one is none either.
    pub anchored-stirred : get_or stirred x false ≡ true → Anchored (x + 1) old stirred anchors
    anchored-stirred stirs = record { some = λ y h. at y (below_one h); calm = earlier }
      where
        at : (y : ℕ) → (y ≡ x) ⊎ (y < x) → get_or stirred y false ≡ false → ¬ (get_or anchors (get_or old y 0) 0 ≡ 0)
        at y (inl e) s = absurd (clash stirs (ap (λ (z : ℕ). get_or stirred z false) (sym e) ∙ s))
        at y (inr h) s = anchored.some y h s

    pub anchored-known : ¬ (get_or anchors (get_or old x 0) 0 ≡ 0) → Anchored (x + 1) old stirred anchors
    anchored-known known = record { some = λ y h. at y (below_one h); calm = earlier }
      where
        at : (y : ℕ) → (y ≡ x) ⊎ (y < x) → get_or stirred y false ≡ false → ¬ (get_or anchors (get_or old y 0) 0 ≡ 0)
        at y (inl e) s = rw e known
        at y (inr h) s = anchored.some y h s

    -- The first item of its block that is not stirred becomes the anchor.
    pub anchored-new : (b : ℕ) → b ≡ get_or old x 0 → b < length anchors → get_or stirred x false ≡ false
        → Anchored (x + 1) old stirred (set anchors b (x + 1))
    anchored-new b e long s = record { some = λ y h. at y (below_one h) (same? (get_or old y 0) b); calm = λ c a. of c a (same? c b) }
      where
        same : get_or (set anchors b (x + 1)) b 0 ≡ x + 1
        same = get_or-set_same anchors b (x + 1) 0 long

        other : (c : ℕ) → ¬ (c ≡ b) → get_or (set anchors b (x + 1)) c 0 ≡ get_or anchors c 0
        other c o = get_or-set_other anchors b c (x + 1) 0 o

        at : (y : ℕ) → (y ≡ x) ⊎ (y < x) → (get_or old y 0 ≡ b) ⊎ (¬ (get_or old y 0 ≡ b)) → get_or stirred y false ≡ false
            → ¬ (get_or (set anchors b (x + 1)) (get_or old y 0) 0 ≡ 0)
        at y _ (inl o) _ z = omega (arith, ap (λ (c : ℕ). get_or (set anchors b (x + 1)) c 0) o, same, z)
        at y (inl i) (inr o) _ z = o (ap (λ (c : ℕ). get_or old c 0) i ∙ sym e)
        at y (inr h) (inr o) t z = anchored.some y h t (sym (other (get_or old y 0) o) ∙ z)

        of : (c a : ℕ) → (c ≡ b) ⊎ (¬ (c ≡ b)) → get_or (set anchors b (x + 1)) c 0 ≡ suc a
            → (a < x + 1) × (get_or old a 0 ≡ c) × (get_or stirred a false ≡ false)
        of c a (inl i) z =
            let here : a ≡ x = omega (arith, ap (λ (m : ℕ). get_or (set anchors b (x + 1)) m 0) i, same, z) in
            (omega arith, ap (λ (m : ℕ). get_or old m 0) here ∙ sym e ∙ sym i, ap (λ (m : ℕ). get_or stirred m false) here ∙ s)
        of c a (inr o) z = earlier c a (sym (other c o) ∙ z)

-- ---- Marks, one after the other

pub marked-on : (d : ℕ → ℕ → Bool) (anchors old marks : List ℕ) (i v : ℕ) → i < length marks → MarkedTo i d anchors old marks
    → v ≡ join_mark (get_or old i 0) (joined_by d anchors old i) → MarkedTo (i + 1) d anchors old (set marks i v)
marked-on d anchors old marks i v long marked e x hx = at (below_one hx)
  where
    at : (x ≡ i) ⊎ (x < i) → get_or (set marks i v) x 0 ≡ join_mark (get_or old x 0) (joined_by d anchors old x)
    at (inl s) = rw s (get_or-set_same marks i v 0 long ∙ e)
    at (inr b) = get_or-set_other marks i x v 0 (λ s. absurd (omega (arith, s))) ∙ marked x b

-- ---- Joining

-- The anchor of an item's block is not stirred, and in that block.
pub record AnchorOf (n : ℕ) (old : List ℕ) (stirred : List Bool) (a x : ℕ) : Type 0 where
  pub below : a < n
  pub same : related old a x ≡ true
  pub calm : get_or stirred a false ≡ false

module _ (d : ℕ → ℕ → Bool) (n : ℕ) (old : List ℕ) (stirred : List Bool) (anchors : List ℕ)
    (anchored : Anchored n old stirred anchors) where
  pub anchor-of : (x a : ℕ) → suc a ≡ get_or anchors (get_or old x 0) 0 → AnchorOf n old stirred a x
  anchor-of x a e =
      let (h, o, s) = anchored.calm (get_or old x 0) a (sym e) in
      record { below = h; same = eq-eqb (get_or old a 0) (get_or old x 0) o; calm = s }

  pub joined-none : (x : ℕ) → get_or anchors (get_or old x 0) 0 ≡ 0 → joined_by d anchors old x ≡ false
  joined-none x z =
      cond_yes (eqb (get_or anchors (get_or old x 0) 0) 0) false (d (get_or anchors (get_or old x 0) 0 - 1) x)
      (eq-eqb (get_or anchors (get_or old x 0) 0) 0 z)

  pub joined-some : (x a : ℕ) → suc a ≡ get_or anchors (get_or old x 0) 0 → joined_by d anchors old x ≡ d a x
  joined-some x a e =
      cond_no (eqb (get_or anchors (get_or old x 0) 0) 0) false (d (get_or anchors (get_or old x 0) 0 - 1) x)
      (ne_eqb (get_or anchors (get_or old x 0) 0) 0 (λ z. omega (arith, e, z)))
      ∙ ap (λ (l : ℕ). d l x) (omega (arith, e))

  -- A link tells no item, or one.
  told : (m : ℕ) → (m ≡ 0) ⊎ ((a : ℕ) × (suc a ≡ m))
  told zero = inl refl
  told (suc a) = inr (a, refl)

  -- An item that is not stirred joins.
  pub joined-calm : Settled d (related old) n stirred → (x : ℕ) → x < n → get_or stirred x false ≡ false → joined_by d anchors old x ≡ true
  joined-calm settled x hx s = go (told (get_or anchors (get_or old x 0) 0))
    where
      go : (get_or anchors (get_or old x 0) 0 ≡ 0) ⊎ ((a : ℕ) × (suc a ≡ get_or anchors (get_or old x 0) 0))
          → joined_by d anchors old x ≡ true
      go (inl z) = absurd (anchored.some x hx s z)
      go (inr (a, e)) = let of = anchor-of x a e in joined-some x a e ∙ settled a x of.below hx of.calm s of.same

  -- ---- What equal marks tell

  module _ (classes : EquivalenceBelow n d) (finer : FinerBelow n d (related old)) where
    -- Items that are related in the next round join together, and all that join in a block are related.
    joined-together : (x y : ℕ) → x < n → y < n → d x y ≡ true → joined_by d anchors old x ≡ true → joined_by d anchors old y ≡ true
    joined-together x y hx hy t j = go (told (get_or anchors (get_or old x 0) 0))
      where
        block : get_or old x 0 ≡ get_or old y 0
        block = eqb-true (get_or old x 0) (get_or old y 0) (finer x y hx hy t)

        go : (get_or anchors (get_or old x 0) 0 ≡ 0) ⊎ ((a : ℕ) × (suc a ≡ get_or anchors (get_or old x 0) 0))
            → joined_by d anchors old y ≡ true
        go (inl z) = absurd (clash j (joined-none x z))
        go (inr (a, e)) =
            joined-some y a (e ∙ ap (λ (b : ℕ). get_or anchors b 0) block)
            ∙ classes.transitive a x y (anchor-of x a e).below hx hy (sym (joined-some x a e) ∙ j) t

    joined_same : (x y : ℕ) → x < n → y < n → d x y ≡ true → joined_by d anchors old x ≡ joined_by d anchors old y
    joined_same x y hx hy t =
        same_test (joined_by d anchors old x) (joined_by d anchors old y) (joined-together x y hx hy t)
        (joined-together y x hy hx (classes.symmetric x y hx hy t))

    -- An item that is related to an earlier one in the next round joins where that one's mark is odd.
    pub kin-joined : (marks : List ℕ) (z x v : ℕ) → z < x → x < n → d z x ≡ true → MarkedTo x d anchors old marks
        → v ≡ get_or marks z 0 → eqb (v % 2) 1 ≡ joined_by d anchors old x
    kin-joined marks z x v h hx t marked e =
        odd (get_or old z 0) (joined_by d anchors old z) v (e ∙ marked z h) ∙ joined_same z x (omega (arith, h, hx)) hx t
      where
        odd : (b : ℕ) (j : Bool) (v : ℕ) → v ≡ join_mark b j → eqb (v % 2) 1 ≡ j
        odd b true v e = eq-eqb (v % 2) 1 (omega (arith, e))
        odd b false v e = ne_eqb (v % 2) 1 (λ o. omega (arith, e, o))

    joined-related : (x y : ℕ) → x < n → y < n → get_or old x 0 ≡ get_or old y 0
        → joined_by d anchors old x ≡ true → joined_by d anchors old y ≡ true → d x y ≡ true
    joined-related x y hx hy block i j = go (told (get_or anchors (get_or old x 0) 0))
      where
        go : (get_or anchors (get_or old x 0) 0 ≡ 0) ⊎ ((a : ℕ) × (suc a ≡ get_or anchors (get_or old x 0) 0)) → d x y ≡ true
        go (inl z) = absurd (clash i (joined-none x z))
        go (inr (a, e)) =
            let h = (anchor-of x a e).below in
            classes.transitive x a y hx h hy (classes.symmetric a x h hx (sym (joined-some x a e) ∙ i))
            (sym (joined-some y a (e ∙ ap (λ (b : ℕ). get_or anchors b 0) block)) ∙ j)

    module _ (marks : List ℕ) (marked : MarkedTo n d anchors old marks) (mid : List ℕ) (reps : Reps (related marks) n mid) where
      marks-finer : FinerBelow n d (related marks)
      marks-finer x y hx hy t =
          eq-eqb (get_or marks x 0) (get_or marks y 0) (
          marked x hx
          ∙ ap₂ join_mark (eqb-true (get_or old x 0) (get_or old y 0) (finer x y hx hy t)) (joined_same x y hx hy t)
          ∙ sym (marked y hy))

      -- A mark tells the block, and an odd one that the item joins.
      mark-tells : (b c : ℕ) (i j : Bool) → join_mark b i ≡ join_mark c j → join_mark c j % 2 ≡ 1
          → (b ≡ c) × (i ≡ true) × (j ≡ true)
      mark-tells b c true true e o = (omega arith, refl, refl)
      mark-tells b c true false e o = absurd (omega arith)
      mark-tells b c false true e o = absurd (omega arith)
      mark-tells b c false false e o = absurd (omega arith)

      joined-lead : (x : ℕ) → x < n → get_or marks x 0 % 2 ≡ 1 → lead d x ≡ get_or mid x 0
      joined-lead x hx odd =
          let m : ℕ = lead (related marks) x in
          let low : m ≤ x = lead_low (related marks) x in
          let hm : m < n = omega arith in
          let same = eqb-true (get_or marks m 0) (get_or marks x 0) (lead-of (related-equivalence n marks) x hx) in
          let (block, i, j) = mark-tells (get_or old m 0) (get_or old x 0) (joined_by d anchors old m) (joined_by d anchors old x)
          (sym (marked m hm) ∙ same ∙ marked x hx) (ap (λ (k : ℕ). k % 2) (sym (marked x hx)) ∙ odd) in
          lead-found d x m low (joined-related m x hm hx block i j)
          (λ y h. fails (d y x) (λ t. clash (marks-finer y x (omega arith) hx t) (lead-lowest (related marks) x y h)))
          ∙ sym (reps.rep x hx)

      pub marks-sort : Sorted d n marks mid
      marks-sort =
          let says = reps-agree (related-equivalence n marks) reps in
          record {
            step = record {
              classes = classes;
              finer = λ x y hx hy t. says x y hx hy ∙ marks-finer x y hx hy t;
              reps = reps-own (related-equivalence n marks) reps;
            };
            joins = joined-lead;
          }
