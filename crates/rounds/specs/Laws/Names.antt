-- Names tell the same items apart as the rep map does; and what the code that gives the names keeps, one law for each turn of a loop.
use Rattle.std.specs.Prelude.{ℕ, ◌+◌, ◌≤◌, ◌<◌, ◌≡◌, refl, Bool, false, List, ◌⊎◌, length, get_or, set}
use Rattle.std.proofs.Common.{arith, sym, ◌∙◌, ap, subst, inl, inr, length-set, get_or-set_same, get_or-set_other, eq-eqb, eqb-true}
use Rattle.std.specs.List.{swap}
use Rattle.std.proofs.lemmas.List.Edits.{swap_is}
use Rattle.bisimulation.specs.Finite.{related, lead}
use Rattle.bisimulation.proofs.Laws.Tests.{same?, same_test}
use Rattle.bisimulation.proofs.Laws.Leads.{related-equivalence, lead_low, lead-lead, leader-finer}
use Rattle.bisimulation.specs.Below.{AgreeBelow, Reps}
use Rattle.rounds.specs.Names.{Tagged, Named, LeadersKept, Reached, TaggedIn, RenamedTo}
use Rattle.rounds.specs.Rounds.{Step}
use Rattle.comparison.specs.Laws.Steps.{below_one}

-- ---- What names say

-- Reps are numbers of items.
pub reps-below : (d : ℕ → ℕ → Bool) (n : ℕ) (reps : List ℕ) → Reps d n reps → (x : ℕ) → x < n → get_or reps x 0 < n
reps-below d n reps led x h = omega (arith, led.rep x h, lead_low d x)

module _ (n : ℕ) (reps tags names : List ℕ) (led : Reps (related reps) n reps) where
  rep-below : (x : ℕ) → x < n → get_or reps x 0 < n
  rep-below = reps-below (related reps) n reps led

  rep-own : (x : ℕ) → x < n → get_or reps (get_or reps x 0) 0 ≡ get_or reps x 0
  rep-own x h =
      let e = led.rep x h in
      ap (λ (k : ℕ). get_or reps k 0) e
      ∙ led.rep (lead (related reps) x) (omega (arith, lead_low (related reps) x))
      ∙ lead-lead (related-equivalence n reps) x h
      ∙ sym e

  -- Equal names mean related.
  pub named-agree : Named n reps tags names → AgreeBelow n (related names) (related reps)
  named-agree named x y hx hy =
      same_test (related names x y) (related reps x y)
      (λ e.
      eq-eqb (get_or reps x 0) (get_or reps y 0)
      (named.tagged.apart (get_or reps x 0) (get_or reps y 0) (rep-below x hx) (rep-below y hy) (rep-own x hx) (rep-own y hy)
      (sym (named.name x hx) ∙ eqb-true (get_or names x 0) (get_or names y 0) e ∙ named.name y hy)))
      (λ e.
      eq-eqb (get_or names x 0) (get_or names y 0)
      (named.name x hx
      ∙ ap (λ (k : ℕ). get_or tags k 0) (eqb-true (get_or reps x 0) (get_or reps y 0) e)
      ∙ sym (named.name y hy)))

  -- A name is the number of an item.
  pub named-below : Named n reps tags names → (x : ℕ) → x < n → get_or names x 0 < n
  named-below named x h =
      omega (arith, named.name x h, (named.tagged.own (get_or reps x 0) (rep-below x h) (rep-own x h)).0)

-- ---- Round 0: each leader is its own tag

pub tags-own : (n : ℕ) (reps tags : List ℕ) → ((l : ℕ) → l < n → get_or tags l 0 ≡ l) → Tagged n reps tags
tags-own n reps tags same =
    record {
      own = λ l h e. (omega (arith, same l h), ap (λ (k : ℕ). get_or reps k 0) (same l h) ∙ e ∙ sym (same l h));
      apart = λ l m hl hm el em e. sym (same l hl) ∙ e ∙ same m hm;
    }

pub named-first : (n : ℕ) (reps tags names : List ℕ) → ((l : ℕ) → l < n → get_or tags l 0 ≡ l)
    → ((x : ℕ) → x < n → get_or names x 0 ≡ get_or reps x 0) → ((x : ℕ) → x < n → get_or reps x 0 < n) → Named n reps tags names
named-first n reps tags names own same below =
    record {
      tagged = tags-own n reps tags own;
      name = λ x h. same x h ∙ sym (own (get_or reps x 0) (below x h));
    }

-- ---- Tagging the leaders of the next round

-- In a round that makes the blocks finer, what led before leads still.
pub leaders-kept : (d : ℕ → ℕ → Bool) (n : ℕ) (old new : List ℕ) → Step d n old → Reps d n new → LeadersKept n old new
leaders-kept d n old new step led l h e =
    led.rep l h
    ∙ leader-finer step.classes (related-equivalence n old) step.finer l h (sym (step.reps.rep l h) ∙ e)

module _ (n : ℕ) (old new : List ℕ) where
  -- At the start those have tags that led before; at the end all leaders have.
  pub tagged-start : (tags : List ℕ) → LeadersKept n old new → Tagged n old tags → TaggedIn n (Reached old new 0) tags
  tagged-start tags kept tagged =
      record {
        own =
            λ l h r.
            let (b, e) = tagged.own l h (led l r) in
            (b, (kept (get_or tags l 0) b e, inr e));
        apart = λ l m hl hm rl rm e. tagged.apart l m hl hm (led l rl) (led m rm) e;
      }
    where
      led : (l : ℕ) → Reached old new 0 l → get_or old l 0 ≡ l
      led l r = go r.1
        where
          go : (l < 0) ⊎ (get_or old l 0 ≡ l) → get_or old l 0 ≡ l
          go (inl h) = absurd (omega arith)
          go (inr e) = e

  pub tagged-over : (tags : List ℕ) (x : ℕ) → n ≤ x → TaggedIn n (Reached old new x) tags → Tagged n new tags
  tagged-over tags x h tagged =
      record {
        own = λ l hl e. let (b, r) = tagged.own l hl (e, inl (omega arith)) in (b, r.0);
        apart = λ l m hl hm el em e. tagged.apart l m hl hm (el, inl (omega arith)) (em, inl (omega arith)) e;
      }

module _ (n : ℕ) (old new tags : List ℕ) (x : ℕ) (hx : x < n) (long : n ≤ length tags)
    (tagged : TaggedIn n (Reached old new x) tags) where
  later : (l : ℕ) → Reached old new x l → Reached old new (x + 1) l
  later l r = (r.0, go r.1)
    where
      go : (l < x) ⊎ (get_or old l 0 ≡ l) → (l < x + 1) ⊎ (get_or old l 0 ≡ l)
      go (inl h) = inl (omega arith)
      go (inr e) = inr e

  earlier : (l : ℕ) → Reached old new (x + 1) l → ¬ (l ≡ x) → Reached old new x l
  earlier l r o = (r.0, go r.1)
    where
      go : (l < x + 1) ⊎ (get_or old l 0 ≡ l) → (l < x) ⊎ (get_or old l 0 ≡ l)
      go (inl h) = inl (omega arith)
      go (inr e) = inr e

  -- An item that does not lead, or led before, gets no new tag.
  pub tagged-on : (¬ (get_or new x 0 ≡ x)) ⊎ (get_or old x 0 ≡ x) → TaggedIn n (Reached old new (x + 1)) tags
  tagged-on other =
      record {
        own = λ l h r. let (b, s) = tagged.own l h (now l r (same? l x)) in (b, later (get_or tags l 0) s);
        apart = λ l m hl hm rl rm e. tagged.apart l m hl hm (now l rl (same? l x)) (now m rm (same? m x)) e;
      }
    where
      now : (l : ℕ) → Reached old new (x + 1) l → (l ≡ x) ⊎ (¬ (l ≡ x)) → Reached old new x l
      now l r (inr o) = earlier l r o
      now l r (inl s) = (r.0, inr (go other))
        where
          led : get_or new x 0 ≡ x
          led = subst (λ (k : ℕ). get_or new k 0 ≡ k) s r.0

          go : (¬ (get_or new x 0 ≡ x)) ⊎ (get_or old x 0 ≡ x) → get_or old l 0 ≡ l
          go (inl o) = absurd (o led)
          go (inr e) = rw s e

  -- A new leader is its own tag: no other has it, since tags are leaders that were reached.
  pub tagged-new : get_or new x 0 ≡ x → ¬ (get_or old x 0 ≡ x) → TaggedIn n (Reached old new (x + 1)) (set tags x x)
  tagged-new led fresh =
      record {
        own = λ l h r. own l h r (same? l x);
        apart = λ l m hl hm rl rm. apart l m hl hm rl rm (same? l x) (same? m x);
      }
    where
      here : get_or (set tags x x) x 0 ≡ x
      here = get_or-set_same tags x x 0 (omega arith)

      there : (l : ℕ) → ¬ (l ≡ x) → get_or (set tags x x) l 0 ≡ get_or tags l 0
      there l o = get_or-set_other tags x l x 0 o

      not_yet : Reached old new x x → ⊥
      not_yet r = go r.1
        where
          go : (x < x) ⊎ (get_or old x 0 ≡ x) → ⊥
          go (inl h) = omega arith
          go (inr e) = fresh e

      taken : (l : ℕ) → l < n → Reached old new (x + 1) l → ¬ (l ≡ x) → get_or tags l 0 ≡ x → ⊥
      taken l h r o e = not_yet (subst (Reached old new x) e (tagged.own l h (earlier l r o)).1)

      own : (l : ℕ) → l < n → Reached old new (x + 1) l → (l ≡ x) ⊎ (¬ (l ≡ x))
          → (get_or (set tags x x) l 0 < n) × Reached old new (x + 1) (get_or (set tags x x) l 0)
      own l h r (inl s) = rw (s, here) (hx, (led, inl (omega arith)))
      own l h r (inr o) =
          rw (there l o) (let (b, s) = tagged.own l h (earlier l r o) in (b, later (get_or tags l 0) s))

      apart : (l m : ℕ) → l < n → m < n → Reached old new (x + 1) l → Reached old new (x + 1) m
          → (l ≡ x) ⊎ (¬ (l ≡ x)) → (m ≡ x) ⊎ (¬ (m ≡ x)) → get_or (set tags x x) l 0 ≡ get_or (set tags x x) m 0 → l ≡ m
      apart l m hl hm rl rm (inl s) (inl t) e = s ∙ sym t
      apart l m hl hm rl rm (inl s) (inr o) e =
          absurd (taken m hm rm o (sym (there m o) ∙ sym e ∙ ap (λ (k : ℕ). get_or (set tags x x) k 0) s ∙ here))
      apart l m hl hm rl rm (inr o) (inl t) e =
          absurd (taken l hl rl o (sym (there l o) ∙ e ∙ ap (λ (k : ℕ). get_or (set tags x x) k 0) t ∙ here))
      apart l m hl hm rl rm (inr o) (inr u) e =
          tagged.apart l m hl hm (earlier l rl o) (earlier m rm u) (sym (there l o) ∙ e ∙ there m u)

-- Two of these numbers may swap their tags.
abbrev swapped : (tags : List ℕ) → (x y : ℕ) → List ℕ
swapped tags x y = set (set tags x (get_or tags y 0)) y (get_or tags x 0)

module _ (n : ℕ) (these : ℕ → Type 0) (tags : List ℕ) (x y : ℕ) (hx : x < n) (hy : y < n) (sx : these x) (sy : these y)
    (long : n ≤ length tags) (tagged : TaggedIn n these tags) where
  -- Where the tag of l comes from.
  data From (l k : ℕ) : Type 0 where
    second : l ≡ y → k ≡ x → From l k
    first : ¬ (l ≡ y) → l ≡ x → k ≡ y → From l k
    same : ¬ (l ≡ y) → ¬ (l ≡ x) → k ≡ l → From l k

  from : (l : ℕ) → (l ≡ y) ⊎ (¬ (l ≡ y)) → (l ≡ x) ⊎ (¬ (l ≡ x))
      → (k : ℕ) × From l k × (get_or (swapped tags x y) l 0 ≡ get_or tags k 0)
  from l (inl s) _ = (
    x,
    From.second s refl,
    rw s (get_or-set_same (set tags x (get_or tags y 0)) y (get_or tags x 0) 0
        (omega (arith, length-set tags x (get_or tags y 0)))),
  )
  from l (inr o) (inl s) = (
    y,
    From.first o s refl,
    get_or-set_other (set tags x (get_or tags y 0)) y l (get_or tags x 0) 0 o
        ∙ ap (λ (k : ℕ). get_or (set tags x (get_or tags y 0)) k 0) s
        ∙ get_or-set_same tags x (get_or tags y 0) 0 (omega arith),
  )
  from l (inr o) (inr u) = (
    l,
    From.same o u refl,
    get_or-set_other (set tags x (get_or tags y 0)) y l (get_or tags x 0) 0 o
        ∙ get_or-set_other tags x l (get_or tags y 0) 0 u,
  )

  source : (l k : ℕ) → l < n → these l → From l k → (k < n) × these k
  source l k h s (From.second e f) = rw f (hx, sx)
  source l k h s (From.first o e f) = rw f (hy, sy)
  source l k h s (From.same o u f) = rw f (h, s)

  single : (l m k j : ℕ) → From l k → From m j → k ≡ j → l ≡ m
  single l m k j (From.second a b) (From.second c d) e = a ∙ sym c
  single l m k j (From.second a b) (From.first c d f) e = absurd (c (omega (arith, b, f, e, d)))
  single l m k j (From.second a b) (From.same c d f) e = absurd (d (omega (arith, b, f, e)))
  single l m k j (From.first a b f) (From.second c d) e = absurd (a (omega (arith, b, f, e, d)))
  single l m k j (From.first a b f) (From.first c d g) e = b ∙ sym d
  single l m k j (From.first a b f) (From.same c d g) e = absurd (c (omega (arith, f, g, e)))
  single l m k j (From.same a b f) (From.second c d) e = absurd (b (omega (arith, f, d, e)))
  single l m k j (From.same a b f) (From.first c d g) e = absurd (a (omega (arith, f, g, e)))
  single l m k j (From.same a b f) (From.same c d g) e = omega (arith, f, g, e)

  tagged-swapped : TaggedIn n these (swapped tags x y)
  tagged-swapped =
      record {
        own =
            λ l h s.
            let (k, f, e) = from l (same? l y) (same? l x) in
            let (hk, sk) = source l k h s f in
            rw e (tagged.own k hk sk);
        apart =
            λ l m hl hm sl sm e.
            let (k, f, p) = from l (same? l y) (same? l x) in
            let (j, g, q) = from m (same? m y) (same? m x) in
            let (hk, sk) = source l k hl sl f in
            let (hj, sj) = source m j hm sm g in
            single l m k j f g (tagged.apart k j hk hj sk sj (sym p ∙ e ∙ q));
      }

  pub tagged-swap : TaggedIn n these (swap tags x y)
  tagged-swap = subst (TaggedIn n these) (swap_is tags x y 0 (omega arith) (omega arith)) tagged-swapped

-- ---- Renaming

pub renamed-none : (new tags names : List ℕ) (changed : List Bool) → RenamedTo new tags names names changed 0
renamed-none new tags names changed =
    record { done = λ x h. absurd (omega arith); same = λ x h. absurd (omega arith); rest = λ x h. refl }

-- One more item: it is not flagged only where its name is the old one.
pub renamed-on : (new tags names₀ names : List ℕ) (changed : List Bool) (i name : ℕ) (flag : Bool) → i < length names → i < length changed
    → RenamedTo new tags names₀ names changed i → name ≡ get_or tags (get_or new i 0) 0 → (flag ≡ false → name ≡ get_or names i 0)
    → RenamedTo new tags names₀ (set names i name) (set changed i flag) (i + 1)
renamed-on new tags names₀ names changed i name flag hn hc renamed named flagged =
    record {
      done = λ x h. done x (below_one h);
      same = λ x h. same x (below_one h);
      rest = λ x h. get_or-set_other names i x name 0 (λ s. absurd (omega (arith, s))) ∙ renamed.rest x (omega arith);
    }
  where
    other : (x : ℕ) → x < i → get_or (set names i name) x 0 ≡ get_or names x 0
    other x h = get_or-set_other names i x name 0 (λ s. absurd (omega (arith, s)))

    done : (x : ℕ) → (x ≡ i) ⊎ (x < i) → get_or (set names i name) x 0 ≡ get_or tags (get_or new x 0) 0
    done x (inl s) = rw s (get_or-set_same names i name 0 hn ∙ named)
    done x (inr b) = other x b ∙ renamed.done x b

    same : (x : ℕ) → (x ≡ i) ⊎ (x < i) → get_or (set changed i flag) x false ≡ false
        → get_or (set names i name) x 0 ≡ get_or names₀ x 0
    same x (inl s) z =
        let clear : flag ≡ false =
        sym (get_or-set_same changed i flag false hc) ∙ sym (ap (λ (k : ℕ). get_or (set changed i flag) k false) s) ∙ z in
        rw s (get_or-set_same names i name 0 hn ∙ flagged clear ∙ renamed.rest i (omega arith))
    same x (inr b) z =
        other x b ∙ renamed.same x b (sym (get_or-set_other changed i x flag false (λ s. absurd (omega (arith, s)))) ∙ z)
