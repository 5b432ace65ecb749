-- The laws of exploring (`Worklist`). For a program that keeps what is found in an array: each step of its loops (`begin`,
-- `turn`, `over`, `meet-..`) and its search for an item (`known-..`). Where exploring is complete it found all that is
-- reached, each item once (`complete-all`); where it is full there is more (`full-room`); so it is complete exactly where
-- there is room for all (`complete-iff`). With more room the items keep their numbers (`larger-..`). The numbers are those of
-- taking the items in number order (`Taken`), and one list has them (`taken-all-one`, `complete-taken`, `full-taken`). The
-- proofs go over how exploring went (`Met`, `Explored`), where the tests and the fuel are gone.
use Prim.Native.Nat.{ℕ, zero, suc, ◌+◌, ◌-◌, ◌≤◌, ◌<◌}
use Rattle.std.proofs.Common.{arith, not-suc-le-zero, le_of_suc-le-suc, inl, inr, ⊎_elim, sym, ap, subst, ◌∙◌}
use Rattle.std.proofs.Common.{length-append, get_or-append-add, ltb-true, ltb-false, lt-ltb, le-ltb}
use Rattle.std.specs.Prelude.{◌⊎◌, ◌↔◌, ◌≡◌, Bool, true, false, ◌||◌, ltb, length, get_or}
use Rattle.std.proofs.Math.Path.{refl}
use mathlib.Core.List.Memᴰ
use mathlib.Core.List.{List, [], ◌∷◌, ◌++◌, append_assoc, append-nil, Memᴰ}
use Rattle.std.proofs.Math.ListN.{get_or-append}
use Rattle.std.proofs.lemmas.List.{get_or_at}
use Rattle.regions.specs.Worklist.{Found, complete, full, known, meet, and_then, explore_from, explore, Reach, here, on}
use Rattle.regions.specs.Worklist.{Begins, Different, new_ones, Taken, at_first, and-next, Further}

both : (b : Bool) → (b ≡ true) ⊎ (b ≡ false)
both true = inl refl
both false = inr refl

below : (a b : ℕ) → (a < b) ⊎ (b ≤ a)
below a b = elim (both (ltb a b)) [ inl e ↦ inl (ltb-true a b e) | inr e ↦ inr (ltb-false a b e) ]

true-false : true ≡ false → ⊥
true-false e = let z : ◌≡◌ {A = ℕ} 0 1 = cc in omega arith

or-false : (a b : Bool) → (a || b) ≡ false → (a ≡ false) × (b ≡ false)
or-false true b e = absurd (true-false e)
or-false false b e = (refl, e)

complete-full : {X : Type 0} {a b : List X} → complete a ≡ full b → ⊥
complete-full e = let z : ◌≡◌ {A = ℕ} 0 1 = cc in omega arith

complete-items : {X : Type 0} {a b : List X} → complete a ≡ complete b → a ≡ b
complete-items e = cc

full-items : {X : Type 0} {a b : List X} → full a ≡ full b → a ≡ b
full-items e = cc

-- The items that exploring found, all or not.
abbrev pub items_of : {X : Type 0} → Found X → List X
items_of (complete found) = found
items_of (full found) = found

-- ---- Lists

module _ {X : Type 0} where
  -- An item of a list has a number.
  pub place : (d : X) {x : X} {l : List X} → Memᴰ x l → (j : ℕ) × (j < length l) × (get_or l j d ≡ x)
  place d (Memᴰ.head e) = (0, omega arith, sym e)
  place d (Memᴰ.tail m) = let (j, h, e) = place d m in (suc j, omega arith, e)

  -- What has a number is an item of the list.
  pub member : (d : X) (l : List X) (j : ℕ) → j < length l → Memᴰ (get_or l j d) l
  member d [] j h = absurd (not-suc-le-zero h)
  member d (x ∷ l) zero h = Memᴰ.head refl
  member d (x ∷ l) (suc j) h = Memᴰ.tail (member d l j (le_of_suc-le-suc h))

  -- The first number that an item has.
  pub record Numbered (x : X) (l : List X) (d : X) : Type 0 where
    pub number : ℕ
    pub inside : number < length l
    pub is : get_or l number d ≡ x
    pub first : (k : ℕ) → k < number → get_or l k d ≡ x → ⊥

  begins-self : (l : List X) → Begins l l
  begins-self l = record { rest = []; split = sym (append-nil l) }

  begins-on : {a b c : List X} → Begins a b → Begins b c → Begins a c
  begins-on {a} p q =
      record {
        rest = p.rest ++ q.rest;
        split = q.split ∙ ap (λ l. l ++ q.rest) p.split ∙ append_assoc a p.rest q.rest;
      }

  longer : {a b : List X} → Begins a b → length a ≤ length b
  longer {a} p = omega (arith, simp length-append at (ap length p.split))

  kept : {x : X} {a b : List X} → Begins a b → Memᴰ x a → Memᴰ x b
  kept {x} p m = subst (Memᴰ x) (sym p.split) (Memᴰ.append_left p.rest m)

  -- What begins a list keeps its numbers in it.
  pub unmoved : (d : X) {a b : List X} → Begins a b → (j : ℕ) → j < length a → get_or b j d ≡ get_or a j d
  unmoved d {a} p j h = ap (λ l. get_or l j d) p.split ∙ get_or-append a p.rest d j h

  pub different-grown : (l : List X) (x : X) → (Memᴰ x l → ⊥) → Different l → Different (l ++ (x ∷ []))
  different-grown l x new different d i j hi hj e =
      elim (below i (length l)) [
        | inl p ↦ elim (below j (length l)) [
          | inl q ↦ different d i j p q (sym (old i p) ∙ e ∙ old j q)
          | inr q ↦ absurd (other i p (sym (old i p) ∙ e ∙ last j q hj))
        ]
        | inr p ↦ elim (below j (length l)) [
          | inl q ↦ absurd (other j q (sym (old j q) ∙ sym e ∙ last i p hi))
          | inr q ↦ omega (arith, length-append l (x ∷ []))
        ]
      ]
    where
      old : (k : ℕ) → k < length l → get_or (l ++ (x ∷ [])) k d ≡ get_or l k d
      old k h = get_or-append l (x ∷ []) d k h

      last : (k : ℕ) → length l ≤ k → k < length (l ++ (x ∷ [])) → get_or (l ++ (x ∷ [])) k d ≡ x
      last k h g = get_or_at l x [] d k (omega (arith, length-append l (x ∷ [])))

      other : (k : ℕ) → k < length l → get_or l k d ≡ x → ⊥
      other k h p = new (Memᴰ.cast (sym p) (member d l k h))

  -- A list without one of its items.
  abbrev without : {x : X} {l : List X} → Memᴰ x l → List X
  without (Memᴰ.head {xs} e) = xs
  without (Memᴰ.tail {x = y} m) = y ∷ without m

  one_less : {x : X} {l : List X} (m : Memᴰ x l) → length l ≡ suc (length (without m))
  one_less (Memᴰ.head e) = refl
  one_less (Memᴰ.tail m) = ap suc (one_less m)

  still : {x y : X} {l : List X} (m : Memᴰ x l) → Memᴰ y l → (y ≡ x → ⊥) → Memᴰ y (without m)
  still (Memᴰ.head e) (Memᴰ.head p) ne = absurd (ne (p ∙ sym e))
  still (Memᴰ.head e) (Memᴰ.tail n) ne = n
  still (Memᴰ.tail m) (Memᴰ.head p) ne = Memᴰ.head p
  still (Memᴰ.tail m) (Memᴰ.tail n) ne = Memᴰ.tail (still m n ne)

  -- Different items that a list holds are no more than its own.
  pub no_more : (a b : List X) → Different a → ((x : X) → Memᴰ x a → Memᴰ x b) → length a ≤ length b
  no_more [] b different holds = omega arith
  no_more (x ∷ a) b different holds =
      let m = holds x (Memᴰ.head refl) in
      let fewer = no_more a (without m) tail-different (λ y n. still m (holds y (Memᴰ.tail n)) (not-head y n)) in
      omega (arith, one_less m)
    where
      tail-different : Different a
      tail-different d i j p q e = omega (arith, different d (suc i) (suc j) (omega arith) (omega arith) e)

      not-head : (y : X) → Memᴰ y a → y ≡ x → ⊥
      not-head y n e = let (j, g, p) = place x n in omega (arith, different x (suc j) 0 (omega arith) (omega arith) (p ∙ e))

module _ {X : Type 0} (same : X → X → Bool) (next : X → List X) where
  -- ---- The loops step by step

  -- Nothing is left to be met.
  pub meet-none : (cap : ℕ) (found : List X) → meet same cap found [] ≡ complete found
  meet-none cap found = refl

  -- A known item is passed over.
  pub meet-known : (cap : ℕ) (found : List X) (x : X) (l : List X) → known same x found ≡ true
      → meet same cap found (x ∷ l) ≡ meet same cap found l
  meet-known cap found x l e = rw e

  -- A new item gets the next number.
  pub meet-new : (cap : ℕ) (found : List X) (x : X) (l : List X) → known same x found ≡ false → length found < cap
      → meet same cap found (x ∷ l) ≡ meet same cap (found ++ (x ∷ [])) l
  meet-new cap found x l e h = rw (e, lt-ltb (length found) cap h)

  -- A new item for which there is no room.
  pub meet-full : (cap : ℕ) (found : List X) (x : X) (l : List X) → known same x found ≡ false → cap ≤ length found
      → meet same cap found (x ∷ l) ≡ full found
  meet-full cap found x l e h = rw (e, le-ltb (length found) cap h)

  -- What is known stays known.
  known_grown : (x y : X) (found : List X) → known same x found ≡ true → known same x (found ++ (y ∷ [])) ≡ true
  known_grown x y [] e = absurd (true-false (sym e))
  known_grown x y (z ∷ found) e =
      elim (both (same x z)) [ inl h ↦ rw h | inr h ↦ rw h (known_grown x y found (rw h at e)) ]

  pub known-met : (cap : ℕ) (found l : List X) (x : X) → known same x found ≡ true
      → known same x (items_of (meet same cap found l)) ≡ true
  known-met cap found [] x e = e
  known-met cap found (y ∷ l) x e =
      elim (both (known same y found)) [
        | inl h ↦ rw h (known-met cap found l x e)
        | inr h ↦ elim (both (ltb (length found) cap)) [
          | inl room ↦ rw (h, room) (known-met cap (found ++ (y ∷ [])) l x (known_grown x y found e))
          | inr room ↦ rw (h, room) e
        ]
      ]

  -- An item that was met is known, if there was room.
  pub known-last : ((x : X) → same x x ≡ true) → (cap : ℕ) (found : List X) (x : X) (more : List X)
      → meet same cap found (x ∷ []) ≡ complete more → known same x more ≡ true
  known-last alike cap found x more e =
      elim (both (known same x found)) [
        | inl h ↦ subst (λ l. known same x l ≡ true) (complete-items (sym (meet-known cap found x [] h) ∙ e)) h
        | inr h ↦ elim (below (length found) cap) [
          | inl room ↦ subst (λ l. known same x l ≡ true) (complete-items (sym (meet-new cap found x [] h room) ∙ e)) (last found)
          | inr none ↦ absurd (complete-full (sym e ∙ meet-full cap found x [] h none))
        ]
      ]
    where
      last : (l : List X) → known same x (l ++ (x ∷ [])) ≡ true
      last [] = rw (alike x)
      last (y ∷ l) = elim (both (same x y)) [ inl h ↦ rw h | inr h ↦ rw h (last l) ]

  -- Two lists of items, one after the other.
  pub meet-append : (cap : ℕ) (found l l' : List X)
      → meet same cap found (l ++ l') ≡ and_then (λ more. meet same cap more l') (meet same cap found l)
  meet-append cap found [] l' = refl
  meet-append cap found (x ∷ l) l' =
      elim (both (known same x found)) [
        | inl e ↦ rw e (meet-append cap found l l')
        | inr e ↦ elim (both (ltb (length found) cap)) [
          | inl h ↦ rw (e, h) (meet-append cap (found ++ (x ∷ [])) l l')
          | inr h ↦ rw (e, h)
        ]
      ]

  -- A turn: what item i leads to is met, and the next turn goes on from there.
  pub turn : (fuel cap : ℕ) (d : X) (found : List X) (i : ℕ) → i < length found
      → explore_from same next (suc fuel) cap d found i
      ≡ and_then (λ more. explore_from same next fuel cap d more (suc i))
      (meet same cap found (next (get_or found i d)))
  unfolding explore_from
  turn fuel cap d found i h = rw (lt-ltb i (length found) h)

  -- After the last item exploring is over.
  pub over : (fuel cap : ℕ) (d : X) (found : List X) (i : ℕ) → length found ≤ i
      → explore_from same next fuel cap d found i ≡ complete found
  unfolding explore_from
  over zero cap d found i h = refl
  over (suc fuel) cap d found i h = rw (le-ltb i (length found) h)

  -- ---- How exploring went

  -- Items that were met one after the other, and what that came to.
  data Met (cap : ℕ) : List X → List X → Found X → Type 0 where
    met-none : {found : List X} → Met cap found [] (complete found)
    met-known : {found l : List X} {x : X} {r : Found X} → known same x found ≡ true → Met cap found l r
        → Met cap found (x ∷ l) r
    met-new : {found l : List X} {x : X} {r : Found X} → known same x found ≡ false → length found < cap
        → Met cap (found ++ (x ∷ [])) l r → Met cap found (x ∷ l) r
    met-full : {found l : List X} {x : X} → known same x found ≡ false → cap ≤ length found
        → Met cap found (x ∷ l) (full found)

  met : (cap : ℕ) (found l : List X) → Met cap found l (meet same cap found l)
  met cap found [] = met-none
  met cap found (x ∷ l) =
      elim (both (known same x found)) [
        | inl e ↦ rw e (met-known e (met cap found l))
        | inr e ↦ elim (both (ltb (length found) cap)) [
          | inl h ↦ rw (e, h) (met-new e (ltb-true _ _ h) (met cap (found ++ (x ∷ [])) l))
          | inr h ↦ rw (e, h) (met-full e (ltb-false _ _ h))
        ]
      ]

  met-begins : {cap : ℕ} {found l : List X} {r : Found X} → Met cap found l r → Begins found (items_of r)
  met-begins (met-none {found}) = begins-self found
  met-begins (met-known e m) = met-begins m
  met-begins (met-new {x} e h m) = begins-on (record { rest = x ∷ []; split = refl }) (met-begins m)
  met-begins (met-full {found} e h) = begins-self found

  met-fits : {cap : ℕ} {found l : List X} {r : Found X} → Met cap found l r → length found ≤ cap → length (items_of r) ≤ cap
  met-fits met-none h = h
  met-fits (met-known e m) h = met-fits m h
  met-fits (met-new e g m) h = met-fits m (simp length-append (omega arith))
  met-fits (met-full e g) h = h

  -- The turns from item i on, and what they came to.
  data Explored (cap : ℕ) (d : X) : List X → ℕ → Found X → Type 0 where
    ended : {found : List X} {i : ℕ} → length found ≤ i → Explored cap d found i (complete found)
    stopped : {found more : List X} {i : ℕ} → i < length found → Met cap found (next (get_or found i d)) (full more)
        → Explored cap d found i (full more)
    turned : {found more : List X} {i : ℕ} {r : Found X} → i < length found
        → Met cap found (next (get_or found i d)) (complete more) → Explored cap d more (suc i) r → Explored cap d found i r

  explored : (fuel cap : ℕ) (d : X) (found : List X) (i : ℕ) → i ≤ length found → length found ≤ cap → cap < fuel + i
      → Explored cap d found i (explore_from same next fuel cap d found i)
  explored zero cap d found i inside fits p = absurd (omega arith)
  explored (suc fuel) cap d found i inside fits p =
      elim (below i (length found)) [
        | inl h ↦ rw (turn fuel cap d found i h) (go h _ (met cap found (next (get_or found i d)))
            (λ more q r. explored fuel cap d more (suc i) q r (omega arith)))
        | inr h ↦ rw (over (suc fuel) cap d found i h) (ended h)
      ]
    where
      go : i < length found → (r : Found X) → Met cap found (next (get_or found i d)) r
          → ((more : List X) → i < length more → length more ≤ cap
          → Explored cap d more (suc i) (explore_from same next fuel cap d more (suc i)))
          → Explored cap d found i (and_then (λ more. explore_from same next fuel cap d more (suc i)) r)
      go h (complete more) m further = turned h m (further more (omega (arith, longer (met-begins m))) (met-fits m fits))
      go h (full more) m further = stopped h m

  explored-begins : {cap : ℕ} {d : X} {found : List X} {i : ℕ} {r : Found X} → Explored cap d found i r → Begins found (items_of r)
  explored-begins (ended {found} h) = begins-self found
  explored-begins (stopped h m) = met-begins m
  explored-begins (turned h m rest) = begins-on (met-begins m) (explored-begins rest)

  -- ---- The fuel and the start

  then_same : {cap : ℕ} {found l : List X} (f g : List X → Found X) (r : Found X) → Met cap found l r
      → ((more : List X) → Met cap found l (complete more) → f more ≡ g more) → and_then f r ≡ and_then g r
  then_same f g (complete more) m h = h more m
  then_same f g (full more) m h = refl

  -- Any two fuels that are more than the room left give the same.
  pub enough : (fuel fuel' cap : ℕ) (d : X) (found : List X) (i : ℕ) → i ≤ length found → length found ≤ cap
      → cap < fuel + i → cap < fuel' + i → explore_from same next fuel cap d found i ≡ explore_from same next fuel' cap d found i
  enough zero fuel' cap d found i inside fits p q = absurd (omega arith)
  enough (suc fuel) zero cap d found i inside fits p q = absurd (omega arith)
  enough (suc fuel) (suc fuel') cap d found i inside fits p q =
      elim (below i (length found)) [
        | inl h ↦ rw (turn fuel cap d found i h, turn fuel' cap d found i h)
            (then_same _ _ _ (met cap found (next (get_or found i d))) (λ more m. enough fuel fuel' cap d more (suc i)
            (omega (arith, longer (met-begins m))) (met-fits m fits) (omega arith) (omega arith)))
        | inr h ↦ rw (over (suc fuel) cap d found i h, over (suc fuel') cap d found i h)
      ]

  -- Without room for the start nothing is found.
  pub no_room : (start : X) → explore same next 0 start ≡ full []
  unfolding explore
  no_room start = refl

  -- With room for it the start has number 0, and any fuel above the room is enough.
  pub begin : (fuel cap : ℕ) (start : X) → 0 < cap → cap < fuel
      → explore same next cap start ≡ explore_from same next fuel cap start (start ∷ []) 0
  unfolding explore
  begin fuel cap start h p =
      rw (lt-ltb 0 cap h) (enough (suc cap) fuel cap start (start ∷ []) 0 (omega arith) h (omega arith) (omega arith))

  explored-start : (cap : ℕ) (start : X) → 0 < cap → Explored cap start (start ∷ []) 0 (explore same next cap start)
  explored-start cap start h =
      rw (begin (suc cap) cap start h (omega arith)) (explored (suc cap) cap start (start ∷ []) 0 (omega arith) h (omega arith))

  -- ---- More room

  -- What r comes to with more room: the same where it is complete, and else what it found comes first.
  abbrev Widens : Found X → Found X → Type 0
  Widens (complete found) r = r ≡ complete found
  Widens (full found) r = Begins found (items_of r)

  met-widens : {cap : ℕ} {found l : List X} {r : Found X} → Met cap found l r → (cap' : ℕ) → cap ≤ cap'
      → Widens r (meet same cap' found l)
  met-widens met-none cap' h = refl
  met-widens (met-known e m) cap' h = rw e (met-widens m cap' h)
  met-widens (met-new {found} e g m) cap' h = rw (e, lt-ltb (length found) cap' (omega arith)) (met-widens m cap' h)
  met-widens (met-full {found} {l} {x} e g) cap' h = met-begins (met cap' found (x ∷ l))

  explored-widens : {cap : ℕ} {d : X} {found : List X} {i : ℕ} {r : Found X} → Explored cap d found i r → (fuel cap' : ℕ)
      → length found ≤ cap → cap ≤ cap' → cap' < fuel + i → Widens r (explore_from same next fuel cap' d found i)
  explored-widens {d} (ended {found} {i} h) fuel cap' fits g p = over fuel cap' d found i h
  explored-widens (stopped h m) zero cap' fits g p = absurd (omega arith)
  explored-widens {d} (stopped {found} {more} {i} h m) (suc fuel) cap' fits g p =
      rw (turn fuel cap' d found i h) (go _ (met cap' found (next (get_or found i d))) (met-widens m cap' g))
    where
      go : (r : Found X) → Met cap' found (next (get_or found i d)) r → Begins more (items_of r)
          → Begins more (items_of (and_then (λ more'. explore_from same next fuel cap' d more' (suc i)) r))
      go (complete more') m' b =
          begins-on b (explored-begins
          (explored fuel cap' d more' (suc i) (omega (arith, longer (met-begins m'))) (met-fits m' (omega arith)) (omega arith)))
      go (full more') m' b = b
  explored-widens (turned h m rest) zero cap' fits g p = absurd (omega arith)
  explored-widens {d} (turned {found} {i} h m rest) (suc fuel) cap' fits g p =
      rw (turn fuel cap' d found i h, met-widens m cap' g)
      (explored-widens rest fuel cap' (met-fits m fits) g (omega arith))

  widens : (cap cap' : ℕ) (start : X) → cap ≤ cap' → Widens (explore same next cap start) (explore same next cap' start)
  widens zero cap' start h = rw (no_room start) (record { rest = items_of (explore same next cap' start); split = refl })
  widens (suc cap) cap' start h =
      rw (begin (suc cap') cap' start (omega arith) (omega arith))
      (explored-widens (explored-start (suc cap) start (omega arith)) (suc cap') cap' (omega arith) h (omega arith))

  -- What is complete stays so with more room.
  pub larger-complete : (cap cap' : ℕ) (start : X) (found : List X) → cap ≤ cap'
      → explore same next cap start ≡ complete found → explore same next cap' start ≡ complete found
  larger-complete cap cap' start found h e = rw e at (widens cap cap' start h)

  -- With more room the same items come first.
  pub larger-full : (cap cap' : ℕ) (start : X) (found : List X) → cap ≤ cap'
      → explore same next cap start ≡ full found → Begins found (items_of (explore same next cap' start))
  larger-full cap cap' start found h e = rw e at (widens cap cap' start h)

  -- ---- The order of the numbers

  -- There is at most one such list for each i.
  pub taken-one : {start : X} {i : ℕ} {a b : List X} → Taken same next start i a → Taken same next start i b → a ≡ b
  taken-one at_first at_first = refl
  taken-one {start} (and-next {i} h s) (and-next g t) = ap (λ l. l ++ new_ones same l (next (get_or l i start))) (taken-one s t)

  -- Where all that is listed was taken, nothing is taken after it.
  taken-last : {start : X} {i j : ℕ} {a b : List X} → Taken same next start i a → length a ≤ i → Taken same next start j b → j ≤ i
  taken-last s h at_first = omega arith
  taken-last {start} {i} s h (and-next {i = j} {l} g t) =
      elim (below j i) [
        | inl p ↦ p
        | inr p ↦
            let low = taken-last s h t in
            let e : j ≡ i = omega arith in
            let same-list = taken-one s (subst (λ k. Taken same next start k l) e t) in
            absurd (omega (arith, ap length same-list, h, g, e))
      ]

  -- So there is at most one list of which all was taken.
  pub taken-all-one : {start : X} {a b : List X} → Taken same next start (length a) a → Taken same next start (length b) b → a ≡ b
  taken-all-one {start} {a} {b} s t =
      let up = taken-last s (omega arith) t in
      let down = taken-last t (omega arith) s in
      let e : length b ≡ length a = omega arith in
      taken-one s (subst (λ k. Taken same next start k b) e t)

  new-listed : (found l : List X) (y : X) → Memᴰ y (new_ones same found l) → Memᴰ y l
  new-listed found [] y n = n
  new-listed found (x ∷ l) y n =
      elim (both (known same x found)) [
        | inl e ↦ Memᴰ.tail (new-listed found l y (rw e at n))
        | inr e ↦ go (rw e at n) (new-listed (found ++ (x ∷ [])) l y)
      ]
    where
      go : Memᴰ y (x ∷ new_ones same (found ++ (x ∷ [])) l) → (Memᴰ y (new_ones same (found ++ (x ∷ [])) l) → Memᴰ y l)
          → Memᴰ y (x ∷ l)
      go (Memᴰ.head p) later = Memᴰ.head p
      go (Memᴰ.tail k) later = Memᴰ.tail (later k)

  -- Each item but the start is led to by one of smaller number.
  pub taken-from : {start : X} {i : ℕ} {l : List X} → Taken same next start i l → (j : ℕ) → 0 < j → j < length l
      → (k : ℕ) × (k < j) × Memᴰ (get_or l j start) (next (get_or l k start))
  taken-from at_first j p h = absurd (omega arith)
  taken-from {start} (and-next {i} {l} g t) j p h =
      elim (below j (length l)) [
        | inl q ↦
            let (k, low, n) = taken-from t j p q in
            (k, low, rw (old j q, old k (omega arith)) n)
        | inr q ↦
            let o : ℕ = j - length l in
            let at : j ≡ length l + o = omega arith in
            let inside : o < length more = omega (arith, length-append l more, at, h) in
            let e : get_or (l ++ more) j start ≡ get_or more o start =
            ap (λ x. get_or (l ++ more) x start) at ∙ get_or-append-add l more o start in
            (i, omega arith, rw (e, old i g) (new-listed l (next (get_or l i start)) _ (member start more o inside)))
      ]
    where
      more : List X
      more = new_ones same l (next (get_or l i start))

      old : (k : ℕ) → k < length l → get_or (l ++ more) k start ≡ get_or l k start
      old k h = get_or-append l more start k h

  met-new-ones : {cap : ℕ} {found l more : List X} → Met cap found l (complete more) → more ≡ found ++ new_ones same found l
  met-new-ones (met-none {found}) = sym (append-nil found)
  met-new-ones (met-known e m) = rw e (met-new-ones m)
  met-new-ones (met-new {found} {l} {x} e h m) =
      rw e (met-new-ones m ∙ append_assoc found (x ∷ []) (new_ones same (found ++ (x ∷ [])) l))

  met-first-ones : {cap : ℕ} {found l more : List X} → Met cap found l (full more)
      → Begins more (found ++ new_ones same found l) × (length more < length (found ++ new_ones same found l))
  met-first-ones (met-known e m) = rw e (met-first-ones m)
  met-first-ones {more} (met-new {found} {l} {x} e h m) =
      rw e (subst (λ k. Begins more k × (length more < length k)) (append_assoc found (x ∷ []) (new_ones same (found ++ (x ∷ [])) l))
      (met-first-ones m))
  met-first-ones (met-full {found} {l} {x} e h) =
      rw e (
        record { rest = x ∷ new_ones same (found ++ (x ∷ [])) l; split = refl },
        omega (arith, length-append found (x ∷ new_ones same (found ++ (x ∷ [])) l)),
      )

  explored-taken : {cap : ℕ} {start : X} {found more : List X} {i : ℕ} → Explored cap start found i (complete more)
      → i ≤ length found → Taken same next start i found → Taken same next start (length more) more
  explored-taken {start} (ended {found} {i} h) g t =
      let e : i ≡ length found = omega arith in
      subst (λ k. Taken same next start k found) e t
  explored-taken {start} (turned {found} {i} h m rest) g t =
      explored-taken rest (omega (arith, longer (met-begins m)))
      (subst (Taken same next start (suc i)) (sym (met-new-ones m)) (and-next h t))

  explored-further : {cap : ℕ} {start : X} {found more : List X} {i : ℕ} → Explored cap start found i (full more)
      → Taken same next start i found → Further same next start more
  explored-further {start} (stopped {found} {i} h m) t =
      let f = met-first-ones m in
      record {
        count = suc i;
        list = found ++ new_ones same found (next (get_or found i start));
        taken = and-next h t;
        begins = f.0;
        longer = f.1;
      }
  explored-further {start} (turned {i} h m rest) t =
      explored-further rest (subst (Taken same next start (suc i)) (sym (met-new-ones m)) (and-next h t))

  -- Complete: the list is the one of which all was taken.
  pub complete-taken : (cap : ℕ) (start : X) (found : List X) → explore same next cap start ≡ complete found
      → Taken same next start (length found) found
  complete-taken zero start found e = absurd (complete-full (sym e ∙ no_room start))
  complete-taken (suc cap) start found e =
      let ran : Explored (suc cap) start (start ∷ []) 0 (complete found) =
      rw e at (explored-start (suc cap) start (omega arith)) in
      explored-taken ran (omega arith) at_first

  -- Full: the list begins a longer one that is taken.
  pub full-taken : (cap : ℕ) (start : X) (found : List X) → explore same next cap start ≡ full found → Further same next start found
  full-taken zero start found e =
      rw (full-items (sym e ∙ no_room start)) (record {
        count = 0;
        list = start ∷ [];
        taken = at_first;
        begins = record { rest = start ∷ []; split = refl };
        longer = omega arith;
      })
  full-taken (suc cap) start found e =
      let ran : Explored (suc cap) start (start ∷ []) 0 (full found) =
      rw e at (explored-start (suc cap) start (omega arith)) in
      explored-further ran at_first

  -- ---- What is found

  -- Where there is any room, the start comes first.
  pub full-first : (cap : ℕ) (start : X) (found : List X) → explore same next cap start ≡ full found
      → (d : X) → 0 < cap → get_or found 0 d ≡ start
  full-first cap start found e d h =
      let ran : Explored cap start (start ∷ []) 0 (full found) = rw e at (explored-start cap start h) in
      unmoved d (explored-begins ran) 0 (omega arith)

  -- All items of a list are reached.
  abbrev pub Reached : X → List X → Type 0
  Reached start l = (x : X) → Memᴰ x l → Reach next start x

  -- A list of different reached items, for which there is room.
  pub record Sound (cap : ℕ) (start : X) (found : List X) : Type 0 where
    pub fits : length found ≤ cap
    pub different : Different found
    pub reached : Reached start found

  -- All that is reached, each item once, the start first.
  pub record AllFound (cap : ℕ) (start : X) (found : List X) : Type 0 where
    pub first : (d : X) → get_or found 0 d ≡ start
    pub some : 0 < length found
    pub sound : Sound cap start found
    pub all-reached : (x : X) → Reach next start x → Memᴰ x found
    pub closed : (x y : X) → Memᴰ x found → Memᴰ y (next x) → Memᴰ y found

  -- As many reached items as there is room for, each once, and another one that is reached.
  pub record RoomFull (cap : ℕ) (start : X) (found : List X) : Type 0 where
    pub fills : length found ≡ cap
    pub sound : Sound cap start found
    pub another : X
    pub another-reached : Reach next start another
    pub another-new : Memᴰ another found → ⊥

  grown : {cap : ℕ} {start : X} {found : List X} {x : X} → Sound cap start found → (Memᴰ x found → ⊥) → length found < cap
      → Reach next start x → Sound cap start (found ++ (x ∷ []))
  grown {start} {found} {x} s new h r =
      record {
        fits = simp length-append (omega arith);
        different = different-grown found x new s.different;
        reached = λ y m. ⊎_elim (s.reached y)
            (λ n. subst (Reach next start) (sym (Memᴰ.eq_of_singleton n)) r) (Memᴰ.append_cases found m);
      }

  -- With that other one, more different items are reached than there is room for.
  pub room-over : {cap : ℕ} {start : X} {found : List X} (r : RoomFull cap start found)
      → Sound (suc cap) start (found ++ (r.another ∷ []))
  room-over r =
      grown (record { fits = omega arith; different = r.sound.different; reached = r.sound.reached })
      r.another-new (omega arith) r.another-reached

  only-start : (cap : ℕ) (start : X) → 0 < cap → Sound cap start (start ∷ [])
  only-start cap start h =
      record {
        fits = h;
        different = λ d i j p q e. omega arith;
        reached = λ x m. subst (Reach next start) (sym (Memᴰ.eq_of_singleton m)) here;
      }

  nothing-found : (start : X) → RoomFull 0 start []
  nothing-found start =
      record {
        fills = refl;
        sound = record {
          fits = omega arith;
          different = λ d i j p. absurd (not-suc-le-zero p);
          reached = λ x m. absurd (Memᴰ.not-nil m);
        };
        another = start;
        another-reached = here;
        another-new = Memᴰ.not-nil;
      }

  -- The test of sameness tells which items are equal.
  module _ (same_true : (x y : X) → same x y ≡ true → x ≡ y) (same_refl : (x : X) → same x x ≡ true) where
    same_false : (x y : X) → same x y ≡ false → y ≡ x → ⊥
    same_false x y f e = true-false (sym (same_refl x) ∙ ap (same x) (sym e) ∙ f)

    -- A known item has a number.
    pub known-true : (x : X) (found : List X) (d : X) → known same x found ≡ true → Numbered x found d
    known-true x [] d e = absurd (true-false (sym e))
    known-true x (y ∷ l) d e =
        elim (both (same x y)) [
          | inl t ↦ record {
            number = 0;
            inside = omega arith;
            is = sym (same_true x y t);
            first = λ k h. absurd (not-suc-le-zero h);
          }
          | inr f ↦ further f (known-true x l d (rw f at e))
        ]
      where
        further : same x y ≡ false → Numbered x l d → Numbered x (y ∷ l) d
        further f n = record { number = suc n.number; inside = omega arith; is = n.is; first = earlier }
          where
            earlier : (k : ℕ) → k < suc n.number → get_or (y ∷ l) k d ≡ x → ⊥
            earlier zero h = same_false x y f
            earlier (suc k) h = n.first k (le_of_suc-le-suc h)

    -- An item that is not known has none.
    pub known-false : (x : X) (found : List X) (d : X) → known same x found ≡ false
        → (j : ℕ) → j < length found → get_or found j d ≡ x → ⊥
    known-false x [] d e j h = absurd (not-suc-le-zero h)
    known-false x (y ∷ l) d e zero h = same_false x y (or-false (same x y) _ e).0
    known-false x (y ∷ l) d e (suc j) h = known-false x l d (or-false (same x y) _ e).1 j (le_of_suc-le-suc h)

    -- An item that has a number is known.
    pub known_at : (x : X) (found : List X) (d : X) (j : ℕ) → j < length found → get_or found j d ≡ x
        → known same x found ≡ true
    known_at x found d j h e =
        elim (both (known same x found)) [ inl t ↦ t | inr f ↦ absurd (known-false x found d f j h e) ]

    -- An item that has no number is not known.
    pub known-nowhere : (x : X) (found : List X) (d : X) → ((j : ℕ) → j < length found → get_or found j d ≡ x → ⊥)
        → known same x found ≡ false
    known-nowhere x found d never =
        elim (both (known same x found)) [
          | inl t ↦ let n = known-true x found d t in absurd (never n.number n.inside n.is)
          | inr f ↦ f
        ]

    known_member : (x : X) (found : List X) → known same x found ≡ true → Memᴰ x found
    known_member x found e = let n = known-true x found x e in Memᴰ.cast (sym n.is) (member x found n.number n.inside)

    not-member : (x : X) (found : List X) → known same x found ≡ false → Memᴰ x found → ⊥
    not-member x found e m = let (j, h, p) = place x m in known-false x found x e j h p

    -- What was found is sound, and where it is full another item is reached.
    abbrev Holds : ℕ → X → Found X → Type 0
    Holds cap start (complete found) = Sound cap start found
    Holds cap start (full found) = RoomFull cap start found

    met_holds : {cap : ℕ} {start : X} {found l : List X} {r : Found X} → Met cap found l r → Sound cap start found
        → Reached start l → Holds cap start r
    met_holds met-none s q = s
    met_holds (met-known e m) s q = met_holds m s (λ y n. q y (Memᴰ.tail n))
    met_holds (met-new {found} {x} e h m) s q =
        met_holds m (grown s (not-member x found e) h (q x (Memᴰ.head refl))) (λ y n. q y (Memᴰ.tail n))
    met_holds (met-full {found} {x} e h) s q =
        record {
          fills = omega (arith, s.fits);
          sound = s;
          another = x;
          another-reached = q x (Memᴰ.head refl);
          another-new = not-member x found e;
        }

    explored-holds : {cap : ℕ} {start d : X} {found : List X} {i : ℕ} {r : Found X} → Explored cap d found i r
        → Sound cap start found → Holds cap start r
    explored-holds (ended h) s = s
    explored-holds {d} (stopped {found} {i} h m) s = met_holds m s (λ y n. on (s.reached _ (member d found i h)) n)
    explored-holds {d} (turned {found} {i} h m rest) s =
        explored-holds rest (met_holds m s (λ y n. on (s.reached _ (member d found i h)) n))

    -- Where there is room, all that is met is found.
    met_all : {cap : ℕ} {found l more : List X} → Met cap found l (complete more) → (y : X) → Memᴰ y l → Memᴰ y more
    met_all met-none y n = absurd (Memᴰ.not-nil n)
    met_all {found} (met-known {x} e m) y (Memᴰ.head p) = kept (met-begins m) (Memᴰ.cast p (known_member x found e))
    met_all (met-known e m) y (Memᴰ.tail n) = met_all m y n
    met_all {found} (met-new e h m) y (Memᴰ.head p) = kept (met-begins m) (Memᴰ.append_right found (Memᴰ.head p))
    met_all (met-new e h m) y (Memᴰ.tail n) = met_all m y n

    -- What the first i items lead to is in the list.
    abbrev Closed : X → ℕ → List X → Type 0
    Closed d i found = (j : ℕ) → j < i → (y : X) → Memᴰ y (next (get_or found j d)) → Memᴰ y found

    explored-closed : {cap : ℕ} {d : X} {found more : List X} {i : ℕ} → Explored cap d found i (complete more)
        → Closed d i found → Closed d (length more) more
    explored-closed (ended h) c = λ j g. c j (omega arith)
    explored-closed {d} (turned {found} {more = found'} {i} h m rest) c = explored-closed rest further
      where
        further : Closed d (suc i) found'
        further j g y n =
            let b = met-begins m in
            let n' : Memᴰ y (next (get_or found j d)) = rw (unmoved d b j (omega arith)) at n in
            elim (below j i) [
              | inl p ↦ kept b (c j p y n')
              | inr p ↦ let e : j ≡ i = omega arith in met_all m y (rw e at n')
            ]

    -- Complete: all that is reached is found.
    pub complete-all : (cap : ℕ) (start : X) (found : List X) → explore same next cap start ≡ complete found
        → AllFound cap start found
    complete-all zero start found e = absurd (complete-full (sym e ∙ no_room start))
    complete-all (suc cap) start found e =
        record {
          first = λ d. unmoved d begins 0 (omega arith);
          some = omega (arith, longer begins);
          sound = explored-holds ran (only-start (suc cap) start (omega arith));
          all-reached = all-reached;
          closed = closed;
        }
      where
        ran : Explored (suc cap) start (start ∷ []) 0 (complete found)
        ran = rw e at (explored-start (suc cap) start (omega arith))

        begins : Begins (start ∷ []) found
        begins = explored-begins ran

        closed : (x y : X) → Memᴰ x found → Memᴰ y (next x) → Memᴰ y found
        closed x y m n =
            let (j, h, p) = place start m in
            explored-closed ran (λ j g. absurd (not-suc-le-zero g)) j h y (rw p n)

        all-reached : (x : X) → Reach next start x → Memᴰ x found
        all-reached x here = kept begins (Memᴰ.head refl)
        all-reached x (on {x = w} r n) = closed w x (all-reached w r) n

    -- Full: the room is used up, and another item is reached.
    pub full-room : (cap : ℕ) (start : X) (found : List X) → explore same next cap start ≡ full found
        → RoomFull cap start found
    full-room zero start found e = rw (full-items (sym e ∙ no_room start)) (nothing-found start)
    full-room (suc cap) start found e =
        let ran : Explored (suc cap) start (start ∷ []) 0 (full found) = rw e at (explored-start (suc cap) start (omega arith)) in
        explored-holds ran (only-start (suc cap) start (omega arith))

    -- Exploring is complete exactly where a list of at most `cap` items holds all that is reached.
    pub complete-iff : (cap : ℕ) (start : X)
        → ((found : List X) × (explore same next cap start ≡ complete found))
        ↔ ((l : List X) × (length l ≤ cap) × ((x : X) → Reach next start x → Memᴰ x l))
    complete-iff cap start = (holds, λ t. room t.0 t.1 t.2 (explore same next cap start) refl)
      where
        holds : (found : List X) × (explore same next cap start ≡ complete found)
            → (l : List X) × (length l ≤ cap) × ((x : X) → Reach next start x → Memᴰ x l)
        holds t = let all = complete-all cap start t.0 t.1 in (t.0, all.sound.fits, all.all-reached)

        room : (l : List X) → length l ≤ cap → ((x : X) → Reach next start x → Memᴰ x l)
            → (r : Found X) → explore same next cap start ≡ r → (found : List X) × (explore same next cap start ≡ complete found)
        room l h all (complete found) e = (found, e)
        room l h all (full found) e =
            let r = full-room cap start found e in
            let s = room-over r in
            let few = no_more (found ++ (r.another ∷ [])) l s.different (λ x m. all x (s.reached x m)) in
            absurd (omega (arith, length-append found (r.another ∷ [])))
