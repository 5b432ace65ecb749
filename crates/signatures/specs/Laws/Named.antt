-- Ids of signatures are equal exactly if names, delays and sets of steps are equal. What is refused is like nothing that has an id.
use Rattle.std.specs.Prelude.{ℕ, suc, ◌+◌, ◌-◌, ◌≤◌, ◌<◌, ◌≡◌, refl, take, set, get_or, drop}
use Rattle.std.proofs.Common.{arith, sym, ◌∙◌, ap₂, subst, length-append, length-set, take-suc-set, length-take-le, take-take}
use Rattle.std.proofs.Common.{drop_at, append_assoc}
use Rattle.std.proofs.Math.Path.{ap}
use mathlib.Core.List.{List, [], ◌∷◌, ◌++◌, Memᴰ}
use Rattle.std.proofs.Math.ListN.{length}
use Rattle.std.proofs.lemmas.List.{take-append-le}
use borrow.Rule.Slice.PartMut.{put_mid, post_of, take_put}
use Rattle.std.specs.Prelude.{Result, Ok, Err}
use Rattle.signatures.specs.declared.dictionary.NoRoom.{NoRoom}
use Rattle.signatures.specs.Book.{full, room, At, Different, numbers_in, Told, Shut, Grows}
use Rattle.signatures.specs.Laws.Book.{grows_same, grows_then, told-grows, told-few}
use Rattle.std.proofs.Math.Seq.{take-length}
use Rattle.signatures.specs.Sets.{put_in, set_of, Rising}
use Rattle.signatures.specs.Laws.Sets.{set_same, same_set, set-rises}
use Rattle.signatures.specs.Laws.Insert.{put-size}
use Rattle.signatures.specs.Named.{AllIds, none, more, spelled, Named, Refused, by-step, by-delays, by_whole, Alike, Partial, Signed}
use Rattle.signatures.specs.Named.{reached_from, steps_from, Finishes, Gathering, Signs}
use Rattle.signatures.specs.Raw.{raw_step}
use Rattle.signatures.specs.Laws.Memo.{noted-grows}
use Rattle.signatures.specs.Steps.{name_of}
use Rattle.signatures.specs.Dictionary.{Interns, entries_of}

-- ---- Ids

pub ids-grow : {held held' : List (List ℕ)} {steps : List (List ℕ)} {ids : List ℕ} → Grows held held' → AllIds held steps ids
    → AllIds held' steps ids
ids-grow g none = none
ids-grow g (more h r) = more (g.keeps _ _ h) (ids-grow g r)

-- Each of the lists has an id among them, and each id a list.
ids-to : {held : List (List ℕ)} {steps : List (List ℕ)} {ids : List ℕ} → AllIds held steps ids → (s : List ℕ) → Memᴰ s steps
    → (i : ℕ) × Memᴰ i ids × At held i s
ids-to {held = held} none s m = elim m [ ]
ids-to (more {i = i} h r) s (Memᴰ.head e) = (i, Memᴰ.head refl, (h.0, h.1 ∙ sym e))
ids-to (more h r) s (Memᴰ.tail m) = let k = ids-to r s m in (k.0, Memᴰ.tail k.1, k.2)

ids-from : {held : List (List ℕ)} {steps : List (List ℕ)} {ids : List ℕ} → AllIds held steps ids → (i : ℕ) → Memᴰ i ids
    → (s : List ℕ) × Memᴰ s steps × At held i s
ids-from {held = held} none i m = elim m [ ]
ids-from {held} (more {s = s} h r) i (Memᴰ.head e) = (s, Memᴰ.head refl, subst (λ (k : ℕ). At held k s) (sym e) h)
ids-from (more h r) i (Memᴰ.tail m) = let k = ids-from r i m in (k.0, Memᴰ.tail k.1, k.2)

module _ {held : List (List ℕ)} (different : Different held) where
  -- The same lists have the same ids.
  ids-same : {steps steps' : List (List ℕ)} {ids ids' : List ℕ} → AllIds held steps ids → AllIds held steps' ids'
      → ((s : List ℕ) → Memᴰ s steps → Memᴰ s steps') → (i : ℕ) → Memᴰ i ids → Memᴰ i ids'
  ids-same {ids' = ids'} h h' to i m =
      let from = ids-from h i m in
      let there = ids-to h' from.0 (to from.0 from.1) in
      subst (λ (k : ℕ). Memᴰ k ids') (different there.0 i from.0 there.2 from.2) there.1

  -- The same ids are of the same lists.
  lists-same : {steps steps' : List (List ℕ)} {ids ids' : List ℕ} → AllIds held steps ids → AllIds held steps' ids'
      → ((i : ℕ) → Memᴰ i ids → Memᴰ i ids') → (s : List ℕ) → Memᴰ s steps → Memᴰ s steps'
  lists-same {steps' = steps'} h h' to s m =
      let there = ids-to h s m in
      let from = ids-from h' there.0 (to there.0 there.1) in
      subst (λ (k : List ℕ). Memᴰ k steps') (sym from.2.1 ∙ there.2.1) from.1

  -- Alike items spell the same list.
  spelled_same : {a b d d' : ℕ} {l l' : List ℕ} {steps steps' : List (List ℕ)} {ids ids' : List ℕ} → AllIds held steps ids
      → AllIds held steps' ids'
      → At held d l → At held d' l' → Alike a l steps b l' steps' → spelled a d ids ≡ spelled b d' ids'
  spelled_same {a} {b} {d} {d'} {l} {l'} {ids = ids} {ids' = ids'} h h' at at' k =
      ap₂ (λ (r : List ℕ) (n : ℕ). r ++ (n ∷ d ∷ [])) (set_same ids ids' (ids-same h h' k.to) (ids-same h' h k.fro)) k.same
      ∙ ap (λ (n : ℕ). set_of ids' ++ (b ∷ n ∷ [])) (different d d' l' (at.0, at.1 ∙ k.reaches) at')

-- A list and two numbers behind it are told by the whole.
behind : (a b : List ℕ) (x y u v : ℕ) → a ++ (x ∷ u ∷ []) ≡ b ++ (y ∷ v ∷ []) → (a ≡ b) × (x ≡ y) × (u ≡ v)
behind [] [] x y u v e = (refl, cc, cc)
behind [] (k ∷ b) x y u v e = absurd (omega (arith, ap length e, length-append b (y ∷ v ∷ [])))
behind (j ∷ a) [] x y u v e = absurd (omega (arith, ap length e, length-append a (x ∷ u ∷ [])))
behind (j ∷ a) (k ∷ b) x y u v e =
    let rest : a ++ (x ∷ u ∷ []) ≡ b ++ (y ∷ v ∷ []) = cc in
    let first : j ≡ k = cc in
    let r = behind a b x y u v rest in
    (ap₂ (λ (t : ℕ) (l : List ℕ). t ∷ l) first r.0, r.1, r.2)

-- ---- What ids tell

module _ {held : List (List ℕ)} {a b : ℕ} {l l' : List ℕ} {steps steps' : List (List ℕ)} {i j : ℕ} (different : Different held)
    (h : Named held a l steps i) (k : Named held b l' steps' j) where
  pub named-same : Alike a l steps b l' steps' → i ≡ j
  named-same e =
      different i j (spelled b k.delay k.ids)
      (h.whole.0, h.whole.1 ∙ spelled_same different h.each k.each h.reached k.reached e) k.whole

  pub named-alike : i ≡ j → Alike a l steps b l' steps'
  named-alike e =
      let lists : spelled a h.delay h.ids ≡ spelled b k.delay k.ids =
      sym h.whole.1 ∙ ap (λ (n : ℕ). get_or held n []) e ∙ k.whole.1 in
      let parts = behind (set_of h.ids) (set_of k.ids) a b h.delay k.delay lists in
      record {
        same = parts.1;
        reaches = sym h.reached.1 ∙ ap (λ (n : ℕ). get_or held n []) parts.2 ∙ k.reached.1;
        to = lists-same different h.each k.each (same_set h.ids k.ids parts.0);
        fro = lists-same different k.each h.each (same_set k.ids h.ids (sym parts.0));
      }

-- What is refused is like nothing that has an id.
pub refused-apart : {held : List (List ℕ)} {a b : ℕ} {l l' : List ℕ} {steps steps' : List (List ℕ)} {j : ℕ} → Different held
    → Refused held a l steps → Named held b l' steps' j → Alike a l steps b l' steps' → ⊥
refused-apart different (by-step m shut) k e = let i = ids-to k.each _ (e.to _ m) in shut.absent i.0 i.2
refused-apart different (by-delays shut) k e = shut.absent k.delay (k.reached.0, k.reached.1 ∙ sym e.reaches)
refused-apart {j = j} different (by_whole each at shut) k e =
    shut.absent j (k.whole.0, k.whole.1 ∙ sym (spelled_same different each k.each at k.reached e))

pub named-grows : {held held' : List (List ℕ)} {a : ℕ} {l : List ℕ} {steps : List (List ℕ)} {i : ℕ} → Grows held held'
    → Named held a l steps i
    → Named held' a l steps i
named-grows g h =
    record {
      ids = h.ids;
      each = ids-grow g h.each;
      delay = h.delay;
      reached = g.keeps _ _ h.reached;
      whole = g.keeps _ _
          h.whole;
    }

pub refused-grows : {held held' : List (List ℕ)} {a : ℕ} {l : List ℕ} {steps : List (List ℕ)} → Grows held held' → Refused held a l steps
    → Refused held' a l steps
refused-grows g (by-step m shut) = by-step m (g.shuts _ shut)
refused-grows g (by-delays shut) = by-delays (g.shuts _ shut)
refused-grows g (by_whole each at shut) = by_whole (ids-grow g each) (g.keeps _ _ at) (g.shuts _ shut)

-- ---- Steps, one after the other

pub partial-none : (held : List (List ℕ)) (list : List ℕ) → Partial held held [] 0 list 0
partial-none held list =
    record { ids = []; each = none; put = refl; short = omega arith; grows = grows_same held; few = omega arith; small = omega arith }

module _ {held₀ held : List (List ℕ)} {steps : List (List ℕ)} {k : ℕ} {list : List ℕ} {len : ℕ} (p : Partial held₀ held steps k list len)
    (held' : List (List ℕ)) where
  -- One step more is held.
  pub partial-on : (s list' : List ℕ) (len' id : ℕ) → length s ≤ 25 → Told s held held' (Ok id)
      → take len' list' ≡ put_in id (take len list)
      → len' ≤ len + 1 → Partial held₀ held' (s ∷ steps) (k + 1) list' len'
  partial-on s list' len' id fits told put short =
      let grown = told-few s held held' id told in
      record {
        ids = id ∷ p.ids;
        each = more told.0 (ids-grow (told-grows s held held' (Ok id) told) p.each);
        put = put ∙ ap (put_in id) p.put;
        short = omega (arith, p.short, short);
        grows = grows_then held₀ held held' p.grows (told-grows s held held' (Ok id) told);
        few = omega (arith, p.few, grown.0);
        small = omega (arith, p.small, grown.1, fits);
      }

  -- A step is refused.
  pub partial-full : (name : ℕ) (delays s : List ℕ) (all : List (List ℕ)) → Memᴰ s all → k < 128 → length s ≤ 25
      → Told s held held' full
      → Signed held₀ held' name delays all full
  unfolding numbers_in
  partial-full name delays s all among most fits told = (
    by-step among (subst (λ (h : List (List ℕ)). Shut h s) (sym told.0) (record { absent = told.1; large = told.2 })),
    λ empty. told.2 (
      omega (arith, p.few, ap length empty, most),
      omega (arith, p.small, ap numbers_in empty, most, fits),
    ),
  )

-- The same for a set that is a list.
module _ {held₀ held : List (List ℕ)} {steps : List (List ℕ)} {k : ℕ} {set : List ℕ} (p : Partial held₀ held steps k set (length set)) where
  pub partial-is : set ≡ set_of p.ids
  partial-is = sym (take-length set) ∙ p.put

  pub partial-rises : Rising set
  partial-rises = rw partial-is (set-rises p.ids)

  pub partial-put : (held' : List (List ℕ)) (s : List ℕ) (id : ℕ) → length s ≤ 25 → Told s held held' (Ok id)
      → Partial held₀ held' (s ∷ steps) (k + 1) (put_in id set) (length (put_in id set))
  partial-put held' s id fits told =
      partial-on p held' s (put_in id set) (length (put_in id set)) id fits told
      (take-length (put_in id set) ∙ ap (put_in id) (sym (take-length set))) (put-size id set)

-- ---- The delays, and the whole

module _ {held₀ held : List (List ℕ)} {steps : List (List ℕ)} {k : ℕ} {list : List ℕ} {len : ℕ} (p : Partial held₀ held steps k list len)
    (most : k ≤ 128) (name : ℕ) (delays : List ℕ) (held₁ : List (List ℕ)) where
  -- The delays are refused.
  pub delays-full : length delays ≤ 4096 → Told delays held held₁ full → Signed held₀ held₁ name delays steps full
  unfolding numbers_in
  delays-full fits told = (
    by-delays (subst (λ (h : List (List ℕ)). Shut h delays) (sym told.0) (record { absent = told.1; large = told.2 })),
    λ empty. told.2 (
      omega (arith, p.few, ap length empty, most),
      omega (arith, p.small, ap numbers_in empty, most, fits),
    ),
  )

  -- All lists are there, and what is spelled with them is held, or refused.
  pub whole-told : (delay : ℕ) (held₂ : List (List ℕ)) (answer : Result ℕ NoRoom) → length delays ≤ 4096 → Told delays held held₁ (Ok delay)
      → length (set_of p.ids) ≤ 128 → Told (spelled name delay p.ids) held₁ held₂ answer → Signed held₀ held₂ name delays steps answer
  unfolding numbers_in
  whole-told delay held₂ answer fits told size last = go answer last
    where
      grown : Grows held held₁
      grown = told-grows delays held held₁ (Ok delay) told

      length_whole : length (spelled name delay p.ids) ≡ length (set_of p.ids) + 2
      length_whole = length-append (set_of p.ids) (name ∷ delay ∷ [])

      go : (a : Result ℕ NoRoom) → Told (spelled name delay p.ids) held₁ held₂ a → Signed held₀ held₂ name delays steps a
      go (Ok id) t =
          let further = told-grows (spelled name delay p.ids) held₁ held₂ (Ok id) t in
          record {
            ids = p.ids;
            each = ids-grow further (ids-grow grown p.each);
            delay = delay;
            reached = further.keeps _ _ told.0;
            whole = t.0;
          }
      go (Err _) t = (
        subst (λ (h : List (List ℕ)). Refused h name delays steps) (sym t.0)
            (by_whole (ids-grow grown p.each) told.0 (record { absent = t.1; large = t.2 })),
        λ empty. let few = told-few delays held held₁ delay told in t.2 (
          omega (arith, p.few, ap length empty, most, few.0),
          omega (arith, p.small, ap numbers_in empty, most, few.1, fits, length_whole, size),
        ),
      )

-- The same for a set that is a list.
pub whole-listed : {held₀ held : List (List ℕ)} {steps : List (List ℕ)} {set : List ℕ} → Partial held₀ held steps 128 set (length set)
    → (name : ℕ) (delays : List ℕ) (held₁ : List (List ℕ)) (delay : ℕ) (held₂ : List (List ℕ)) (answer : Result ℕ NoRoom)
    → length delays ≤ 4096 → Told delays held held₁ (Ok delay) → Told (set ++ (name ∷ delay ∷ [])) held₁ held₂ answer
    → Signed held₀ held₂ name delays steps answer
whole-listed p name delays held₁ delay held₂ answer fits told last =
    whole-told p (omega arith) name delays held₁ delay held₂ answer fits told (omega (arith, p.short, ap length (partial-is p)))
    (subst (λ (l : List ℕ). Told (l ++ (name ∷ delay ∷ [])) held₁ held₂ answer) (partial-is p) last)

-- Two numbers stored behind the first ones.
pub two-more : (l : List ℕ) (at a b : ℕ) → at + 2 ≤ length l → take (at + 2) (set (set l at a) (at + 1) b) ≡ take at l ++ (a ∷ b ∷ [])
two-more l at a b room =
    ap (λ (k : ℕ). take k (set (set l at a) (at + 1) b)) second
    ∙ take-suc-set (set l at a) (at + 1) b (omega (arith, length-set l at a))
    ∙ ap (λ (r : List ℕ). r ++ (b ∷ [])) (ap (λ (k : ℕ). take k (set l at a)) first ∙ take-suc-set l at a (omega arith))
    ∙ append_assoc (take at l) (a ∷ []) (b ∷ [])
  where
    first : at + 1 ≡ suc at
    first = omega arith

    second : at + 2 ≡ suc (at + 1)
    second = omega arith

-- A part behind the first numbers, written and lent again.
pub part-behind : (a k len : ℕ) (xs ys : List ℕ) → a ≤ length xs → len ≤ length ys
    → take (a + len - a) (drop a (put_mid a k xs ys)) ≡ take len ys
part-behind a k len xs ys h l =
    let e : a + len - a ≡ len = omega arith in
    ap₂ (λ (n : ℕ) (r : List ℕ). take n r) e (drop_at (take a xs) (ys ++ post_of a k xs) a (length-take-le a xs h))
    ∙ take-append-le len ys (post_of a k xs) l

-- What a part does not reach stays.
pub part-before : (a k len : ℕ) (xs ys : List ℕ) → a ≤ length xs → len ≤ a → take len (put_mid a k xs ys) ≡ take len xs
part-before a k len xs ys h l =
    sym (take-take len a (put_mid a k xs ys) l) ∙ ap (take len) (take_put a k xs ys h) ∙ take-take len a xs l

pub first-same : (len : ℕ) (l m : List ℕ) → len ≤ 130 → take 130 l ≡ take 130 m → take len l ≡ take len m
first-same len l m h e = sym (take-take len 130 l h) ∙ ap (take len) e ∙ take-take len 130 m h

-- ---- What the code leaves

module _ (names : List ℕ) (x len : ℕ) (index numbers list index₁ numbers₁ list₁ : List ℕ) (fits : length (reached_from names x) ≤ 4096)
    (size : length list₁ ≡ length list) where
  pub finished-full : Interns (reached_from names x) index numbers index₁ numbers₁ full
      → Finishes names x len index numbers list index₁ numbers₁ list₁ full
  finished-full i =
      record {
        kept = i.kept;
        size = size;
        grows = told-grows (reached_from names x) (entries_of index numbers) (entries_of index₁ numbers₁) full i.told;
        signed = λ held steps p. delays-full p (omega arith) (name_of names x) (reached_from names x) (entries_of index₁ numbers₁) fits
            i.told;
      }

  pub finished-closed : (delay name : ℕ) (index₂ numbers₂ list₂ : List ℕ) (answer : Result ℕ NoRoom) → len ≤ 128 → 4226 ≤ length list
      → take 130 list₁ ≡ take 130 list → Interns (reached_from names x) index numbers index₁ numbers₁ (Ok delay) → name ≡ name_of names x
      → length list₂ ≡ length list₁ → Interns (take len list₁ ++ (name ∷ delay ∷ [])) index₁ numbers₁ index₂ numbers₂ answer
      → Finishes names x len index numbers list index₂ numbers₂ list₂ answer
  finished-closed delay name index₂ numbers₂ list₂ answer few room first i is size₂ j =
      record {
        kept = j.kept;
        size = size₂ ∙ size;
        grows = grows_then (entries_of index numbers) (entries_of index₁ numbers₁) (entries_of index₂ numbers₂)
            (told-grows (reached_from names x) (entries_of index numbers) (entries_of index₁ numbers₁) (Ok delay) i.told)
            (told-grows (take len list₁ ++ (name ∷ delay ∷ [])) (entries_of index₁ numbers₁) (entries_of index₂ numbers₂) answer j.told);
        signed = λ held steps p. whole-told p (omega arith) (name_of names x) (reached_from names x) (entries_of index₁ numbers₁) delay
            (entries_of index₂ numbers₂) answer fits i.told
            (omega (arith, sym (ap length p.put), length-take-le len list (omega (arith, few, room)), few))
            (subst (λ (l : List ℕ). Told l (entries_of index₁ numbers₁) (entries_of index₂ numbers₂) answer)
            (ap₂ (λ (l : List ℕ) (n : ℕ). l ++ (n ∷ delay ∷ [])) (first-same len list₁ list (omega (arith, few)) first ∙ p.put) is)
            j.told);
      }

module _ (graph edges names : List ℕ) (x : ℕ) (index numbers list index₁ numbers₁ memo₁ list₁ : List ℕ) where
  pub signed-whole : (len : ℕ) (index₂ numbers₂ list₂ : List ℕ) (answer : Result ℕ NoRoom)
      → Gathering graph edges names x index numbers list index₁ numbers₁ memo₁ list₁ (Ok len)
      → Finishes names x len index₁ numbers₁ list₁ index₂ numbers₂ list₂ answer
      → Signs graph edges names x index numbers list index₂ numbers₂ memo₁ list₂ answer
  signed-whole len index₂ numbers₂ list₂ answer g f =
      record {
        kept = f.kept;
        noted = noted-grows (raw_step edges) (entries_of index₁ numbers₁) (entries_of index₂ numbers₂) memo₁ f.grows g.noted;
        size = f.size ∙ g.size;
        grows = grows_then (entries_of index numbers) (entries_of index₁ numbers₁) (entries_of index₂ numbers₂) g.answered.grows
            f.grows;
        signed = f.signed (entries_of index numbers) (steps_from graph edges names x) g.answered;
      }

  pub signed-short : Gathering graph edges names x index numbers list index₁ numbers₁ memo₁ list₁ full
      → Signs graph edges names x index numbers list index₁ numbers₁ memo₁ list₁ full
  signed-short g =
      record {
        kept = g.kept;
        noted = g.noted;
        size = g.size;
        grows = g.answered.0;
        signed = g.answered.1 (name_of names x) (reached_from names x);
      }
