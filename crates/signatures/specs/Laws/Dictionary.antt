-- Laws of the dictionary in two slices: searching, one list more, and an empty one.
use Prim.Native.Nat.{ℕ, zero, suc, ◌+◌, ◌-◌, ◌≤◌, ◌<◌}
use native.Mathlib.Omega.{arith}
use Rattle.std.proofs.Common.{eq-or-lt_of_le, add-zero, add-suc, ◌∙◌, subst, inl, inr, ⊎_elim, length-append, length-set, get_or-set_same}
use Rattle.std.proofs.Common.{get_or-set_other, length-take-le, take-take, drop_at, take-add, ext_get_or}
use Rattle.std.proofs.Math.Numerals.{add-one}
use Rattle.std.specs.Prelude.{◌≡◌, refl, ◌⊎◌, length, get_or, set, take, drop}
use Rattle.std.proofs.Math.Path.{sym, ap, ap₂}
use mathlib.Core.List.{List, [], ◌∷◌, ◌++◌}
use Rattle.std.proofs.Math.ListN.{get_or-append}
use Rattle.std.proofs.Math.Seq.{slice, paste, length-slice, take-length}
use Rattle.std.proofs.lemmas.List.Edits.{length-paste, take-paste}
use Rattle.std.specs.Prelude.{replicate}
use Rattle.std.proofs.lemmas.List.{take-append-le, get_or-replicate, get_or_past}
use Rattle.signatures.specs.Laws.Order.{cases}
use Rattle.std.specs.Prelude.{Some, None}
use Rattle.std.specs.Prelude.{Result, Ok, Err}
use Rattle.signatures.specs.declared.dictionary.NoRoom.{NoRoom}
use Rattle.signatures.specs.Chain.{buckets, hash_of, Chained}
use Rattle.signatures.specs.Laws.Chain.{hash-below, chained-none, chained_more, Walking, walking_start, walking_on, next-falls}
use Rattle.signatures.specs.Book.{full, max_ids, room, Absent, Different, Sound, numbers_in, Fits, Told}
use Rattle.signatures.specs.Laws.Book.{at-end, length_more, numbers_more}
use Rattle.signatures.specs.Book as book
use Rattle.signatures.specs.Dictionary.{index_size, count_of, head_of, start_of, end_of, link_of, entry_of, listed, entries_of, Dictionary}
use Rattle.signatures.specs.Dictionary.{Found, Interns, entered, Empty}

-- ---- The list of the entries

listed-length : (f : ℕ → List ℕ) (n : ℕ) → length (listed f n) ≡ n
unfolding listed
listed-length f zero = refl
listed-length f (suc n) = length_more (listed f n) (f n) ∙ ap suc (listed-length f n)

listed_at : (f : ℕ → List ℕ) (n j : ℕ) → j < n → get_or (listed f n) j [] ≡ f j
unfolding listed
listed_at f zero j h = absurd (omega arith)
listed_at f (suc n) j h = let most : j ≤ n = omega arith in go (listed_at f n j) (eq-or-lt_of_le most)
  where
    go : (j < n → get_or (listed f n) j [] ≡ f j) → (j ≡ n) ⊎ (j < n) → get_or (listed f n ++ (f n ∷ [])) j [] ≡ f j
    go rest (inr less) = get_or-append (listed f n) (f n ∷ []) [] j (omega (arith, listed-length f n)) ∙ rest less
    go rest (inl e) =
        ap (λ (k : ℕ). get_or (listed f n ++ (f n ∷ [])) k []) (e ∙ sym (listed-length f n))
        ∙ (at-end (listed f n) (f n)).1 ∙ ap f (sym e)

listed_same : (f g : ℕ → List ℕ) (n : ℕ) → ((j : ℕ) → j < n → f j ≡ g j) → listed f n ≡ listed g n
unfolding listed
listed_same f g zero same = refl
listed_same f g (suc n) same = rw (same n (omega arith), listed_same f g n (λ j h. same j (omega arith)))

start-end : (index : List ℕ) (j : ℕ) → start_of index (suc j) ≡ end_of index j
start-end index j = let e : 8193 + suc j ≡ 8194 + j = omega arith in ap (λ (k : ℕ). get_or index k 0) e

module _ {index numbers : List ℕ} (d : Dictionary index numbers) where
  pub count-is : length (entries_of index numbers) ≡ count_of index
  unfolding entries_of
  count-is = listed-length (entry_of index numbers) (count_of index)

  pub at_entry : (i : ℕ) (s : List ℕ) → i < count_of index → entry_of index numbers i ≡ s → book.At (entries_of index numbers) i s
  unfolding entries_of
  at_entry i s h e = (rw count-is h, listed_at (entry_of index numbers) (count_of index) i h ∙ e)

  pub held_entry : (i : ℕ) → i < count_of index → get_or (entries_of index numbers) i [] ≡ entry_of index numbers i
  held_entry i h = (at_entry i (entry_of index numbers i) h refl).1

  pub entry_at : (i : ℕ) (s : List ℕ) → book.At (entries_of index numbers) i s → (i < count_of index) × (entry_of index numbers i ≡ s)
  unfolding entries_of
  entry_at i s h =
      let less : i < count_of index = omega (arith, count-is, h.0) in
      (less, sym (listed_at (entry_of index numbers) (count_of index) i less) ∙ h.1)

  pub all-different : Different (entries_of index numbers)
  all-different i j s hi hj =
      let a = entry_at i s hi in
      let b = entry_at j s hj in
      d.different i j a.0 b.0 (a.1 ∙ sym b.1)

  pub sound : Sound (entries_of index numbers)
  sound = record { different = all-different; few = omega (arith, count-is, d.few) }

  end-within : (j : ℕ) → j < count_of index → end_of index j ≤ room
  end-within j h = omega (arith, start-end index j, d.within (suc j) h)

  pub numbers-is : numbers_in (entries_of index numbers) ≡ start_of index (count_of index)
  unfolding entries_of listed numbers_in entry_of
  numbers-is = go (count_of index) (omega arith)
    where
      go : (n : ℕ) → n ≤ count_of index → numbers_in (listed (entry_of index numbers) n) ≡ start_of index n
      go zero h = sym d.first
      go (suc n) h =
          omega (
            arith,
            numbers_more (listed (entry_of index numbers) n) (entry_of index numbers n),
            go n (omega arith),
            start-end index n,
            d.rising n h,
            d.roomy,
            length-slice (start_of index n) (end_of index n) numbers (omega (arith, d.roomy, end-within n h)),
          )

-- A part of the numbers, as the code takes it.
part_slice : (a e : ℕ) (l : List ℕ) → a ≤ e → e ≤ length l → take (e - a) (drop a l) ≡ slice a e l
part_slice a e l h k =
    let whole : e ≡ a + (e - a) = omega arith in
    sym (ap (drop a) (ap (λ (n : ℕ). take n l) whole ∙ take-add a (e - a) l)
    ∙ drop_at (take a l) (take (e - a) (drop a l)) a (length-take-le a l (omega arith)))

module _ {index numbers : List ℕ} (d : Dictionary index numbers) (j : ℕ) (h : j < count_of index) where
  pub entry-rises : start_of index j ≤ end_of index j
  entry-rises = d.rising j h

  pub entry-within : end_of index j ≤ length numbers
  entry-within = omega (arith, d.roomy, end-within d j h)

  pub entry-part : take (end_of index j - start_of index j) (drop (start_of index j) numbers) ≡ entry_of index numbers j
  unfolding entry_of
  entry-part = part_slice (start_of index j) (end_of index j) numbers entry-rises entry-within

-- ---- Search

module _ {index numbers : List ℕ} (d : Dictionary index numbers) (list : List ℕ) where
  pub walk_start : Walking (entry_of index numbers) (count_of index) list (head_of index (hash_of list))
  walk_start = walking_start d.chained list

  module _ (link : ℕ) (w : Walking (entry_of index numbers) (count_of index) list link) where
    module _ (some : 0 < link) where
      before : Walking (entry_of index numbers) (count_of index) list (suc (link - 1))
      before =
          let e : link ≡ suc (link - 1) = omega arith in
          subst (λ (k : ℕ). Walking (entry_of index numbers) (count_of index) list k) e w

      pub walk-on : (entry_of index numbers (link - 1) ≡ list → ⊥)
          → Walking (entry_of index numbers) (count_of index) list (link_of index (link - 1))
      walk-on differs = walking_on d.chained list (link - 1) before differs

      pub walk-falls : link_of index (link - 1) < link
      walk-falls = omega (arith, next-falls d.chained list (link - 1) before)

      pub walk-found : entry_of index numbers (link - 1) ≡ list → Found list (entries_of index numbers) (Some (link - 1))
      walk-found e = at_entry d (link - 1) list (omega (arith, w.within)) e

    pub walk_none : link ≤ 0 → Found list (entries_of index numbers) None
    walk_none none i h = let k = entry_at d i list h in omega (arith, w.ahead i k.0 k.1)

-- ---- One list more

-- The index with one list more, which ends at a place and is in a bucket.
module _ (index : List ℕ) (n end bucket : ℕ) where
  abbrev ended : List ℕ
  ended = set index (8194 + n) end

  abbrev linked : List ℕ
  linked = set ended (16386 + n) (head_of index bucket)

  abbrev headed : List ℕ
  headed = set linked (1 + bucket) (n + 1)

  abbrev made : List ℕ
  made = set headed 0 (n + 1)

  module _ (size : length index ≡ index_size) (few : n < max_ids) (is : bucket < buckets) where
    entered-length : length made ≡ index_size
    entered-length = simp length-set size

    inside : (k : ℕ) → k < index_size → k < length headed
    inside k h = simp length-set (omega arith)

    inside' : (k : ℕ) → k < index_size → k < length linked
    inside' k h = simp length-set (omega arith)

    inside'' : (k : ℕ) → k < index_size → k < length ended
    inside'' k h = simp length-set (omega arith)

    entered-count : count_of made ≡ n + 1
    entered-count = get_or-set_same headed 0 (n + 1) 0 (inside 0 (omega arith))

    entered-head : head_of made bucket ≡ n + 1
    entered-head =
        get_or-set_other headed 0 (1 + bucket) (n + 1) 0 (omega arith)
        ∙ get_or-set_same linked (1 + bucket) (n + 1) 0 (inside' (1 + bucket) (omega arith))

    entered-link : link_of made n ≡ head_of index bucket
    entered-link =
        get_or-set_other headed 0 (16386 + n) (n + 1) 0 (omega arith)
        ∙ get_or-set_other linked (1 + bucket) (16386 + n) (n + 1) 0 (omega arith)
        ∙ get_or-set_same ended (16386 + n) (head_of index bucket) 0 (inside'' (16386 + n) (omega arith))

    entered-end : end_of made n ≡ end
    entered-end =
        get_or-set_other headed 0 (8194 + n) (n + 1) 0 (omega arith)
        ∙ get_or-set_other linked (1 + bucket) (8194 + n) (n + 1) 0 (omega arith)
        ∙ get_or-set_other ended (16386 + n) (8194 + n) (head_of index bucket) 0 (omega arith)
        ∙ get_or-set_same index (8194 + n) end 0 (omega arith)

    entered-other : (k : ℕ) → (k ≡ 0 → ⊥) → (k ≡ 1 + bucket → ⊥) → (k ≡ 16386 + n → ⊥) → (k ≡ 8194 + n → ⊥)
        → get_or made k 0 ≡ get_or index k 0
    entered-other k a b c e =
        get_or-set_other headed 0 k (n + 1) 0 a ∙ get_or-set_other linked (1 + bucket) k (n + 1) 0 b
        ∙ get_or-set_other ended (16386 + n) k (head_of index bucket) 0 c ∙ get_or-set_other index (8194 + n) k end 0 e

-- What stands before the place of a copy stays, and the copy is there.
module _ (numbers : List ℕ) (start : ℕ) (list : List ℕ) (fits : start + length list ≤ length numbers) where
  pasted-here : slice start (start + length list) (paste numbers start list (length list)) ≡ list
  pasted-here =
      ap (drop start) (take-paste numbers start list (length list) (omega arith) (omega arith) ∙ ap
      (λ (r : List ℕ). take start numbers ++ r) (take-length list))
      ∙ drop_at (take start numbers) list start (length-take-le start numbers (omega arith))

  pasted-before : (a b : ℕ) → b ≤ start → slice a b (paste numbers start list (length list)) ≡ slice a b numbers
  pasted-before a b h =
      let here : length (take start numbers) ≡ start = length-take-le start numbers (omega arith) in
      ap (drop a)
      (take-append-le b (take start numbers ++ take (length list) list) (drop (start + length list) numbers)
      (omega (arith, length-append (take start numbers) (take (length list) list)))
      ∙ take-append-le b (take start numbers) (take (length list) list) (omega arith)
      ∙ take-take b start numbers h)

module _ (index numbers list : List ℕ) (d : Dictionary index numbers) (absent : Absent (entries_of index numbers) list)
    (fits : Fits (entries_of index numbers) list) where
  abbrev n : ℕ
  n = count_of index

  abbrev start : ℕ
  start = start_of index (count_of index)

  abbrev index' : List ℕ
  index' = entered index (count_of index) (start_of index (count_of index) + length list) (hash_of list)

  abbrev numbers' : List ℕ
  numbers' = paste numbers (start_of index (count_of index)) list (length list)

  small : n < max_ids
  small = omega (arith, fits.0, count-is d)

  enough : start + length list ≤ room
  enough = omega (arith, fits.1, numbers-is d)

  below : hash_of list < buckets
  below = hash-below list

  other : (k : ℕ) → (k ≡ 0 → ⊥) → (k ≡ 1 + hash_of list → ⊥) → (k ≡ 16386 + n → ⊥) → (k ≡ 8194 + n → ⊥)
      → get_or index' k 0 ≡ get_or index k 0
  other = entered-other index n (start + length list) (hash_of list) d.indexed small below

  count' : count_of index' ≡ n + 1
  count' = entered-count index n (start + length list) (hash_of list) d.indexed small below

  start' : (j : ℕ) → j ≤ n → start_of index' j ≡ start_of index j
  start' j h = other (8193 + j) (omega arith) (omega (arith, below)) (omega (arith, d.few)) (omega arith)

  end' : (j : ℕ) → j < n → end_of index' j ≡ end_of index j
  end' j h = other (8194 + j) (omega arith) (omega (arith, below)) (omega (arith, d.few)) (omega arith)

  end-here : end_of index' n ≡ start + length list
  end-here = entered-end index n (start + length list) (hash_of list) d.indexed small below

  -- The starts rise, so every list before ends before the new one starts.
  climbs : (a k : ℕ) → a + k ≤ n → start_of index a ≤ start_of index (a + k)
  climbs a zero h = rw (add-zero a) (omega arith)
  climbs a (suc k) h =
      rw (add-suc a k)
      (omega (arith, climbs a k (omega arith), start-end index (a + k), d.rising (a + k) (omega arith)))

  end_before : (j : ℕ) → j < n → end_of index j ≤ start
  end_before j h =
      let e : suc j + (n - suc j) ≡ n = omega arith in
      let c : start_of index (suc j) ≤ start_of index (suc j + (n - suc j)) = climbs (suc j) (n - suc j) (omega arith) in
      omega (arith, start-end index j, rw e at c)

  entry' : (j : ℕ) → j < n → entry_of index' numbers' j ≡ entry_of index numbers j
  unfolding entry_of
  entry' j h =
      ap₂ (λ (a b : ℕ). slice a b numbers') (start' j (omega arith)) (end' j h)
      ∙ pasted-before numbers start list (omega (arith, enough, d.roomy)) (start_of index j) (end_of index j) (end_before j h)

  entry_here : entry_of index' numbers' n ≡ list
  unfolding entry_of
  entry_here =
      ap₂ (λ (a b : ℕ). slice a b numbers') (start' n (omega arith)) end-here
      ∙ pasted-here numbers start list (omega (arith, enough, d.roomy))

  pub added-entries : entries_of index' numbers' ≡ entries_of index numbers ++ (list ∷ [])
  unfolding entries_of listed
  added-entries =
      ap (listed (entry_of index' numbers')) (count' ∙ add-one n)
      ∙ ap₂ (λ (a : List (List ℕ)) (b : List ℕ). a ++ (b ∷ [])) (listed_same (entry_of index' numbers') (entry_of index numbers) n entry')
      entry_here

  pub added : Dictionary index' numbers'
  added =
      record {
        indexed = entered-length index n (start + length list) (hash_of list) d.indexed small below;
        roomy = length-paste numbers start list (length list) (omega (arith, enough, d.roomy)) (omega arith) ∙ d.roomy;
        few = omega (arith, count', small);
        first = start' 0 (omega arith) ∙ d.first;
        rising = λ j h. rises j (last_or j (omega (arith, count', h)));
        within = λ j h. inner j (last-or' j (omega (arith, count', h)));
        chained =
            subst (λ (k : ℕ). Chained (entry_of index' numbers') (head_of index') (link_of index') k) (sym (count' ∙ add-one n))
            (chained_more (entry_of index numbers) (entry_of index' numbers') n entry' (head_of index) (head_of index')
            (link_of index) (link_of index') d.chained (hash_of list) (ap hash_of (sym entry_here))
            (entered-head index n (start + length list) (hash_of list) d.indexed small below ∙ add-one n)
            (λ b h differs. other (1 + b) (omega arith) (omega (arith, differs)) (omega (arith, h)) (omega (arith, h)))
            (entered-link index n (start + length list) (hash_of list) d.indexed small below)
            (λ j h. other (16386 + j) (omega arith) (omega (arith, below)) (omega arith) (omega (arith, small))));
        different = λ i j hi hj e. apart i j e (last_or i (omega (arith, count', hi))) (last_or j (omega (arith, count', hj)));
      }
    where
      last_or : (j : ℕ) → j ≤ n → (j ≡ n) ⊎ (j < n)
      last_or j h = eq-or-lt_of_le h

      last-or' : (j : ℕ) → j ≤ suc n → (j ≡ suc n) ⊎ (j < suc n)
      last-or' j h = eq-or-lt_of_le h

      rises : (j : ℕ) → (j ≡ n) ⊎ (j < n) → start_of index' j ≤ end_of index' j
      rises j (inr h) = omega (arith, start' j (omega arith), end' j h, d.rising j h)
      rises j (inl e) = rw e (omega (arith, start' n (omega arith), end-here))

      inner : (j : ℕ) → (j ≡ suc n) ⊎ (j < suc n) → start_of index' j ≤ room
      inner j (inr h) = omega (arith, start' j (omega arith), d.within j (omega arith))
      inner j (inl e) = rw e (omega (arith, start-end index' n, end-here, enough))

      gone : (j : ℕ) → j < n → entry_of index numbers j ≡ list → ⊥
      gone j h e = absent j (at_entry d j list h e)

      apart : (i j : ℕ) → entry_of index' numbers' i ≡ entry_of index' numbers' j → (i ≡ n) ⊎ (i < n) → (j ≡ n) ⊎ (j < n) → i ≡ j
      apart i j e (inl a) (inl b) = a ∙ sym b
      apart i j e (inl a) (inr b) =
          absurd (gone j b (sym (entry' j b) ∙ sym e ∙ ap (entry_of index' numbers') a ∙ entry_here))
      apart i j e (inr a) (inl b) =
          absurd (gone i a (sym (entry' i a) ∙ e ∙ ap (entry_of index' numbers') b ∙ entry_here))
      apart i j e (inr a) (inr b) = d.different i j a b (sym (entry' i a) ∙ e ∙ entry' j b)

-- Where the answers come from.
pub interned-old : (list index numbers : List ℕ) (i : ℕ) → Dictionary index numbers → book.At (entries_of index numbers) i list
    → Interns list index numbers index numbers (Ok i)
interned-old list index numbers i d h = record { kept = d; told = (h, inl refl) }

pub interned-full : (list index numbers : List ℕ) → Dictionary index numbers → Absent (entries_of index numbers) list
    → (max_ids ≤ count_of index) ⊎ (room < start_of index (count_of index) + length list) → Interns list index numbers index numbers full
interned-full list index numbers d a h = record { kept = d; told = (refl, a, λ f. ⊎_elim (λ k. many f k) (λ k. long f k) h) }
  where
    many : Fits (entries_of index numbers) list → max_ids ≤ count_of index → ⊥
    many f k = omega (arith, f.0, count-is d)

    long : Fits (entries_of index numbers) list → room < start_of index (count_of index) + length list → ⊥
    long f k = omega (arith, f.1, numbers-is d)

pub fits-here : (list index numbers : List ℕ) → Dictionary index numbers → count_of index < max_ids
    → start_of index (count_of index) + length list ≤ room → Fits (entries_of index numbers) list
fits-here list index numbers d a b = (omega (arith, count-is d), omega (arith, numbers-is d))

pub interned-new : (list index numbers index' numbers' : List ℕ) (i : ℕ) → Dictionary index numbers → Absent (entries_of index numbers) list
    → Fits (entries_of index numbers) list
    → index' ≡ entered index (count_of index) (start_of index (count_of index) + length list) (hash_of list)
    → numbers' ≡ paste numbers (start_of index (count_of index)) list (length list) → i ≡ count_of index
    → Interns list index numbers index' numbers' (Ok i)
interned-new list index numbers index' numbers' i d a f ei en e =
    rw (ei, en)
    (record {
      kept = added index numbers list d a f;
      told =
          rw (added-entries index numbers list d a f) (
            subst (λ (k : ℕ). book.At (entries_of index numbers ++ (list ∷ [])) k list) (count-is d ∙ sym e)
                (at-end (entries_of index numbers) list),
            inr (refl, a, f),
          );
    })

pub interned-made : (list index numbers index' numbers' : List ℕ) (id start bucket : ℕ) → Dictionary index numbers
    → Absent (entries_of index numbers) list → id ≡ count_of index → start ≡ start_of index (count_of index) → bucket ≡ hash_of list
    → id < max_ids → start + length list ≤ room → index' ≡ entered index id (start + length list) bucket
    → numbers' ≡ paste numbers start list (length list) → Interns list index numbers index' numbers' (Ok id)
interned-made list index numbers index' numbers' id start bucket d a ec es eb few enough ei en =
    interned-new list index numbers index' numbers' id d a
    (fits-here list index numbers d (omega arith) (omega arith))
    (ei ∙ ap (λ (k : ℕ). entered index k (start + length list) bucket) ec
    ∙ ap₂ (λ (s b : ℕ). entered index (count_of index) (s + length list) b) es eb)
    (en ∙ ap (λ (s : ℕ). paste numbers s list (length list)) es) ec

pub cleared : (index numbers : List ℕ) → length index ≡ index_size → length numbers ≡ room → ((k : ℕ) → k < 8194 → get_or index k 0 ≡ 0)
    → Empty index numbers
unfolding entries_of listed
cleared index numbers size roomy zeros =
    record {
      kept = record {
        indexed = size;
        roomy = roomy;
        few = omega (arith, none);
        first = zeros 8193 (omega arith);
        rising = λ j h. absurd (omega (arith, none));
        within = λ j h. let e : 8193 + j ≡ 8193 = omega (arith, none) in rw e (omega (arith, zeros 8193 (omega arith)));
        chained = subst (λ (k : ℕ). Chained (entry_of index numbers) (head_of index) (link_of index) k) (sym none)
            (chained-none (λ b h. zeros (1 + b) (omega arith)));
        different = λ i j h k e. absurd (omega (arith, none));
      };
      none = ap (listed (entry_of index numbers)) none;
    }
  where
    none : count_of index ≡ 0
    none = zeros 0 (omega arith)

-- All of the index is 0.
pub zeros-all : (index : List ℕ) → index ≡ replicate (length index) 0 → (k : ℕ) → get_or index k 0 ≡ 0
zeros-all index is k = elim (cases k (length index)) [
  | inl h ↦ ap (λ (l : List ℕ). get_or l k 0) is ∙ get_or-replicate (length index) k 0 0 h
  | inr h ↦ get_or_past index k 0 (elim h [ inl e ↦ omega arith | inr l ↦ omega arith ])
]

-- An empty dictionary takes any list that is not longer than its room.
pub empty-takes : (list index numbers index' numbers' : List ℕ) (answer : Result ℕ NoRoom) → Empty index numbers → length list ≤ room
    → Interns list index numbers index' numbers' answer → answer ≡ full → ⊥
unfolding numbers_in
empty-takes list index numbers index' numbers' (Ok i) e h t is = let z : ◌≡◌ {A = ℕ} 0 1 = cc in omega arith
empty-takes list index numbers index' numbers' (Err _) e h t is =
    t.told.2 (rw e.none (omega arith, omega arith))

-- One number more is 0.
pub zeros-on : (index : List ℕ) (i : ℕ) → i < length index → ((k : ℕ) → k < i → get_or index k 0 ≡ 0)
    → (k : ℕ) → k < i + 1 → get_or (set index i 0) k 0 ≡ 0
zeros-on index i less zeros k h = let most : k ≤ i = omega arith in go (eq-or-lt_of_le most)
  where
    go : (k ≡ i) ⊎ (k < i) → get_or (set index i 0) k 0 ≡ 0
    go (inl e) = rw e (get_or-set_same index i 0 0 less)
    go (inr l) = get_or-set_other index i k 0 0 (omega arith) ∙ zeros k l

-- Lists of equal length that agree at every place are equal.
pub lists_agree : (a b : List ℕ) (i : ℕ) → length a ≡ length b → length a ≤ i → ((k : ℕ) → k < i → get_or a k 0 ≡ get_or b k 0) → a ≡ b
lists_agree a b i e most same = ext_get_or 0 a b e (λ k h. same k (omega arith))
