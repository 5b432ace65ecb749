-- A number put into a rising list that stands in the first numbers of a slice.
use Prim.Native.Nat.{ℕ, zero, suc, ◌+◌, ◌-◌, ◌≤◌, ◌<◌}
use native.Mathlib.Omega.{arith}
use Rattle.std.proofs.Common.{eq-or-lt_of_le, ◌∙◌, subst, inl, inr, ⊎_elim, length-append, take-append-drop, take-take}
use Rattle.std.proofs.Common.{lt-ltb, le-ltb, eq-eqb, ne_eqb}
use Rattle.std.specs.Prelude.{◌≡◌, refl, ◌⊎◌, take, set}
use Rattle.std.proofs.Math.Path.{sym, ap}
use mathlib.Core.List.{List, [], ◌∷◌, ◌++◌, Memᴰ}
use Rattle.std.proofs.Math.ListN.{length, get_or, drop, length-set, length-drop, get_or-append}
use Rattle.std.proofs.Math.Seq.{get_or-set_same, get_or-set_other, get_or-take, get_or-drop, length-take-le, ext_get_or, get_or-append-add}
use Rattle.std.proofs.Math.Seq.{get_or-append_seam}
use Rattle.std.specs.Prelude.{Result, Ok, Err, ltb, eqb}
use Rattle.std.specs.Ordering.{nat_cmp}
use Rattle.std.specs.List.{insert}
use Rattle.std.specs.List.Sorted.{IsBinarySearchResult}
use Rattle.std.proofs.lemmas.List.Sorted.{searched}
use Rattle.signatures.specs.Laws.Sets.{both}
use Rattle.signatures.specs.Laws.Order.{cases}
use Rattle.signatures.specs.Sets.{put_in, PutAt, Rising, Place, Shifted, Inserted}

-- ---- Places and members

at_mem : (l : List ℕ) (j : ℕ) → j < length l → Memᴰ (get_or l j 0) l
at_mem [] j h = absurd (omega arith)
at_mem (x ∷ l) zero h = Memᴰ.head refl
at_mem (x ∷ l) (suc j) h = Memᴰ.tail (at_mem l j (omega arith))

mem-at : (u : ℕ) (l : List ℕ) → Memᴰ u l → (j : ℕ) × (j < length l) × (get_or l j 0 ≡ u)
mem-at u [] m = elim m [ ]
mem-at u (x ∷ l) (Memᴰ.head e) = (0, omega arith, sym e)
mem-at u (x ∷ l) (Memᴰ.tail m) = let k = mem-at u l m in (suc k.0, omega (arith, k.1), k.2)

rising-at : (l : List ℕ) (i j : ℕ) → Rising l → i < j → j < length l → get_or l i 0 < get_or l j 0
rising-at [] i j r h k = absurd (omega arith)
rising-at (x ∷ l) i zero r h k = absurd (omega arith)
rising-at (x ∷ l) zero (suc j) r h k = r.0 (get_or l j 0) (at_mem l j (omega arith))
rising-at (x ∷ l) (suc i) (suc j) r h k = rising-at l i j r.1 (omega arith) (omega arith)

rising-upto : (l : List ℕ) → Rising l → (i j : ℕ) → i ≤ j → j < length l → get_or l i 0 ≤ get_or l j 0
rising-upto l r i j h k = go (eq-or-lt_of_le h)
  where
    go : (i ≡ j) ⊎ (i < j) → get_or l i 0 ≤ get_or l j 0
    go (inl e) = rw e (omega arith)
    go (inr m) = omega (arith, rising-at l i j r m k)

-- ---- Where a number is put

put_first : (v : ℕ) (b : List ℕ) → ((u : ℕ) → Memᴰ u b → v < u) → put_in v b ≡ v ∷ b
put_first v [] h = refl
put_first v (x ∷ b) h = rw (lt-ltb v x (h x (Memᴰ.head refl)))

put-middle : (v : ℕ) (a b : List ℕ) → ((u : ℕ) → Memᴰ u a → u < v) → ((u : ℕ) → Memᴰ u b → v < u) → put_in v (a ++ b) ≡ a ++ v ∷ b
put-middle v [] b lo hi = put_first v b hi
put-middle v (x ∷ a) b lo hi =
    let less : x < v = lo x (Memᴰ.head refl) in
    rw (le-ltb v x (omega arith), ne_eqb v x (omega arith))
    (ap (λ (l : List ℕ). x ∷ l) (put-middle v a b (λ u m. lo u (Memᴰ.tail m)) hi))

put-again : (v : ℕ) (l : List ℕ) → Rising l → Memᴰ v l → put_in v l ≡ l
put-again v [] r m = elim m [ ]
put-again v (x ∷ l) r (Memᴰ.head e) = rw (le-ltb v x (omega arith), eq-eqb v x e)
put-again v (x ∷ l) r (Memᴰ.tail m) =
    let less : x < v = r.0 v m in
    rw (le-ltb v x (omega arith), ne_eqb v x (omega arith)) (ap (λ (k : List ℕ). x ∷ k) (put-again v l r.1 m))

pub put-size : (v : ℕ) (l : List ℕ) → length (put_in v l) ≤ length l + 1
put-size v [] = omega arith
put-size v (x ∷ l) =
    elim (both (ltb v x)) [
      | inl e ↦ rw e (omega arith)
      | inr e ↦ rw e (elim (both (eqb v x)) [
        | inl f ↦ rw f (omega arith)
        | inr f ↦ rw f (omega (arith, put-size v l))
      ])
    ]

-- ---- What a search in a rising list says

module _ (v : ℕ) (l : List ℕ) (r : Rising l) (i : ℕ) where
  -- The number is there.
  pub searched-there : IsBinarySearchResult (λ y. nat_cmp y v) l (Ok i) → l ≡ put_in v l
  searched-there s =
      let at = searched l v (Ok i) s (rising-upto l r) in
      sym (put-again v l r (subst (λ (u : ℕ). Memᴰ u l) at.1 (at_mem l i at.0)))

  -- The number is new: what is before the place is below it, and what is from there on above it.
  put-at : i ≤ length l → ((k : ℕ) → k < i → get_or l k 0 < v) → ((k : ℕ) → i ≤ k → k < length l → v < get_or l k 0)
      → insert l i v ≡ put_in v l
  put-at within below above =
      let size : length (take i l) ≡ i = length-take-le i l within in
      sym (ap (put_in v) (sym (take-append-drop i l)) ∙ put-middle v (take i l) (drop i l)
      (λ u m. let k = mem-at u (take i l) m in
      let less : k.0 < i = omega (arith, k.1, size) in
      omega (arith, k.2, get_or-take i l k.0 0 less, below k.0 less))
      (λ u m. let k = mem-at u (drop i l) m in
      omega (
        arith,
        k.2,
        get_or-drop i l k.0 0,
        above (i + k.0) (omega arith) (omega (arith, k.1, length-drop i l)),
      )))

  pub searched_new : IsBinarySearchResult (λ y. nat_cmp y v) l (Err i) → insert l i v ≡ put_in v l
  searched_new s =
      let at = searched l v (Err i) s (rising-upto l r) in
      put-at at.0 at.1 at.2

  -- The list has no number, or the last one is below it.
  pub past_last : i ≡ length l → (0 < i → get_or l (i - 1) 0 < v) → insert l i v ≡ put_in v l
  past_last e below =
      put-at (omega (arith, e))
      (λ k h. omega (arith, below (omega (arith, h)), rising-upto l r k (i - 1) (omega (arith, h)) (omega (arith, h, e))))
      (λ k h m. absurd (omega (arith, h, m, e)))

  -- The last number of the list is it.
  pub at_last : 0 < length l → i ≡ length l - 1 → get_or l i 0 ≡ v → l ≡ put_in v l
  at_last some e is = sym (put-again v l r (subst (λ (u : ℕ). Memᴰ u l) is (at_mem l i (omega (arith, some, e)))))

pub searched_put : (v : ℕ) (l : List ℕ) → Rising l → (a : Result ℕ ℕ) → IsBinarySearchResult (λ y. nat_cmp y v) l a → PutAt v l a
searched_put v l r (Ok i) s = searched-there v l r i s
searched_put v l r (Err i) s = ((searched l v (Err i) s (rising-upto l r)).0, searched_new v l r i s)

-- ---- A set in the first numbers of a slice

module _ (v len : ℕ) (list : List ℕ) (room : len < length list) (r : Rising (take len list)) (i : ℕ) (p : Place v len list i) where
  size_is : length (take len list) ≡ len
  size_is = length-take-le len list (omega arith)

  -- The number is there.
  pub inserted-there : 0 < i → get_or list (i - 1) 0 ≡ v → Inserted v len list list len
  inserted-there some e =
      record {
        put = sym (put-again v (take len list) r
            (subst (λ (u : ℕ). Memᴰ u (take len list)) (get_or-take len list (i - 1) 0 (omega (arith, p.within)) ∙ e)
            (at_mem (take len list) (i - 1) (omega (arith, size_is, p.within)))));
        short = omega arith;
        size = refl;
      }

  a : List ℕ
  a = take i list

  b : List ℕ
  b = drop i (take len list)

  split : take len list ≡ a ++ b
  unfolding a b
  split = sym (take-append-drop i (take len list)) ∙ ap (λ (l : List ℕ). l ++ drop i (take len list)) (take-take i len list p.within)

  a-size : length a ≡ i
  unfolding a
  a-size = length-take-le i list (omega (arith, p.within))

  b-size : length b ≡ len - i
  unfolding b
  b-size = omega (arith, length-drop i (take len list), size_is)

  a_at : (k : ℕ) → k < i → get_or a k 0 ≡ get_or list k 0
  unfolding a
  a_at k h = get_or-take i list k 0 h

  b_at : (k : ℕ) → i + k < len → get_or b k 0 ≡ get_or list (i + k) 0
  unfolding b
  b_at k h = get_or-drop i (take len list) k 0 ∙ get_or-take len list (i + k) 0 h

  -- The number is new: what is from its place on has moved up, and it stands there.
  module _ (fresh : 0 < i → get_or list (i - 1) 0 ≡ v → ⊥) (list' : List ℕ) (s : Shifted i len list list') where
    low : (u : ℕ) → Memᴰ u a → u < v
    low u m =
        let k = mem-at u a m in
        let less : k.0 < i = omega (arith, k.1, a-size) in
        let e : get_or list k.0 0 ≡ u = sym (a_at k.0 less) ∙ k.2 in
        let last : get_or list (i - 1) 0 < v = omega (arith, p.below (omega arith), fresh (omega arith)) in
        ⊎_elim (λ (same : k.0 ≡ i - 1). omega (arith, ap (λ (n : ℕ). get_or list n 0) same))
        (λ (lt : k.0 < i - 1). omega (arith, rises k.0 (i - 1) lt (omega (arith, p.within))))
        (let most : k.0 ≤ i - 1 = omega arith in eq-or-lt_of_le most)
      where
        rises : (x y : ℕ) → x < y → y < len → get_or list x 0 < get_or list y 0
        rises x y h k =
            omega (
              arith,
              rising-at (take len list) x y r h (omega (arith, size_is)),
              get_or-take len list x 0
                  (omega arith),
              get_or-take len list y 0 k,
            )

    high : (u : ℕ) → Memᴰ u b → v < u
    high u m =
        let k = mem-at u b m in
        let less : i + k.0 < len = omega (arith, k.1, b-size, p.within) in
        omega (arith, b_at k.0 less, k.2, p.above (i + k.0) (omega arith) less)

    new : List ℕ
    new = set list' i v

    new-size : length (take (len + 1) new) ≡ len + 1
    unfolding new
    new-size = length-take-le (len + 1) (set list' i v) (omega (arith, length-set list' i v, s.size))

    goal-size : length (a ++ v ∷ b) ≡ len + 1
    goal-size = omega (arith, length-append a (v ∷ b), a-size, b-size, p.within)

    agree : (k : ℕ) → k < len + 1 → get_or (take (len + 1) new) k 0 ≡ get_or (a ++ v ∷ b) k 0
    unfolding new
    agree k h = get_or-take (len + 1) new k 0 h ∙ go (cases k i)
      where
        go : (k < i) ⊎ ((k ≡ i) ⊎ (i < k)) → get_or new k 0 ≡ get_or (a ++ v ∷ b) k 0
        go (inl l) =
            get_or-set_other list' i k v 0 (omega arith) ∙ s.low k l ∙ sym (a_at k l)
            ∙ sym (get_or-append a (v ∷ b) 0 k (omega (arith, a-size)))
        go (inr (inl e)) =
            ap (λ (n : ℕ). get_or new n 0) e ∙ get_or-set_same list' i v 0 (omega (arith, s.size, p.within))
            ∙ sym (get_or-append_seam a v b 0) ∙ ap (λ (n : ℕ). get_or (a ++ v ∷ b) n 0) (a-size ∙ sym e)
        go (inr (inr l)) =
            let e : k ≡ length a + suc (k - 1 - i) = omega (arith, a-size) in
            let f : i + (k - 1 - i) ≡ k - 1 = omega arith in
            get_or-set_other list' i k v 0 (omega arith) ∙ s.high k l (omega arith)
            ∙ ap (λ (n : ℕ). get_or list n 0) (sym f) ∙ sym (b_at (k - 1 - i) (omega arith))
            ∙ sym (ap (λ (n : ℕ). get_or (a ++ v ∷ b) n 0) e ∙ get_or-append-add a (v ∷ b) (suc (k - 1 - i)) 0)

    pub inserted_new : Inserted v len list (set list' i v) (len + 1)
    unfolding new
    inserted_new =
        record {
          put = ext_get_or 0 (take (len + 1) new) (a ++ v ∷ b) (new-size ∙ sym goal-size) (λ k h. agree k (omega (arith, new-size)))
              ∙ sym (put-middle v a b low high) ∙ ap (put_in v) (sym split);
          short = omega arith;
          size = length-set list' i v ∙ s.size;
        }

-- ---- A turn of the shift

pub shifting-start : (len : ℕ) (list : List ℕ) → Shifted len len list list
shifting-start len list = record { low = λ k h. refl; high = λ k h l. absurd (omega arith); size = refl }

pub shifting-on : (j len : ℕ) (list list' : List ℕ) → 0 < j → j ≤ len → len < length list → Shifted j len list list'
    → Shifted (j - 1) len list (set list' j (get_or list' (j - 1) 0))
shifting-on j len list list' some most room s =
    record {
      low = λ k h. get_or-set_other list' j k (get_or list' (j - 1) 0) 0 (omega arith) ∙ s.low k (omega arith);
      high = λ k h l. go k l (let m : j ≤ k = omega arith in eq-or-lt_of_le m);
      size = length-set list' j (get_or list' (j - 1) 0) ∙ s.size;
    }
  where
    go : (k : ℕ) → k ≤ len → (j ≡ k) ⊎ (j < k) → get_or (set list' j (get_or list' (j - 1) 0)) k 0 ≡ get_or list (k - 1) 0
    go k l (inl e) =
        ap (λ (n : ℕ). get_or (set list' j (get_or list' (j - 1) 0)) n 0) (sym e)
        ∙ get_or-set_same list' j (get_or list' (j - 1) 0) 0 (omega (arith, s.size)) ∙ s.low (j - 1) (omega arith)
        ∙ ap (λ (n : ℕ). get_or list (n - 1) 0) e
    go k l (inr h) = get_or-set_other list' j k (get_or list' (j - 1) 0) 0 (omega arith) ∙ s.high k h l

-- One number more is above.
pub above_more : (v len : ℕ) (list : List ℕ) (i : ℕ) → 0 < i → ((k : ℕ) → i ≤ k → k < len → v < get_or list k 0) → v < get_or list (i - 1) 0
    → (k : ℕ) → i - 1 ≤ k → k < len → v < get_or list k 0
above_more v len list i some above here k h l = go (eq-or-lt_of_le h)
  where
    go : (i - 1 ≡ k) ⊎ (i - 1 < k) → v < get_or list k 0
    go (inl e) = rw (sym e) here
    go (inr m) = above k (omega arith) l
