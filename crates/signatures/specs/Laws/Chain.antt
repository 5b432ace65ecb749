-- Laws of a chained index: searching along a bucket, and one list more.
use Rattle.std.specs.Prelude.{ℕ, zero, suc, ◌+◌, ◌*◌, ◌/◌, ◌%◌, ◌≤◌, ◌<◌, ◌≡◌, Bool, true, false, cond, List, [], ◌∷◌, eqb, length}
use Rattle.std.specs.Prelude.{get_or, drop}
use Rattle.std.proofs.Common.{arith, ◌∙◌, ap, add-one, drop_of_length-le, drop-cons}
use Rattle.std.proofs.Math.Path.{refl, sym}
use Rattle.std.proofs.lemmas.Bool.{false≢true}
use borrow.Author.Tests.{eq-eqb, eqb-true, eqb-false}
use Rattle.signatures.specs.Chain.{buckets, mixed, stirred, hash_of, last, in_bucket, Chained}

mixed-below : (h : ℕ) (l : List ℕ) → mixed h l < buckets
unfolding mixed
mixed-below h [] = omega arith
mixed-below h (x ∷ l) = mixed-below ((h + x) * 1540483477 % 4294967296) l

pub hash-below : (l : List ℕ) → hash_of l < buckets
unfolding hash_of
hash-below l = mixed-below 0 l

pub hash-is : (l : List ℕ) → hash_of l ≡ stirred 0 l / 524288 % 8192
unfolding hash_of mixed stirred
hash-is l = go 0 l
  where
    go : (h : ℕ) (l : List ℕ) → mixed h l ≡ stirred h l / 524288 % 8192
    go h [] = refl
    go h (x ∷ l) = go ((h + x) * 1540483477 % 4294967296) l

-- A turn of the loop that mixes, its start and its end.
pub mixed-on : (l : List ℕ) (h i : ℕ) → i < length l
    → mixed ((h + get_or l i 0) * 1540483477 % 4294967296) (drop (i + 1) l) ≡ mixed h (drop i l)
unfolding mixed
mixed-on l h i less = rw (add-one, drop-cons l i 0 less)

pub mixed-start : (l : List ℕ) → mixed 0 (drop 0 l) ≡ hash_of l
unfolding hash_of
mixed-start l = refl

pub mixed-end : (l : List ℕ) (h i : ℕ) → length l ≤ i → mixed h (drop i l) ≡ hash_of l → h / 524288 % 8192 ≡ hash_of l
unfolding mixed
mixed-end l h i most e = ap (mixed h) (sym (drop_of_length-le l most)) ∙ e

-- ---- The last number that passes a test: it is below n and passes, and none that passes is after it

pub last-most : (p : ℕ → Bool) (n : ℕ) → last p n ≤ n
unfolding last
last-most p zero = omega arith
last-most p (suc n) = go (p n) (last-most p n)
  where
    go : (b : Bool) → last p n ≤ n → cond b (suc n) (last p n) ≤ suc n
    go true h = omega arith
    go false h = omega arith

last-passes : (p : ℕ → Bool) (n j : ℕ) → last p n ≡ suc j → p j ≡ true
unfolding last
last-passes p zero j e = absurd (omega arith)
last-passes p (suc n) j e = go (p n) refl e (last-passes p n j)
  where
    go : (b : Bool) → p n ≡ b → cond b (suc n) (last p n) ≡ suc j → (last p n ≡ suc j → p j ≡ true) → p j ≡ true
    go true h e rest = let same : j ≡ n = omega arith in ap p same ∙ h
    go false h e rest = rest e

last-covers : (p : ℕ → Bool) (n j : ℕ) → j < n → p j ≡ true → j < last p n
unfolding last
last-covers p zero j h t = absurd (omega arith)
last-covers p (suc n) j h t = go (p n) refl (last-covers p n j)
  where
    go : (b : Bool) → p n ≡ b → (j < n → p j ≡ true → j < last p n) → j < cond b (suc n) (last p n)
    go true e rest = h
    go false e rest =
        let other : j ≡ n → ⊥ = λ same. false≢true (sym e ∙ ap p (sym same) ∙ t) in
        rest (omega (arith, other)) t

last-same : (p q : ℕ → Bool) (n : ℕ) → ((j : ℕ) → j < n → p j ≡ q j) → last p n ≡ last q n
unfolding last
last-same p q zero same = refl
last-same p q (suc n) same = rw (same n (omega arith), last-same p q n (λ j h. same j (omega arith)))

-- ---- Search

-- The search for a list has come to a link: a list that is equal is before it, and what it links to is in the list's bucket.
pub record Walking (entry : ℕ → List ℕ) (n : ℕ) (list : List ℕ) (link : ℕ) : Type 0 where
  pub within : link ≤ n
  pub inside : (j : ℕ) → link ≡ suc j → hash_of (entry j) ≡ hash_of list
  pub ahead : (j : ℕ) → j < n → entry j ≡ list → j < link

module _ {entry : ℕ → List ℕ} {head link : ℕ → ℕ} {n : ℕ} (chained : Chained entry head link n) (list : List ℕ) where
  pub walking_start : Walking entry n list (head (hash_of list))
  walking_start =
      let p : ℕ → Bool = in_bucket entry (hash_of list) in
      let is : head (hash_of list) ≡ last p n = chained.heads (hash_of list) (hash-below list) in
      rw is (record {
        within = last-most p n;
        inside = λ j e. eqb-true (hash_of (entry j)) (hash_of list) (last-passes p n j e);
        ahead = λ j h same. last-covers p n j h (eq-eqb (hash_of (entry j)) (hash_of list) (ap hash_of same));
      })

  -- The list of the link is another: the search goes on to the next link, which is lower.
  module _ (at : ℕ) (w : Walking entry n list (suc at)) where
    chain : ℕ → Bool
    chain = in_bucket entry (hash_of (entry at))

    next_last : link at ≡ last chain at
    unfolding chain
    next_last = chained.links at w.within

    pub next-falls : link at < suc at
    next-falls = omega (arith, next_last, last-most chain at)

    pub walking_on : (entry at ≡ list → ⊥) → Walking entry n list (link at)
    unfolding chain
    walking_on differs =
        let here : hash_of (entry at) ≡ hash_of list = w.inside at refl in
        rw next_last (record {
          within = omega (arith, w.within, last-most chain at);
          inside = λ j e. eqb-true (hash_of (entry j)) (hash_of (entry at)) (last-passes chain at j e) ∙ here;
          ahead = λ j h same.
              let other : j ≡ at → ⊥ = λ e. differs (ap entry (sym e) ∙ same) in
              last-covers chain at j (omega (arith, w.ahead j h same, other))
              (eq-eqb (hash_of (entry j)) (hash_of (entry at)) (ap hash_of same ∙ sym here));
        })

-- ---- One list more

pub chained-none : {entry : ℕ → List ℕ} {head link : ℕ → ℕ} → ((b : ℕ) → b < buckets → head b ≡ 0) → Chained entry head link 0
unfolding last
chained-none zeros = record { heads = zeros; links = λ j h. absurd (omega arith) }

-- List n is linked in: its bucket's head links to it, and it to where the head did.
module _ (entry entry' : ℕ → List ℕ) (n : ℕ) (same : (j : ℕ) → j < n → entry' j ≡ entry j) where
  bucket-same : (bucket m : ℕ) → m ≤ n → last (in_bucket entry bucket) m ≡ last (in_bucket entry' bucket) m
  bucket-same bucket m few =
      last-same (in_bucket entry bucket) (in_bucket entry' bucket) m
      (λ j h. ap (λ (l : List ℕ). eqb (hash_of l) bucket) (sym (same j (omega arith))))

  pub chained_more : (head head' link link' : ℕ → ℕ) → Chained entry head link n → (own : ℕ) → own ≡ hash_of (entry' n) → head' own ≡ suc n
      → ((b : ℕ) → b < buckets → (b ≡ own → ⊥) → head' b ≡ head b)
      → link' n ≡ head own → ((j : ℕ) → j < n → link' j ≡ link j) → Chained entry' head' link' (suc n)
  unfolding last
  chained_more head head' link link' chained own is first others next before =
      record {
        heads = λ b h. heads-on b h (eqb (hash_of (entry' n)) b) refl;
        links = λ j h. links-on j h (eqb j n) refl;
      }
    where
      below : own < buckets
      below = rw is (hash-below (entry' n))

      heads-on : (b : ℕ) → b < buckets → (t : Bool) → eqb (hash_of (entry' n)) b ≡ t
          → head' b ≡ cond (eqb (hash_of (entry' n)) b) (suc n) (last (in_bucket entry' b) n)
      heads-on b h true e =
          ap head' (sym (eqb-true (hash_of (entry' n)) b e) ∙ sym is) ∙ first
          ∙ sym (ap (λ (t : Bool). cond t (suc n) (last (in_bucket entry' b) n)) e)
      heads-on b h false e =
          others b h (λ same. eqb-false (hash_of (entry' n)) b e (sym is ∙ sym same))
          ∙ chained.heads b h ∙ bucket-same b n (omega arith)
          ∙ sym (ap (λ (t : Bool). cond t (suc n) (last (in_bucket entry' b) n)) e)

      links-on : (j : ℕ) → j < suc n → (t : Bool) → eqb j n ≡ t → link' j ≡ last (in_bucket entry' (hash_of (entry' j))) j
      links-on j h true e =
          rw (eqb-true j n e, ← is) (next ∙ chained.heads own below ∙ bucket-same own n (omega arith))
      links-on j h false e =
          let less : j < n = omega (arith, eqb-false j n e) in
          before j less ∙ chained.links j less ∙ bucket-same (hash_of (entry j)) j (omega arith)
          ∙ ap (λ (l : List ℕ). last (in_bucket entry' (hash_of l)) j) (sym (same j less))
