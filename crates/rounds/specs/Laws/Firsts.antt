-- The index of first items: a search along a bucket finds the lead of an item (`looking-found`, `looking-none`), and the index grows by
-- an item that leads (`indexed-on`) and stays by one that does not (`indexed-past`).
use Rattle.std.specs.Prelude.{ℕ, suc, ◌+◌, ◌%◌, ◌≤◌, ◌<◌, ◌≡◌, refl, Bool, true, false, List, ◌⊎◌, eqb, ltb, length, get_or, set}
use Rattle.std.proofs.Common.{arith, add-one, sym, ◌∙◌, ap, inl, inr, get_or-set_same}
use Rattle.std.proofs.Common.{get_or-set_other, eq-eqb, eqb-true, ltb-true, ltb-false}
use Rattle.bisimulation.specs.Finite.{related, lead}
use Rattle.bisimulation.proofs.Laws.Tests.{clash, both, same?, and-iff, fails}
use Rattle.bisimulation.proofs.Laws.Leads.{related-equivalence, lead_low, lead-lowest, lead-lead, lead-found, lead-related}
use Rattle.comparison.specs.Held.{open_below}
use Rattle.rounds.specs.Firsts.{bucket_prime, bucket_at, is_first_in, Indexed, Looking}
use Rattle.rounds.specs.declared.links.Buckets.{Buckets}
use Rattle.comparison.specs.Laws.Open.{open_none, open-yes, open_no, open-most, open_at}
use Rattle.comparison.specs.Laws.Down.{open-past}
use Rattle.comparison.specs.Laws.Steps.{below_one}

-- A number that passes is before the one that is told.
open-ahead : (p : ℕ → Bool) (e f : ℕ) → f < e → p f ≡ true → f < open_below p e
open-ahead p e f h t = go (both (ltb f (open_below p e)))
  where
    go : (ltb f (open_below p e) ≡ true) ⊎ (ltb f (open_below p e) ≡ false) → f < open_below p e
    go (inl b) = ltb-true f (open_below p e) b
    go (inr b) = absurd (clash t (open-past p e f (ltb-false f (open_below p e) b) h))

-- Numbers have buckets.
pub bucket-below : (list : List ℕ) (x : ℕ) → bucket_at list x < bucket_prime
bucket-below list x = omega arith

module _ (list : List ℕ) where
  -- What it is to be a first item in a bucket.
  first-in : (bucket y : ℕ) → lead (related list) y ≡ y → bucket_at list y ≡ bucket → is_first_in list bucket y ≡ true
  first-in bucket y leads same =
      (and-iff (eqb (lead (related list) y) y) (eqb (bucket_at list y) bucket)).1
      (eq-eqb (lead (related list) y) y leads, eq-eqb (bucket_at list y) bucket same)

  first-leads : (bucket y : ℕ) → is_first_in list bucket y ≡ true → lead (related list) y ≡ y
  first-leads bucket y t =
      eqb-true (lead (related list) y) y ((and-iff (eqb (lead (related list) y) y) (eqb (bucket_at list y) bucket)).0 t).0

  first-bucket : (bucket y : ℕ) → is_first_in list bucket y ≡ true → bucket_at list y ≡ bucket
  first-bucket bucket y t =
      eqb-true (bucket_at list y) bucket ((and-iff (eqb (lead (related list) y) y) (eqb (bucket_at list y) bucket)).0 t).1

  -- Items with one number are in one bucket.
  same-bucket : (y x : ℕ) → related list y x ≡ true → bucket_at list y ≡ bucket_at list x
  same-bucket y x t = ap (λ (v : ℕ). v % bucket_prime) (eqb-true (get_or list y 0) (get_or list x 0) t)

  -- ---- Search

  -- From a link that is told for the bucket of x, where no first item from e on has its number.
  looking-from : (x e : ℕ) → e ≤ x
      → ((y : ℕ) → y < x → lead (related list) y ≡ y → related list y x ≡ true → y < e)
      → Looking list x (open_below (is_first_in list (bucket_at list x)) e)
  looking-from x e h ahead =
      let p : ℕ → Bool = is_first_in list (bucket_at list x) in
      record {
        within = omega (arith, open-most p e);
        inside = λ y told. open_at p e y told;
        ahead = λ y below leads t. open-ahead p e y (ahead y below leads t) (first-in (bucket_at list x) y leads (same-bucket y x t));
      }

  module _ (stored : Buckets) (x : ℕ) (index : Indexed list stored x) where
    pub looking-start : Looking list x (get_or stored.heads (bucket_at list x) 0)
    looking-start =
        rw (index.head (bucket_at list x) (bucket-below list x)) (looking-from x x (omega arith) (λ y below leads t. below))

    module _ (y : ℕ) (at : Looking list x (suc y)) where
      first-there : is_first_in list (bucket_at list x) y ≡ true
      first-there = at.inside y refl

      -- The next link is told for the items before this one.
      next-told : get_or stored.links y 0 ≡ open_below (is_first_in list (bucket_at list x)) y
      next-told =
          index.link y (omega (arith, at.within)) (first-leads (bucket_at list x) y first-there)
          ∙ ap (λ (b : ℕ). open_below (is_first_in list b) y) (first-bucket (bucket_at list x) y first-there)

      pub next-falls : get_or stored.links y 0 ≤ y
      next-falls = omega (arith, next-told, open-most (is_first_in list (bucket_at list x)) y)

      pub looking-on : ¬ (get_or list y 0 ≡ get_or list x 0) → Looking list x (get_or stored.links y 0)
      looking-on differs =
          rw next-told
          (looking-from x y (omega (arith, at.within))
          (λ z below leads t.
          let other : z ≡ y → ⊥ = λ same.
          differs (ap (λ (w : ℕ). get_or list w 0) (sym same) ∙ eqb-true (get_or list z 0) (get_or list x 0) t) in
          omega (arith, at.ahead z below leads t, other)))

      -- A first item with the number of x is its lead.
      pub looking-found : get_or list y 0 ≡ get_or list x 0 → lead (related list) x ≡ y
      looking-found same =
          let leads : lead (related list) y ≡ y = first-leads (bucket_at list x) y first-there in
          lead-found (related list) x y (omega (arith, at.within)) (eq-eqb (get_or list y 0) (get_or list x 0) same)
          (λ z h.
          ap (λ (v : ℕ). eqb (get_or list z 0) v) (sym same)
          ∙ lead-lowest (related list) y z (omega (arith, h, leads)))

    -- Where none is left, x leads.
    pub looking-none : Looking list x 0 → lead (related list) x ≡ x
    looking-none at = go (same? (lead (related list) x) x)
      where
        go : (lead (related list) x ≡ x) ⊎ (¬ (lead (related list) x ≡ x)) → lead (related list) x ≡ x
        go (inl same) = same
        go (inr other) =
            absurd (omega (
              arith,
              at.ahead (lead (related list) x) (omega (arith, lead_low (related list) x, other))
                  (lead-lead (related-equivalence (suc x) list) x (omega arith))
                  (lead-related (related list) x (eq-eqb (get_or list x 0) (get_or list x 0) refl)),
            ))

  -- ---- The index

  pub indexed-none : (stored : Buckets) → ((b : ℕ) → get_or stored.heads b 0 ≡ 0) → Indexed list stored 0
  indexed-none stored none =
      record {
        head = λ bucket h. none bucket ∙ sym (open_none (is_first_in list bucket));
        link = λ y h leads. absurd (omega arith);
      }

  module _ (stored : Buckets) (x : ℕ) (index : Indexed list stored x) where
    -- An item that does not lead is in no bucket.
    pub indexed-past : ¬ (lead (related list) x ≡ x) → Indexed list stored (x + 1)
    indexed-past other =
        record {
          head = λ bucket h.
              index.head bucket h
              ∙ sym (ap (open_below (is_first_in list bucket)) (add-one x)
              ∙ open_no (is_first_in list bucket) x (fails (is_first_in list bucket x) (λ t. other (first-leads bucket x t))));
          link = λ y h leads. go y leads (below_one h);
        }
      where
        go : (y : ℕ) → lead (related list) y ≡ y → (y ≡ x) ⊎ (y < x)
            → get_or stored.links y 0 ≡ open_below (is_first_in list (bucket_at list y)) y
        go y leads (inl same) = absurd (other (ap (lead (related list)) (sym same) ∙ leads ∙ same))
        go y leads (inr below) = index.link y below leads

    -- One that leads is the new head of its bucket, and links to the old one.
    pub indexed-on : bucket_prime ≤ length stored.heads → x < length stored.links → lead (related list) x ≡ x
        → Indexed list (record {
          heads = set stored.heads (bucket_at list x) (x + 1);
          links = set stored.links x (get_or stored.heads (bucket_at list x) 0);
        }) (x + 1)
    indexed-on buckets room leads =
        record {
          head = λ bucket h. heads-on bucket h (same? bucket (bucket_at list x));
          link = λ y h leads. links-on y leads (below_one h);
        }
      where
        heads-on : (bucket : ℕ) → bucket < bucket_prime → (bucket ≡ bucket_at list x) ⊎ (¬ (bucket ≡ bucket_at list x))
            → get_or (set stored.heads (bucket_at list x) (x + 1)) bucket 0 ≡ open_below (is_first_in list bucket) (x + 1)
        heads-on bucket h (inl same) =
            rw same (get_or-set_same stored.heads (bucket_at list x) (x + 1) 0 (omega (arith, bucket-below list x, buckets)))
            ∙ add-one x
            ∙ sym (ap (open_below (is_first_in list bucket)) (add-one x)
            ∙ open-yes (is_first_in list bucket) x (first-in bucket x leads (sym same)))
        heads-on bucket h (inr other) =
            get_or-set_other stored.heads (bucket_at list x) bucket (x + 1) 0 other
            ∙ index.head bucket h
            ∙ sym (ap (open_below (is_first_in list bucket)) (add-one x)
            ∙ open_no (is_first_in list bucket) x (fails (is_first_in list bucket x) (λ t. other (sym (first-bucket bucket x t)))))

        links-on : (y : ℕ) → lead (related list) y ≡ y → (y ≡ x) ⊎ (y < x)
            → get_or (set stored.links x (get_or stored.heads (bucket_at list x) 0)) y 0
            ≡ open_below (is_first_in list (bucket_at list y)) y
        links-on y first (inl same) =
            rw same (get_or-set_same stored.links x (get_or stored.heads (bucket_at list x) 0) 0 room
            ∙ index.head (bucket_at list x) (bucket-below list x))
        links-on y first (inr below) =
            get_or-set_other stored.links x y (get_or stored.heads (bucket_at list x) 0) 0 (λ same. omega (arith, same, below))
            ∙ index.link y below first
