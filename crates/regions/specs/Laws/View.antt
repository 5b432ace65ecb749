-- Laws on the graph as the layers above see it: numbers of regions, and labels. In a graph that was listed whole, delays and
-- steps lead to numbers of regions, and the region of that number is the one that follows, or the one landed in.
use Rattle.std.specs.Prelude.{ℕ, suc, ◌+◌, ◌≤◌, ◌<◌, ◌≡◌, refl, Bool, true, false, cond, length, get_or, drop}
use Rattle.std.proofs.Common.{arith, add-one, sym, ◌∙◌, subst, drop_of_length-le, drop-cons}
use Rattle.std.proofs.Math.Path.{ap}
use mathlib.Core.List.Memᴰ
use mathlib.Core.List.{List, [], ◌∷◌, Memᴰ}
use Rattle.table.specs.Model.{Model, Edge}
use Rattle.table.specs.declared.model.Branch.{Branch}
use Rattle.regions.specs.Graph.{bounds_of, landing, available, delay_next, Leads, by-delay, by-edge, led}
use Rattle.regions.specs.Graph.{DelaysTo, stays, goes}
use Rattle.regions.specs.Explore.{same_region, same_true, same_refl}
use Rattle.regions.specs.View.{number_in, label_of}
use Rattle.regions.specs.Laws.Call.{false-true, gathers}
use Rattle.regions.specs.Order.{AllRegions}
use Rattle.regions.specs.Laws.Graph.{edge-some}
use Rattle.regions.specs.Laws.Locations.{delay-location}
use Rattle.regions.specs.Laws.Worklist.{member}
use Rattle.regions.specs.Worklist.{Different}
use Rattle.clocks.specs.declared.region.Region.{Region}

-- A number of a list, whose region is this one.
pub record NumberOf (found : List Region) (r : Region) (n : ℕ) : Type 0 where
  pub inside : n < length found
  pub is : (d : Region) → get_or found n d ≡ r

-- A region of a list has a number in it.
pub has-number : (found : List Region) (r : Region) → Memᴰ r found → NumberOf found r (number_in found r)
unfolding number_in
has-number [] r n = absurd (Memᴰ.not-nil n)
has-number (q ∷ l) r n = go (same_region r q) refl n (λ t. has-number l r t)
  where
    go : (b : Bool) → same_region r q ≡ b → Memᴰ r (q ∷ l) → (Memᴰ r l → NumberOf l r (number_in l r))
        → NumberOf (q ∷ l) r (cond b 0 (suc (number_in l r)))
    go true e n later = record { inside = omega arith; is = λ d. sym (same_true r q e) }
    go false e (Memᴰ.head p) later = false-true (sym e ∙ ap (same_region r) (sym p) ∙ same_refl r)
    go false e (Memᴰ.tail t) later =
        let k = later t in record { inside = omega (arith, k.inside); is = λ d. k.is d }

-- What has a number in a list is one of its regions.
pub number-listed : (found : List Region) (r : Region) → number_in found r < length found → Memᴰ r found
unfolding number_in
number-listed [] r h = absurd (omega arith)
number-listed (q ∷ l) r h = go (same_region r q) refl h (number-listed l r)
  where
    go : (b : Bool) → same_region r q ≡ b → cond b 0 (suc (number_in l r)) < suc (length l)
        → (number_in l r < length l → Memᴰ r l) → Memᴰ r (q ∷ l)
    go true e h later = Memᴰ.head (same_true r q e)
    go false e h later = Memᴰ.tail (later (omega arith))

-- In a list of different regions the region with a number has that number.
pub number_at : (found : List Region) → Different found → (d : Region) (j : ℕ) → j < length found
    → number_in found (get_or found j d) ≡ j
number_at found different d j h =
    let k = has-number found (get_or found j d) (member d found j h) in
    different d (number_in found (get_or found j d)) j k.inside h (k.is d)

-- Looking for a region in a list, from place j on.
pub number-start : (l : List Region) (q : Region) → number_in l q ≡ 0 + number_in (drop 0 l) q
number-start l q = omega arith

module _ (l : List Region) (q : Region) (j : ℕ) (d : Region) (so_far : number_in l q ≡ j + number_in (drop j l) q) (inside : j < length l)
  where
    first-of-rest : number_in (drop j l) q ≡ cond (same_region q (get_or l j d)) 0 (suc (number_in (drop (suc j) l) q))
    unfolding number_in
    first-of-rest = ap (λ k. number_in k q) (drop-cons l j d inside)

    pub number-here : q ≡ get_or l j d → number_in l q ≡ j
    number-here e =
        let same : same_region q (get_or l j d) ≡ true = ap (same_region q) (sym e) ∙ same_refl q in
        let zero_left : number_in (drop j l) q ≡ 0 = first-of-rest ∙ rw same refl in
        omega (arith, so_far, zero_left)

    pub number-on : (q ≡ get_or l j d → ⊥) → number_in l q ≡ (j + 1) + number_in (drop (j + 1) l) q
    number-on n =
        let other : same_region q (get_or l j d) ≡ false = differs (same_region q (get_or l j d)) refl in
        let one_more : number_in (drop j l) q ≡ suc (number_in (drop (suc j) l) q) = first-of-rest ∙ rw other refl in
        let shift : number_in (drop (j + 1) l) q ≡ number_in (drop (suc j) l) q = ap (λ k. number_in (drop k l) q) (add-one j) in
        omega (arith, so_far, one_more, shift)
      where
        differs : (b : Bool) → same_region q (get_or l j d) ≡ b → same_region q (get_or l j d) ≡ false
        differs true e = absurd (n (same_true q (get_or l j d) e))
        differs false e = e

pub number-over : (l : List Region) (q : Region) (j : ℕ) → number_in l q ≡ j + number_in (drop j l) q → length l ≤ j → number_in l q ≡ j
unfolding number_in
number-over l q j so_far h =
    let none : number_in (drop j l) q ≡ 0 = ap (λ k. number_in k q) (drop_of_length-le l h) in
    omega (arith, so_far, none)

-- A delay keeps the label.
pub delays-label : (m : Model) (r q : Region) → DelaysTo m r q → label_of m q ≡ label_of m r
unfolding label_of
delays-label m r q (stays h) = refl
delays-label m r q (goes {p} n d) = delays-label m p q d ∙ ap (λ (l : ℕ). get_or m.labels l 0) (delay-location m r p n)

module _ (m : Model) (found : List Region) (all : AllRegions m found) where
  leads-inside : (r q : Region) → Memᴰ r found → Leads m r q → NumberOf found q (number_in found q)
  leads-inside r q n s = has-number found q ((all.all q).0 (led ((all.all r).1 n) s))

  -- What follows a region of the graph by delay has a number in it.
  pub delay-number : (r q : Region) → Memᴰ r found → Memᴰ q (delay_next m r) → NumberOf found q (number_in found q)
  delay-number r q n d = leads-inside r q n (by-delay d)

  -- What a branch of an available edge of a region of the graph lands in has a number in it.
  pub landing-number : (r : Region) (e : Edge) (b : Branch) → Memᴰ r found → Memᴰ e m.edges → available m e r ≡ true
      → Memᴰ b e.branches
      → NumberOf found (landing (bounds_of m) r b) (number_in found (landing (bounds_of m) r b))
  landing-number r e b n a h s =
      let q = landing (bounds_of m) r b in
      let land : Branch → List Region = λ x. landing (bounds_of m) r x ∷ [] in
      leads-inside r q n
      (by-edge a (subst (Memᴰ q) (sym (edge-some m e r h)) (gathers land q b e.branches s (Memᴰ.head refl))))
