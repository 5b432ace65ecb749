-- The shares of a step in what a partition call left: exactly one number is each rounded to (`shares-rounded`), and it stands in the text
-- (`shares-printed`); the blocks named are those landed in, however small their shares (`shares-landed`, `shares-only`).
use Rattle.std.specs.Prelude.{ℕ, ◌<◌, ◌≡◌, refl, Bool, true, false, ◌||◌, ◌↔◌, ◌⊎◌, eqb, get_or, take}
use Rattle.std.proofs.Common.{sym, ◌∙◌, ap, subst, inl, inr, eq-eqb, eqb-true}
use Rattle.std.proofs.Math.Bool.{or-true}
use Rattle.std.proofs.lemmas.Bool.{false≢true}
use mathlib.Core.List.Memᴰ
use mathlib.Core.List.{List, [], ◌∷◌, ◌++◌, Memᴰ}
use Rattle.partition.specs.Passed.{Finite, Branch}
use Rattle.partition.specs.Instances.{graph}
use Rattle.partition.specs.Left.{Left}
use Rattle.text.specs.Text.{colon, decimal, field, rising}
use Rattle.rounding.specs.Rounding.{Rounded, ten_thousandths}
use Rattle.listing.specs.Printed.{ShareRecord, is_among, targets_of, weight_into, share_field, shares_of}
use Rattle.rounding.proofs.Laws.Rounding.{rounded-iff}
use Rattle.text.specs.Laws.Texts.{rising-there, rising-is}
use Rattle.listing.specs.Laws.Sense.{block-below, targets-inside, wholes-some}

-- ---- Items of lists

-- A block is among those of the targets where a branch lands in it, and nowhere else.
among_there : (list : List ℕ) (l : List (Branch ℕ)) (t : Branch ℕ) → Memᴰ t l
    → is_among list (get_or list t.target 0) (targets_of l) ≡ true
among_there list [] t m = absurd (Memᴰ.not-nil m)
among_there list (u ∷ l) t m = go (Memᴰ.cases_cons m) (among_there list l t)
  where
    go : (t ≡ u) ⊎ Memᴰ t l → (Memᴰ t l → is_among list (get_or list t.target 0) (targets_of l) ≡ true)
        → is_among list (get_or list t.target 0) (targets_of (u ∷ l)) ≡ true
    go (inl e) later =
        ap (λ (c : Bool). c || is_among list (get_or list t.target 0) (targets_of l))
        (eq-eqb _ _ (ap (λ (v : Branch ℕ). get_or list v.target 0) (sym e)))
    go (inr k) later =
        ap (λ (c : Bool). eqb (get_or list u.target 0) (get_or list t.target 0) || c) (later k)
        ∙ or-true (eqb (get_or list u.target 0) (get_or list t.target 0))

among-some : (list : List ℕ) (c : ℕ) (l : List (Branch ℕ)) → is_among list c (targets_of l) ≡ true
    → (t : Branch ℕ) × Memᴰ t l × (get_or list t.target 0 ≡ c)
among-some list c [] is = absurd (false≢true is)
among-some list c (u ∷ l) is = go (eqb (get_or list u.target 0) c) refl (among-some list c l) is
  where
    go : (b : Bool) → eqb (get_or list u.target 0) c ≡ b
        → (is_among list c (targets_of l) ≡ true → (t : Branch ℕ) × Memᴰ t l × (get_or list t.target 0 ≡ c))
        → (b || is_among list c (targets_of l)) ≡ true
        → (t : Branch ℕ) × Memᴰ t (u ∷ l) × (get_or list t.target 0 ≡ c)
    go true e later q = (u, Memᴰ.head refl, eqb-true (get_or list u.target 0) c e)
    go false e later q = let (t, m, h) = later q in (t, Memᴰ.tail m, h)

-- ---- The shares

module _ {table : List ℕ} {cap n b k : ℕ} {entries list : List ℕ} (left : Left table cap n b k entries list) where
  -- The numbers that are printed, and the graph.
  abbrev L : List ℕ
  L = take n list

  abbrev F : Finite
  F = graph left.from.model left.from.found

  -- Of an edge that is available.
  module _ (x e : ℕ) (hx : x < n) (he : e < F.edges) (available : F.available x e ≡ true) where
    abbrev share : ℕ → ShareRecord
    share c = record { block = c; weight = weight_into L c (F.branches x e); denominator = F.whole x e }

    abbrev shares : List ShareRecord
    shares = shares_of L b (F.whole x e) (F.branches x e)

    share-of : (s : ShareRecord) → Memᴰ s shares
        → (c : ℕ) × Memᴰ c (rising (λ d. is_among L d (targets_of (F.branches x e))) b) × (share c ≡ s)
    share-of s = Memᴰ.of_map share (rising (λ d. is_among L d (targets_of (F.branches x e))) b)

    pub shares-rounded : (s : ShareRecord) → Memᴰ s shares
        → (t : ℕ) → Rounded s.weight s.denominator t ↔ (t ≡ ten_thousandths s.weight s.denominator)
    shares-rounded s m t =
        let (c, _, is) = share-of s m in
        subst (λ (r : ShareRecord). Rounded r.weight r.denominator t ↔ (t ≡ ten_thousandths r.weight r.denominator)) is
        (rounded-iff (weight_into L c (F.branches x e)) (F.whole x e) (wholes-some left x e hx he available) t)

    pub shares-printed : (s : ShareRecord) → Memᴰ s shares → (t : ℕ) → Rounded s.weight s.denominator t
        → share_field s ≡ field s.block ++ (colon ∷ decimal t)
    shares-printed s m t r =
        ap (λ (number : ℕ). field s.block ++ (colon ∷ decimal number)) (sym ((shares-rounded s m t).0 r))

    pub shares-landed : (t : Branch ℕ) → Memᴰ t (F.branches x e) → Memᴰ (share (get_or L t.target 0)) shares
    shares-landed t m =
        Memᴰ.map share
        (rising-there (λ c. is_among L c (targets_of (F.branches x e))) b (get_or L t.target 0)
        (block-below left t.target (targets-inside left x e hx he available t m))
        (among_there L (F.branches x e) t m))

    pub shares-only : (s : ShareRecord) → Memᴰ s shares
        → (t : Branch ℕ) × Memᴰ t (F.branches x e) × (get_or L t.target 0 ≡ s.block)
    shares-only s m =
        let (c, among, is) = share-of s m in
        let (t, there, lands) =
        among-some L c (F.branches x e) (rising-is (λ d. is_among L d (targets_of (F.branches x e))) b c among).1 in
        (t, there, lands ∙ ap (λ (r : ShareRecord). r.block) is)
