-- Laws on cells: what reset and delay keep. From cells that clocks of a region may be they lead to such cells again (`..-proper`),
-- and the ranks after them have no gaps (`..-no-gap`).
use Rattle.std.specs.Prelude.{ℕ, zero, suc, ◌≤◌, ◌<◌, ◌⊎◌, ◌≡◌, refl, Bool, true, false, cond, ◌&&◌, ◌||◌, eqb, ltb}
use Rattle.std.proofs.Common.{arith, inl, inr, sym, ◌∙◌, ap, subst, eqb-true, eq-eqb, ne_eqb, ltb-true}
use mathlib.Core.List.Memᴰ
use mathlib.Core.List.{List, [], ◌∷◌, map, Memᴰ}
use Rattle.std.proofs.lemmas.Bool.{eqb-false}
use Rattle.table.specs.Model.{reset_in}
use Rattle.clocks.specs.Cells.{Cell, over, at, fraction_of, member, rank, closed, close, restart, restarted, reset}
use Rattle.clocks.specs.Cells.{is_over, standing, leaving, all, some, leave, highest, arrive, Follow, nothing, cells, delay}
use Rattle.clocks.specs.Cells.{Proper, NoGap}
use Rattle.clocks.specs.Cells.{delay-nothing, delay-leaves, delay-arrives}

pub both : (b : Bool) → (b ≡ true) ⊎ (b ≡ false)
both true = inl refl
both false = inr refl

pub true-false : true ≡ false → ⊥
true-false e = let z : ◌≡◌ {A = ℕ} 0 1 = cc in omega arith

-- ---- Cells of a list

-- A cell of a list to which a function was applied comes from one of the list.
pub from-map : (g : Cell → Cell) (cs : List Cell) (c : Cell) → Memᴰ c (map g cs) → (x : Cell) × Memᴰ x cs × (c ≡ g x)
from-map g [] c n = absurd (Memᴰ.not-nil n)
from-map g (x ∷ cs) c (Memᴰ.head p) = (x, Memᴰ.head refl, p)
from-map g (x ∷ cs) c (Memᴰ.tail n) = let r = from-map g cs c n in (r.0, Memᴰ.tail r.1, r.2)

-- Where no cell of a list passes a test, each fails it.
pub none : (p : Cell → Bool) (cs : List Cell) (x : Cell) → some p cs ≡ false → Memᴰ x cs → p x ≡ false
none p [] x e n = elim n [ ]
none p (y ∷ cs) x e (Memᴰ.head q) = ap p q ∙ go (p y) e
  where
    go : (b : Bool) → (b || some p cs) ≡ false → b ≡ false
    go true h = h
    go false h = refl
none p (y ∷ cs) x e (Memᴰ.tail n) = none p cs x (go (p y) e) n
  where
    go : (b : Bool) → (b || some p cs) ≡ false → some p cs ≡ false
    go true h = absurd (true-false h)
    go false h = h

-- ---- Reset keeps cells proper

restart-proper : (b : Bool) (c : Cell) → Proper c → Proper (cond b (restart c) c)
restart-proper true (over m) h = (omega arith, λ e. refl)
restart-proper true (at m w f) h = (omega arith, λ e. refl)
restart-proper false c h = h

restarted-proper : (mask i : ℕ) (cs : List Cell) → ((c : Cell) → Memᴰ c cs → Proper c)
    → (c : Cell) → Memᴰ c (restarted mask i cs) → Proper c
restarted-proper mask i [] h c n = absurd (Memᴰ.not-nil n)
restarted-proper mask i (x ∷ cs) h c (Memᴰ.head p) =
    subst Proper (sym p) (restart-proper (reset_in mask i) x (h x (Memᴰ.head refl)))
restarted-proper mask i (x ∷ cs) h c (Memᴰ.tail n) = restarted-proper mask (suc i) cs (λ y t. h y (Memᴰ.tail t)) c n

pub closed-proper : (fs : List ℕ) (c : Cell) → Proper c → Proper (closed fs c)
closed-proper fs (over m) h = h
closed-proper fs (at m w f) h = (h.0, λ e. ap (rank fs) (h.1 e))

pub reset-proper : (mask : ℕ) (cs : List Cell) → ((c : Cell) → Memᴰ c cs → Proper c)
    → (c : Cell) → Memᴰ c (reset mask cs) → Proper c
reset-proper mask cs h c n =
    let ds = restarted mask 0 cs in
    let r = from-map (closed (map fraction_of ds)) ds c n in
    subst Proper (sym r.2) (closed-proper (map fraction_of ds) r.0 (restarted-proper mask 0 cs h r.0 r.1))

-- ---- Delay keeps cells proper

abbrev kind_of : Follow → ℕ
kind_of nothing = 0
kind_of (cells cs) = 1

abbrev cells_in : Follow → List Cell
cells_in nothing = []
cells_in (cells cs) = cs

-- Where cells follow, clocks left rank 0, or none stood there and the highest arrived.
pub delay-cases : (cs cs' : List Cell) → delay cs ≡ cells cs'
    → (map (leave (some leaving cs)) cs ≡ cs') ⊎ ((some standing cs ≡ false) × (map (arrive (highest cs)) cs ≡ cs'))
delay-cases cs cs' e =
    elim (both (all is_over cs)) [
      | inl a ↦ absurd (omega (arith, ap kind_of (sym (delay-nothing cs a) ∙ e)))
      | inr a ↦ elim (both (some standing cs)) [
        | inl s ↦ inl (ap cells_in (sym (delay-leaves cs a s) ∙ e))
        | inr s ↦ inr (s, ap cells_in (sym (delay-arrives cs a s) ∙ e))
      ]
    ]

leave-proper : (any : Bool) (c : Cell) → Proper c → Proper (leave any c)
leave-proper any (over m) h = h
leave-proper any (at m w zero) h = go (ltb w m) refl
  where
    go : (b : Bool) → ltb w m ≡ b → Proper (cond b (at m w 1) (over m))
    go true e = (h.0, λ q. absurd (omega (arith, ltb-true w m e)))
    go false e = tt
leave-proper any (at m w (suc f)) h = (h.0, λ q. absurd (omega (arith, h.1 q)))

arrive-proper : (top : ℕ) (c : Cell) → standing c ≡ false → Proper c → Proper (arrive top c)
arrive-proper top (over m) s h = h
arrive-proper top (at m w f) s h = go (eqb f top)
  where
    below : w ≡ m → ⊥
    below e = eqb-false f 0 s (h.1 e)

    go : (b : Bool) → Proper (cond b (at m (suc w) 0) (at m w f))
    go true = (omega (arith, h.0, below), λ e. refl)
    go false = h

pub delay-proper : (cs cs' : List Cell) → ((c : Cell) → Memᴰ c cs → Proper c) → delay cs ≡ cells cs'
    → (c : Cell) → Memᴰ c cs' → Proper c
delay-proper cs cs' h e c n =
    elim (delay-cases cs cs' e) [
      | inl p ↦
          let r = from-map (leave (some leaving cs)) cs c (subst (λ l. Memᴰ c l) (sym p) n) in
          subst Proper (sym r.2) (leave-proper (some leaving cs) r.0 (h r.0 r.1))
      | inr p ↦
          let r = from-map (arrive (highest cs)) cs c (subst (λ l. Memᴰ c l) (sym p.1) n) in
          subst Proper (sym r.2) (arrive-proper (highest cs) r.0 (none standing cs r.0 p.0 r.1) (h r.0 r.1))
    ]

-- ---- After a reset the ranks have no gaps, whatever the cells were: they are closed up

-- A fraction of the list is that of one of its cells.
pub has : (k : ℕ) (cs : List Cell) → member k (map fraction_of cs) ≡ true → (x : Cell) × Memᴰ x cs × (k ≡ fraction_of x)
has k [] e = absurd (true-false (sym e))
has k (x ∷ cs) e =
    elim (both (eqb k (fraction_of x))) [
      | inl t ↦ (x, Memᴰ.head refl, eqb-true k (fraction_of x) t)
      | inr t ↦ let r = has k cs (rw t at e) in (r.0, Memᴰ.tail r.1, r.2)
    ]

pub or-true : (a b : Bool) → b ≡ true → (a || b) ≡ true
or-true true b e = refl
or-true false b e = e

-- The fraction of a cell of the list is one of the list.
pub gives-own : (k : ℕ) (cs : List Cell) (x : Cell) → Memᴰ x cs → k ≡ fraction_of x → member k (map fraction_of cs) ≡ true
gives-own k [] x n e = elim n [ ]
gives-own k (y ∷ cs) x (Memᴰ.head p) e = rw (eq-eqb k (fraction_of y) (e ∙ ap fraction_of p)) refl
gives-own k (y ∷ cs) x (Memᴰ.tail n) e = or-true (eqb k (fraction_of y)) _ (gives-own k cs x n e)

pub to_map : (g : Cell → Cell) (cs : List Cell) (x : Cell) → Memᴰ x cs → Memᴰ (g x) (map g cs)
to_map g [] x n = elim n [ ]
to_map g (y ∷ cs) x (Memᴰ.head p) = Memᴰ.head (ap g p)
to_map g (y ∷ cs) x (Memᴰ.tail n) = Memᴰ.tail (to_map g cs x n)

-- The same, where a function was applied to the cells.
gives : (g : Cell → Cell) (k : ℕ) (cs : List Cell) (x : Cell) → Memᴰ x cs → k ≡ fraction_of (g x)
    → member k (map fraction_of (map g cs)) ≡ true
gives g k cs x n e = gives-own k (map g cs) (g x) (to_map g cs x n) e

-- What a fraction comes from, where a function was applied to the cells.
had : (g : Cell → Cell) (k : ℕ) (cs : List Cell) → member k (map fraction_of (map g cs)) ≡ true
    → (x : Cell) × Memᴰ x cs × (k ≡ fraction_of (g x))
had g k cs e =
    let r = has k (map g cs) e in
    let s = from-map g cs r.0 r.1 in
    (s.0, s.1, r.2 ∙ ap fraction_of s.2)

pub closed-rank : (fs : List ℕ) (c : Cell) → fraction_of (closed fs c) ≡ rank fs (fraction_of c)
closed-rank fs (over m) = refl
closed-rank fs (at m w f) = refl

-- Each number from 1 to the rank of a number is the rank of a number of the list.
ranked : (fs : List ℕ) (g k : ℕ) → 0 < k → k ≤ rank fs g → (j : ℕ) × (member j fs ≡ true) × (k ≡ rank fs j)
ranked fs zero k p h = absurd (omega arith)
ranked fs (suc g) k p h = go (ranked fs g k p) (member (suc g) fs) refl h
  where
    up : member (suc g) fs ≡ true → suc (rank fs g) ≡ rank fs (suc g)
    up e = rw e refl

    split : k ≤ suc (rank fs g) → (k ≡ suc (rank fs g)) ⊎ (k ≤ rank fs g)
    split q =
        elim (both (eqb k (suc (rank fs g)))) [
          | inl t ↦ inl (eqb-true k (suc (rank fs g)) t)
          | inr t ↦ inr (omega (arith, q, eqb-false k (suc (rank fs g)) t))
        ]

    go : (k ≤ rank fs g → (j : ℕ) × (member j fs ≡ true) × (k ≡ rank fs j))
        → (b : Bool) → member (suc g) fs ≡ b → k ≤ cond b (suc (rank fs g)) (rank fs g)
        → (j : ℕ) × (member j fs ≡ true) × (k ≡ rank fs j)
    go rest true e q = elim (split q) [ inl t ↦ (suc g, e, t ∙ up e) | inr t ↦ rest t ]
    go rest false e q = rest q

pub close-no-gap : (cs : List Cell) → NoGap (close cs)
close-no-gap cs f e k p h =
    let fs = map fraction_of cs in
    let r = had (closed fs) f cs e in
    let s = ranked fs (fraction_of r.0) k p (rw (sym (closed-rank fs r.0), sym r.2) h) in
    let x = has s.0 cs s.1 in
    gives (closed fs) k cs x.0 x.1 (s.2 ∙ ap (rank fs) x.2 ∙ sym (closed-rank fs x.0))

pub reset-no-gap : (mask : ℕ) (cs : List Cell) → NoGap (reset mask cs)
reset-no-gap mask cs = close-no-gap (restarted mask 0 cs)

-- ---- Delay opens no gap between ranks

-- Where some cell of a list passes a test, here is one.
pub one : (p : Cell → Bool) (cs : List Cell) → some p cs ≡ true → (x : Cell) × Memᴰ x cs × (p x ≡ true)
one p [] e = absurd (true-false (sym e))
one p (x ∷ cs) e =
    elim (both (p x)) [
      | inl t ↦ (x, Memᴰ.head refl, t)
      | inr t ↦ let r = one p cs (rw t at e) in (r.0, Memᴰ.tail r.1, r.2)
    ]

-- A clock of rank 0 that does not become over gets rank 1.
leave-first : (any : Bool) (c : Cell) → leaving c ≡ true → 1 ≡ fraction_of (leave any c)
leave-first any (over m) e = absurd (true-false (sym e))
leave-first any (at m w zero) e = rw e refl
leave-first any (at m w (suc f)) e =
    let not-zero : suc f ≡ 0 → ⊥ = λ q. omega (arith, q) in
    absurd (true-false (sym e ∙ ap (λ b. b && ltb w m) (ne_eqb (suc f) 0 not-zero)))

-- Where no clock gets rank 1, all keep their ranks.
leave_none : (c : Cell) → leaving c ≡ false → fraction_of c ≡ fraction_of (leave false c)
leave_none (over m) e = refl
leave_none (at m w zero) e = rw e refl
leave_none (at m w (suc f)) e = refl

-- Where one does, the older ranks rise by one, and a rank above 1 is an older one.
leave-rises : (c : Cell) → 0 < fraction_of c → suc (fraction_of c) ≡ fraction_of (leave true c)
leave-rises (over m) h = absurd (omega arith)
leave-rises (at m w zero) h = absurd (omega arith)
leave-rises (at m w (suc f)) h = refl

leave-older : (c : Cell) → 1 < fraction_of (leave true c) → suc (fraction_of c) ≡ fraction_of (leave true c)
leave-older (over m) h = absurd (omega arith)
leave-older (at m w zero) h = go (ltb w m) h
  where
    go : (b : Bool) → 1 < fraction_of (cond b (at m w 1) (over m)) → 1 ≡ fraction_of (cond b (at m w 1) (over m))
    go true q = refl
    go false q = absurd (omega arith)
leave-older (at m w (suc f)) h = refl

still-no-gap : (cs : List Cell) → NoGap cs → some leaving cs ≡ false → NoGap (map (leave false) cs)
still-no-gap cs h e f n k p q =
    let r = had (leave false) f cs n in
    let same : f ≡ fraction_of r.0 = r.2 ∙ sym (leave_none r.0 (none leaving cs r.0 e r.1)) in
    let own = gives-own f cs r.0 r.1 same in
    let x = has k cs (h f own k p q) in
    gives (leave false) k cs x.0 x.1 (x.2 ∙ leave_none x.0 (none leaving cs x.0 e x.1))

risen-no-gap : (cs : List Cell) → NoGap cs → some leaving cs ≡ true → NoGap (map (leave true) cs)
risen-no-gap cs h e f n zero p q = absurd (omega arith)
risen-no-gap cs h e f n (suc zero) p q =
    let x = one leaving cs e in
    gives (leave true) 1 cs x.0 x.1 (leave-first true x.0 x.2)
risen-no-gap cs h e f n (suc (suc j)) p q =
    let r = had (leave true) f cs n in
    let high : 1 < fraction_of (leave true r.0) = omega (arith, r.2, q) in
    let was : suc (fraction_of r.0) ≡ fraction_of (leave true r.0) = leave-older r.0 high in
    let own = gives-own (fraction_of r.0) cs r.0 r.1 refl in
    let x = has (suc j) cs (h (fraction_of r.0) own (suc j) (omega arith) (omega (arith, was, r.2, q))) in
    gives (leave true) (suc (suc j)) cs x.0 x.1 (ap suc x.2 ∙ leave-rises x.0 (omega (arith, x.2)))

leave-no-gap : (cs : List Cell) → NoGap cs → NoGap (map (leave (some leaving cs)) cs)
leave-no-gap cs h =
    elim (both (some leaving cs)) [
      | inl e ↦ subst (λ b. NoGap (map (leave b) cs)) (sym e) (risen-no-gap cs h e)
      | inr e ↦ subst (λ b. NoGap (map (leave b) cs)) (sym e) (still-no-gap cs h e)
    ]

-- No rank is above the highest.
pub most : (cs : List Cell) (x : Cell) → Memᴰ x cs → fraction_of x ≤ highest cs
most [] x n = elim n [ ]
most (y ∷ cs) x (Memᴰ.head p) = let e : fraction_of x ≡ fraction_of y = ap fraction_of p in omega arith
most (y ∷ cs) x (Memᴰ.tail n) = omega (arith, most cs x n)

-- A clock that is not among the highest keeps its rank, and only such a clock has a rank other than 0 afterwards.
arrive-keeps : (top : ℕ) (c : Cell) → (fraction_of c ≡ top → ⊥) → fraction_of c ≡ fraction_of (arrive top c)
arrive-keeps top (over m) h = refl
arrive-keeps top (at m w f) h = rw (ne_eqb f top h) refl

arrive-other : (top : ℕ) (c : Cell) → 0 < fraction_of (arrive top c) → fraction_of c ≡ top → ⊥
arrive-other top (over m) h e = omega arith
arrive-other top (at m w f) h e = let z : 0 < 0 = rw (eq-eqb f top e) at h in omega arith

arrive-no-gap : (cs : List Cell) → NoGap cs → NoGap (map (arrive (highest cs)) cs)
arrive-no-gap cs h f n k p q =
    let top = highest cs in
    let r = had (arrive top) f cs n in
    let other : fraction_of r.0 ≡ top → ⊥ = arrive-other top r.0 (omega (arith, r.2, p, q)) in
    let same : f ≡ fraction_of r.0 = r.2 ∙ sym (arrive-keeps top r.0 other) in
    let below : fraction_of r.0 ≤ top = most cs r.0 r.1 in
    let x = has k cs (h f (gives-own f cs r.0 r.1 same) k p q) in
    gives (arrive top) k cs x.0 x.1 (x.2 ∙ arrive-keeps top x.0 (λ e. other (omega (arith, x.2, e, same, below, q))))

pub delay-no-gap : (cs cs' : List Cell) → NoGap cs → delay cs ≡ cells cs' → NoGap cs'
delay-no-gap cs cs' h e =
    elim (delay-cases cs cs' e) [
      | inl p ↦ subst NoGap p (leave-no-gap cs h)
      | inr p ↦ subst NoGap p.1 (arrive-no-gap cs h)
    ]
