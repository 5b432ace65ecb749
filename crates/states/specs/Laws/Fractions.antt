-- Laws on fractions and ranks. What a delay, a reset and an atom come to on the numerators of a state's clocks is what they come to
-- on the ranks of its region: only the order of the fractions matters, and which of them are zero.
use Rattle.std.specs.Prelude.{ℕ, zero, suc, ◌+◌, ◌*◌, ◌/◌, ◌%◌, ◌≤◌, ◌<◌, ◌⊎◌, ◌≡◌, refl, Bool}
use Rattle.std.specs.Prelude.{true, false, cond, not, ◌&&◌, ◌||◌, eqb, leb, ltb, Option, None}
use Rattle.std.proofs.Common.{arith, mul-le-mul_right, le_of_mul-le-mul_right, mul_assoc, zero-mul, suc-mul, add-mul}
use Rattle.std.proofs.Common.{mod-lt, div-add-mod', inl, inr, sym, ◌∙◌, ap, ap₂, subst, eqb-true, eq-eqb, ne_eqb}
use Rattle.std.proofs.Common.{leb-true, leb-false, le-leb, ltb-true, ltb-false, lt-ltb, le-ltb}
use mathlib.Core.List.Memᴰ
use mathlib.Core.List.{List, [], ◌∷◌, map, map-id, map-map, Memᴰ}
use Rattle.std.proofs.Math.Arith.{digits_div, digits_mod, digits_lt}
use Rattle.std.proofs.lemmas.Bool.{eqb-false, lt-leb}
use Rattle.table.specs.Model.{reset_in}
use Rattle.clocks.specs.Cells.{Cell, over, at, fraction_of, member, rank, closed, close, restart, restarted, reset}
use Rattle.clocks.specs.Cells.{is_over, standing, leaving, all, some, leave, highest, arrive, nothing, cells, delay}
use Rattle.clocks.specs.Cells.{leave-ranked, delay-nothing, delay-leaves, delay-arrives}
use Rattle.clocks.specs.Atoms.{below, at_most, verdict, atom}
use Rattle.regions.specs.Graph.{is_holds}
use Rattle.states.specs.States.{compares}
use Rattle.states.specs.Placing.{value_cell}
use Rattle.clocks.proofs.Laws.Cells.{both, true-false, none, one, or-true, to_map, most}
use Rattle.clocks.specs.Cells.{Proper, NoGap}
use Rattle.clocks.proofs.Laws.Cells.{closed-rank, close-no-gap, delay-no-gap}

-- ---- Ranks

-- A number of a list of measures is the measure of an item, and the measure of an item is one of them.
met : {A : Type 0} (a : A → ℕ) (l : List A) (k : ℕ) → member k (map a l) ≡ true → (x : A) × Memᴰ x l × (k ≡ a x)
met a [] k e = absurd (true-false (sym e))
met a (x ∷ l) k e =
    elim (both (eqb k (a x))) [
      | inl t ↦ (x, Memᴰ.head refl, eqb-true k (a x) t)
      | inr t ↦ let r = met a l k (rw t at e) in (r.0, Memᴰ.tail r.1, r.2)
    ]

own : {A : Type 0} (a : A → ℕ) (l : List A) (x : A) → Memᴰ x l → member (a x) (map a l) ≡ true
own a [] x n = elim n [ ]
own a (y ∷ l) x (Memᴰ.head p) = rw (eq-eqb (a x) (a y) (ap a p)) refl
own a (y ∷ l) x (Memᴰ.tail n) = or-true (eqb (a x) (a y)) _ (own a l x n)

rank_up : (fs : List ℕ) (f : ℕ) → rank fs f ≤ rank fs (suc f)
rank_up fs f = go (member (suc f) fs)
  where
    go : (b : Bool) → rank fs f ≤ cond b (suc (rank fs f)) (rank fs f)
    go true = omega arith
    go false = omega arith

rank_mono : (fs : List ℕ) (f g : ℕ) → f ≤ g → rank fs f ≤ rank fs g
rank_mono fs f zero h = let z : f ≡ 0 = omega arith in omega (arith, ap (rank fs) z)
rank_mono fs f (suc g) h =
    elim (both (eqb f (suc g))) [
      | inl e ↦ let e' : rank fs f ≡ rank fs (suc g) = ap (rank fs) (eqb-true f (suc g) e) in omega (arith, e')
      | inr e ↦
          let q : f ≤ g = omega (arith, h, eqb-false f (suc g) e) in
          omega (arith, rank_mono fs f g q, rank_up fs g)
    ]

-- A number of the list counts itself.
rank-own : (fs : List ℕ) (k : ℕ) → member k fs ≡ true → 0 < k → (j : ℕ) × (k ≡ suc j) × (rank fs k ≡ suc (rank fs j))
rank-own fs zero e h = absurd (omega arith)
rank-own fs (suc j) e h = (j, refl, rw e refl)

-- So its rank is above those of smaller numbers, and is 0 only for 0.
rank-order : (fs : List ℕ) (f g : ℕ) → member f fs ≡ true → rank fs f ≤ rank fs g → f ≤ g
rank-order fs f g e h =
    elim (both (leb f g)) [
      | inl t ↦ leb-true f g t
      | inr t ↦
          let low : g < f = leb-false f g t in
          let r = rank-own fs f e (omega arith) in
          absurd (omega (arith, h, r.2, rank_mono fs g r.0 (omega (arith, low, r.1))))
    ]

rank-positive : (fs : List ℕ) (f : ℕ) → member f fs ≡ true → 0 < f → 0 < rank fs f
rank-positive fs f e h = let r = rank-own fs f e h in omega (arith, r.2)

-- Half of the law below: at most as many.
rank-under : {A : Type 0} (a b : A → ℕ) (l : List A)
    → ((x y : A) → Memᴰ x l → Memᴰ y l → b x ≤ b y → a x ≤ a y)
    → ((x : A) → Memᴰ x l → b x ≡ 0 → a x ≡ 0)
    → (f g : ℕ) → ((x : A) → Memᴰ x l → a x ≤ f → b x ≤ g) → rank (map a l) f ≤ rank (map b l) g
rank-under a b l h z zero g up = omega arith
rank-under {A = A} a b l h z (suc f) g up =
    elim (both (member (suc f) (map a l))) [
      | inl e ↦
          let y = met a l (suc f) e in
          let high : b y.0 ≤ g = up y.0 y.1 (omega (arith, y.2)) in
          let pos = positive (b y.0) (λ q. let s = z y.0 y.1 q in omega (arith, s, y.2)) in
          let r = rank-own (map b l) (b y.0) (own b l y.0 y.1) pos in
          let low : (x : A) → Memᴰ x l → a x ≤ f → b x ≤ r.0 =
          λ x n q. smaller (a y.0) (a x) (b y.0) (b x) r.0 y.2 r.1 q (h y.0 x y.1 n) in
          let rest = rank-under a b l h z f r.0 low in
          let t : rank (map a l) (suc f) ≡ suc (rank (map a l) f) = rw e refl in
          omega (arith, t, rest, r.2, rank_mono (map b l) (b y.0) g high)
      | inr e ↦
          let t : rank (map a l) (suc f) ≡ rank (map a l) f = rw e refl in
          let rest = rank-under a b l h z f g (λ x n q. up x n (omega (arith, q))) in
          omega (arith, t, rest)
    ]
  where
    positive : (k : ℕ) → (k ≡ 0 → ⊥) → 0 < k
    positive k q = omega (arith, q)

    smaller : (ay ax by bx j : ℕ) → suc f ≡ ay → by ≡ suc j → ax ≤ f → (by ≤ bx → ay ≤ ax) → bx ≤ j
    smaller ay ax by bx j ey ej q w =
        elim (both (leb bx j)) [
          | inl t ↦ leb-true bx j t
          | inr t ↦ let v = w (omega (arith, leb-false bx j t, ej)) in absurd (omega (arith, v, ey, q))
        ]

-- Two measures that order the items of a list alike, with common zeros, give equal ranks.
pub rank-alike : {A : Type 0} (a b : A → ℕ) (l : List A)
    → ((x y : A) → Memᴰ x l → Memᴰ y l → a x ≤ a y → b x ≤ b y)
    → ((x y : A) → Memᴰ x l → Memᴰ y l → b x ≤ b y → a x ≤ a y)
    → ((x : A) → Memᴰ x l → a x ≡ 0 → b x ≡ 0) → ((x : A) → Memᴰ x l → b x ≡ 0 → a x ≡ 0)
    → (x : A) → Memᴰ x l → rank (map a l) (a x) ≡ rank (map b l) (b x)
rank-alike a b l ab ba za zb x n =
    let left = rank-under a b l ba zb (a x) (b x) (λ y m. ab y x m n) in
    let right = rank-under b a l ab za (b x) (a x) (λ y m. ba y x m n) in
    omega (arith, left, right)

-- ---- Closing up alike

-- The cell with another fraction, if it is not over.
abbrev with_fraction : ℕ → Cell → Cell
with_fraction n (over m) = over m
with_fraction n (at m w f) = at m w n

closed-with : (fs : List ℕ) (c : Cell) → closed fs c ≡ with_fraction (rank fs (fraction_of c)) c
closed-with fs (over m) = refl
closed-with fs (at m w f) = refl

-- A cell made from one of fraction r beside a cell made from one of fraction f: they are the same with fraction 0; or the same with
-- fraction 1, where others rise by 1; or they differ in fraction only, and those rose from r and f by k and j.
data Pair (k j r f : ℕ) (s t : Cell) : Type 0 where
  level : s ≡ t → fraction_of t ≡ 0 → Pair k j r f s t
  first : k ≡ 1 → j ≡ 1 → s ≡ t → fraction_of t ≡ 1 → Pair k j r f s t
  older : (m w : ℕ) → 0 < r → 0 < f → s ≡ at m w (r + k) → t ≡ at m w (f + j) → Pair k j r f s t

pair-flip : {k j r f : ℕ} {s t : Cell} → Pair k j r f s t → Pair j k f r t s
pair-flip (level e z) = level (sym e) (ap fraction_of e ∙ z)
pair-flip (first ek ej e z) = first ej ek (sym e) (ap fraction_of e ∙ z)
pair-flip (older m w hr hf es et) = older m w hf hr et es

pair-shape : {k j r f : ℕ} {s t : Cell} → Pair k j r f s t → (n : ℕ) → with_fraction n s ≡ with_fraction n t
pair-shape (level e z) n = ap (with_fraction n) e
pair-shape (first ek ej e z) n = ap (with_fraction n) e
pair-shape (older m w hr hf es et) n = ap (with_fraction n) es ∙ sym (ap (with_fraction n) et)

pair-zero : {k j r f : ℕ} {s t : Cell} → Pair k j r f s t → fraction_of s ≡ 0 → fraction_of t ≡ 0
pair-zero (level e z) q = z
pair-zero (first ek ej e z) q = absurd (omega (arith, q, ap fraction_of e, z))
pair-zero (older m w hr hf es et) q = absurd (omega (arith, q, ap fraction_of es, hr))

pair-le : {k j r f r' f' : ℕ} {s t s' t' : Cell} → Pair k j r f s t → Pair k j r' f' s' t' → (r ≤ r' → f ≤ f')
    → fraction_of s ≤ fraction_of s' → fraction_of t ≤ fraction_of t'
pair-le (level e z) p h q = omega (arith, z)
pair-le (first ek ej e z) (level e' z') h q = absurd (omega (arith, q, ap fraction_of e, z, ap fraction_of e', z'))
pair-le (first ek ej e z) (first ek' ej' e' z') h q = omega (arith, z, z')
pair-le (first ek ej e z) (older m w hr hf es et) h q = omega (arith, z, ap fraction_of et, hf)
pair-le (older m w hr hf es et) (level e z) h q = absurd (omega (arith, q, ap fraction_of es, hr, ap fraction_of e, z))
pair-le (older m w hr hf es et) (first ek ej e z) h q = absurd (omega (arith, q, ap fraction_of es, hr, ek, ap fraction_of e, z))
pair-le (older m w hr hf es et) (older m' w' hr' hf' es' et') h q =
    let l = h (omega (arith, q, ap fraction_of es, ap fraction_of es')) in omega (arith, l, ap fraction_of et, ap fraction_of et')

map-alike : {A : Type 0} (g h : A → Cell) (l : List A) → ((x : A) → Memᴰ x l → g x ≡ h x) → map g l ≡ map h l
map-alike g h [] e = refl
map-alike g h (x ∷ l) e =
    ap₂ (λ (c : Cell) (cs : List Cell). c ∷ cs) (e x (Memᴰ.head refl)) (map-alike g h l (λ y n. e y (Memᴰ.tail n)))

close-map : {A : Type 0} (p : A → Cell) (l : List A)
    → close (map p l) ≡ map (λ x. with_fraction (rank (map (λ y. fraction_of (p y)) l) (fraction_of (p x))) (p x)) l
close-map p l =
    map-map (closed (map fraction_of (map p l))) p l
    ∙ map-alike (λ x. closed (map fraction_of (map p l)) (p x)) _ l
    (λ x n. closed-with _ (p x) ∙ ap (λ fs. with_fraction (rank fs (fraction_of (p x))) (p x)) (map-map fraction_of p l))

-- Two lists of cells that pair, from fractions in the same order, are closed up to the same.
close-alike : {A : Type 0} (k j : ℕ) (r f : A → ℕ) (p q : A → Cell) (l : List A)
    → ((x : A) → Memᴰ x l → Pair k j (r x) (f x) (p x) (q x))
    → ((x y : A) → Memᴰ x l → Memᴰ y l → r x ≤ r y → f x ≤ f y)
    → ((x y : A) → Memᴰ x l → Memᴰ y l → f x ≤ f y → r x ≤ r y) → close (map p l) ≡ close (map q l)
close-alike {A = A} k j r f p q l pair rf fr =
    close-map p l ∙ map-alike _ _ l each ∙ sym (close-map q l)
  where
    each : (x : A) → Memᴰ x l
        → with_fraction (rank (map (λ y. fraction_of (p y)) l) (fraction_of (p x))) (p x)
        ≡ with_fraction (rank (map (λ y. fraction_of (q y)) l) (fraction_of (q x))) (q x)
    each x n =
        pair-shape (pair x n) _
        ∙ ap (λ i. with_fraction i (q x))
        (rank-alike (λ y. fraction_of (p y)) (λ y. fraction_of (q y)) l
        (λ y z m o. pair-le (pair y m) (pair z o) (rf y z m o))
        (λ y z m o. pair-le (pair-flip (pair y m)) (pair-flip (pair z o)) (fr y z m o))
        (λ y m. pair-zero (pair y m)) (λ y m. pair-zero (pair-flip (pair y m))) x n)

-- Ranks without gaps are closed up already.
rank-still : (fs : List ℕ) (f : ℕ) → ((k : ℕ) → 0 < k → k ≤ f → member k fs ≡ true) → rank fs f ≡ f
rank-still fs zero h = refl
rank-still fs (suc f) h =
    rw (h (suc f) (omega arith) (omega arith)) (ap suc (rank-still fs f (λ k p q. h k p (omega (arith, q)))))

with-own : (c : Cell) (n : ℕ) → n ≡ fraction_of c → with_fraction n c ≡ c
with-own (over m) n e = refl
with-own (at m w f) n e = ap (at m w) e

pub close-still : (cs : List Cell) → NoGap cs → close cs ≡ cs
close-still cs h =
    let fs = map fraction_of cs in
    map-alike (closed fs) (λ c. c) cs
    (λ c n. closed-with fs c ∙ with-own c _ (rank-still fs (fraction_of c) (h (fraction_of c) (own fraction_of cs c n))))
    ∙ map-id cs

-- Among the cells of a list ranks order as fractions do.
ranks-to : (cs : List Cell) (x y : Cell) → Memᴰ x cs → Memᴰ y cs
    → rank (map fraction_of cs) (fraction_of x) ≤ rank (map fraction_of cs) (fraction_of y) → fraction_of x ≤ fraction_of y
ranks-to cs x y n m = rank-order (map fraction_of cs) (fraction_of x) (fraction_of y) (own fraction_of cs x n)

ranks-from : (cs : List Cell) (x y : Cell) → Memᴰ x cs → Memᴰ y cs
    → fraction_of x ≤ fraction_of y → rank (map fraction_of cs) (fraction_of x) ≤ rank (map fraction_of cs) (fraction_of y)
ranks-from cs x y n m = rank_mono (map fraction_of cs) (fraction_of x) (fraction_of y)

-- ---- Reset

-- The clocks from number i on, each with whether the mask has it.
abbrev flagged : ℕ → ℕ → List Cell → List (Bool × Cell)
flagged mask i [] = []
flagged mask i (c ∷ cs) = (reset_in mask i, c) ∷ flagged mask (suc i) cs

flagged-in : (mask i : ℕ) (cs : List Cell) (x : Bool × Cell) → Memᴰ x (flagged mask i cs) → Memᴰ x.1 cs
flagged-in mask i [] x n = absurd (Memᴰ.not-nil n)
flagged-in mask i (c ∷ cs) x (Memᴰ.head p) = Memᴰ.head (ap (λ y. y.1) p)
flagged-in mask i (c ∷ cs) x (Memᴰ.tail n) = Memᴰ.tail (flagged-in mask (suc i) cs x n)

abbrev restart_if : (Cell → Cell) → Bool × Cell → Cell
restart_if g x = cond x.0 (restart (g x.1)) (g x.1)

restarted-map : (g : Cell → Cell) (mask i : ℕ) (cs : List Cell)
    → restarted mask i (map g cs) ≡ map (restart_if g) (flagged mask i cs)
restarted-map g mask i [] = refl
restarted-map g mask i (c ∷ cs) = ap (λ l. cond (reset_in mask i) (restart (g c)) (g c) ∷ l) (restarted-map g mask (suc i) cs)

reset-pair : (fs : List ℕ) (b : Bool) (c : Cell) → member (fraction_of c) fs ≡ true
    → Pair 0 0 (rank fs (fraction_of c)) (fraction_of c) (restart_if (closed fs) (b, c)) (restart_if (λ y. y) (b, c))
reset-pair fs true (over m) e = level refl refl
reset-pair fs true (at m w f) e = level refl refl
reset-pair fs false (over m) e = level refl refl
reset-pair fs false (at m w zero) e = level refl refl
reset-pair fs false (at m w (suc f)) e =
    let r = rank fs (suc f) in
    let er : r ≡ r + 0 = omega arith in
    let ef : suc f ≡ suc f + 0 = omega arith in
    older m w (rank-positive fs (suc f) e (omega arith)) (omega arith) (ap (at m w) er) (ap (at m w) ef)

-- Resetting after closing up is closing up after resetting.
pub reset-close : (mask : ℕ) (cs : List Cell) → reset mask (close cs) ≡ close (restarted mask 0 cs)
reset-close mask cs =
    let fs = map fraction_of cs in
    let l = flagged mask 0 cs in
    let was : (x : Bool × Cell) → Memᴰ x l → Memᴰ x.1 cs = flagged-in mask 0 cs in
    ap close (restarted-map (closed fs) mask 0 cs)
    ∙ close-alike 0 0 (λ x. rank fs (fraction_of x.1)) (λ x. fraction_of x.1) (restart_if (closed fs)) (restart_if (λ c. c)) l
    (λ x n. reset-pair fs x.0 x.1 (own fraction_of cs x.1 (was x n)))
    (λ x y n m. ranks-to cs x.1 y.1 (was x n) (was y m)) (λ x y n m. ranks-from cs x.1 y.1 (was x n) (was y m))
    ∙ sym (ap close (restarted-map (λ c. c) mask 0 cs)) ∙ ap (λ ds. close (restarted mask 0 ds)) (map-id cs)

-- ---- A larger denominator

-- A cell over a denominator q times as large.
abbrev pub stretched : ℕ → Cell → Cell
stretched q (over m) = over m
stretched q (at m w f) = at m w (f * q)

stretched-pair : (q : ℕ) → 1 ≤ q → (c : Cell) → Pair 0 0 (fraction_of c * q) (fraction_of c) (stretched q c) c
stretched-pair q h (over m) = level refl refl
stretched-pair q h (at m w zero) = level (ap (at m w) (zero-mul q)) refl
stretched-pair q h (at m w (suc f)) =
    let r = suc f * q in
    let er : r ≡ r + 0 = omega arith in
    let ef : suc f ≡ suc f + 0 = omega arith in
    older m w (omega (arith, h, suc-mul f q)) (omega arith) (ap (at m w) er) (ap (at m w) ef)

pub close-stretched : (q : ℕ) → 1 ≤ q → (cs : List Cell) → close (map (stretched q) cs) ≡ close cs
close-stretched q h cs =
    close-alike 0 0 (λ c. fraction_of c * q) fraction_of (stretched q) (λ c. c) cs (λ c n. stretched-pair q h c)
    (λ x y n m e. le_of_mul-le-mul_right e h) (λ x y n m e. mul-le-mul_right q e)
    ∙ ap close (map-id cs)

-- ---- Values

-- A value is above the bound, or a whole number and a fraction of a clock that is not over.
data Parts (d m v : ℕ) : Type 0 where
  above : m * d < v → value_cell d m v ≡ over m → Parts d m v
  parts : (w f : ℕ) → f < d → w * d + f ≤ m * d → v ≡ w * d + f → value_cell d m v ≡ at m w f → Parts d m v

value-over : (d m v : ℕ) → m * d < v → value_cell d m v ≡ over m
value-over d m v h = rw (lt-ltb (m * d) v h) refl

value-at : (d m w f v : ℕ) → f < d → w * d + f ≤ m * d → v ≡ w * d + f → value_cell d m v ≡ at m w f
value-at d m w f v h q e =
    ap (value_cell d m) e
    ∙ ap (λ b. cond b (over m) (at m ((w * d + f) / d) ((w * d + f) % d))) (le-ltb (m * d) (w * d + f) q)
    ∙ ap₂ (at m) (digits_div w h) (digits_mod w h)

parts-of : (d m v : ℕ) → 1 ≤ d → Parts d m v
parts-of d m v h =
    elim (both (ltb (m * d) v)) [
      | inl t ↦ let q = ltb-true (m * d) v t in above q (value-over d m v q)
      | inr t ↦
          let e : v ≡ v / d * d + v % d = sym (div-add-mod' v d) in
          let q : v / d * d + v % d ≤ m * d = omega (arith, ltb-false (m * d) v t, e) in
          parts (v / d) (v % d) (mod-lt v h) q e (value-at d m (v / d) (v % d) v (mod-lt v h) q e)
    ]

-- The whole number is at most the bound, and is the bound only without a fraction.
parts-proper : (d m w f : ℕ) → 1 ≤ d → w * d + f ≤ m * d → Proper (at m w f)
parts-proper d m w f h q =
    let low : w * d ≤ m * d = omega (arith, q) in
    (le_of_mul-le-mul_right low h, λ e. let t = ap (λ k. k * d) e in omega (arith, q, t))

-- What values give.
pub value-proper : (d m v : ℕ) → 1 ≤ d → Proper (value_cell d m v)
value-proper d m v h =
    elim (parts-of d m v h) [
      | above q e ↦ subst Proper (sym e) tt
      | parts w f l q p e ↦ subst Proper (sym e) (parts-proper d m w f h q)
    ]

pub value-below : (d m v : ℕ) → 1 ≤ d → fraction_of (value_cell d m v) < d
value-below d m v h =
    elim (parts-of d m v h) [
      | above q e ↦ omega (arith, h, ap fraction_of e)
      | parts w f l q p e ↦ omega (arith, l, ap fraction_of e)
    ]

pub value-stretched : (q d m v : ℕ) → 1 ≤ q → 1 ≤ d → value_cell (d * q) m (v * q) ≡ stretched q (value_cell d m v)
value-stretched q d m v hq hd =
    elim (parts-of d m v hd) [
      | above h e ↦
          let t : suc (m * d) * q ≤ v * q = mul-le-mul_right q h in
          value-over (d * q) m (v * q) (omega (arith, hq, t, suc-mul (m * d) q, mul_assoc m d q)) ∙ sym (ap (stretched q) e)
      | parts w f l h p e ↦
          let same : v * q ≡ w * (d * q) + f * q = ap (λ k. k * q) p ∙ add-mul (w * d) f q ∙ ap (λ k. k + f * q) (mul_assoc w d q) in
          let t : suc f * q ≤ d * q = mul-le-mul_right q l in
          let u : v * q ≤ m * d * q = mul-le-mul_right q (omega (arith, h, p)) in
          value-at (d * q) m w (f * q) (v * q) (omega (arith, hq, t, suc-mul f q)) (omega (arith, same, u, mul_assoc m d q)) same
          ∙ sym (ap (stretched q) e)
    ]

-- ---- The least step

-- A clock after the least step of its numerator, d being the denominator.
abbrev pub ticked : ℕ → Cell → Cell
ticked d (over m) = over m
ticked d (at m w f) = cond (eqb (suc f) d) (at m (suc w) 0) (cond (eqb f 0) (cond (ltb w m) (at m w 1) (over m)) (at m w (suc f)))

ticked-whole : (d m w f : ℕ) → suc f ≡ d → ticked d (at m w f) ≡ at m (suc w) 0
ticked-whole d m w f e = rw (eq-eqb (suc f) d e) refl

ticked-zero : (d m w : ℕ) → 1 < d → ticked d (at m w 0) ≡ cond (ltb w m) (at m w 1) (over m)
ticked-zero d m w h = let one_less : 1 ≡ d → ⊥ = λ e. omega (arith, e, h) in rw (ne_eqb 1 d one_less) refl

ticked-more : (d m w f : ℕ) → (suc f ≡ d → ⊥) → 0 < f → ticked d (at m w f) ≡ at m w (suc f)
ticked-more d m w f h p = let some-part : f ≡ 0 → ⊥ = λ e. omega (arith, e, p) in rw (ne_eqb (suc f) d h, ne_eqb f 0 some-part) refl

-- A clock with a fraction is below its bound.
below-bound : (m w f : ℕ) → Proper (at m w f) → 0 < f → w < m
below-bound m w f h p =
    elim (both (ltb w m)) [
      | inl t ↦ ltb-true w m t
      | inr t ↦ absurd (omega (arith, p, h.1 (same h.0 (ltb-false w m t))))
    ]
  where
    same : w ≤ m → m ≤ w → w ≡ m
    same a b = omega (arith, a, b)

pub value-ticked : (d m v : ℕ) → 2 ≤ d → value_cell d m (suc v) ≡ ticked d (value_cell d m v)
value-ticked d m v h =
    elim (parts-of d m v (omega (arith, h))) [
      | above q e ↦ value-over d m (suc v) (omega (arith, q)) ∙ sym (ap (ticked d) e)
      | parts w f l q p e ↦ go w f l (parts-proper d m w f (omega (arith, h)) q) p (both (eqb (suc f) d)) ∙ sym (ap (ticked d) e)
    ]
  where
    zero-case : (w : ℕ) → v ≡ w * d + 0 → (b : Bool) → ltb w m ≡ b
        → value_cell d m (suc v) ≡ cond b (at m w 1) (over m)
    zero-case w p true t =
        let room : suc w * d ≤ m * d = mul-le-mul_right d (ltb-true w m t) in
        value-at d m w 1 (suc v) (omega (arith, h)) (omega (arith, room, suc-mul w d, h)) (omega (arith, p))
    zero-case w p false t =
        let full : m * d ≤ w * d = mul-le-mul_right d (ltb-false w m t) in
        value-over d m (suc v) (omega (arith, p, full))

    more : (w f : ℕ) → f < d → Proper (at m w f) → v ≡ w * d + f → (suc f ≡ d → ⊥)
        → value_cell d m (suc v) ≡ ticked d (at m w f)
    more w zero l r p t = zero-case w p (ltb w m) refl ∙ sym (ticked-zero d m w (omega (arith, h)))
    more w (suc f) l r p t =
        let room : suc w * d ≤ m * d = mul-le-mul_right d (below-bound m w (suc f) r (omega arith)) in
        value-at d m w (suc (suc f)) (suc v) (omega (arith, l, t)) (omega (arith, room, suc-mul w d, l, t)) (omega (arith, p))
        ∙ sym (ticked-more d m w (suc f) t (omega arith))

    go : (w f : ℕ) → f < d → Proper (at m w f) → v ≡ w * d + f → (eqb (suc f) d ≡ true) ⊎ (eqb (suc f) d ≡ false)
        → value_cell d m (suc v) ≡ ticked d (at m w f)
    go w f l r p (inl t) =
        let full = eqb-true (suc f) d t in
        let room : suc w * d ≤ m * d = mul-le-mul_right d (below-bound m w f r (omega (arith, full, h))) in
        value-at d m (suc w) 0 (suc v) (omega (arith, h)) (omega (arith, room)) (omega (arith, p, full, suc-mul w d))
        ∙ sym (ticked-whole d m w f full)
    go w f l r p (inr t) = more w f l r p (eqb-false (suc f) d t)

-- ---- Tests on cells that are closed up

some-map : (p : Cell → Bool) (g : Cell → Cell) (cs : List Cell) → ((c : Cell) → Memᴰ c cs → p (g c) ≡ p c)
    → some p (map g cs) ≡ some p cs
some-map p g [] h = refl
some-map p g (c ∷ cs) h = ap₂ ◌||◌ (h c (Memᴰ.head refl)) (some-map p g cs (λ x n. h x (Memᴰ.tail n)))

all_map : (p : Cell → Bool) (g : Cell → Cell) (cs : List Cell) → ((c : Cell) → Memᴰ c cs → p (g c) ≡ p c)
    → all p (map g cs) ≡ all p cs
all_map p g [] h = refl
all_map p g (c ∷ cs) h = ap₂ ◌&&◌ (h c (Memᴰ.head refl)) (all_map p g cs (λ x n. h x (Memᴰ.tail n)))

some_of : (p : Cell → Bool) (cs : List Cell) (x : Cell) → Memᴰ x cs → p x ≡ true → some p cs ≡ true
some_of p [] x n e = elim n [ ]
some_of p (y ∷ cs) x (Memᴰ.head q) e = rw (sym (ap p q) ∙ e) refl
some_of p (y ∷ cs) x (Memᴰ.tail n) e = or-true (p y) _ (some_of p cs x n e)

not-all : (p : Cell → Bool) (cs : List Cell) (x : Cell) → Memᴰ x cs → p x ≡ false → all p cs ≡ false
not-all p [] x n e = elim n [ ]
not-all p (y ∷ cs) x (Memᴰ.head q) e = rw (sym (ap p q) ∙ e) refl
not-all p (y ∷ cs) x (Memᴰ.tail n) e = go (p y) (not-all p cs x n e)
  where
    go : (b : Bool) → all p cs ≡ false → (b && all p cs) ≡ false
    go true t = t
    go false t = refl

rank-zero : (fs : List ℕ) (f : ℕ) → member f fs ≡ true → eqb (rank fs f) 0 ≡ eqb f 0
rank-zero fs zero e = refl
rank-zero fs (suc f) e =
    let p = rank-positive fs (suc f) e (omega arith) in
    ne_eqb (rank fs (suc f)) 0 (λ q. omega (arith, p, q)) ∙ sym (ne_eqb (suc f) 0 (λ q. omega (arith, q)))

closed-over : (fs : List ℕ) (c : Cell) → is_over (closed fs c) ≡ is_over c
closed-over fs (over m) = refl
closed-over fs (at m w f) = refl

closed-standing : (fs : List ℕ) (c : Cell) → member (fraction_of c) fs ≡ true → standing (closed fs c) ≡ standing c
closed-standing fs (over m) e = refl
closed-standing fs (at m w f) e = rank-zero fs f e

close-over : (cs : List Cell) → all is_over (close cs) ≡ all is_over cs
close-over cs = all_map is_over (closed (map fraction_of cs)) cs (λ c n. closed-over (map fraction_of cs) c)

close-standing : (cs : List Cell) → some standing (close cs) ≡ some standing cs
close-standing cs =
    some-map standing (closed (map fraction_of cs)) cs (λ c n. closed-standing (map fraction_of cs) c (own fraction_of cs c n))

standing-not-over : (c : Cell) → standing c ≡ true → is_over c ≡ false
standing-not-over (over m) e = absurd (true-false (sym e))
standing-not-over (at m w f) e = refl

part-not-over : (c : Cell) → 0 < fraction_of c → is_over c ≡ false
part-not-over (over m) h = absurd (omega arith)
part-not-over (at m w f) h = refl

-- ---- The least step is a delay, or no move of the region

-- What a delay leads to is closed up.
delay-closed : (cs ds : List Cell) → delay (close cs) ≡ cells ds → delay (close cs) ≡ cells (close ds)
delay-closed cs ds e = e ∙ ap cells (sym (close-still ds (delay-no-gap (close cs) ds (close-no-gap cs) e)))

rise : (any : Bool) (r : ℕ) → cond any (suc r) r ≡ r + cond any 1 0
rise true r = omega arith
rise false r = omega arith

leave-pair : (d : ℕ) (any : Bool) (fs : List ℕ) (c : Cell) → member (fraction_of c) fs ≡ true → suc (fraction_of c) < d
    → (leaving (closed fs c) ≡ true → any ≡ true)
    → Pair (cond any 1 0) 1 (rank fs (fraction_of c)) (fraction_of c) (leave any (closed fs c)) (ticked d c)
leave-pair d any fs (over m) e h l = level refl refl
leave-pair d any fs (at m w zero) e h l =
    subst (λ t. Pair (cond any 1 0) 1 0 0 (cond (ltb w m) (at m w 1) (over m)) t) (sym (ticked-zero d m w h)) (go (ltb w m) l)
  where
    go : (b : Bool) → (b ≡ true → any ≡ true) → Pair (cond any 1 0) 1 0 0 (cond b (at m w 1) (over m)) (cond b (at m w 1) (over m))
    go true k = first (ap (λ t. cond t 1 0) (k refl)) refl refl refl
    go false k = level refl refl
leave-pair d any fs (at m w (suc f)) e h l =
    let r = rank fs (suc f) in
    let pos : 0 < r = rank-positive fs (suc f) e (omega arith) in
    let next : suc (suc f) ≡ suc f + 1 = omega arith in
    older m w pos (omega arith) (leave-ranked any m w r (λ q. omega (arith, pos, q)) ∙ ap (at m w) (rise any r))
    (ticked-more d m w (suc f) (λ q. omega (arith, q, h)) (omega arith) ∙ ap (at m w) next)

stay-pair : (d : ℕ) (c : Cell) → standing c ≡ false → suc (fraction_of c) < d
    → Pair 0 1 (fraction_of c) (fraction_of c) c (ticked d c)
stay-pair d (over m) s h = level refl refl
stay-pair d (at m w f) s h =
    let pos : 0 < f = omega (arith, eqb-false f 0 s) in
    let same : f ≡ f + 0 = omega arith in
    let next : suc f ≡ f + 1 = omega arith in
    older m w pos pos (ap (at m w) same) (ticked-more d m w f (λ q. omega (arith, q, h)) pos ∙ ap (at m w) next)

arrive-pair : (d top : ℕ) (fs : List ℕ) (c : Cell) → member (fraction_of c) fs ≡ true → standing c ≡ false
    → (rank fs (fraction_of c) ≡ top → suc (fraction_of c) ≡ d) → (suc (fraction_of c) ≡ d → rank fs (fraction_of c) ≡ top)
    → Pair 0 1 (rank fs (fraction_of c)) (fraction_of c) (arrive top (closed fs c)) (ticked d c)
arrive-pair d top fs (over m) e s to from = level refl refl
arrive-pair d top fs (at m w f) e s to from =
    elim (both (eqb (suc f) d)) [
      | inl t ↦
          let last = eqb-true (suc f) d t in
          let whole = ticked-whole d m w f last in
          level (rw (eq-eqb (rank fs f) top (from last)) (sym whole)) (ap fraction_of whole)
      | inr t ↦
          let other = eqb-false (suc f) d t in
          let pos : 0 < f = omega (arith, eqb-false f 0 s) in
          let same : rank fs f ≡ rank fs f + 0 = omega arith in
          let next : suc f ≡ f + 1 = omega arith in
          older m w (rank-positive fs f e pos) pos
          (rw (ne_eqb (rank fs f) top (λ q. other (to q))) (ap (at m w) same))
          (ticked-more d m w f other pos ∙ ap (at m w) next)
    ]

highest-map : (g : Cell → Cell) (n : ℕ) (cs : List Cell) → ((c : Cell) → Memᴰ c cs → fraction_of (g c) ≤ n)
    → highest (map g cs) ≤ n
highest-map g n [] h = omega arith
highest-map g n (c ∷ cs) h =
    let here = h c (Memᴰ.head refl) in
    let rest = highest-map g n cs (λ x m. h x (Memᴰ.tail m)) in
    omega (arith, here, rest)

-- The highest rank is that of the highest fraction.
highest-close : (cs : List Cell) (x : Cell) → Memᴰ x cs → ((c : Cell) → Memᴰ c cs → fraction_of c ≤ fraction_of x)
    → highest (close cs) ≡ rank (map fraction_of cs) (fraction_of x)
highest-close cs x n h =
    let fs = map fraction_of cs in
    let low = most (close cs) (closed fs x) (to_map (closed fs) cs x n) in
    let up : highest (close cs) ≤ rank fs (fraction_of x) =
    highest-map (closed fs) (rank fs (fraction_of x)) cs
    (λ c m. subst (λ k. k ≤ rank fs (fraction_of x)) (sym (closed-rank fs c)) (rank_mono fs (fraction_of c) (fraction_of x) (h c m))) in
    omega (arith, low, up, closed-rank fs x)

module _ (d : ℕ) (two : 2 ≤ d) (cs : List Cell) (proper : (c : Cell) → Memᴰ c cs → Proper c)
    (below : (c : Cell) → Memᴰ c cs → fraction_of c < d) where
  -- No clock is about to arrive, and some stand at a whole number: the least step is the region's delay.
  pub tick-leaves : ((c : Cell) → Memᴰ c cs → suc (fraction_of c) < d) → some standing cs ≡ true
      → delay (close cs) ≡ cells (close (map (ticked d) cs))
  tick-leaves h s =
      let fs = map fraction_of cs in
      let any = some leaving (close cs) in
      let x = one standing cs s in
      let not-over = close-over cs ∙ not-all is_over cs x.0 x.1 (standing-not-over x.0 x.2) in
      delay-closed cs (map (leave any) (close cs)) (delay-leaves (close cs) not-over (close-standing cs ∙ s))
      ∙ ap (λ ds. cells (close ds)) (map-map (leave any) (closed fs) cs)
      ∙ ap cells
      (close-alike (cond any 1 0) 1 (λ c. rank fs (fraction_of c)) fraction_of (λ c. leave any (closed fs c)) (ticked d) cs
      (λ c n. leave-pair d any fs c (own fraction_of cs c n) (h c n) (some_of leaving (close cs) (closed fs c) (to_map (closed fs) cs c n)))
      (ranks-to cs) (ranks-from cs))

  -- None stands, none is about to arrive: the region stays.
  pub tick-stays : ((c : Cell) → Memᴰ c cs → suc (fraction_of c) < d) → some standing cs ≡ false
      → close (map (ticked d) cs) ≡ close cs
  tick-stays h s =
      sym
      (close-alike 0 1 fraction_of fraction_of (λ c. c) (ticked d) cs (λ c n. stay-pair d c (none standing cs c s n) (h c n))
      (λ x y n m e. e) (λ x y n m e. e))
      ∙ ap close (map-id cs)

  -- None stands, and one is about to arrive: the least step is the region's delay.
  pub tick-arrives : some standing cs ≡ false → (x : Cell) → Memᴰ x cs → suc (fraction_of x) ≡ d
      → delay (close cs) ≡ cells (close (map (ticked d) cs))
  tick-arrives s x n e =
      let fs = map fraction_of cs in
      let top = highest (close cs) in
      let not-over = close-over cs ∙ not-all is_over cs x n (part-not-over x (omega (arith, two, e))) in
      let top-is = highest-close cs x n (λ c m. let b = below c m in omega (arith, b, e)) in
      delay-closed cs (map (arrive top) (close cs)) (delay-arrives (close cs) not-over (close-standing cs ∙ s))
      ∙ ap (λ ds. cells (close ds)) (map-map (arrive top) (closed fs) cs)
      ∙ ap cells
      (close-alike 0 1 (λ c. rank fs (fraction_of c)) fraction_of (λ c. arrive top (closed fs c)) (ticked d) cs
      (λ c m. arrive-pair d top fs c (own fraction_of cs c m) (none standing cs c s m)
      (λ q. let b = below c m in let up = ranks-to cs x c n m (omega (arith, q, top-is)) in omega (arith, b, up, e))
      (λ q. let same : fraction_of c ≡ fraction_of x = omega (arith, q, e) in ap (rank fs) same ∙ sym top-is))
      (ranks-to cs) (ranks-from cs))

pub delay-all-over : (cs : List Cell) → all is_over cs ≡ true → delay (close cs) ≡ nothing
delay-all-over cs e = delay-nothing (close cs) (close-over cs ∙ e)

-- ---- Atoms

-- An atom asks no more than whether the clock is below the constant, and whether it is at most the constant.
abbrev answer : (comparison : ℕ) (less most : Bool) → Option Bool
answer comparison less most =
    cond (eqb comparison 0) (verdict less)
    (cond (eqb comparison 1) (verdict most)
    (cond (eqb comparison 2) (verdict (not most))
    (cond (eqb comparison 3) (verdict (not less)) (cond (eqb comparison 4) (verdict (most && not less)) None))))

atom-is : (comparison k : ℕ) (c : Cell) → atom comparison k c ≡ answer comparison (below k c) (at_most k c)
unfolding atom
atom-is comparison k c = refl

closed-below : (fs : List ℕ) (k : ℕ) (c : Cell) → below k (closed fs c) ≡ below k c
closed-below fs k (over m) = refl
closed-below fs k (at m w f) = refl

closed-at-most : (fs : List ℕ) (k : ℕ) (c : Cell) → member (fraction_of c) fs ≡ true → at_most k (closed fs c) ≡ at_most k c
closed-at-most fs k (over m) e = refl
closed-at-most fs k (at m w f) e = ap (λ b. cond b (leb w k) (ltb w k)) (rank-zero fs f e)

-- Atoms see no difference between fractions and ranks.
pub atom-closed : (cs : List Cell) (c : Cell) → Memᴰ c cs → (comparison k : ℕ)
    → atom comparison k (closed (map fraction_of cs) c) ≡ atom comparison k c
atom-closed cs c n comparison k =
    let fs = map fraction_of cs in
    atom-is comparison k (closed fs c)
    ∙ ap₂ (answer comparison) (closed-below fs k c) (closed-at-most fs k c (own fraction_of cs c n))
    ∙ sym (atom-is comparison k c)

value-less : (d m v k : ℕ) → 1 ≤ d → k ≤ m → below k (value_cell d m v) ≡ ltb v (k * d)
value-less d m v k h q =
    elim (parts-of d m v h) [
      | above l e ↦ ap (below k) e ∙ sym (le-ltb v (k * d) (omega (arith, l, mul-le-mul_right d q)))
      | parts w f l r p e ↦ ap (below k) e ∙ go w f l p (ltb w k) refl
    ]
  where
    go : (w f : ℕ) → f < d → v ≡ w * d + f → (b : Bool) → ltb w k ≡ b → b ≡ ltb v (k * d)
    go w f l p true t =
        let low : w * d + f < k * d = digits_lt (ltb-true w k t) l in sym (lt-ltb v (k * d) (omega (arith, p, low)))
    go w f l p false t =
        let high : k * d ≤ w * d = mul-le-mul_right d (ltb-false w k t) in sym (le-ltb v (k * d) (omega (arith, p, high)))

value-most : (d m v k : ℕ) → 1 ≤ d → k ≤ m → at_most k (value_cell d m v) ≡ leb v (k * d)
value-most d m v k h q =
    elim (parts-of d m v h) [
      | above l e ↦ ap (at_most k) e ∙ sym (lt-leb v (k * d) (omega (arith, l, mul-le-mul_right d q)))
      | parts w f l r p e ↦ ap (at_most k) e ∙ go w f l p
    ]
  where
    whole : (w : ℕ) → v ≡ w * d + 0 → (b : Bool) → leb w k ≡ b → b ≡ leb v (k * d)
    whole w p true t =
        let low : w * d ≤ k * d = mul-le-mul_right d (leb-true w k t) in sym (le-leb v (k * d) (omega (arith, p, low)))
    whole w p false t =
        let high : k * d + 0 < w * d = digits_lt (leb-false w k t) h in sym (lt-leb v (k * d) (omega (arith, p, high)))

    part : (w f : ℕ) → suc f < d → v ≡ w * d + suc f → (b : Bool) → ltb w k ≡ b → b ≡ leb v (k * d)
    part w f l p true t =
        let low : w * d + suc f < k * d = digits_lt (ltb-true w k t) l in sym (le-leb v (k * d) (omega (arith, p, low)))
    part w f l p false t =
        let high : k * d ≤ w * d = mul-le-mul_right d (ltb-false w k t) in sym (lt-leb v (k * d) (omega (arith, p, high)))

    go : (w f : ℕ) → f < d → v ≡ w * d + f → cond (eqb f 0) (leb w k) (ltb w k) ≡ leb v (k * d)
    go w zero l p = whole w p (leb w k) refl
    go w (suc f) l p = rw (ne_eqb (suc f) 0 (λ e. omega (arith, e))) (part w f l p (ltb w k) refl)

not-most : (a b : ℕ) → not (leb a b) ≡ ltb b a
not-most a b =
    elim (both (leb a b)) [
      | inl t ↦ ap not t ∙ sym (le-ltb b a (leb-true a b t))
      | inr t ↦ ap not t ∙ sym (lt-ltb b a (leb-false a b t))
    ]

not-less : (a b : ℕ) → not (ltb a b) ≡ leb b a
not-less a b =
    elim (both (ltb a b)) [
      | inl t ↦ ap not t ∙ sym (lt-leb b a (ltb-true a b t))
      | inr t ↦ ap not t ∙ sym (le-leb b a (ltb-false a b t))
    ]

equal-both : (a b : ℕ) → (leb a b && leb b a) ≡ eqb a b
equal-both a b =
    elim (both (eqb a b)) [
      | inl t ↦
          let e = eqb-true a b t in
          ap₂ ◌&&◌ (le-leb a b (omega (arith, e))) (le-leb b a (omega (arith, e))) ∙ sym t
      | inr t ↦ go (leb a b) (leb b a) refl refl (eqb-false a b t) ∙ sym t
    ]
  where
    go : (x y : Bool) → leb a b ≡ x → leb b a ≡ y → (a ≡ b → ⊥) → (x && y) ≡ false
    go true true ex ey h = absurd (omega (arith, leb-true a b ex, leb-true b a ey, h))
    go true false ex ey h = refl
    go false y ex ey h = refl

holds-cond : (t a x y : Bool) (v : Option Bool) → a ≡ x → is_holds v ≡ y → is_holds (cond t (verdict a) v) ≡ cond t x y
holds-cond true a x y v e q = e
holds-cond false a x y v e q = q

-- An atom says of a value what the automaton says of it.
pub atom-value : (comparison k d m v : ℕ) → 1 ≤ d → k ≤ m → is_holds (atom comparison k (value_cell d m v)) ≡ compares comparison v d k
unfolding compares
atom-value comparison k d m v h q =
    let less = value-less d m v k h q in
    let atmost = value-most d m v k h q in
    ap is_holds (atom-is comparison k (value_cell d m v))
    ∙ holds-cond (eqb comparison 0) _ _ _ _ less
    (holds-cond (eqb comparison 1) _ _ _ _ atmost
    (holds-cond (eqb comparison 2) _ _ _ _ (ap not atmost ∙ not-most v (k * d))
    (holds-cond (eqb comparison 3) _ _ _ _ (ap not less ∙ not-less v (k * d))
    (holds-cond (eqb comparison 4) _ _ _ None (ap₂ ◌&&◌ atmost (ap not less ∙ not-less v (k * d)) ∙ equal-both v (k * d)) refl))))
