-- Laws on states, for the region theorem. Equal states are alike in all that they do (`same-..`). Atoms, invariants and edges of
-- a state are those of its region (`..-placed`). A state delays as its region does (`delays-placed`): by some least steps over
-- a larger denominator, each of which leads nowhere or to the region that follows.
use Rattle.std.specs.Prelude.{ℕ, zero, suc, ◌+◌, ◌*◌, ◌/◌, ◌%◌, ◌≤◌, ◌<◌, ◌⊎◌, ◌↔◌, ◌≡◌, Bool}
use Rattle.std.specs.Prelude.{true, false, ◌&&◌, ◌||◌, eqb, length, replicate, Some, None}
use native.Mathlib.Omega.{arith}
use Rattle.std.proofs.Math.Nat.{zero-div, zero-mod, one-le-mul, eq_of_mul-eq-mul_right}
use Rattle.std.proofs.Common.{mul_comm, mul-le-mul_right, mul-lt-mul_of_pos_right, le_of_mul-le-mul_right, lt_of_mul-lt-mul_right, sym}
use Rattle.std.proofs.Common.{◌∙◌, subst, eqb-true, eq-eqb, ne_eqb, ltb-true, lt-ltb, le-ltb, leb-true, le-leb}
use Rattle.std.proofs.Math.Logic.{inl, inr}
use Rattle.std.proofs.Math.Path.{refl, ap, ap₂}
use Rattle.std.proofs.Math.Bool.{cond, not}
use mathlib.Core.List.Memᴰ
use mathlib.Core.List.{List, [], ◌∷◌, map, map-id, map-map}
use mathlib.Core.List.{Memᴰ}
use Rattle.std.proofs.Math.Dec.{leb, ltb}
use Rattle.std.proofs.Math.ListN.{get_or, length-map}
use Rattle.std.proofs.lemmas.List.{length-replicate}
use Rattle.std.proofs.lemmas.Bool.{eqb-false}
use Rattle.table.specs.Model.{Model, Edge, reset_in}
use Rattle.table.specs.declared.model.Branch.{Branch}
use Rattle.table.specs.Sound.{SoundBranch, Sound}
use Rattle.clocks.specs.Atoms.{atom}
use Rattle.clocks.specs.Cells.{Cell, over, at, fraction_of, closed, close, restart, reset}
use Rattle.clocks.specs.Cells.{is_over, standing, all, some, nothing, cells, delay}
use Rattle.clocks.specs.Packed.{cell_of, clock_of, clock_at, unpack, byte_at, pack, moved_to, delayed, after_reset}
use Rattle.regions.specs.Graph.{every, largest_constant, bounds_of, is_holds, holds, meets, fits, landing, lands, available}
use Rattle.regions.specs.Graph.{first, DelaysTo, stays, goes}
use Rattle.regions.specs.Graph.{by-delay, by-edge, Reached, led}
use Rattle.states.specs.Covering.{Covers, Waits, still, onward}
use Rattle.states.specs.Placing.{value_cell, state_cell, state_cells, placed}
use Rattle.regions.specs.Laws.Bounds.{all-at, invariant-bound, guard-bound, sound-guard, sound-invariant}
use Rattle.regions.specs.Laws.Bounds.{constants-small}
use Rattle.regions.specs.Laws.Call.{false-true, follows, gathers}
use Rattle.regions.specs.Explore.{both_true}
use Rattle.regions.specs.View.{label_of}
use Rattle.regions.specs.Laws.Graph.{delay-some, edge-some}
use Rattle.clocks.proofs.Laws.Cells.{none, from-map, to_map, closed-proper, close-no-gap, both}
use Rattle.clocks.specs.Cells.{Proper}
use Rattle.regions.specs.Laws.Formed.{bound_of, cells_by, Read, within, cells-formed, cells-again}
use Rattle.regions.specs.Formed.{Small, Formed}
use Rattle.regions.specs.Laws.Formed.{model-small}
use Rattle.states.specs.Laws.Fractions.{reset-close, stretched, close-stretched, value-stretched, value-proper}
use Rattle.states.specs.Laws.Fractions.{value-below, ticked, value-ticked, tick-leaves, tick-stays, tick-arrives}
use Rattle.states.specs.Laws.Fractions.{delay-all-over, atom-closed, atom-value}
use Rattle.clocks.specs.declared.region.Bounds.{Bounds}
use Rattle.clocks.specs.declared.region.Region.{Region}
use Rattle.states.specs.States.{State, IsState, Same, compares, is_true, inside, later, Delays}
use Rattle.states.specs.States.{cleared, target, enabled}

-- ---- Lists and tests

same_test : (x y : Bool) → (x ≡ true → y ≡ true) → (y ≡ true → x ≡ true) → x ≡ y
same_test true y f g = sym (f refl)
same_test false true f g = g refl
same_test false false f g = refl

map-alike : (f g : ℕ → ℕ) → ((v : ℕ) → f v ≡ g v) → (l : List ℕ) → map f l ≡ map g l
map-alike f g e l = λ i. map (λ v. e v i) l

pub every-alike : {A : Type 0} (p q : A → Bool) (l : List A) → ((x : A) → Memᴰ x l → p x ≡ q x) → every p l ≡ every q l
every-alike p q [] e = refl
every-alike p q (x ∷ l) e =
    ap₂ (λ (a b : Bool). a && b) (e x (Memᴰ.head refl)) (every-alike p q l (λ y n. e y (Memᴰ.tail n)))

-- Where one test of each item implies another.
every-still : {A : Type 0} (p q : A → Bool) (l : List A) → ((x : A) → Memᴰ x l → p x ≡ true → q x ≡ true)
    → every p l ≡ true → every q l ≡ true
every-still p q [] e h = refl
every-still p q (x ∷ l) e h =
    let k = both_true (p x) (every p l) h in
    rw (e x (Memᴰ.head refl) k.0, every-still p q l (λ y n. e y (Memᴰ.tail n)) k.1) refl

swap : (a b : ℕ) (l : List ℕ) → map (λ v. v * a) (map (λ v. v * b) l) ≡ map (λ v. v * b) (map (λ v. v * a) l)
swap a b l =
    map-map (λ v. v * a) (λ v. v * b) l ∙ map-alike _ _ (λ v. omega arith) l ∙ sym (map-map (λ v. v * b) (λ v. v * a) l)

times-injective : (d : ℕ) → 1 ≤ d → (l k : List ℕ) → map (λ v. v * d) l ≡ map (λ v. v * d) k → l ≡ k
times-injective d h [] [] e = refl
times-injective d h [] (y ∷ k) e = absurd (let z : ◌≡◌ {A = ℕ} 0 1 = cc in omega arith)
times-injective d h (x ∷ l) [] e = absurd (let z : ◌≡◌ {A = ℕ} 0 1 = cc in omega arith)
times-injective d h (x ∷ l) (y ∷ k) e =
    let p : x * d ≡ y * d = cc in
    let q : map (λ v. v * d) l ≡ map (λ v. v * d) k = cc in
    ap₂ (λ (a : ℕ) (b : List ℕ). a ∷ b) (eq_of_mul-eq-mul_right d h x y p) (times-injective d h l k q)

get_d-times : (q : ℕ) (l : List ℕ) (i : ℕ) → get_or (map (λ v. v * q) l) i 0 ≡ get_or l i 0 * q
get_d-times q [] i = omega arith
get_d-times q (x ∷ l) zero = refl
get_d-times q (x ∷ l) (suc i) = get_d-times q l i

-- ---- States over a larger denominator, and equal states

-- The same values over a denominator q times as large.
abbrev pub scaled : ℕ → State → State
scaled q s = record { location = s.location; values = map (λ v. v * q) s.values; denominator = s.denominator * q }

pub same_refl : (s : State) → Same s s
same_refl s = record { location = refl; values = refl }

pub same-sym : {s t : State} → Same s t → Same t s
same-sym e = record { location = sym e.location; values = sym e.values }

pub same-trans : {s t u : State} → 1 ≤ t.denominator → Same s t → Same t u → Same s u
same-trans {s} {t} {u} h e f =
    record {
      location = e.location ∙ f.location;
      values = times-injective t.denominator h _ _ (
          swap t.denominator u.denominator s.values
          ∙ ap (map (λ v. v * u.denominator)) e.values
          ∙ swap u.denominator s.denominator t.values
          ∙ ap (map (λ v. v * s.denominator)) f.values
          ∙ swap s.denominator t.denominator u.values
          );
    }

scaled-same : (q : ℕ) (s : State) → Same (scaled q s) s
scaled-same q s =
    record {
      location = refl;
      values = map-map (λ v. v * s.denominator) (λ v. v * q) s.values ∙ map-alike _ _ (λ v. omega arith) s.values;
    }

-- Equal states are one over a common denominator.
same-scaled : {s t : State} → Same s t → scaled t.denominator s ≡ scaled s.denominator t
same-scaled {s} {t} e =
    λ i. record { location = e.location i; values = e.values i; denominator = mul_comm s.denominator t.denominator i }

-- What does not change with a larger denominator is one for equal states.
module _ {s t : State} (hs : 1 ≤ s.denominator) (ht : 1 ≤ t.denominator) (e : Same s t) where
  alike : {A : Type 0} (f : State → A) → ((q : ℕ) (x : State) → 1 ≤ q → 1 ≤ x.denominator → f (scaled q x) ≡ f x) → f s ≡ f t
  alike f k = sym (k t.denominator s ht hs) ∙ ap f (same-scaled e) ∙ k s.denominator t hs ht

  -- What a larger denominator goes along with leads equal states to equal states.
  carried : (g : State → State) → ((q : ℕ) (x : State) → g (scaled q x) ≡ scaled q (g x)) → 1 ≤ (g s).denominator
      → Same (g s) (g t)
  carried g k h =
      let one : scaled t.denominator (g s) ≡ scaled s.denominator (g t) =
      sym (k t.denominator s) ∙ ap g (same-scaled e) ∙ k s.denominator t in
      same-trans {t = scaled t.denominator (g s)} (one-le-mul h ht) (same-sym (scaled-same t.denominator (g s)))
      (subst (λ x. Same x (g t)) (sym one) (scaled-same s.denominator (g t)))

-- ---- Atoms and invariants of equal states

module _ (q : ℕ) (h : 1 ≤ q) where
  ltb-times : (a b : ℕ) → ltb (a * q) (b * q) ≡ ltb a b
  ltb-times a b =
      same_test _ _ (λ e. lt-ltb a b (lt_of_mul-lt-mul_right q (ltb-true (a * q) (b * q) e)))
      (λ e. lt-ltb (a * q) (b * q) (mul-lt-mul_of_pos_right (ltb-true a b e) h))

  leb-times : (a b : ℕ) → leb (a * q) (b * q) ≡ leb a b
  leb-times a b =
      same_test _ _ (λ e. le-leb a b (le_of_mul-le-mul_right (leb-true (a * q) (b * q) e) h))
      (λ e. le-leb (a * q) (b * q) (mul-le-mul_right q (leb-true a b e)))

  eqb-times : (a b : ℕ) → eqb (a * q) (b * q) ≡ eqb a b
  eqb-times a b =
      same_test _ _ (λ e. eq-eqb a b (eq_of_mul-eq-mul_right q h a b (eqb-true (a * q) (b * q) e)))
      (λ e. eq-eqb (a * q) (b * q) (ap (λ x. x * q) (eqb-true a b e)))

  compares-scaled : (comparison v d k : ℕ) → compares comparison (v * q) (d * q) k ≡ compares comparison v d k
  unfolding compares
  compares-scaled c v d k =
      let e : k * (d * q) ≡ k * d * q = omega arith in
      let below = ap (ltb (v * q)) e ∙ ltb-times v (k * d) in
      let at_most = ap (leb (v * q)) e ∙ leb-times v (k * d) in
      let above = ap (λ x. ltb x (v * q)) e ∙ ltb-times (k * d) v in
      let least = ap (λ x. leb x (v * q)) e ∙ leb-times (k * d) v in
      let equal = ap (eqb (v * q)) e ∙ eqb-times v (k * d) in
      λ i. cond (eqb c 0) (below i) (cond (eqb c 1) (at_most i)
      (cond (eqb c 2) (above i) (cond (eqb c 3) (least i) (cond (eqb c 4) (equal i) false))))

  true-scaled : (s : State) (clock comparison k : ℕ) → is_true (scaled q s) clock comparison k ≡ is_true s clock comparison k
  true-scaled s i c k =
      ap (λ v. compares c v (s.denominator * q) k) (get_d-times q s.values i)
      ∙ compares-scaled c (get_or s.values i 0) s.denominator k

  inside-scaled : (m : Model) (s : State) → inside m (scaled q s) ≡ inside m s
  unfolding inside
  inside-scaled m s =
      every-alike _ _ m.invariants
      (λ a n. ap (λ b. not (eqb a.location s.location) || b) (true-scaled s a.clock a.comparison a.constant))

-- ---- Moves of equal states

cleared-times : (q mask i : ℕ) (l : List ℕ) → cleared mask i (map (λ v. v * q) l) ≡ map (λ v. v * q) (cleared mask i l)
cleared-times q mask i [] = refl
cleared-times q mask i (v ∷ l) = ap₂ (λ (a : ℕ) (b : List ℕ). a ∷ b) (one (reset_in mask i)) (cleared-times q mask (suc i) l)
  where
    one : (b : Bool) → cond b 0 (v * q) ≡ cond b 0 v * q
    one true = omega arith
    one false = refl

target-scaled : (b : Branch) (q : ℕ) (s : State) → target (scaled q s) b ≡ scaled q (target s b)
unfolding target
target-scaled b q s =
    ap (λ (l : List ℕ). record { location = b.target; values = l; denominator = s.denominator * q })
    (cleared-times q b.mask 0 s.values)

enabled-scaled : (m : Model) (e : Edge) (q : ℕ) → 1 ≤ q → (s : State) → enabled m e (scaled q s) ≡ enabled m e s
unfolding enabled
enabled-scaled m e q h s =
    ap₂ (λ (a b : Bool). (eqb e.source s.location && a) && b)
    (every-alike _ _ e.guards (λ g n. true-scaled q h s g.clock g.comparison g.constant))
    (every-alike _ _ e.branches (λ b n. ap (inside m) (target-scaled b q s) ∙ inside-scaled q h m (target s b)))

later-scaled : (p q k : ℕ) (s : State) → later (scaled k s) p q ≡ scaled k (later s p q)
unfolding later
later-scaled p q k s =
    ap₂ (λ (l : List ℕ) (d : ℕ). record { location = s.location; values = l; denominator = d })
    (map-map (λ v. v * q + p * (s.denominator * k)) (λ v. v * k) s.values ∙ map-alike _ _ (λ v. omega arith) s.values
    ∙ sym (map-map (λ v. v * k) (λ v. v * q + p * s.denominator) s.values))
    (omega arith)

later-positive : (p q : ℕ) (s : State) → 1 ≤ q → 1 ≤ s.denominator → 1 ≤ (later s p q).denominator
unfolding later
later-positive p q s h hs = one-le-mul hs h

target-positive : (b : Branch) (s : State) → 1 ≤ s.denominator → 1 ≤ (target s b).denominator
unfolding target
target-positive b s hs = hs

-- Equal states are alike in all that they do.
module _ {s t : State} (hs : 1 ≤ s.denominator) (ht : 1 ≤ t.denominator) (e : Same s t) where
  pub same-inside : (m : Model) → inside m s ≡ inside m t
  same-inside m = alike hs ht e (inside m) (λ q x h hx. inside-scaled q h m x)

  pub same-enabled : (m : Model) (edge : Edge) → enabled m edge s ≡ enabled m edge t
  same-enabled m edge = alike hs ht e (enabled m edge) (λ q x h hx. enabled-scaled m edge q h x)

  pub same_target : (b : Branch) → Same (target s b) (target t b)
  same_target b = carried hs ht e (λ x. target x b) (target-scaled b) (target-positive b s hs)

  pub same-later : (p q : ℕ) → 1 ≤ q → Same (later s p q) (later t p q)
  same-later p q h = carried hs ht e (λ x. later x p q) (later-scaled p q) (later-positive p q s h hs)

-- ---- Delays of states

-- t is s some time later.
pub record Later (s t : State) : Type 0 where
  pub numerator : ℕ
  pub denominator : ℕ
  pub positive : 1 ≤ denominator
  pub arrives : Same (later s numerator denominator) t

later-none : (s : State) → Same (later s 0 1) s
unfolding later
later-none s =
    record {
      location = refl;
      values = map-map (λ v. v * s.denominator) (λ v. v * 1 + 0 * s.denominator) s.values
          ∙ map-alike _ _ (λ v. omega arith) s.values;
    }

later-later : (p q p' q' : ℕ) (s : State) → later (later s p q) p' q' ≡ later s (p * q' + p' * q) (q * q')
unfolding later
later-later p q p' q' s =
    ap₂ (λ (l : List ℕ) (d : ℕ). record { location = s.location; values = l; denominator = d })
    (map-map (λ v. v * q' + p' * (s.denominator * q)) (λ v. v * q + p * s.denominator) s.values
    ∙ map-alike _ _ (λ v. omega arith) s.values)
    (omega arith)

-- Equal states: no time later.
later_same : {s t : State} → 1 ≤ s.denominator → Same s t → Later s t
later_same {s} {t} h e =
    record { numerator = 0; denominator = 1; positive = omega arith; arrives = same-trans h (later-none s) e }

later_trans : {s t u : State} → 1 ≤ s.denominator → 1 ≤ t.denominator → Later s t → Later t u → Later s u
later_trans {s} {t} {u} hs ht a b =
    let p = a.numerator in
    let q = a.denominator in
    let hq : 1 ≤ (later s p q).denominator = later-positive p q s a.positive hs in
    let on = same-later hq ht a.arrives b.numerator b.denominator b.positive in
    let there = same-trans (later-positive b.numerator b.denominator t b.positive ht) on b.arrives in
    record {
      numerator = p * b.denominator + b.numerator * q;
      denominator = q * b.denominator;
      positive = one-le-mul a.positive b.positive;
      arrives = subst (λ x. Same x u) (later-later p q b.numerator b.denominator s) there;
    }

delays-later : {m : Model} {s t : State} → Delays m s t → Later s t
delays-later a =
    record { numerator = a.numerator; denominator = a.denominator; positive = a.positive; arrives = a.arrives }

later-delays : {m : Model} {s t : State} → Later s t → inside m t ≡ true → Delays m s t
later-delays a h =
    record { numerator = a.numerator; denominator = a.denominator; positive = a.positive; arrives = a.arrives; meets = h }

-- Equal states delay alike, and a state delays into equal states alike.
pub same-delays : {m : Model} {s s' t t' : State} → 1 ≤ s.denominator → 1 ≤ s'.denominator → 1 ≤ t.denominator
    → 1 ≤ t'.denominator → Same s s' → Same t t' → Delays m s t → Delays m s' t'
same-delays {m} hs hs' ht ht' e f a =
    later-delays
    (later_trans hs' hs (later_same hs' (same-sym e)) (later_trans hs ht (delays-later a) (later_same ht f)))
    (sym (same-inside ht ht' f m) ∙ a.meets)

-- A delay keeps the location.
pub delays-location : {m : Model} {s t : State} → Delays m s t → t.location ≡ s.location
unfolding later
delays-location a = sym a.arrives.location

-- ---- Moves lead states to states

same_length : (a b : ℕ) (l k : List ℕ) → map (λ v. v * a) l ≡ map (λ v. v * b) k → length l ≡ length k
same_length a b l k e = sym (length-map l (λ v. v * a)) ∙ ap length e ∙ length-map k (λ v. v * b)

cleared-length : (mask i : ℕ) (l : List ℕ) → length (cleared mask i l) ≡ length l
cleared-length mask i [] = refl
cleared-length mask i (v ∷ l) = ap suc (cleared-length mask (suc i) l)

module _ (m : Model) where
  scaled-state : (q : ℕ) → 1 ≤ q → (s : State) → IsState m s → IsState m (scaled q s)
  scaled-state q h s is =
      record {
        location = is.location;
        values = length-map s.values (λ v. v * q) ∙ is.values;
        denominator = one-le-mul is.denominator h;
      }

  pub later-state : (p q : ℕ) → 1 ≤ q → (s : State) → IsState m s → IsState m (later s p q)
  unfolding later
  later-state p q h s is =
      record {
        location = is.location;
        values = length-map s.values (λ v. v * q + p * s.denominator) ∙ is.values;
        denominator = one-le-mul is.denominator h;
      }

  pub target-state : (b : Branch) → SoundBranch m.clocks m.locations b → (s : State) → IsState m s
      → IsState m (target s b)
  unfolding target
  target-state b sound s is =
      record {
        location = sound.target;
        values = cleared-length b.mask 0 s.values ∙ is.values;
        denominator = is.denominator;
      }

  -- What equals a state is one, over a denominator of 1 or more.
  pub same-state : {s t : State} → Same s t → 1 ≤ t.denominator → IsState m s → IsState m t
  same-state {s} {t} e h is =
      record {
        location = subst (λ l. l < m.locations) e.location is.location;
        values = sym (same_length t.denominator s.denominator s.values t.values e.values) ∙ is.values;
        denominator = h;
      }

  -- What a state delays into is a state.
  pub delays-state : {s t : State} → 1 ≤ t.denominator → IsState m s → Delays m s t → IsState m t
  delays-state {s} h is a = same-state a.arrives h (later-state a.numerator a.denominator a.positive s is)

-- ---- The cells of a state, and its region

-- What each of four cells is.
each-cell : (P : Cell → Type 0) (c : ℕ → Cell) → ((i : ℕ) → P (c i)) → (x : Cell) → Memᴰ x (cells_by c) → P x
each-cell P c h x (Memᴰ.head e) = subst P (sym e) (h 0)
each-cell P c h x (Memᴰ.tail (Memᴰ.head e)) = subst P (sym e) (h 1)
each-cell P c h x (Memᴰ.tail (Memᴰ.tail (Memᴰ.head e))) = subst P (sym e) (h 2)
each-cell P c h x (Memᴰ.tail (Memᴰ.tail (Memᴰ.tail (Memᴰ.head e)))) = subst P (sym e) (h 3)
each-cell P c h x (Memᴰ.tail (Memᴰ.tail (Memᴰ.tail (Memᴰ.tail n)))) = absurd (Memᴰ.not-nil n)

in_cells : (c : ℕ → Cell) (i : ℕ) → i < 4 → Memᴰ (c i) (cells_by c)
in_cells c zero h = Memᴰ.head refl
in_cells c (suc zero) h = Memᴰ.tail (Memᴰ.head refl)
in_cells c (suc (suc zero)) h = Memᴰ.tail (Memᴰ.tail (Memᴰ.head refl))
in_cells c (suc (suc (suc zero))) h = Memᴰ.tail (Memᴰ.tail (Memᴰ.tail (Memᴰ.head refl)))
in_cells c (suc (suc (suc (suc i)))) h = absurd (omega arith)

at_cells : (c d : ℕ → Cell) → cells_by c ≡ cells_by d → (i : ℕ) → i < 4 → c i ≡ d i
at_cells c d e zero h = ap (λ l. get_or l 0 (over 0)) e
at_cells c d e (suc zero) h = ap (λ l. get_or l 1 (over 0)) e
at_cells c d e (suc (suc zero)) h = ap (λ l. get_or l 2 (over 0)) e
at_cells c d e (suc (suc (suc zero))) h = ap (λ l. get_or l 3 (over 0)) e
at_cells c d e (suc (suc (suc (suc i)))) h = absurd (omega arith)

value-bound : (fs : List ℕ) (d m v : ℕ) → bound_of (closed fs (value_cell d m v)) ≡ m
value-bound fs d m v = go (ltb (m * d) v)
  where
    go : (b : Bool) → bound_of (closed fs (cond b (over m) (at m (v / d) (v % d)))) ≡ m
    go true = refl
    go false = refl

module _ (bounds : Bounds) (s : State) where
  cell-within : (i : ℕ) → i < bounds.count
      → state_cell bounds s i ≡ value_cell s.denominator (get_or bounds.bound i 0) (get_or s.values i 0)
  unfolding state_cell
  cell-within i h = rw (lt-ltb i bounds.count h)

  cell-beyond : (i : ℕ) → bounds.count ≤ i → state_cell bounds s i ≡ over 0
  unfolding state_cell
  cell-beyond i h = rw (le-ltb i bounds.count h)

  cell-by : (P : Cell → Type 0) → ((m v : ℕ) → P (value_cell s.denominator m v)) → P (over 0) → (i : ℕ)
      → P (state_cell bounds s i)
  cell-by P f g i =
      elim (within bounds i) [
        | inl h ↦ subst P (sym (cell-within i h)) (f _ _)
        | inr h ↦ subst P (sym (cell-beyond i h)) g
      ]

  -- A cell of the state's region.
  abbrev ranked_cell : ℕ → Cell
  ranked_cell i = closed (map fraction_of (state_cells bounds s)) (state_cell bounds s i)

  ranked-read : (i : ℕ) → Read bounds i (ranked_cell i)
  ranked-read i =
      let fs = map fraction_of (state_cells bounds s) in (
        λ h. ap (λ c. bound_of (closed fs c)) (cell-within i h) ∙ value-bound fs _ _ _,
        λ h. ap (closed fs) (cell-beyond i h),
      )

  module _ (pos : 1 ≤ s.denominator) where
    cell-proper : (i : ℕ) → Proper (state_cell bounds s i)
    cell-proper = cell-by Proper (λ m v. value-proper s.denominator m v pos) tt

    proper-cells : (c : Cell) → Memᴰ c (state_cells bounds s) → Proper c
    proper-cells = each-cell Proper (state_cell bounds s) cell-proper

    below-cells : (c : Cell) → Memᴰ c (state_cells bounds s) → fraction_of c < s.denominator
    below-cells =
        each-cell (λ c. fraction_of c < s.denominator) (state_cell bounds s)
        (cell-by (λ c. fraction_of c < s.denominator) (λ m v. value-below s.denominator m v pos) pos)

    ranked-proper : (c : Cell) → Memᴰ c (close (state_cells bounds s)) → Proper c
    ranked-proper =
        each-cell Proper ranked_cell (λ i.
        closed-proper (map fraction_of (state_cells bounds s)) (state_cell bounds s i) (cell-proper i))

    module _ (small : Small bounds) where
      -- The region of a state is well formed, and the cells read there are those of the state with ranks for fractions.
      pub placed-formed : Formed bounds (placed bounds s)
      unfolding placed
      placed-formed =
          cells-formed bounds small s.location ranked_cell ranked-read ranked-proper (close-no-gap (state_cells bounds s))

      pub placed-cells : unpack bounds (placed bounds s) ≡ close (state_cells bounds s)
      unfolding placed
      placed-cells =
          cells-again bounds small s.location ranked_cell ranked-read ranked-proper (close-no-gap (state_cells bounds s))

      -- An atom holds of a state exactly when it holds at its region.
      pub holds-placed : (i comparison k : ℕ) → i < bounds.count → k ≤ get_or bounds.bound i 0
          → is_true s i comparison k ≡ holds bounds (placed bounds s) i comparison k
      holds-placed i c k h le =
          let low : i < 4 = omega (arith, small.few) in
          let region = at_cells (λ j. cell_of (clock_at bounds (placed bounds s) j)) ranked_cell placed-cells i low in
          sym (ap (λ x. is_holds (atom c k x)) region
          ∙ ap is_holds (atom-closed (state_cells bounds s) (state_cell bounds s i) (in_cells (state_cell bounds s) i low) c k)
          ∙ ap (λ x. is_holds (atom c k x)) (cell-within i h)
          ∙ atom-value c k s.denominator (get_or bounds.bound i 0) (get_or s.values i 0) pos le)

      -- Where the cells of another state follow those of a state, its region follows.
      follow-placed : (t : State) → t.location ≡ s.location
          → delay (close (state_cells bounds s)) ≡ cells (close (state_cells bounds t))
          → delayed bounds (placed bounds s) ≡ Some (placed bounds t)
      unfolding delayed placed
      follow-placed t e f =
          ap (λ c. moved_to bounds (placed bounds s) (delay c)) placed-cells
          ∙ ap (moved_to bounds (placed bounds s)) f
          ∙ ap (λ l. Some (pack bounds l (close (state_cells bounds t)))) (sym e)

      follow-none : delay (close (state_cells bounds s)) ≡ nothing → delayed bounds (placed bounds s) ≡ None
      unfolding delayed
      follow-none f =
          ap (λ c. moved_to bounds (placed bounds s) (delay c)) placed-cells
          ∙ ap (moved_to bounds (placed bounds s)) f

-- ---- The region over a larger denominator

module _ (bounds : Bounds) (q : ℕ) (h : 1 ≤ q) (s : State) (pos : 1 ≤ s.denominator) where
  scaled-cell : (i : ℕ) → state_cell bounds (scaled q s) i ≡ stretched q (state_cell bounds s i)
  scaled-cell i =
      elim (within bounds i) [
        | inl w ↦
            let m = get_or bounds.bound i 0 in
            cell-within bounds (scaled q s) i w
            ∙ ap (value_cell (s.denominator * q) m) (get_d-times q s.values i)
            ∙ value-stretched q s.denominator m (get_or s.values i 0) h pos
            ∙ ap (stretched q) (sym (cell-within bounds s i w))
        | inr w ↦ cell-beyond bounds (scaled q s) i w ∙ ap (stretched q) (sym (cell-beyond bounds s i w))
      ]

  scaled-cells : state_cells bounds (scaled q s) ≡ map (stretched q) (state_cells bounds s)
  scaled-cells = λ j. cells_by (λ i. scaled-cell i j)

  scaled-placed : placed bounds (scaled q s) ≡ placed bounds s
  unfolding placed
  scaled-placed =
      ap (λ c. pack bounds s.location (close c)) scaled-cells
      ∙ ap (pack bounds s.location) (close-stretched q h (state_cells bounds s))

-- The label of a region is that of each of its states.
pub label-placed : (m : Model) (bounds : Bounds) (s : State) → label_of m (placed bounds s) ≡ get_or m.labels s.location 0
unfolding label_of placed
label-placed m bounds s = refl

-- Equal states lie in one region.
pub same-placed : (bounds : Bounds) {s t : State} → 1 ≤ s.denominator → 1 ≤ t.denominator → Same s t
    → placed bounds s ≡ placed bounds t
same-placed bounds hs ht e = alike hs ht e (placed bounds) (λ q x h hx. scaled-placed bounds q h x hx)

-- ---- Resets

get_d-cleared : (mask j : ℕ) (l : List ℕ) (i : ℕ) → get_or (cleared mask j l) i 0 ≡ cond (reset_in mask (j + i)) 0 (get_or l i 0)
get_d-cleared mask j [] i = go (reset_in mask (j + i))
  where
    go : (b : Bool) → ◌≡◌ {A = ℕ} 0 (cond b 0 0)
    go true = refl
    go false = refl
get_d-cleared mask j (v ∷ l) zero =
    let e : j ≡ j + 0 = omega arith in
    ap (λ k. cond (reset_in mask k) 0 v) e
get_d-cleared mask j (v ∷ l) (suc i) =
    let e : suc j + i ≡ j + suc i = omega arith in
    get_d-cleared mask (suc j) l i ∙ ap (λ k. cond (reset_in mask k) 0 (get_or l i 0)) e

value-zero : (d m : ℕ) → value_cell d m 0 ≡ at m 0 0
value-zero d m = rw (le-ltb (m * d) 0 (omega arith)) (ap₂ (at m) (zero-div d) (zero-mod d))

value-cleared : (d m v : ℕ) (b : Bool) → value_cell d m (cond b 0 v) ≡ cond b (restart (value_cell d m v)) (value_cell d m v)
value-cleared d m v false = refl
value-cleared d m v true = value-zero d m ∙ go (ltb (m * d) v)
  where
    go : (b : Bool) → at m 0 0 ≡ restart (cond b (over m) (at m (v / d) (v % d)))
    go true = refl
    go false = refl

-- Cells that differ only beyond the count, with fraction 0, make one region.
pack-alike : (bounds : Bounds) (l : ℕ) (c d : ℕ → Cell) → ((i : ℕ) → fraction_of (c i) ≡ fraction_of (d i))
    → ((i : ℕ) → i < bounds.count → c i ≡ d i) → pack bounds l (close (cells_by c)) ≡ pack bounds l (close (cells_by d))
pack-alike bounds l c d f e =
    let whole = byte (λ x. (clock_of x).whole) in
    let rank = byte (λ x. (clock_of x).rank) in
    λ j. record {
      location = l;
      whole = whole 0 j ∷ whole 1 j ∷ whole 2 j ∷ whole 3 j ∷ [];
      rank = rank 0 j ∷ rank 1 j ∷ rank 2 j ∷ rank 3 j ∷ [];
    }
  where
    same : map fraction_of (cells_by c) ≡ map fraction_of (cells_by d)
    same = λ j. f 0 j ∷ f 1 j ∷ f 2 j ∷ f 3 j ∷ []

    byte : (g : Cell → ℕ) (i : ℕ) → byte_at bounds.count i (g (closed (map fraction_of (cells_by c)) (c i)))
        ≡ byte_at bounds.count i (g (closed (map fraction_of (cells_by d)) (d i)))
    byte g i =
        elim (within bounds i) [
          | inl h ↦ ap₂ (λ (fs : List ℕ) (x : Cell). byte_at bounds.count i (g (closed fs x))) same (e i h)
          | inr h ↦ rw (le-ltb i bounds.count h) refl
        ]

module _ (bounds : Bounds) (s : State) (b : Branch) where
  target-cell : (i : ℕ) → i < bounds.count
      → state_cell bounds (target s b) i ≡ cond (reset_in b.mask i) (restart (state_cell bounds s i)) (state_cell bounds s i)
  unfolding target
  target-cell i h =
      let m = get_or bounds.bound i 0 in
      let v = get_or s.values i 0 in
      let e : 0 + i ≡ i = omega arith in
      cell-within bounds (target s b) i h
      ∙ ap (value_cell s.denominator m) (get_d-cleared b.mask 0 s.values i
      ∙ ap (λ k. cond (reset_in b.mask k) 0 v) e)
      ∙ value-cleared s.denominator m v (reset_in b.mask i)
      ∙ ap (λ c. cond (reset_in b.mask i) (restart c) c) (sym (cell-within bounds s i h))

  target-fraction : (i : ℕ) → fraction_of (state_cell bounds (target s b) i)
      ≡ fraction_of (cond (reset_in b.mask i) (restart (state_cell bounds s i)) (state_cell bounds s i))
  target-fraction i =
      elim (within bounds i) [
        | inl h ↦ ap fraction_of (target-cell i h)
        | inr h ↦ ap fraction_of (cell-beyond bounds (target s b) i h) ∙ go (reset_in b.mask i)
            ∙ ap (λ c. fraction_of (cond (reset_in b.mask i) (restart c) c)) (sym (cell-beyond bounds s i h))
      ]
    where
      go : (x : Bool) → 0 ≡ fraction_of (cond x (restart (over 0)) (over 0))
      go true = refl
      go false = refl

  -- A branch leads into the region that it leads the state's region to.
  pub target-placed : Small bounds → 1 ≤ s.denominator → placed bounds (target s b) ≡ landing bounds (placed bounds s) b
  unfolding placed landing after_reset target
  target-placed small pos =
      pack-alike bounds b.target (state_cell bounds (target s b))
      (λ i. cond (reset_in b.mask i) (restart (state_cell bounds s i)) (state_cell bounds s i)) target-fraction target-cell
      ∙ ap (pack bounds b.target) (sym (reset-close b.mask (state_cells bounds s)))
      ∙ ap (λ c. pack bounds b.target (reset b.mask c)) (sym (placed-cells bounds s pos small))

-- ---- Invariants and edges of a state are those of its region

module _ (bounds : Bounds) (m : Model) (covers : Covers bounds m) (sound : Sound m) where
  pub inside-placed : (s : State) → 1 ≤ s.denominator → inside m s ≡ meets bounds m.invariants (placed bounds s)
  unfolding inside meets placed
  inside-placed s pos =
      every-alike _ _ m.invariants (λ a n.
      ap (λ b. not (eqb a.location s.location) || b)
      (holds-placed bounds s pos covers.small a.clock a.comparison a.constant
      (omega (arith, covers.count, (sound-invariant m sound a n).clock)) (covers.invariants a n)))

  pub enabled-placed : (e : Edge) → Memᴰ e m.edges → (s : State) → 1 ≤ s.denominator
      → enabled m e s ≡ (fits bounds e (placed bounds s) && lands bounds m.invariants e (placed bounds s))
  unfolding enabled fits lands placed
  enabled-placed e n s pos =
      ap₂ (λ (a b : Bool). (eqb e.source s.location && a) && b)
      (every-alike _ _ e.guards (λ g k.
      holds-placed bounds s pos covers.small g.clock g.comparison g.constant
      (omega (arith, covers.count, (sound-guard m sound e g n k).clock)) (covers.guards e n g k)))
      (every-alike _ _ e.branches (λ b k.
      inside-placed (target s b) (target-positive b s pos)
      ∙ ap (meets bounds m.invariants) (target-placed bounds s b covers.small pos)))

-- ---- Earlier states

-- Each value is changed.
abbrev moved : (ℕ → ℕ) → State → State
moved f s = record { location = s.location; values = map f s.values; denominator = s.denominator }

-- The least step over the denominator, and n of them.
abbrev stepped : State → State
stepped s = moved suc s

abbrev ahead : ℕ → State → State
ahead n s = moved (λ v. v + n) s

get_d-more : (f : ℕ → ℕ) → ((v : ℕ) → v ≤ f v) → (l : List ℕ) (i : ℕ) → get_or l i 0 ≤ get_or (map f l) i 0
get_d-more f h [] i = omega arith
get_d-more f h (x ∷ l) zero = h x
get_d-more f h (x ∷ l) (suc i) = get_d-more f h l i

-- Upper bounds hold all the way down.
compares-less : (comparison u v d k : ℕ) → comparison ≤ 1 → u ≤ v → compares comparison v d k ≡ true
    → compares comparison u d k ≡ true
unfolding compares
compares-less zero u v d k h le e = lt-ltb u (k * d) (omega (arith, le, ltb-true v (k * d) e))
compares-less (suc zero) u v d k h le e = le-leb u (k * d) (omega (arith, le, leb-true v (k * d) e))
compares-less (suc (suc c)) u v d k h le e = absurd (omega arith)

or-still : (a b c : Bool) → (b ≡ true → c ≡ true) → (a || b) ≡ true → (a || c) ≡ true
or-still true b c f e = refl
or-still false b c f e = f e

inside-earlier : (m : Model) → Sound m → (f : ℕ → ℕ) → ((v : ℕ) → v ≤ f v) → (s : State)
    → inside m (moved f s) ≡ true → inside m s ≡ true
unfolding inside
inside-earlier m sound f h s =
    every-still _ _ m.invariants (λ a n. or-still (not (eqb a.location s.location)) _ _
    (compares-less a.comparison _ _ s.denominator a.constant (sound-invariant m sound a n).comparison
    (get_d-more f h s.values a.clock)))

-- ---- A least step of a state

get_d-suc : (l : List ℕ) (i : ℕ) → i < length l → get_or (map suc l) i 0 ≡ suc (get_or l i 0)
get_d-suc [] i h = absurd (omega arith)
get_d-suc (x ∷ l) zero h = refl
get_d-suc (x ∷ l) (suc i) h = get_d-suc l i (omega arith)

stepped-state : (m : Model) (s : State) → IsState m s → IsState m (stepped s)
stepped-state m s is =
    record { location = is.location; values = length-map s.values suc ∙ is.values; denominator = is.denominator }

step-later : (s : State) → 1 ≤ s.denominator → Later s (stepped s)
unfolding later
step-later s pos =
    record {
      numerator = 1;
      denominator = s.denominator;
      positive = pos;
      arrives = record {
        location = refl;
        values = map-map (λ v. v * s.denominator) (λ v. v * s.denominator + 1 * s.denominator) s.values
            ∙ map-alike _ _ (λ v. omega arith) s.values
            ∙ sym (map-map (λ v. v * (s.denominator * s.denominator)) suc s.values);
      };
    }

cons-all : (P : Cell → Type 0) (x : Cell) (cs : List Cell) → P x → ((c : Cell) → Memᴰ c cs → P c)
    → (c : Cell) → Memᴰ c (x ∷ cs) → P c
cons-all P x cs p h c (Memᴰ.head e) = subst P (sym e) p
cons-all P x cs p h c (Memᴰ.tail n) = h c n

-- Some fraction is the largest over the denominator, or none is.
highest-or : (d : ℕ) (cs : List Cell) → ((c : Cell) → Memᴰ c cs → fraction_of c < d)
    → ((c : Cell) → Memᴰ c cs → suc (fraction_of c) < d) ⊎ ((x : Cell) × Memᴰ x cs × (suc (fraction_of x) ≡ d))
highest-or d [] h = inl (λ c n. absurd (Memᴰ.not-nil n))
highest-or d (x ∷ cs) h =
    elim (both (eqb (suc (fraction_of x)) d)) [
      | inl e ↦ inr (x, Memᴰ.head refl, eqb-true (suc (fraction_of x)) d e)
      | inr e ↦ elim (highest-or d cs (λ c n. h c (Memᴰ.tail n))) [
        | inl k ↦ inl (cons-all (λ c. suc (fraction_of c) < d) x cs
            (omega (arith, h x (Memᴰ.head refl), eqb-false (suc (fraction_of x)) d e)) k)
        | inr k ↦ inr (k.0, Memᴰ.tail k.1, k.2)
      ]
    ]

none-standing : (cs : List Cell) → ((c : Cell) → Memᴰ c cs → standing c ≡ false) → some standing cs ≡ false
none-standing [] h = refl
none-standing (x ∷ cs) h = rw (h x (Memᴰ.head refl), none-standing cs (λ c n. h c (Memᴰ.tail n))) refl

-- A cell that is not over.
not-over : (cs : List Cell) → all is_over cs ≡ false → (x : Cell) × Memᴰ x cs × (is_over x ≡ false)
not-over [] e = false-true (sym e)
not-over (x ∷ cs) e =
    elim (both (is_over x)) [
      | inl t ↦ let r = not-over cs (rw t at e) in (r.0, Memᴰ.tail r.1, r.2)
      | inr t ↦ (x, Memᴰ.head refl, t)
    ]

-- ---- Cells over twice the denominator, and after a least step

low-stretched : (d : ℕ) → 1 ≤ d → (c : Cell) → fraction_of c < d → suc (fraction_of (stretched 2 c)) < d * 2
low-stretched d h (over m) l = omega arith
low-stretched d h (at m w f) l = omega arith

standing-stretched : (c : Cell) → standing (stretched 2 c) ≡ standing c
standing-stretched (over m) = refl
standing-stretched (at m w f) =
    same_test _ _ (λ e. eq-eqb f 0 (omega (arith, eqb-true (f * 2) 0 e)))
    (λ e. eq-eqb (f * 2) 0 (omega (arith, eqb-true f 0 e)))

some-stretched : (cs : List Cell) → some standing (map (stretched 2) cs) ≡ some standing cs
some-stretched [] = refl
some-stretched (c ∷ cs) = ap₂ (λ (a b : Bool). a || b) (standing-stretched c) (some-stretched cs)

odd-standing : (d : ℕ) (c : Cell) → fraction_of c < d → standing (ticked (d * 2) (stretched 2 c)) ≡ false
odd-standing d (over m) h = refl
odd-standing d (at m w f) h = rw (ne_eqb (suc (f * 2)) (d * 2) (λ e. omega (arith, e))) (go (eqb (f * 2) 0) (ltb w m))
  where
    go : (a b : Bool) → standing (cond a (cond b (at m w 1) (over m)) (at m w (suc (f * 2)))) ≡ false
    go true true = ne_eqb 1 0 (λ e. omega (arith, e))
    go true false = refl
    go false b = ne_eqb (suc (f * 2)) 0 (λ e. omega (arith, e))

-- A clock on its way moves on.
ticked-on : (d : ℕ) (c : Cell) → standing c ≡ false → is_over c ≡ false → suc (fraction_of c) < d
    → (is_over (ticked d c) ≡ false) × (fraction_of (ticked d c) ≡ suc (fraction_of c))
ticked-on d (over m) s o h = false-true (sym o)
ticked-on d (at m w f) s o h = rw (ne_eqb (suc f) d (λ e. omega (arith, e)), s) (refl, refl)

ticked-standing : (d : ℕ) (c : Cell) → standing c ≡ false → suc (fraction_of c) < d → standing (ticked d c) ≡ false
ticked-standing d (over m) s h = refl
ticked-standing d (at m w f) s h = rw (ne_eqb (suc f) d (λ e. omega (arith, e)), s) (ne_eqb (suc f) 0 (λ e. omega (arith, e)))

positive-fraction : (c : Cell) → standing c ≡ false → is_over c ≡ false → 0 < fraction_of c
positive-fraction (over m) s o = false-true (sym o)
positive-fraction (at m w f) s o = omega (arith, eqb-false f 0 s)

module _ (bounds : Bounds) (m : Model) (covers : Covers bounds m) where
  -- The region that follows the region of s is that of t.
  abbrev Follows : State → State → Type 0
  Follows s t = delayed bounds (placed bounds s) ≡ Some (placed bounds t)

  module _ (s : State) (is : IsState m s) (two : 2 ≤ s.denominator) where
    stepped-cell : (i : ℕ) → state_cell bounds (stepped s) i ≡ ticked s.denominator (state_cell bounds s i)
    stepped-cell i =
        elim (within bounds i) [
          | inl w ↦
              let b = get_or bounds.bound i 0 in
              cell-within bounds (stepped s) i w
              ∙ ap (value_cell s.denominator b) (get_d-suc s.values i (omega (arith, is.values, covers.count, w)))
              ∙ value-ticked s.denominator b (get_or s.values i 0) two
              ∙ ap (ticked s.denominator) (sym (cell-within bounds s i w))
          | inr w ↦ cell-beyond bounds (stepped s) i w ∙ ap (ticked s.denominator) (sym (cell-beyond bounds s i w))
        ]

    stepped-cells : state_cells bounds (stepped s) ≡ map (ticked s.denominator) (state_cells bounds s)
    stepped-cells = λ j. cells_by (λ i. stepped-cell i j)

    -- No clock arrives by a least step.
    abbrev Low : Type 0
    Low = (c : Cell) → Memᴰ c (state_cells bounds s) → suc (fraction_of c) < s.denominator

    step-leaves : Low → some standing (state_cells bounds s) ≡ true → Follows s (stepped s)
    step-leaves low e =
        follow-placed bounds s is.denominator covers.small (stepped s) refl
        (tick-leaves s.denominator two (state_cells bounds s) (proper-cells bounds s is.denominator)
        (below-cells bounds s is.denominator) low e
        ∙ ap (λ c. cells (close c)) (sym stepped-cells))

    step_stays : Low → some standing (state_cells bounds s) ≡ false → placed bounds (stepped s) ≡ placed bounds s
    unfolding placed
    step_stays low e =
        ap (pack bounds s.location) (ap close stepped-cells
        ∙ tick-stays s.denominator two (state_cells bounds s) (proper-cells bounds s is.denominator)
        (below-cells bounds s is.denominator) low e)

    step-arrives : some standing (state_cells bounds s) ≡ false → (x : Cell) → Memᴰ x (state_cells bounds s)
        → suc (fraction_of x) ≡ s.denominator → Follows s (stepped s)
    step-arrives e x n h =
        follow-placed bounds s is.denominator covers.small (stepped s) refl
        (tick-arrives s.denominator two (state_cells bounds s) (proper-cells bounds s is.denominator)
        (below-cells bounds s is.denominator) e x n h
        ∙ ap (λ c. cells (close c)) (sym stepped-cells))

    -- A least step leads nowhere or to the region that follows: where no clock arrives, and where none stands.
    low_step : Low → (placed bounds (stepped s) ≡ placed bounds s) ⊎ Follows s (stepped s)
    low_step low =
        elim (both (some standing (state_cells bounds s))) [
          | inl e ↦ inr (step-leaves low e)
          | inr e ↦ inl (step_stays low e)
        ]

    unstanding-step : some standing (state_cells bounds s) ≡ false
        → (placed bounds (stepped s) ≡ placed bounds s) ⊎ Follows s (stepped s)
    unstanding-step e =
        elim (highest-or s.denominator (state_cells bounds s) (below-cells bounds s is.denominator)) [
          | inl low ↦ inl (step_stays low e)
          | inr x ↦ inr (step-arrives e x.0 x.1 x.2)
        ]

  -- ---- Over an even denominator: no clock arrives at even numerators, and none stands after a least step

  module _ (s : State) (is : IsState m s) where
    twice-state : IsState m (scaled 2 s)
    twice-state = scaled-state m 2 (omega arith) s is

    twice_two : 2 ≤ s.denominator * 2
    twice_two = omega (arith, is.denominator)

    cell_below : (i : ℕ) → fraction_of (state_cell bounds s i) < s.denominator
    cell_below =
        cell-by bounds s (λ c. fraction_of c < s.denominator)
        (λ b v. value-below s.denominator b v is.denominator) is.denominator

    twice-cell : (i : ℕ) → state_cell bounds (scaled 2 s) i ≡ stretched 2 (state_cell bounds s i)
    twice-cell = scaled-cell bounds 2 (omega arith) s is.denominator

    twice-low : Low (scaled 2 s) twice-state twice_two
    twice-low =
        each-cell (λ c. suc (fraction_of c) < s.denominator * 2) (state_cell bounds (scaled 2 s)) (λ i.
        subst (λ c. suc (fraction_of c) < s.denominator * 2) (sym (twice-cell i))
        (low-stretched s.denominator is.denominator (state_cell bounds s i) (cell_below i)))

    twice-odd : some standing (state_cells bounds (stepped (scaled 2 s))) ≡ false
    twice-odd =
        none-standing (state_cells bounds (stepped (scaled 2 s)))
        (each-cell (λ c. standing c ≡ false) (state_cell bounds (stepped (scaled 2 s))) (λ i.
        ap standing (stepped-cell (scaled 2 s) twice-state twice_two i)
        ∙ ap (λ c. standing (ticked (s.denominator * 2) c)) (twice-cell i)
        ∙ odd-standing s.denominator (state_cell bounds s i) (cell_below i)))

    twice-placed : placed bounds (scaled 2 s) ≡ placed bounds s
    twice-placed = scaled-placed bounds 2 (omega arith) s is.denominator

    -- Two least steps over twice the denominator are one.
    twice-steps : stepped (stepped (scaled 2 s)) ≡ scaled 2 (stepped s)
    twice-steps =
        ap (λ (l : List ℕ). record { location = s.location; values = l; denominator = s.denominator * 2 })
        (ap (map suc) (map-map suc (λ v. v * 2) s.values) ∙ map-map suc (λ v. suc (v * 2)) s.values
        ∙ map-alike _ _ (λ v. omega arith) s.values ∙ sym (map-map (λ v. v * 2) suc s.values))

  -- ---- The region that follows is reached by a delay of each state

  -- A state some time later in the region that follows.
  abbrev Next : State → Type 0
  Next s = (t : State) × IsState m t × Later s t × Follows s t

  next-leaves : (s : State) → IsState m s → some standing (state_cells bounds s) ≡ true → Next s
  next-leaves s is e =
      let twice = scaled 2 s in
      let up = twice-state s is in
      let stands : some standing (state_cells bounds twice) ≡ true =
      ap (some standing) (scaled-cells bounds 2 (omega arith) s is.denominator)
      ∙ some-stretched (state_cells bounds s)
      ∙ e in
      let follows = step-leaves twice up (twice_two s is) (twice-low s is) stands in (
        stepped twice,
        stepped-state m twice up,
        later_trans is.denominator up.denominator (later_same is.denominator (same-sym (scaled-same 2 s)))
            (step-later twice up.denominator),
        ap (delayed bounds) (sym (twice-placed s is)) ∙ follows,
      )

  -- Least steps until a clock arrives: at most k more before x does.
  next-arrives : (k : ℕ) (s : State) → IsState m s → some standing (state_cells bounds s) ≡ false → (x : Cell)
      → Memᴰ x (state_cells bounds s) → is_over x ≡ false → s.denominator ≤ fraction_of x + suc k → Next s
  next-arrives zero s is e x n o h =
      let below = below-cells bounds s is.denominator x n in
      let some-way = positive-fraction x (none standing (state_cells bounds s) x e n) o in
      let two : 2 ≤ s.denominator = omega arith in (
        stepped s,
        stepped-state m s is,
        step-later s is.denominator,
        step-arrives s is two e x n (omega arith),
      )
  next-arrives (suc k) s is e x n o h =
      let below = below-cells bounds s is.denominator x n in
      let off = none standing (state_cells bounds s) x e n in
      let some-way = positive-fraction x off o in
      let two : 2 ≤ s.denominator = omega arith in
      let up = stepped-state m s is in
      let d = s.denominator in
      elim (highest-or d (state_cells bounds s) (below-cells bounds s is.denominator)) [
        | inr y ↦ (stepped s, up, step-later s is.denominator, step-arrives s is two e y.0 y.1 y.2)
        | inl low ↦
            let on = ticked-on d x off o (low x n) in
            let off' : some standing (state_cells bounds (stepped s)) ≡ false =
            none-standing (state_cells bounds (stepped s)) (subst (λ l. (c : Cell) → Memᴰ c l → standing c ≡ false)
            (sym (stepped-cells s is two)) (λ c t.
            let r = from-map (ticked d) (state_cells bounds s) c t in
            ap standing r.2
            ∙ ticked-standing d r.0 (none standing (state_cells bounds s) r.0 e r.1) (low r.0 r.1))) in
            let n' : Memᴰ (ticked d x) (state_cells bounds (stepped s)) =
            subst (λ l. Memᴰ (ticked d x) l) (sym (stepped-cells s is two))
            (to_map (ticked d) (state_cells bounds s) x n) in
            let r = next-arrives k (stepped s) up off' (ticked d x) n' on.0 (omega (arith, on.1, h)) in (
              r.0,
              r.1,
              later_trans is.denominator up.denominator (step-later s is.denominator) r.2,
              ap (delayed bounds) (sym (step_stays s is two low e)) ∙ r.3,
            )
      ]

  next-state : (s : State) → IsState m s → (p : Region) → delayed bounds (placed bounds s) ≡ Some p → Next s
  next-state s is p a =
      elim (both (some standing (state_cells bounds s))) [
        | inl e ↦ next-leaves s is e
        | inr e ↦ elim (both (all is_over (state_cells bounds s))) [
          | inl o ↦
              let none-follows = follow-none bounds s is.denominator covers.small (delay-all-over (state_cells bounds s) o) in
              absurd (let z : ◌≡◌ {A = ℕ} 0 1 = cc (none-follows, a) in omega arith)
          | inr o ↦
              let x = not-over (state_cells bounds s) o in
              next-arrives s.denominator s is e x.0 x.1 x.2 (omega arith)
        ]
      ]

  -- The state that a region delay leads to.
  pub delayed-state : (s : State) → IsState m s → (p : Region) → delayed bounds (placed bounds s) ≡ Some p
      → (t : State) × IsState m t × Later s t × (placed bounds t ≡ p)
  delayed-state s is p a =
      let r = next-state s is p a in
      (r.0, r.1, r.2, cc (r.3, a))

  module _ (sound : Sound m) where
    -- Where the region waits, each state in it delays.
    waits-states : (r q : Region) → Waits bounds m r q → (s : State) → IsState m s → placed bounds s ≡ r
        → (t : State) × IsState m t × Delays m s t × (placed bounds t ≡ q)
    waits-states r q (still h) s is e =
        let here : inside m s ≡ true =
        inside-placed bounds m covers sound s is.denominator ∙ ap (meets bounds m.invariants) e ∙ h in
        (s, is, later-delays (later_same is.denominator (same_refl s)) here, e)
    waits-states r q (onward {p = p} a h w) s is e =
        let n = delayed-state s is p (ap (delayed bounds) e ∙ a) in
        let l = waits-states p q w n.0 n.1 n.3 in
        let whole = later_trans is.denominator n.1.denominator n.2 (delays-later l.2) in
        (l.0, l.1, later-delays whole l.2.meets, l.3)

    -- ---- Each delay of a state is some delay of its region

    -- Before a least step that leads nowhere or to the region that follows.
    before-step : (s : State) → 1 ≤ s.denominator → (placed bounds (stepped s) ≡ placed bounds s) ⊎ Follows s (stepped s)
        → inside m (stepped s) ≡ true → (q : Region) → Waits bounds m (placed bounds (stepped s)) q
        → Waits bounds m (placed bounds s) q
    before-step s pos (inl e) h q w = subst (λ r. Waits bounds m r q) e w
    before-step s pos (inr e) h q w = onward e (sym (inside-placed bounds m covers sound (stepped s) pos) ∙ h) w

    -- Before a least step: two halves of it.
    before : (s : State) → IsState m s → inside m (stepped s) ≡ true → (q : Region)
        → Waits bounds m (placed bounds (stepped s)) q → Waits bounds m (placed bounds s) q
    before s is h q w =
        let half = scaled 2 s in
        let up = twice-state s is in
        let two = twice_two s is in
        let up' = stepped-state m half up in
        let there : placed bounds (stepped s) ≡ placed bounds (stepped (stepped half)) =
        sym (ap (placed bounds) (twice-steps s is) ∙ scaled-placed bounds 2 (omega arith) (stepped s) is.denominator) in
        let at-end : inside m (stepped (stepped half)) ≡ true =
        ap (inside m) (twice-steps s is) ∙ inside-scaled 2 (omega arith) m (stepped s) ∙ h in
        let at-half : inside m (stepped half) ≡ true = inside-earlier m sound suc (λ v. omega arith) (stepped half) at-end in
        let second = before-step (stepped half) up.denominator
        (unstanding-step (stepped half) up' two (twice-odd s is)) at-end q (subst (λ r. Waits bounds m r q) there w) in
        let first-half = before-step half up.denominator (low_step half up two (twice-low s is)) at-half q second in
        subst (λ r. Waits bounds m r q) (twice-placed s is) first-half

    ahead_none : (s : State) → ahead 0 s ≡ s
    ahead_none s =
        ap (λ (l : List ℕ). record { location = s.location; values = l; denominator = s.denominator })
        (map-alike _ (λ v. v) (λ v. omega arith) s.values ∙ map-id s.values)

    ahead_step : (n : ℕ) (s : State) → ahead n (stepped s) ≡ ahead (suc n) s
    ahead_step n s =
        ap (λ (l : List ℕ). record { location = s.location; values = l; denominator = s.denominator })
        (map-map (λ v. v + n) suc s.values ∙ map-alike _ _ (λ v. omega arith) s.values)

    waits-ahead : (n : ℕ) (s : State) → IsState m s → inside m (ahead n s) ≡ true
        → Waits bounds m (placed bounds s) (placed bounds (ahead n s))
    waits-ahead zero s is h =
        subst (λ t. Waits bounds m (placed bounds s) (placed bounds t)) (sym (ahead_none s))
        (still (sym (inside-placed bounds m covers sound s is.denominator) ∙ sym (ap (inside m) (ahead_none s)) ∙ h))
    waits-ahead (suc n) s is h =
        let up = stepped-state m s is in
        let end : inside m (ahead n (stepped s)) ≡ true = ap (inside m) (ahead_step n s) ∙ h in
        let w = waits-ahead n (stepped s) up end in
        before s is (inside-earlier m sound (λ v. v + n) (λ v. omega arith) (stepped s) end) (placed bounds (ahead (suc n) s))
        (subst (λ t. Waits bounds m (placed bounds (stepped s)) (placed bounds t)) (ahead_step n s) w)

    -- A delay is a number of least steps over a larger denominator.
    ahead-later : (p q : ℕ) (s : State) → ahead (p * s.denominator) (scaled q s) ≡ later s p q
    unfolding later
    ahead-later p q s =
        ap (λ (l : List ℕ). record { location = s.location; values = l; denominator = s.denominator * q })
        (map-map (λ v. v + p * s.denominator) (λ v. v * q) s.values)

    waits-delays : {s t : State} → IsState m s → 1 ≤ t.denominator → Delays m s t
        → Waits bounds m (placed bounds s) (placed bounds t)
    waits-delays {s} {t} is ht a =
        let p = a.numerator in
        let q = a.denominator in
        let hq = later-positive p q s a.positive is.denominator in
        let end : inside m (ahead (p * s.denominator) (scaled q s)) ≡ true =
        ap (inside m) (ahead-later p q s) ∙ same-inside hq ht a.arrives m ∙ a.meets in
        let w = waits-ahead (p * s.denominator) (scaled q s) (scaled-state m q a.positive s is) end in
        subst (λ r. Waits bounds m r (placed bounds t)) (scaled-placed bounds q a.positive s is.denominator)
        (subst (λ r. Waits bounds m (placed bounds (scaled q s)) r)
        (ap (placed bounds) (ahead-later p q s) ∙ same-placed bounds hq ht a.arrives) w)

    -- The region of a state reaches by some delay exactly the regions that the state delays into.
    pub delays-placed : (s : State) → IsState m s → (q : Region)
        → Waits bounds m (placed bounds s) q ↔ ((t : State) × IsState m t × Delays m s t × (placed bounds t ≡ q))
    delays-placed s is q = (
      λ w. waits-states (placed bounds s) q w s is refl,
      λ d. subst (λ r. Waits bounds m (placed bounds s) r) d.3 (waits-delays is d.1.denominator d.2),
    )

-- ---- The bounds of a model, and its graph

-- The bounds of a sound model cover it.
pub bounds-cover : (m : Model) → Sound m → Covers (bounds_of m) m
unfolding bounds_of
bounds-cover m sound =
    record {
      small = model-small m sound.clocks (constants-small m sound);
      count = refl;
      invariants = λ a n. subst (λ k. a.constant ≤ k) (each a.clock (sound-invariant m sound a n).clock)
          (invariant-bound m a n);
      guards = λ e n g k. subst (λ x. g.constant ≤ x) (each g.clock (sound-guard m sound e g n k).clock)
          (guard-bound m e g n k);
    }
  where
    copies : (x i : ℕ) → i < 4 → x ≡ get_or (x ∷ x ∷ x ∷ x ∷ []) i 0
    copies x zero h = refl
    copies x (suc zero) h = refl
    copies x (suc (suc zero)) h = refl
    copies x (suc (suc (suc zero))) h = refl
    copies x (suc (suc (suc (suc i)))) h = absurd (omega arith)

    each : (i : ℕ) → i < m.clocks
        → largest_constant m ≡ get_or (largest_constant m ∷ largest_constant m ∷ largest_constant m ∷ largest_constant m ∷ []) i 0
    each i h = copies (largest_constant m) i (omega (arith, sound.clocks))

-- All clocks at 0, at the initial location.
abbrev pub zero_state : Model → State
zero_state m = record { location = m.initial; values = replicate m.clocks 0; denominator = 1 }

get_d-zeros : (n i : ℕ) → get_or (replicate {A = ℕ} n 0) i 0 ≡ 0
get_d-zeros zero i = refl
get_d-zeros (suc n) zero = refl
get_d-zeros (suc n) (suc i) = get_d-zeros n i

module _ (m : Model) where
  -- Some delay of a region, with the bounds of the model.
  waits-to : (r q : Region) → Waits (bounds_of m) m r q → DelaysTo m r q
  waits-to r q (still h) = stays h
  waits-to r q (onward {p = p} a h w) =
      goes (subst (λ l. Memᴰ p l) (sym (delay-some m r p a h)) (Memᴰ.head refl)) (waits-to p q w)

  to-waits : (r q : Region) → DelaysTo m r q → Waits (bounds_of m) m r q
  to-waits r q (stays h) = still h
  to-waits r q (goes {p} n d) =
      let k = follows m r p n in
      onward k.0 k.1 (to-waits p q d)

  pub waits-iff : (r q : Region) → Waits (bounds_of m) m r q ↔ DelaysTo m r q
  waits-iff r q = (waits-to r q, to-waits r q)

  -- What a region of the graph delays or steps into is of the graph.
  pub delays-within : (r q : Region) → Reached m r → DelaysTo m r q → Reached m q
  delays-within r q h (stays e) = h
  delays-within r q h (goes {p} n d) = delays-within p q (led h (by-delay n)) d

  pub steps-within : (r : Region) (e : Edge) (b : Branch) → Reached m r → Memᴰ e m.edges → Memᴰ b e.branches
      → available m e r ≡ true → Reached m (landing (bounds_of m) r b)
  steps-within r e b h n k a =
      let q = landing (bounds_of m) r b in
      led h (by-edge n (subst (λ l. Memᴰ q l) (sym (edge-some m e r a))
      (gathers (λ x. landing (bounds_of m) r x ∷ []) q b e.branches k (Memᴰ.head refl))))

  -- ---- Region 0

  zero-cell : (bounds : Bounds) (i : ℕ) → i < bounds.count
      → state_cell bounds (zero_state m) i ≡ at (get_or bounds.bound i 0) 0 0
  zero-cell bounds i h =
      cell-within bounds (zero_state m) i h
      ∙ ap (value_cell 1 (get_or bounds.bound i 0)) (get_d-zeros m.clocks i)
      ∙ value-zero 1 (get_or bounds.bound i 0)

  -- Region 0 is that of the state with all clocks 0.
  pub first-placed : (bounds : Bounds) → placed bounds (zero_state m) ≡ first m
  unfolding placed first
  first-placed bounds =
      let whole = byte (λ c. (clock_of c).whole) (λ b. refl) in
      let rank = byte (λ c. (clock_of c).rank) (λ b. refl) in
      λ j. record {
        location = m.initial;
        whole = whole 0 j ∷ whole 1 j ∷ whole 2 j ∷ whole 3 j ∷ [];
        rank = rank 0 j ∷ rank 1 j ∷ rank 2 j ∷ rank 3 j ∷ [];
      }
    where
      byte : (g : Cell → ℕ) → ((b : ℕ) → g (at b 0 0) ≡ 0) → (i : ℕ)
          → byte_at bounds.count i (g (ranked_cell bounds (zero_state m) i)) ≡ 0
      byte g e i =
          elim (within bounds i) [
            | inl h ↦ rw (lt-ltb i bounds.count h)
                (ap (λ c. g (closed (map fraction_of (state_cells bounds (zero_state m))) c)) (zero-cell bounds i h)
                ∙ e (get_or bounds.bound i 0))
            | inr h ↦ rw (le-ltb i bounds.count h) refl
          ]

  module _ (sound : Sound m) where
    pub zero-state : IsState m (zero_state m)
    zero-state =
        record { location = sound.initial; values = length-replicate {A = ℕ} m.clocks 0; denominator = omega arith }

    sound-branch : (e : Edge) → Memᴰ e m.edges → (b : Branch) → Memᴰ b e.branches
        → SoundBranch m.clocks m.locations b
    sound-branch e n b k = all-at e.branches (all-at m.edges sound.edges n).branches k

    -- Where a branch of the model leads a state is a state.
    pub branch-state : (e : Edge) → Memᴰ e m.edges → (b : Branch) → Memᴰ b e.branches → (s : State) → IsState m s
        → IsState m (target s b)
    branch-state e n b k = target-state m b (sound-branch e n b k)
