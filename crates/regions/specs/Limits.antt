-- Invariants as limits: one number for each location and clock, which the code tests instead of walking over the atoms. Every
-- invariant atom is an upper bound, so the lowest limit of a clock stands for all of them.
use Rattle.std.specs.Prelude.{ℕ, zero, suc, ◌+◌, ◌*◌, ◌≤◌, ◌<◌, min, ◌≡◌, Bool, cond, not, ◌&&◌, ◌||◌, List, []}
use Rattle.std.specs.Prelude.{◌∷◌, ◌++◌, eqb, ltb, leb, length, get_or, set, take, replicate}
use native.Mathlib.Omega.{arith}
use Rattle.std.proofs.Common.{add-one, ◌∙◌, ap, length-set, take-suc, take_all, get_or-set_same, get_or-set_other}
use Rattle.std.proofs.Math.Path.{refl, sym, subst}
use Rattle.std.proofs.Math.Bool.{true, false}
use borrow.Author.Tests.{eq-eqb, ne_eqb, eqb-true, eqb-false, lt-ltb, le-ltb, ltb-true, ltb-false, le-leb, leb-true}
use Rattle.table.specs.Model.{Model}
use Rattle.table.specs.Sound.{Sound, SoundInvariant, All, none, also}
use Rattle.table.specs.Access.{no_invariant}
use Rattle.table.specs.declared.model.Invariant.{Invariant}
use Rattle.clocks.specs.Cells.{Cell, over, at}
use Rattle.clocks.specs.Atoms.{atom, verdict, below, at_most}
use Rattle.clocks.specs.Packed.{over_part, cell_of, clock_at, cell-over, cell_at}
use Rattle.clocks.specs.declared.clock.Clock.{Clock}
use Rattle.regions.specs.Graph.{every, is_holds, holds, allows, meets}
use Rattle.regions.specs.Explore.{both_true}
use Rattle.clocks.specs.declared.region.Bounds.{Bounds}
use Rattle.clocks.specs.declared.region.Region.{Region}

-- No limit; and where a clock stands: 2w at a whole number w, 2w + 1 between w and the next. Over is past every limit but none. (A
-- number that is no byte is kept at 65533; no region of a model has one.)
abbrev pub no_limit : ℕ
no_limit = 65535

abbrev pub position : Cell → ℕ
position (over m) = 65534
position (at m w f) = min (cond (eqb f 0) (2 * w) (2 * w + 1)) 65533

-- The limit that an atom sets: the clock's position is below it exactly where the atom holds.
abbrev pub limit_by : Invariant → ℕ
limit_by a = 2 * a.constant + a.comparison

-- The lowest limit of clock i at location l.
abbrev pub limit_of : List Invariant → ℕ → ℕ → ℕ
limit_of [] l i = no_limit
limit_of (a ∷ atoms) l i = cond (eqb a.location l && eqb a.clock i) (min (limit_by a) (limit_of atoms l i)) (limit_of atoms l i)

-- Limits stand in a list, four to a location.
abbrev pub limit_place : ℕ → ℕ → ℕ
limit_place l i = 4 * l + i

abbrev pub limit_in : List ℕ → ℕ → ℕ → ℕ
limit_in limits l i = get_or limits (limit_place l i) no_limit

-- Clock i of a region is below its limit; and all four are.
abbrev pub under : List ℕ → Bounds → Region → ℕ → Bool
under limits bounds r i = ltb (position (cell_of (clock_at bounds r i))) (limit_in limits r.location i)

abbrev pub all_under : List ℕ → Bounds → Region → Bool
all_under limits bounds r = under limits bounds r 0 && (under limits bounds r 1 && (under limits bounds r 2 && under limits bounds r 3))

-- The list holds the limits of a model.
abbrev pub Limits : Model → List ℕ → Type 0
Limits m limits = (l i : ℕ) → i < 4 → limit_in limits l i ≡ limit_of m.invariants l i

-- And the model is sound.
pub record Limited (m : Model) (limits : List ℕ) : Type 0 where
  pub sound : Sound m
  pub limit : Limits m limits

-- ---- An atom is a limit

same_tests : (a b : Bool) → (a ≡ true → b ≡ true) → (b ≡ true → a ≡ true) → a ≡ b
same_tests true true f g = refl
same_tests false false f g = refl
same_tests true false f g = sym (f refl)
same_tests false true f g = g refl

abbrev held : Bool → Bool
held b = is_holds (verdict b)

held-is : (b : Bool) → held b ≡ b
held-is true = refl
held-is false = refl

below-limit : (k : ℕ) (c : Cell) → k ≤ 15 → below k c ≡ ltb (position c) (2 * k)
below-limit k (over m) h = sym (le-ltb 65534 (2 * k) (omega arith))
below-limit k (at m w f) h = go (eqb f 0)
  where
    go : (b : Bool) → ltb w k ≡ ltb (min (cond b (2 * w) (2 * w + 1)) 65533) (2 * k)
    go true =
        same_tests _ _ (λ e. lt-ltb (min (2 * w) 65533) (2 * k) (omega (arith, ltb-true w k e)))
        (λ e. lt-ltb w k (omega (arith, ltb-true (min (2 * w) 65533) (2 * k) e)))
    go false =
        same_tests _ _ (λ e. lt-ltb (min (2 * w + 1) 65533) (2 * k) (omega (arith, ltb-true w k e)))
        (λ e. lt-ltb w k (omega (arith, ltb-true (min (2 * w + 1) 65533) (2 * k) e)))

at-most-limit : (k : ℕ) (c : Cell) → k ≤ 15 → at_most k c ≡ ltb (position c) (2 * k + 1)
at-most-limit k (over m) h = sym (le-ltb 65534 (2 * k + 1) (omega arith))
at-most-limit k (at m w f) h = go (eqb f 0)
  where
    go : (b : Bool) → cond b (leb w k) (ltb w k) ≡ ltb (min (cond b (2 * w) (2 * w + 1)) 65533) (2 * k + 1)
    go true =
        same_tests _ _ (λ e. lt-ltb (min (2 * w) 65533) (2 * k + 1) (omega (arith, leb-true w k e)))
        (λ e. le-leb w k (omega (arith, ltb-true (min (2 * w) 65533) (2 * k + 1) e)))
    go false =
        same_tests _ _ (λ e. lt-ltb (min (2 * w + 1) 65533) (2 * k + 1) (omega (arith, ltb-true w k e)))
        (λ e. lt-ltb w k (omega (arith, ltb-true (min (2 * w + 1) 65533) (2 * k + 1) e)))

atom-limit : (comparison k : ℕ) (c : Cell) → comparison ≤ 1 → k ≤ 15
    → is_holds (atom comparison k c) ≡ ltb (position c) (2 * k + comparison)
unfolding atom
atom-limit zero k c h small = held-is (below k c) ∙ below-limit k c small ∙ ap (ltb (position c)) (omega arith)
atom-limit (suc zero) k c h small = held-is (at_most k c) ∙ at-most-limit k c small
atom-limit (suc (suc n)) k c h small = absurd (omega arith)

low-position : (c : Cell) → position c < no_limit
low-position (over m) = omega arith
low-position (at m w f) = omega arith

-- ---- The lowest limits stand for all atoms

module _ (clocks locations : ℕ) (few : clocks ≤ 4) (bounds : Bounds) (r : Region) where
  -- Where clock i of the region stands.
  abbrev stand : ℕ → ℕ
  stand i = position (cell_of (clock_at bounds r i))

  -- An atom of the region's location, on the clock where it stands.
  on-clock : (a : Invariant) → SoundInvariant clocks locations a → a.location ≡ r.location
      → allows bounds r a ≡ ltb (stand a.clock) (limit_by a)
  on-clock a s e =
      ap (λ b. not b || holds bounds r a.clock a.comparison a.constant) (eq-eqb a.location r.location e)
      ∙ atom-limit a.comparison a.constant (cell_of (clock_at bounds r a.clock)) s.comparison s.constant

  -- Atoms that all hold keep every clock below its limit.
  to-limits : (atoms : List Invariant) → All (SoundInvariant clocks locations) atoms → every (allows bounds r) atoms ≡ true
      → (i : ℕ) → stand i < limit_of atoms r.location i
  to-limits [] none e i = low-position (cell_of (clock_at bounds r i))
  to-limits (a ∷ atoms) (also s rest) e i =
      let t = both_true (allows bounds r a) (every (allows bounds r) atoms) e in
      go t.0 (to-limits atoms rest t.1 i) (eqb a.location r.location) refl (eqb a.clock i) refl
    where
      go : allows bounds r a ≡ true → stand i < limit_of atoms r.location i
          → (b : Bool) → eqb a.location r.location ≡ b → (d : Bool) → eqb a.clock i ≡ d
          → stand i < cond (b && d) (min (limit_by a) (limit_of atoms r.location i)) (limit_of atoms r.location i)
      go ok later false el d ec = later
      go ok later true el false ec = later
      go ok later true el true ec =
          let here : ltb (stand a.clock) (limit_by a) ≡ true = sym (on-clock a s (eqb-true a.location r.location el)) ∙ ok in
          let below : stand a.clock < limit_by a = ltb-true (stand a.clock) (limit_by a) here in
          let mine : stand i < limit_by a = subst (λ j. stand j < limit_by a) (eqb-true a.clock i ec) below in
          omega (arith, mine, later)

  -- And where every clock is below its limit, all atoms hold.
  from-limits : (atoms : List Invariant) → All (SoundInvariant clocks locations) atoms
      → ((i : ℕ) → i < 4 → stand i < limit_of atoms r.location i) → every (allows bounds r) atoms ≡ true
  from-limits [] none h = refl
  from-limits (a ∷ atoms) (also s rest) h =
      rw (here (eqb a.location r.location) refl)
      (from-limits atoms rest (λ i p. later i p (eqb a.location r.location && eqb a.clock i) refl))
    where
      later : (i : ℕ) → i < 4 → (b : Bool) → (eqb a.location r.location && eqb a.clock i) ≡ b
          → stand i < limit_of atoms r.location i
      later i p true e =
          let low = h i p in
          let z : stand i < min (limit_by a) (limit_of atoms r.location i) = rw e at low in
          omega (arith, z)
      later i p false e = let low = h i p in let z : stand i < limit_of atoms r.location i = rw e at low in z

      here : (b : Bool) → eqb a.location r.location ≡ b → allows bounds r a ≡ true
      here false el = rw el refl
      here true el =
          let low = h a.clock (omega (arith, s.clock, few)) in
          let mine : stand a.clock < min (limit_by a) (limit_of atoms r.location a.clock) =
          rw (el, eq-eqb a.clock a.clock refl) at low in
          on-clock a s (eqb-true a.location r.location el) ∙ lt-ltb (stand a.clock) (limit_by a) (omega (arith, mine))

-- ---- Laws for the code that tests

module _ (m : Model) (limits : List ℕ) (limited : Limited m limits) (bounds : Bounds) (r : Region) where
  -- One clock is not: the invariant is broken.
  pub limit-broken : (i : ℕ) → i < 4 → under limits bounds r i ≡ false → false ≡ meets bounds m.invariants r
  unfolding meets
  limit-broken i h e = go (every (allows bounds r) m.invariants) refl
    where
      go : (b : Bool) → every (allows bounds r) m.invariants ≡ b → false ≡ every (allows bounds r) m.invariants
      go false t = sym t
      go true t =
          let low = to-limits m.clocks m.locations limited.sound.clocks bounds r m.invariants
          limited.sound.invariants t i in
          absurd (omega (
            arith,
            low,
            limited.limit r.location i h,
            ltb-false (position (cell_of (clock_at bounds r i))) (limit_in limits r.location i) e,
          ))

  -- All four are: it is met.
  pub limits-met : under limits bounds r 0 ≡ true → under limits bounds r 1 ≡ true → under limits bounds r 2 ≡ true
      → under limits bounds r 3 ≡ true → true ≡ meets bounds m.invariants r
  unfolding meets
  limits-met e₀ e₁ e₂ e₃ =
      sym (from-limits m.clocks m.locations limited.sound.clocks bounds r m.invariants limited.sound.invariants each)
    where
      below : (i : ℕ) → i < 4 → under limits bounds r i ≡ true
          → position (cell_of (clock_at bounds r i)) < limit_of m.invariants r.location i
      below i h e = subst (λ n. position (cell_of (clock_at bounds r i)) < n) (limited.limit r.location i h)
          (ltb-true (position (cell_of (clock_at bounds r i))) (limit_in limits r.location i) e)

      each : (i : ℕ) → i < 4 → position (cell_of (clock_at bounds r i)) < limit_of m.invariants r.location i
      each zero h = below 0 h e₀
      each (suc zero) h = below 1 h e₁
      each (suc (suc zero)) h = below 2 h e₂
      each (suc (suc (suc zero))) h = below 3 h e₃
      each (suc (suc (suc (suc i)))) h = absurd (omega arith)

  -- What the code tests.
  pub limits-tell : all_under limits bounds r ≡ meets bounds m.invariants r
  limits-tell =
      go (under limits bounds r 0) refl (under limits bounds r 1) refl (under limits bounds r 2) refl (under limits bounds r 3) refl
    where
      go : (a : Bool) → under limits bounds r 0 ≡ a → (b : Bool) → under limits bounds r 1 ≡ b → (c : Bool)
          → under limits bounds r 2 ≡ c → (d : Bool) → under limits bounds r 3 ≡ d
          → (a && (b && (c && d))) ≡ meets bounds m.invariants r
      go false e b eb c ec d ed = limit-broken 0 (omega arith) e
      go true e false eb c ec d ed = limit-broken 1 (omega arith) eb
      go true e true eb false ec d ed = limit-broken 2 (omega arith) ec
      go true e true eb true ec false ed = limit-broken 3 (omega arith) ed
      go true e true eb true ec true ed = limits-met e eb ec ed

-- ---- Laws for the code that fills the list

-- The list holds the limits of some atoms.
abbrev pub Holding : List Invariant → List ℕ → Type 0
Holding atoms limits = (l i : ℕ) → i < 4 → limit_in limits l i ≡ limit_of atoms l i

-- A list with no limit holds those of no atoms.
pub holding-none : (n : ℕ) → Holding [] (replicate n no_limit)
holding-none n l i h = go n (limit_place l i)
  where
    go : (n k : ℕ) → get_or (replicate n no_limit) k no_limit ≡ no_limit
    go zero k = refl
    go (suc n) zero = refl
    go (suc n) (suc k) = go n k

-- One atom more.
limit-last : (atoms : List Invariant) (a : Invariant) (l i : ℕ) → limit_of (atoms ++ (a ∷ [])) l i
    ≡ cond (eqb a.location l && eqb a.clock i) (min (limit_of atoms l i) (limit_by a)) (limit_of atoms l i)
limit-last [] a l i = go (eqb a.location l && eqb a.clock i)
  where
    go : (b : Bool) → cond b (min (limit_by a) no_limit) no_limit ≡ cond b (min no_limit (limit_by a)) no_limit
    go true = omega arith
    go false = refl
limit-last (x ∷ atoms) a l i =
    go (eqb x.location l && eqb x.clock i) (eqb a.location l && eqb a.clock i) (limit_of (atoms ++ (a ∷ [])) l i)
    (limit_of atoms l i) (limit-last atoms a l i)
  where
    go : (b d : Bool) (n k : ℕ) → n ≡ cond d (min k (limit_by a)) k
        → cond b (min (limit_by x) n) n ≡ cond d (min (cond b (min (limit_by x) k) k) (limit_by a)) (cond b (min (limit_by x) k) k)
    go true true n k e = omega (arith, e)
    go true false n k e = omega (arith, e)
    go false true n k e = e
    go false false n k e = e

module _ (atoms : List Invariant) (limits : List ℕ) (i : ℕ) (here : i < length atoms) (a : Invariant) (is : a ≡ get_or atoms i no_invariant)
    (clock : a.clock < 4) (location : a.location < 256) (room : length limits ≡ 1024) where
  -- The list with the limit of an atom taken in.
  abbrev pub lowered : List ℕ
  lowered = set limits (limit_place a.location a.clock) (min (limit_in limits a.location a.clock) (limit_by a))

  lowered_is : (l j : ℕ) → j < 4 → limit_in lowered l j
      ≡ cond (eqb a.location l && eqb a.clock j) (min (limit_in limits l j) (limit_by a)) (limit_in limits l j)
  lowered_is l j h = go (eqb a.location l) refl (eqb a.clock j) refl
    where
      other : (limit_place l j ≡ limit_place a.location a.clock → ⊥) → limit_in lowered l j ≡ limit_in limits l j
      other n = get_or-set_other limits (limit_place a.location a.clock) (limit_place l j) _ no_limit n

      go : (b : Bool) → eqb a.location l ≡ b → (d : Bool) → eqb a.clock j ≡ d
          → limit_in lowered l j ≡ cond (b && d) (min (limit_in limits l j) (limit_by a)) (limit_in limits l j)
      go false el d ec = other (λ e. omega (arith, e, h, clock, eqb-false a.location l el))
      go true el false ec = other (λ e. omega (arith, e, h, clock, eqb-false a.clock j ec))
      go true el true ec =
          subst (λ k. get_or lowered k no_limit ≡ min (get_or limits k no_limit) (limit_by a)) same
          (get_or-set_same limits (limit_place a.location a.clock) _ no_limit (omega arith))
        where
          same : limit_place a.location a.clock ≡ limit_place l j
          same = omega (arith, eqb-true a.location l el, eqb-true a.clock j ec)

  pub holding-more : Holding (take i atoms) limits → Holding (take (i + 1) atoms) lowered
  holding-more held l j h =
      lowered_is l j h
      ∙ ap (λ n. cond (eqb a.location l && eqb a.clock j) (min n (limit_by a)) n) (held l j h)
      ∙ sym (limit-last (take i atoms) a l j)
      ∙ ap (λ x. limit_of x l j)
      (ap (λ x. take i atoms ++ (x ∷ [])) is ∙ sym (take-suc atoms i no_invariant here) ∙ ap (λ n. take n atoms) (sym (add-one i)))

pub holding-all : (atoms : List Invariant) (limits : List ℕ) (i : ℕ) → length atoms ≤ i → Holding (take i atoms) limits
    → Holding atoms limits
holding-all atoms limits i h held = subst (λ x. Holding x limits) (take_all i atoms h) held

-- Atom i of a sound model.
pub atom-sound : (m : Model) → Sound m → (i : ℕ) → i < length m.invariants
    → SoundInvariant m.clocks m.locations (get_or m.invariants i no_invariant)
atom-sound m s i h = go m.invariants s.invariants i h
  where
    go : (l : List Invariant) → All (SoundInvariant m.clocks m.locations) l → (i : ℕ) → i < length l
        → SoundInvariant m.clocks m.locations (get_or l i no_invariant)
    go [] none i h = absurd (omega arith)
    go (a ∷ l) (also p rest) zero h = p
    go (a ∷ l) (also p rest) (suc i) h = go l rest i (omega arith)

-- Within a list it does not matter what stands past its end.
pub within : (l : List ℕ) (i d e : ℕ) → i < length l → get_or l i d ≡ get_or l i e
within [] i d e h = absurd (omega arith)
within (x ∷ l) zero d e h = refl
within (x ∷ l) (suc i) d e h = within l i d e (omega arith)

-- Atom i of a model is taken in.
pub holding-next : (m : Model) → Sound m → (limits : List ℕ) (i : ℕ) → i < length m.invariants → (a : Invariant)
    → a ≡ get_or m.invariants i no_invariant → length limits ≡ 1024 → Holding (take i m.invariants) limits → (limits' : List ℕ)
    → limits' ≡ set limits (limit_place a.location a.clock) (min (limit_in limits a.location a.clock) (limit_by a))
    → Holding (take (i + 1) m.invariants) limits'
holding-next m s limits i here a is room held limits' e =
    let at = atom-sound m s i here in
    let clock : a.clock < 4 = omega (arith, ap (λ (x : Invariant). x.clock) is, at.clock, s.clocks) in
    let location : a.location < 256 = omega (arith, ap (λ (x : Invariant). x.location) is, at.location, s.locations) in
    subst (Holding (take (i + 1) m.invariants)) (sym e) (holding-more m.invariants limits i here a is clock location room held)

-- Where a clock of the code stands.

pub position-over : (k : Clock) → k.whole ≡ over_part → 65534 ≡ position (cell_of k)
position-over k e = sym (ap position (cell-over k e))

module _ (k : Clock) (other : k.whole ≡ over_part → ⊥) (byte : k.whole < 256) where
  pub position_at : k.rank ≡ 0 → 2 * k.whole ≡ position (cell_of k)
  position_at e = sym (ap position (cell_at k other) ∙ rw (eq-eqb k.rank 0 e) (omega arith))

  pub position-between : (k.rank ≡ 0 → ⊥) → 2 * k.whole + 1 ≡ position (cell_of k)
  position-between n = sym (ap position (cell_at k other) ∙ rw (ne_eqb k.rank 0 n) (omega arith))

-- A list that was stored in has its length.
pub stored-as-long : (l l' : List ℕ) (k v : ℕ) → l' ≡ set l k v → length l' ≡ length l
stored-as-long l l' k v e = ap length e ∙ length-set l k v
