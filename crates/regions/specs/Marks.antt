-- Marks on where the branches of one region lead, while its edges are gone through. Branches that have mask and target in common lead
-- from a region to the same region, so what was found of one holds of the others: a mark for each such pair keeps it.
use Rattle.std.specs.Prelude.{Option, Some, None, ℕ, zero, suc, ◌+◌, ◌*◌, ◌≤◌, ◌<◌, ◌≡◌, refl, Bool, true, false, cond}
use Rattle.std.specs.Prelude.{List, [], ◌∷◌, eqb, ltb, length, get_or, set, replicate, map}
use Rattle.std.proofs.Common.{arith, sym, ◌∙◌, ap, subst, length-set, get_or-set_same, get_or-set_other, eqb-true, ltb-true, ltb-false}
use Rattle.std.proofs.lemmas.List.{length-replicate}
use Rattle.std.proofs.Math.ListN.{get_or-eq_default}
use Rattle.std.proofs.lemmas.Bool.{eqb-false, false≢true}
use Rattle.table.specs.Model.{Model}
use Rattle.table.specs.declared.model.Branch.{Branch}
use Rattle.regions.specs.Lists.{same-at}
use Rattle.regions.specs.Graph.{bounds_of, meets, landing}
use Rattle.regions.specs.Of.{Of}
use Rattle.regions.specs.declared.marks.Mark.{Mark}
use Rattle.regions.specs.declared.marks.Mark.TheVariants.{Untested, Met, Broken}
use Rattle.regions.specs.declared.prepared.Prepared.{Prepared}
use Rattle.regions.specs.Worklist.{Found, complete, known, meet}
use Rattle.regions.specs.Explore.{same_region, same_refl, listed, no_next}
use Rattle.regions.specs.Laws.Worklist.{items_of, meet-known, known-met, known-last}
use Rattle.clocks.specs.declared.region.Bounds.{Bounds}
use Rattle.clocks.specs.declared.region.Region.{Region}

-- Where the mark of a branch stands: 16 to a target, by the mask. (A mask that names a clock beyond the four, which no model has, is
-- past all marks.)
abbrev pub mark_place : Branch → ℕ
mark_place b = cond (ltb 15 b.mask) 4096 (16 * b.target + b.mask)

-- What a mark on a test says: whether it was met, and nothing before the test.
abbrev pub answer_of : Mark → Option Bool
answer_of Untested = None
answer_of Met = Some true
answer_of Broken = Some false

-- A branch has mark v only where a fact holds of the region that it leads to. Past the marks there is none.
abbrev pub Marked : {A : Type 0} → (none : A) → Bounds → Region → List A → A → (Region → Type 0) → Type 0
Marked none bounds r marks v P = (b : Branch) → get_or marks (mark_place b) none ≡ v → P (landing bounds r b)

-- What is known of invariants: whether the region that a branch leads to meets its own.
pub record Tested (p : Prepared) (r : Region) (marks : List (Option Bool)) : Type 0 where
  pub room : length marks ≡ 1024
  pub told : (m : Model) → Of p m → (v : Bool)
      → Marked None p.bounds r marks (Some v) (λ q. v ≡ meets (bounds_of m) m.invariants q)

-- What is known of numbers: that the region that a branch leads to is among the first n entries.
pub record Visited (bounds : Bounds) (r : Region) (es : List ℕ) (n : ℕ) (marks : List Bool) : Type 0 where
  pub room : length marks ≡ 1024
  pub numbered : Marked false bounds r marks true (λ q. known same_region q (listed es n) ≡ true)

-- ---- Marks in general

-- One place, one mask and one target.
place-one : (b d : Branch) → mark_place b ≡ mark_place d → mark_place b < 4096 → (b.target ≡ d.target) × (b.mask ≡ d.mask)
place-one b d = go (ltb 15 b.mask) refl (ltb 15 d.mask) refl
  where
    go : (x : Bool) → ltb 15 b.mask ≡ x → (y : Bool) → ltb 15 d.mask ≡ y
        → cond x 4096 (16 * b.target + b.mask) ≡ cond y 4096 (16 * d.target + d.mask)
        → cond x 4096 (16 * b.target + b.mask) < 4096 → (b.target ≡ d.target) × (b.mask ≡ d.mask)
    go true ex y ey e h = absurd (omega (arith, h))
    go false ex true ey e h = absurd (omega (arith, e, h))
    go false ex false ey e h =
        let p = ltb-false 15 b.mask ex in
        let q = ltb-false 15 d.mask ey in
        (omega (arith, e, p, q), omega (arith, e, p, q))

landing-one : (bounds : Bounds) (r : Region) (b d : Branch) → (b.target ≡ d.target) × (b.mask ≡ d.mask)
    → landing bounds r b ≡ landing bounds r d
unfolding landing
landing-one bounds r b d (t, k) = rw (t, k)

module _ {A : Type 0} (none : A) (bounds : Bounds) (r : Region) (v : A) (some : none ≡ v → ⊥) (P : Region → Type 0) where
  -- No branch has a mark yet.
  pub mark-none : (n : ℕ) → Marked none bounds r (replicate n none) v P
  mark-none n b e = absurd (some (sym (same-at none n (mark_place b)) ∙ e))

  -- A branch gets a mark.
  pub mark_on : (marks : List A) → length marks ≤ 4096 → (b : Branch) (w : A) → (w ≡ v → P (landing bounds r b))
      → Marked none bounds r marks v P → Marked none bounds r (set marks (mark_place b) w) v P
  mark_on marks few b w holds marked d e = go (eqb (mark_place d) (mark_place b)) refl
    where
      here : mark_place d ≡ mark_place b → (x : Bool) → ltb (mark_place d) (length marks) ≡ x → P (landing bounds r d)
      here same true h =
          let inside : mark_place d < length marks = ltb-true (mark_place d) (length marks) h in
          let is : get_or (set marks (mark_place b) w) (mark_place d) none ≡ w =
          ap (λ (k : ℕ). get_or (set marks (mark_place b) w) k none) same
          ∙ get_or-set_same marks (mark_place b) w none (omega (arith, inside, same)) in
          subst P (landing-one bounds r b d (place-one b d (sym same) (omega (arith, inside, same, few)))) (holds (sym is ∙ e))
      here same false h =
          let past : length marks ≤ mark_place d = ltb-false (mark_place d) (length marks) h in
          let is : get_or (set marks (mark_place b) w) (mark_place d) none ≡ none =
          get_or-eq_default (set marks (mark_place b) w) none (omega (arith, past, length-set marks (mark_place b) w)) in
          absurd (some (sym is ∙ e))

      go : (x : Bool) → eqb (mark_place d) (mark_place b) ≡ x → P (landing bounds r d)
      go true s = here (eqb-true (mark_place d) (mark_place b) s) (ltb (mark_place d) (length marks)) refl
      go false s =
          marked d
          (sym (get_or-set_other marks (mark_place b) (mark_place d) w none (eqb-false (mark_place d) (mark_place b) s)) ∙ e)

-- ---- Invariants

-- Marks before any test say nothing.
pub nothing-said : (n : ℕ) → map answer_of (replicate n Untested) ≡ replicate n None
nothing-said zero = refl
nothing-said (suc n) = ap (λ l. None ∷ l) (nothing-said n)

module _ (p : Prepared) (r : Region) where
  untested : (v : Bool) → ◌≡◌ {A = Option Bool} None (Some v) → ⊥
  untested v e = let z : ◌≡◌ {A = ℕ} 0 1 = cc in omega arith

  pub tested-none : Tested p r (replicate 1024 None)
  tested-none =
      record {
        room = length-replicate {A = Option Bool} 1024 None;
        told = λ m reads v. mark-none None p.bounds r (Some v) (untested v) (λ q. v ≡ meets (bounds_of m) m.invariants q) 1024;
      }

  -- Where the branch leads was tested, and its mark says what came of it.
  pub tested-on : (marks : List (Option Bool)) → Tested p r marks → (b : Branch) (w : Bool)
      → ((m : Model) → Of p m → w ≡ meets (bounds_of m) m.invariants (landing p.bounds r b))
      → Tested p r (set marks (mark_place b) (Some w))
  tested-on marks tested b w is =
      record {
        room = length-set marks (mark_place b) (Some w) ∙ tested.room;
        told = λ m reads v. mark_on None p.bounds r (Some v) (untested v) (λ q. v ≡ meets (bounds_of m) m.invariants q) marks
            (omega (arith, tested.room)) b (Some w)
            (λ e. let same : w ≡ v = cc in sym same ∙ is m reads)
            (tested.told m reads v);
      }

-- ---- Numbers

module _ (bounds : Bounds) (r : Region) where
  pub visited-none : (es : List ℕ) (n : ℕ) → Visited bounds r es n (replicate 1024 false)
  visited-none es n =
      record {
        room = length-replicate {A = Bool} 1024 false;
        numbered = mark-none false bounds r true false≢true (λ q. known same_region q (listed es n) ≡ true) 1024;
      }

  module _ (cap n : ℕ) (es es' : List ℕ) (n' : ℕ) (marks : List Bool) (visited : Visited bounds r es n marks) where
    -- Regions that are met leave those that were met before where they are.
    pub visited-kept : (qs : List Region) (f : Found Region) → meet same_region cap (listed es n) qs ≡ f → items_of f ≡ listed es' n'
        → Visited bounds r es' n' marks
    visited-kept qs f all items =
        record { room = visited.room; numbered = λ b e. still (landing bounds r b) (visited.numbered b e) }
      where
        still : (q : Region) → known same_region q (listed es n) ≡ true → known same_region q (listed es' n') ≡ true
        still q old =
            sym (ap (known same_region q) (ap items_of all ∙ items)) ∙ known-met same_region no_next cap (listed es n) qs q old

    -- Where a branch leads was met, and there was room: it has its mark.
    pub visited-on : (b : Branch) → meet same_region cap (listed es n) (landing bounds r b ∷ []) ≡ complete (listed es' n')
        → Visited bounds r es' n' (set marks (mark_place b) true)
    visited-on b all =
        record {
          room = length-set marks (mark_place b) true ∙ visited.room;
          numbered = mark_on false bounds r true false≢true (λ q. known same_region q (listed es' n') ≡ true) marks
              (omega (arith, visited.room)) b true (λ e. now)
              (visited-kept (landing bounds r b ∷ []) (complete (listed es' n')) all refl).numbered;
        }
      where
        now : known same_region (landing bounds r b) (listed es' n') ≡ true
        now = known-last same_region no_next same_refl cap (listed es n) (landing bounds r b) (listed es' n') all

  -- A branch with a mark: the region that it leads to has a number, and meeting it changes nothing.
  pub visited-met : (cap n : ℕ) (es : List ℕ) (marks : List Bool) → Visited bounds r es n marks → (b : Branch)
      → get_or marks (mark_place b) false ≡ true
      → meet same_region cap (listed es n) (landing bounds r b ∷ []) ≡ complete (listed es n)
  visited-met cap n es marks visited b e =
      meet-known same_region no_next cap (listed es n) (landing bounds r b) [] (visited.numbered b e)
