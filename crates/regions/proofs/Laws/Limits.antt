-- What is known of invariants by marks on branches, for any bounds and any list of limits: laws that stand for a reader of the
-- definitions; the code marks branches by the bounds and limits of a model that it has prepared, and needs none of these.
use Rattle.std.specs.Prelude.{Option, Some, None, ℕ, ◌≤◌, ◌≡◌, Bool, true, false, List, length, get_or, set, replicate}
use Rattle.std.proofs.Common.{arith, sym, ◌∙◌, ap, subst, length-set}
use Rattle.std.proofs.lemmas.List.{length-replicate}
use Rattle.table.specs.Model.{Model}
use Rattle.table.specs.declared.model.Branch.{Branch}
use Rattle.clocks.specs.declared.region.Bounds.{Bounds}
use Rattle.clocks.specs.declared.region.Region.{Region}
use Rattle.regions.specs.Graph.{meets, landing}
use Rattle.regions.specs.Limits.{Limited}
use Rattle.regions.specs.Marks.{mark_place, Marked, mark-none, mark_on}

-- What is known of invariants: a mark says false where the region that a branch leads to breaks its own, and true where it meets it.
pub record Tested (limits : List ℕ) (bounds : Bounds) (r : Region) (marks : List (Option Bool)) : Type 0 where
  pub room : length marks ≡ 1024
  pub broken : (m : Model) → Limited m limits → Marked None bounds r marks (Some false) (λ q. meets bounds m.invariants q ≡ false)
  pub met : (m : Model) → Limited m limits → Marked None bounds r marks (Some true) (λ q. meets bounds m.invariants q ≡ true)

untested : (v : Bool) → ◌≡◌ {A = Option Bool} None (Some v) → ⊥
untested v e = let z : ◌≡◌ {A = ℕ} 0 1 = cc in omega arith

module _ (limits : List ℕ) (bounds : Bounds) (r : Region) where
  pub tested-none : Tested limits bounds r (replicate 1024 None)
  tested-none =
      record {
        room = length-replicate {A = Option Bool} 1024 None;
        broken = λ m limited. mark-none None bounds r (Some false) (untested false) (λ q. meets bounds m.invariants q ≡ false) 1024;
        met = λ m limited. mark-none None bounds r (Some true) (untested true) (λ q. meets bounds m.invariants q ≡ true) 1024;
      }

  module _ (marks : List (Option Bool)) (tested : Tested limits bounds r marks) (b : Branch) (at : ℕ) (is : at ≡ mark_place b) where
    -- What a mark says.
    pub tested-broken : (mark : Option Bool) → mark ≡ get_or marks at None → mark ≡ Some false → (m : Model) → Limited m limits
        → false ≡ meets bounds m.invariants (landing bounds r b)
    tested-broken mark read e m limited =
        sym (tested.broken m limited b (ap (λ (k : ℕ). get_or marks k None) (sym is) ∙ sym read ∙ e))

    pub tested-met : (mark : Option Bool) → mark ≡ get_or marks at None → mark ≡ Some true → (m : Model) → Limited m limits
        → true ≡ meets bounds m.invariants (landing bounds r b)
    tested-met mark read e m limited =
        sym (tested.met m limited b (ap (λ (k : ℕ). get_or marks k None) (sym is) ∙ sym read ∙ e))

    -- Where the branch leads was tested, and its mark says what came of it.
    pub tested-on : (q : Region) → q ≡ landing bounds r b → (v : Bool)
        → ((m : Model) → Limited m limits → v ≡ meets bounds m.invariants q)
        → (w : Option Bool) → w ≡ Some v → (marks' : List (Option Bool)) → marks' ≡ set marks at w → Tested limits bounds r marks'
    tested-on q lands v told w says marks' stored =
        subst (Tested limits bounds r) (sym (stored ∙ ap (λ (k : ℕ). set marks k w) is)) on
      where
        few : length marks ≤ 4096
        few = omega (arith, tested.room)

        is-told : (m : Model) → Limited m limits → (x : Bool) → w ≡ Some x → meets bounds m.invariants (landing bounds r b) ≡ x
        is-told m limited x e =
            let same : v ≡ x = cc in
            ap (meets bounds m.invariants) (sym lands) ∙ sym (told m limited) ∙ same

        on : Tested limits bounds r (set marks (mark_place b) w)
        on =
            record {
              room = length-set marks (mark_place b) w ∙ tested.room;
              broken = λ m limited. mark_on None bounds r (Some false) (untested false) (λ q. meets bounds m.invariants q ≡ false) marks
                  few b w (is-told m limited false) (tested.broken m limited);
              met = λ m limited. mark_on None bounds r (Some true) (untested true) (λ q. meets bounds m.invariants q ≡ true) marks
                  few b w (is-told m limited true) (tested.met m limited);
            }
