-- `show_targets` meets its contract. Assumes nothing.
use native.Mathlib.Omega.{arith}
use Prim.Native.Nat.{ℕ}
use mathlib.Core.Path.{◌≡◌, ap}
use mathlib.Core.List.{List}
use lib.ListN.{length-replicate}
use Rattle.regions.specs.Explore.{size_of}
use Rattle.regions.specs.Filling.{Grouped}
use Rattle.regions.specs.Index.{indexed-none}
use Rattle.regions.specs.declared.index.Links.{Links}
use Rattle.regions.specs.Laws.Shown.{targeted}
use Rattle.regions.proofs.classes.show_targets.Goals as goal

-- The list is the same under another name.
grouped-as : (es : List ℕ) (n : ℕ) (sets sets' : List ℕ) (count count' : ℕ) (spots : List ℕ) → sets' ≡ sets → count' ≡ count
    → Grouped es n n sets count spots → Grouped es n n sets' count' spots
grouped-as es n sets sets' count count' spots same many grouped = rw (same, many) grouped

pub invariant_of-sets : goal.invariant_of-sets
invariant_of-sets c =
    record {
      room = record {
        index = indexed-none _ c.new.result c.new.ensures.0 c.new.ensures.1;
        room = omega (arith, c.new.ensures.1);
        few = omega arith;
        fits = omega (arith, length-replicate {A = ℕ} 36864 0);
      };
    }

pub returns : goal.returns
returns c =
    let found = c.args.found in
    let sets = c.listed.result in
    λ d. targeted found.entries.now (size_of found) c.args.bounds sets.entries.now c.list_sets.new.spots c.show_resets.new.resets
    (size_of sets) (grouped-as found.entries.now (size_of found) _ _ _ _ c.list_sets.new.spots c.listed.ensures.0
    (ap (λ (l : Links). l.count) c.listed.ensures.1) c.list_sets.ensures.grouped) c.args.rows.now c.flag_masks.new.used
    c.args.edges c.flag_masks.ensures c.show_resets.ensures d
