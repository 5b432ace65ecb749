-- `meet_target` meets its contract: what a marked branch leads to is known, and what another leads to is met. Assumes nothing.
use Prim.Native.Nat.{ℕ}
use mathlib.Core.Path.{sym, ◌∙◌, ap, subst}
use mathlib.Core.List.{[], ◌∷◌}
use mathlib.Core.Bool.{true}
use lib.ListN.{set}
use Rattle.std.specs.Prelude.{Result}
use Rattle.clocks.specs.declared.region.Region.{Region}
use Rattle.regions.specs.declared.explore.Full.{Full}
use Rattle.regions.specs.Worklist.{meet}
use Rattle.regions.specs.Explore.{same_region, so_far, found_of}
use Rattle.regions.specs.Marks.{Visited, visited-on}
use Rattle.regions.proofs.explore.meet_target.Goals as goal

pub returns-clause-visited : goal.returns-clause-visited
returns-clause-visited c =
    let args = c.args in
    let found = args.found.now in
    let now = c.meet_one.new.found in
    subst (Visited args.bounds args.r now.entries.now now.links.count)
    (sym (c.put.ensures ∙ ap (λ (k : ℕ). set args.visited.now k true) c.mark_place-at.ensures))
    (visited-on args.bounds args.r found.cap found.links.count found.entries.now now.entries.now now.links.count args.visited.now
    c.requires.visited args.b
    (ap (λ (q : Region). meet same_region found.cap (so_far found) (q ∷ [])) (sym c.landing_of.ensures)
    ∙ c.meet_one.ensures.all_met
    ∙ ap (λ (r : Result Unit Full). found_of r (so_far now)) c.in_ok-meet_one.was))
