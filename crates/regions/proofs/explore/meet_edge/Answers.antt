-- `meet_edge` meets its contract: the edge leads nowhere where it is not available. Assumes nothing.
use mathlib.Core.Path.{sym, ◌∙◌, ap}
use mathlib.Core.List.{List, [], ◌∷◌}
use Rattle.table.specs.Reads.{edge_of}
use Rattle.clocks.specs.declared.region.Bounds.{Bounds}
use Rattle.clocks.specs.declared.region.Region.{Region}
use Rattle.regions.specs.Graph.{landing, gather}
use Rattle.regions.specs.Laws.Graph.{edge_none, edge-some}
use Rattle.regions.specs.Worklist.{meet}
use Rattle.regions.specs.Explore.{same_region, so_far}
use Rattle.regions.proofs.explore.meet_edge.Goals as goal

pub returns-then-not-is_available-clause-all_met : goal.returns-then-not-is_available-clause-all_met
returns-then-not-is_available-clause-all_met c =
    let marks = c.args.marks.now in
    let found = c.args.found.now in
    λ m e reads edge from.
    ap (λ (qs : List Region). meet same_region found.cap (so_far found) qs)
    (edge_none m (edge_of m e) marks.region (sym (c.is_available.ensures.value m e reads edge from) ∙ c.if-not-is_available.true))

pub returns-clause-all_met : goal.returns-clause-all_met
returns-clause-all_met c =
    let marks = c.args.marks.now in
    let found = c.args.found.now in
    λ m e reads edge from.
    ap (λ (qs : List Region). meet same_region found.cap (so_far found) qs)
    (edge-some m (edge_of m e) marks.region (sym (c.is_available.ensures.value m e reads edge from) ∙ c.if-not-is_available.false)
    ∙ ap (λ (x : Bounds). gather (λ b. landing x marks.region b ∷ []) (edge_of m e).branches)
    (sym (marks.model.now.suits m reads).bounds_are))
    ∙ c.meet_branches.ensures.all_met m e edge
