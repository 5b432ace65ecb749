-- `meet_branches` meets its contract. The loop's invariant: what the first i branches lead to was met. Assumes nothing.
use Prim.Native.Nat.{ℕ}
use mathlib.Core.Path.{◌≡◌, sym, ◌∙◌, ap}
use mathlib.Core.List.{List, [], ◌∷◌}
use native.Mathlib.Omega.{arith}
use Rattle.std.specs.Prelude.{Result, Err}
use Rattle.std.proofs.Common.{rules}
use Rattle.table.specs.Access.{no_branch}
use Rattle.table.specs.Reads.{ReadsEdge, edge_of}
use Rattle.table.specs.declared.model.Branch.{Branch}
use Rattle.clocks.specs.declared.region.Region.{Region}
use Rattle.regions.specs.declared.explore.Full.{Full}
use Rattle.regions.specs.Graph.{landing}
use Rattle.regions.specs.Worklist.{meet}
use Rattle.regions.specs.Explore.{same_region, so_far, found_of, kept_on, loop-on, loop-full}
use Rattle.regions.proofs.explore.meet_branches.Goals as goal

pub returns-in_err-meet_target-clause-all_met : goal.returns-in_err-meet_target-clause-all_met
returns-in_err-meet_target-clause-all_met c =
    let args = c.args in
    let found = args.found.now in
    let loop = c.loop-i in
    let now = c.meet_target.new.found in
    let same : c.from_residual.result ≡ Err c.in_err-meet_target.field-0.0 = search rules in
    let g : Branch → List Region = λ b. landing args.model.now.bounds args.r b ∷ [] in
    λ m e edge.
    let made = c.new-branches in
    let here : ReadsEdge made.result.table.now made.result.place m e = rw (made.ensures.0, made.ensures.1) edge in
    let few = c.count-i-end.ensures.value_2 m e here in
    loop-full g (edge_of m e).branches loop.i no_branch found.cap (so_far found) (so_far loop.found) (loop.invariant.met m e edge)
    (omega (arith, c.loop-i-test.true)) (so_far now)
    (ap (λ (k : ℕ). meet same_region k (so_far loop.found) (g (lib.ListN.get_or (edge_of m e).branches loop.i no_branch)))
    (sym loop.invariant.kept.cap)
    ∙ ap (λ (b : Branch). meet same_region loop.found.cap (so_far loop.found) (g b)) (sym (c.at-b.ensures.value_2 m e here))
    ∙ c.meet_target.ensures.all_met
    ∙ ap (λ (r : Result Unit Full). found_of r (so_far now)) c.in_err-meet_target.was)
    ∙ sym (ap (λ (r : Result Unit Full). found_of r (so_far now)) same)

pub loop-i-preserved : goal.loop-i-preserved
loop-i-preserved c =
    let args = c.args in
    let found = args.found.now in
    let loop = c.loop-i in
    let now = c.meet_target.new.found in
    let g : Branch → List Region = λ b. landing args.model.now.bounds args.r b ∷ [] in
    record {
      slice = c.meet_target.ensures.slice ∙ loop.invariant.slice;
      kept = kept_on found loop.found now loop.invariant.kept c.meet_target.ensures.kept;
      visited = c.meet_target.ensures.visited;
      met = λ m e edge.
          let made = c.new-branches in
          let here : ReadsEdge made.result.table.now made.result.place m e = rw (made.ensures.0, made.ensures.1) edge in
          let few = c.count-i-end.ensures.value_2 m e here in
          loop-on g (edge_of m e).branches loop.i no_branch found.cap (so_far found) (so_far loop.found) (loop.invariant.met m e edge)
          (omega (arith, c.loop-i-test.true)) (so_far now)
          (ap (λ (k : ℕ). meet same_region k (so_far loop.found) (g (lib.ListN.get_or (edge_of m e).branches loop.i no_branch)))
          (sym loop.invariant.kept.cap)
          ∙ ap (λ (b : Branch). meet same_region loop.found.cap (so_far loop.found) (g b)) (sym (c.at-b.ensures.value_2 m e here))
          ∙ c.meet_target.ensures.all_met
          ∙ ap (λ (r : Result Unit Full). found_of r (so_far now)) c.in_ok-meet_target.was);
    }
