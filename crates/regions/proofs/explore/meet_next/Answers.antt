-- `meet_next` meets its contract: the delay region, then the edges. Assumes nothing.
use Prim.Native.Nat.{ℕ}
use mathlib.Core.Path.{◌≡◌, sym, ◌∙◌, ap}
use Rattle.std.specs.Prelude.{Result, Err}
use Rattle.std.proofs.Common.{rules}
use Rattle.regions.specs.declared.explore.Full.{Full}
use Rattle.regions.specs.Graph.{gather, edge_next, delay_next, next_of}
use Rattle.regions.specs.Worklist.{meet}
use Rattle.regions.specs.Explore.{same_region, so_far, found_of, met-on, met-full}
use Rattle.regions.proofs.explore.meet_next.Goals as goal

pub returns-in_err-meet_delay-clause-all_met : goal.returns-in_err-meet_delay-clause-all_met
unfolding next_of
returns-in_err-meet_delay-clause-all_met c =
    let r = c.args.r in
    let found = c.args.found.now in
    let now = c.meet_delay.new.found in
    let same : c.from_residual.result ≡ Err c.in_err-meet_delay.field-0.0 = search rules in
    λ m reads.
    met-full found.cap (so_far found) (delay_next m r) (gather (edge_next m r) m.edges) (so_far now)
    (c.meet_delay.ensures.all_met m reads ∙ ap (λ (x : Result Unit Full). found_of x (so_far now)) c.in_err-meet_delay.was)
    ∙ sym (ap (λ (x : Result Unit Full). found_of x (so_far now)) same)

pub returns-clause-all_met : goal.returns-clause-all_met
unfolding next_of
returns-clause-all_met c =
    let r = c.args.r in
    let found = c.args.found.now in
    let now = c.meet_delay.new.found in
    λ m reads.
    met-on found.cap (so_far found) (delay_next m r) (gather (edge_next m r) m.edges) (so_far now) _
    (c.meet_delay.ensures.all_met m reads ∙ ap (λ (x : Result Unit Full). found_of x (so_far now)) c.in_ok-meet_delay.was)
    (ap (λ (k : ℕ). meet same_region k (so_far now) (gather (edge_next m r) m.edges)) (sym c.meet_delay.ensures.kept.cap)
    ∙ c.meet_edges.ensures.all_met m reads)
