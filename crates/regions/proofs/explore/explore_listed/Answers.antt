-- `explore_listed` meets its contract. The loop's invariant: going on from region i gives what exploring gives. The measure is the
-- regions that there may be. Assumes nothing.
use Prim.Native.Nat.{ℕ}
use native.Mathlib.Omega.{arith}
use mathlib.Core.Path.{◌≡◌, sym, ◌∙◌, ap}
use Rattle.std.specs.Prelude.{Result, Err}
use Rattle.std.proofs.Common.{rules}
use Rattle.clocks.specs.declared.region.Region.{Region}
use Rattle.regions.specs.declared.explore.Full.{Full}
use Rattle.regions.specs.Entries.{region_at}
use Rattle.regions.specs.Graph.{next_of}
use Rattle.regions.specs.Worklist.{meet}
use Rattle.regions.specs.Explore.{same_region, so_far, found_of, kept_on, turn-full, turn_on, turn-over}
use Rattle.regions.proofs.explore.explore_listed.Goals as goal

pub returns-in_err-meet_next-clause-found : goal.returns-in_err-meet_next-clause-found
returns-in_err-meet_next-clause-found c =
    let found = c.args.found.now in
    let loop = c.loop-i in
    let now = c.meet_next.new.found in
    let same : c.from_residual.result ≡ Err c.in_err-meet_next.field-0.0 = search rules in
    let room = loop.invariant.kept.cap in
    let is = c.region.ensures ∙ ap (λ es. region_at es loop.i) c.listed.ensures.0 in
    λ m d reads.
    loop.invariant.same m d reads
    ∙ turn-full (next_of m) found.cap d loop.found.entries.now loop.found.links.count loop.i c.loop-i-test.true
    (omega (arith, loop.found.room.room, room)) _
    (ap (λ (k : ℕ). meet same_region k (so_far loop.found) (next_of m (region_at loop.found.entries.now loop.i))) (sym room)
    ∙ ap (λ (q : Region). meet same_region loop.found.cap (so_far loop.found) (next_of m q)) (sym is)
    ∙ c.meet_next.ensures.all_met m reads)
    (so_far now) (ap (λ (x : Result Unit Full). found_of x (so_far now)) c.in_err-meet_next.was)
    ∙ sym (ap (λ (x : Result Unit Full). found_of x (so_far now)) same)

pub loop-i-preserved : goal.loop-i-preserved
loop-i-preserved c =
    let found = c.args.found.now in
    let loop = c.loop-i in
    let now = c.meet_next.new.found in
    let room = loop.invariant.kept.cap in
    let is = c.region.ensures ∙ ap (λ es. region_at es loop.i) c.listed.ensures.0 in
    record {
      slice = c.meet_next.ensures.slice ∙ loop.invariant.slice;
      kept = kept_on found loop.found now loop.invariant.kept c.meet_next.ensures.kept;
      same = λ m d reads.
          loop.invariant.same m d reads
          ∙ turn_on (next_of m) found.cap d loop.found.entries.now loop.found.links.count loop.i c.loop-i-test.true
          (omega (arith, loop.found.room.room, room)) _
          (ap (λ (k : ℕ). meet same_region k (so_far loop.found) (next_of m (region_at loop.found.entries.now loop.i))) (sym room)
          ∙ ap (λ (q : Region). meet same_region loop.found.cap (so_far loop.found) (next_of m q)) (sym is)
          ∙ c.meet_next.ensures.all_met m reads)
          (so_far now) (ap (λ (x : Result Unit Full). found_of x (so_far now)) c.in_ok-meet_next.was);
    }

pub returns-clause-found : goal.returns-clause-found
returns-clause-found c =
    let found = c.args.found.now in
    let loop = c.loop-i in
    λ m d reads.
    loop.invariant.same m d reads
    ∙ turn-over (next_of m) found.cap d loop.found.entries.now loop.found.links.count loop.i c.loop-i-test.false
