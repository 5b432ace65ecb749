-- `graph_of` meets its contract. Assumes nothing.
use mathlib.Core.Path.{◌≡◌, sym, ◌∙◌, ap}
use lib.ListN.{length}
use Rattle.std.proofs.Common.{Err}
use Rattle.table.specs.Model.{Model}
use Rattle.table.proofs.Laws.Reads.{counts-read}
use Rattle.regions.specs.Of.{Of}
use Rattle.regions.specs.Graph.{bounds_of, meets, next_of, first}
use Rattle.regions.specs.Worklist.{explore}
use Rattle.regions.specs.Explore.{same_region}
use Rattle.regions.specs.Call.{room_for, graph_of, entries_after}
use Rattle.regions.specs.Laws.Answered.{breaks, is_cut, is_whole}
use Rattle.regions.proofs.call.graph_of.Goals as goal
use Rattle.regions.proofs.call.graph_of.Goals.{After-meets_invariant}

-- The start is the first region.
starts : (c : After-meets_invariant) (m : Model) → Of c.args.model.now m → c.first_of-start.result ≡ first m
starts c m reads = c.first_of-start.ensures m (counts-read c.args.model.now.bytes.now c.args.model.now.shape m reads).initial

-- What the code tests of it.
tests : (c : After-meets_invariant) (m : Model) → Of c.args.model.now m
    → meets (bounds_of m) m.invariants (first m) ≡ c.meets_invariant.result
tests c m reads = ap (meets (bounds_of m) m.invariants) (sym (starts c m reads)) ∙ sym (c.meets_invariant.ensures m reads)

pub returns-then-not-meets_invariant : goal.returns-then-not-meets_invariant
returns-then-not-meets_invariant c =
    λ m reads.
    let out = breaks (room_for (length c.args.entries.now)) c.args.entries.now m
    (tests (goal.at.returns-then-not-meets_invariant c).After-meets_invariant m reads ∙ c.if-not-meets_invariant.true) in
    (ap Err c.at.ensures ∙ sym (ap graph_of out), sym (ap (entries_after c.args.entries.now) out))

pub returns-in-Err : goal.returns-in-Err
returns-in-Err c =
    let cap = room_for (length c.args.entries.now) in
    let before = (goal.at.returns-in-Err c).After-meets_invariant in
    λ m reads.
    let (answer, left) = is_cut cap c.args.entries.now m (tests before m reads ∙ c.if-not-meets_invariant.false)
    c.explore_all.new.entries cap (c.in-Err.ensures.left m reads)
    (ap (explore same_region (next_of m) cap) (sym (starts before m reads)) ∙ c.in-Err.ensures.found m reads) in
    (ap Err c.at-in-Err.ensures ∙ answer, left)

pub returns-in-Ok : goal.returns-in-Ok
returns-in-Ok c =
    let cap = room_for (length c.args.entries.now) in
    let before = (goal.at.returns-in-Ok c).After-meets_invariant in
    λ m reads. is_whole cap c.args.entries.now m (tests before m reads ∙ c.if-not-meets_invariant.false)
    c.explore_all.new.entries c.in-Ok.n (c.in-Ok.ensures.left m reads)
    (ap (explore same_region (next_of m) cap) (sym (starts before m reads)) ∙ c.in-Ok.ensures.found m reads)
