-- `sum_codes` adds what each available edge adds.
use Rattle.std.proofs.Common.{arith, ap, ◌∙◌, ◌≤◌, length}
use Rattle.comparison.specs.Keys.{edge_key}
use Rattle.comparison.specs.Laws.KeyLoops.{added_by, adds_none, coded-small, coded-adds}
use Rattle.comparison.proofs.Laws.Opens.{sum-first, sum-step, sum-end}
use Rattle.comparison.proofs.Laws.Walks.{past-first, past-at, past-on}
use Rattle.comparison.proofs.held.Graph.sum_codes.Goals as goal

pub loop-e-init : goal.loop-e-init
loop-e-init c =
    let g = c.args.self in
    let x = c.args.x in
    let began = c.into_iter-e-iterator.ensures.into_iter_gives in
    let few : length c.into_iter-e-iterator.result.flags.now ≤ g.k = rw began c.open-e-items.ensures.1 in
    let same = ap (λ s. s.flags.now) began ∙ c.open-e-items.ensures.0 in
    record {
      few = few;
      small = omega (arith, few, c.requires);
      met = λ opened hx. past-first opened hx (omega arith) same;
      sum = λ list opened hx coded.
          let first = sum-first {g = g} (past-first opened hx (omega arith) same)
          (added_by list g.flags.now g.resets.now g.spots.now g.rows.now x)
          (adds_none list g.flags.now g.resets.now g.spots.now g.rows.now x) in
          omega arith;
    }

pub loop-e-preserved : goal.loop-e-preserved
loop-e-preserved c =
    let g = c.args.self in
    let x = c.args.x in
    let codes = c.args.codes.now in
    let e = c.in-Some.e in
    let step = c.in-Some.ensures.steps in
    let inv = c.loop-e.invariant in
    let added = c.add_code-total in
    record {
      few = omega arith;
      small = omega (arith, added.ensures.upper_bound);
      met = λ opened hx. past-on (inv.met opened hx) step tt;
      sum = λ list opened hx coded.
          let past = inv.met opened hx in
          let ready = past-at past step in
          let one = added.ensures.value opened hx (omega arith)
          (coded-small g.k x list g.flags.now g.resets.now g.spots.now g.rows.now codes coded e (omega arith) ready)
          ∙ coded-adds g.k x list g.flags.now g.resets.now g.spots.now g.rows.now codes coded e (omega arith) ready in
          let rest = sum-step past (added_by list g.flags.now g.resets.now g.spots.now g.rows.now x)
          (adds_none list g.flags.now g.resets.now g.spots.now g.rows.now x) step in
          omega (arith, inv.sum list opened hx coded);
    }

pub returns : goal.returns
unfolding edge_key
returns c =
    let g = c.args.self in
    let inv = c.loop-e.invariant in
    record {
      upper_bound = omega (arith, inv.small);
      value = λ list opened hx coded.
          let rest = sum-end (inv.met opened hx) (added_by list g.flags.now g.resets.now g.spots.now g.rows.now c.args.x)
          (adds_none list g.flags.now g.resets.now g.spots.now g.rows.now c.args.x) c.in-None.ensures.steps in
          omega (arith, inv.sum list opened hx coded);
    }
