-- Within the bound, above it, and beyond the count.
use Rattle.std.proofs.Common.{arith, ◌∙◌}
use Rattle.states.specs.Taken.{state_of}
use Rattle.states.specs.Laws.Spots.{whole-small, spot-at, spot-over, spot-beyond}
use Rattle.states.proofs.state.State.spot_at.Goals as goal
use Rattle.states.proofs.state.State.spot_at.Goals.{else-i-from-via-then-i-from+else-value-most, else-i-from-via-else-i-from}

pub returns-then-value-most : goal.returns-then-value-most
returns-then-value-most c =
    let args = c.args in
    let value = c.at-value in
    let bound = c.from in
    spot-at args.bounds (state_of args.self) args.i bound.result value.result (bound.ensures ∙ c.at.ensures) value.ensures
    (omega arith) c.if-value-most.true
    (whole-small bound.result args.self.denominator value.result (omega arith) args.self.positive c.if-value-most.true)

pub returns-else-i-from : goal.returns-else-i-from
returns-else-i-from c =
    let args = c.args in
    let value = c.at-value in
    let bound = c.from in
    elim c.else-i-from.branch [
      | else-i-from-via-then-i-from+else-value-most w ↦
          spot-over args.bounds (state_of args.self) args.i bound.result value.result (bound.ensures ∙ c.at.ensures) value.ensures
          w.if-value-most.false
      | else-i-from-via-else-i-from w ↦
          spot-beyond args.bounds (state_of args.self) args.i bound.result value.result (bound.ensures ∙ c.at.ensures) value.ensures
          (omega arith)
    ]
