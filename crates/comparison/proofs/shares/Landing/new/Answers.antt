-- `new` makes a landing whose numbers are those of its branches.
use Rattle.std.proofs.Common.{arith, ℕ, ◌∙◌, ap, get_or, length-set}
use Rattle.comparison.specs.Graphs.{number_of}
use Rattle.comparison.specs.Laws.Steps.{put_next}
use Rattle.comparison.proofs.shares.Landing.new.Goals as goal

pub loop-i-preserved : goal.loop-i-preserved
loop-i-preserved c =
    let args = c.args in
    let loop = c.loop-i in
    let room = length-set loop.numbers loop.i c.at.result in
    record {
      room = omega (arith, loop.invariant.room);
      kept = λ j h. put_next (number_of args.graph args.list.now args.x args.e) loop.i c.at.result loop.numbers
          (λ j k _. loop.invariant.kept j k)
          (c.at.ensures ∙ ap (λ (t : ℕ). get_or args.list.now t 0) c.target_at.ensures) j h (omega (arith, loop.invariant.room));
    }

pub invariant_of-result : goal.invariant_of-result
invariant_of-result c =
    record {
      few = c.requires;
      gathered = λ i h room. c.loop-i.invariant.kept i (omega (arith, c.loop-i.invariant.room));
    }
