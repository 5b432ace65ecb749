-- `new` meets its contract: nothing is marked yet. Assumes nothing.
use mathlib.Core.Path.{subst, sym}
use Rattle.regions.specs.Marks.{Tested, nothing-said, tested-none}
use Rattle.regions.proofs.marks.Marks.new.Goals as goal

pub invariant_of-result : goal.invariant_of-result
invariant_of-result c =
    let args = c.args in
    record { told = subst (Tested args.model.now args.region) (sym (nothing-said 1024)) (tested-none args.model.now args.region) }
