-- The items that were passed have their new names.
use Rattle.std.proofs.Common.{◌≡◌, length}
use Rattle.rounds.specs.Names.{RenamedTo}
use Rattle.rounds.proofs.names.rename.Given as goal

abbrev pub invariant-loop-x : goal.invariant-loop-x
invariant-loop-x l = (length l.changed ≡ 4096) × RenamedTo l.new l.tags l.initial.names l.names l.changed l.x
