-- The keys of the items so far are forgotten, where they are stirred.
use Rattle.std.proofs.Common.{◌≡◌, length}
use Rattle.comparison.specs.Keys.{Forgotten}
use Rattle.comparison.proofs.keys.forget_keys.Given as goal

abbrev pub invariant-loop-x : goal.invariant-loop-x
invariant-loop-x l = (length l.keys ≡ length l.initial.keys) × Forgotten l.x l.initial.keys l.keys l.stirred
