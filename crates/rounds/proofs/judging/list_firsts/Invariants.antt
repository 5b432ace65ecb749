-- The items that were passed have their leads, and the index has those that lead.
use Rattle.std.proofs.Common.{◌≡◌, length}
use Rattle.bisimulation.specs.Finite.{related}
use Rattle.bisimulation.specs.Below.{Reps}
use Rattle.rounds.specs.Firsts.{Indexed}
use Rattle.rounds.proofs.judging.list_firsts.Given as goal

abbrev pub invariant-loop-x : goal.invariant-loop-x
invariant-loop-x l = (length l.firsts ≡ 4096) × Reps (related l.proposal) l.x l.firsts × Indexed l.proposal l.index l.x
