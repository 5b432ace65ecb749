-- The items that were passed are alike to their leads.
use Rattle.bisimulation.specs.Structures.{Closed}
use Rattle.bisimulation.specs.Finite.{Finite, structure, related}
use Rattle.bisimulation.specs.Below.{Reps}
use Rattle.rounds.specs.Rounds.{HeldIn}
use Rattle.rounds.specs.Laws.Rounds.{JudgedTo}
use Rattle.rounds.proofs.judging.judge_firsts.Given as goal

abbrev pub invariant-loop-x : goal.invariant-loop-x
invariant-loop-x l = (F : Finite) → HeldIn F l.graph → Closed (structure F) → Reps (related l.firsts) l.graph.n l.firsts
    → JudgedTo F l.firsts l.x
