-- `list_delays` meets its contract. The loop's invariant: the numbers of the first i regions and of the one that it has come to
-- are stored, and what that one reaches is left. Assumes nothing.
use Rattle.table.specs.Model.{Model}
use Rattle.regions.specs.Of.{Of}
use Rattle.regions.specs.Explore.{regions_of, size_of}
use Rattle.regions.specs.Laws.Reach.{Reaching}
use Rattle.regions.proofs.reach.list_delays.Given as goal

abbrev pub invariant-loop-i : goal.invariant-loop-i
invariant-loop-i l = (m : Model) → Of l.model m
    → Reaching m (regions_of l.found) (size_of l.found) l.initial.at l.at l.i l.initial.delays l.delays
