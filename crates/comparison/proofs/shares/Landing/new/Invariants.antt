-- The numbers of the branches so far are kept.
use Rattle.std.proofs.Common.{ℕ, ◌<◌, ◌≡◌, length, get_or}
use Rattle.comparison.specs.Graphs.{number_of}
use Rattle.comparison.proofs.shares.Landing.new.Given as goal

abbrev pub invariant-loop-i : goal.invariant-loop-i
invariant-loop-i l =
    record {
      room : length l.numbers ≡ 8;
      kept : (j : ℕ) → j < l.i → get_or l.numbers j 0 ≡ number_of l.graph l.list l.x l.e j;
    }
