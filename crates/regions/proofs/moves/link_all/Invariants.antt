-- `link_all` meets its contract. The loop's invariant: the first x entries are linked. Assumes nothing.
use mathlib.Core.Path.{◌≡◌}
use lib.ListN.{length}
use Rattle.regions.specs.Entries.{max_entries}
use Rattle.regions.specs.Index.{Index}
use Rattle.regions.proofs.moves.link_all.Given as goal

abbrev pub invariant-loop-x : goal.invariant-loop-x
invariant-loop-x l = record {
  index : Index l.entries l.links.heads l.links.nexts l.x;
  count : l.links.count ≡ l.x;
  long : length l.links.nexts ≡ max_entries;
}
