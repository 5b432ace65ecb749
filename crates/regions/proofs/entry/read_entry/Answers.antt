-- `read_entry` meets its contract: the location and twice four bytes, each as its callee gives it. Assumes nothing.
use Rattle.regions.specs.Entries.{region_at}
use Rattle.regions.proofs.entry.read_entry.Goals as goal

pub returns : goal.returns
unfolding region_at
returns c = rw (c.at.ensures, c.four_at.ensures, c.four_at-2.ensures)
