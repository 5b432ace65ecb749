-- The region at the entry is that of the graph.
use Rattle.std.proofs.Common.{length}
use Rattle.listing.specs.Laws.Parts.{gives_same, region-text}
use Rattle.listing.proofs.parts.Listed.region_part.Goals as goal

pub returns : goal.returns
returns c = λ m same.
    let self = c.args.self in
    gives_same c.args.buffer.now _ _
    (region-text m self.entries.now self.partition.list.now (length self.partition.list.now) c.args.x c.requires self.partition.few)
    (rw (c.of.ensures, same) at c.region_text.ensures)
