-- Part 0 is the first line.
use Rattle.std.proofs.Common.{sym, length}
use Rattle.partition.specs.Passed.{listed}
use Rattle.partition.specs.Laws.View.{listed-length}
use Rattle.listing.specs.Laws.Parts.{gives_same, part-first}
use Rattle.listing.proofs.parts.Listed.part.Goals as goal

pub returns-then-part-eq0 : goal.returns-then-part-eq0
returns-then-part-eq0 c = λ m read clocks.
    let entries = c.args.self.entries.now in
    let list = c.args.self.partition.list.now in
    gives_same c.args.buffer.now _ _
    (part-first m (listed entries (length list)) list c.args.self.partition.count (length list) c.args.self.rounds c.args.part
    (sym (listed-length entries (length list))) c.if-part-eq0.true)
    c.first_part.ensures
