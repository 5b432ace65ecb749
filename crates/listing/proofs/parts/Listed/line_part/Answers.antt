-- Each branch is a case of the definition.
use Rattle.std.proofs.Common.{sym, rules, length}
use Rattle.partition.specs.Passed.{listed}
use Rattle.partition.specs.Laws.View.{listed-length}
use Rattle.listing.specs.Laws.Parts.{gives_same, gives-end, line-region, line-block, line-totals, line-end}
use Rattle.listing.proofs.parts.Listed.line_part.Goals as goal

pub returns-in_default : goal.returns-in_default
returns-in_default c = λ m read clocks.
    let entries = c.args.self.entries.now in
    let list = c.args.self.partition.list.now in
    gives_same c.args.buffer.now _ _
    (line-region m (listed entries (length list)) list c.args.self.partition.count (length list) c.args.x
    (sym (listed-length entries (length list))) (search rules))
    (c.region_part.ensures m clocks)

pub returns-in-Less : goal.returns-in-Less
returns-in-Less c = λ m read clocks.
    let entries = c.args.self.entries.now in
    let list = c.args.self.partition.list.now in
    gives_same c.args.buffer.now _ _
    (line-block m (listed entries (length list)) list c.args.self.partition.count (length list) c.args.x c.in-Some.b
    (sym (listed-length entries (length list))) c.in-Some.ensures (search rules))
    (c.block_part.ensures m read)

pub returns-in-Equal : goal.returns-in-Equal
returns-in-Equal c = λ m read clocks.
    let entries = c.args.self.entries.now in
    let list = c.args.self.partition.list.now in
    gives_same c.args.buffer.now _ _
    (line-totals m (listed entries (length list)) list c.args.self.partition.count (length list) c.args.x c.in-Some.b
    (sym (listed-length entries (length list))) c.in-Some.ensures (search rules))
    (c.totals_part.ensures m read)

pub returns-in-Greater : goal.returns-in-Greater
returns-in-Greater c = λ m read clocks.
    let entries = c.args.self.entries.now in
    let list = c.args.self.partition.list.now in
    gives_same c.args.buffer.now _ _
    (line-end m (listed entries (length list)) list c.args.self.partition.count (length list) c.args.x c.in-Some.b
    (sym (listed-length entries (length list))) c.in-Some.ensures (search rules))
    (gives-end c.args.buffer.now)
