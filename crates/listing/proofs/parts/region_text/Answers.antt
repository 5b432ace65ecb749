-- 256 bytes hold the line of a region of at most four clocks.
use Rattle.std.proofs.Common.{arith}
use Rattle.listing.specs.Laws.Parts.{gives-put, region-room}
use Rattle.listing.proofs.parts.region_text.Goals as goal

pub returns : goal.returns
returns c =
    let args = c.args in
    gives-put 256 c.new-text.ensures.front c.new-text.ensures.text (rw c.entry_at.ensures at c.put_region.ensures)
    (region-room args.entries.now (λ k. omega (arith, c.type_inv.entries k)) args.x args.block args.clocks c.ranges.x.fits
    c.ranges.block.fits c.requires)
    c.written.result.now c.written.ensures (omega arith) args.buffer.now c.deliver.result c.deliver.new.buffer
    c.deliver.ensures.value c.deliver.ensures.buffer_after
