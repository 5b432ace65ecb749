-- 65,536 bytes hold the lines of a block.
use Rattle.std.proofs.Common.{arith, []}
use Rattle.text.specs.Laws.Writer.{puts_then}
use Rattle.listing.specs.Laws.Lengths.{block-fits}
use Rattle.listing.specs.Laws.Parts.{gives-put}
use Rattle.listing.proofs.parts.block_text.Goals as goal

pub returns : goal.returns
returns c =
    let blocks = c.args.blocks in
    let first = rw c.size_of.ensures at c.put_block.ensures in
    let put = puts_then first (puts_then c.put_delay.ensures c.put_steps.ensures) in
    gives-put 65536 c.new-text.ensures.front c.new-text.ensures.text put
    (block-fits blocks.list.now c.args.rows.now c.args.reached.now blocks.count c.args.b c.args.label _ c.args.edges [] []
    (omega (arith, blocks.few, blocks.within)) c.requires.in_blocks c.ranges.label.fits
    (omega (arith, c.size_of.ensures, c.size_of.type_inv)) c.requires.few (λ i. omega (arith, c.type_inv.rows i)) c.requires.few_branches)
    c.written.result.now c.written.ensures (omega arith) c.args.buffer.now c.deliver.result c.deliver.new.buffer
    c.deliver.ensures.value c.deliver.ensures.buffer_after
