-- 128 bytes hold the first line of any three numbers.
use Rattle.std.proofs.Common.{arith}
use Rattle.listing.specs.Laws.Lengths.{first_fits}
use Rattle.listing.specs.Laws.Parts.{gives-put}
use Rattle.listing.proofs.parts.Listed.first_part.Goals as goal

pub returns : goal.returns
returns c =
    let blocks = c.args.self.partition in
    gives-put 128 c.new-text.ensures.front c.new-text.ensures.text c.put_first.ensures
    (first_fits _ _ _ (omega (arith, blocks.few)) (omega (arith, blocks.few, blocks.within)) (omega arith))
    c.written.result.now c.written.ensures (omega arith) c.args.buffer.now c.deliver.result c.deliver.new.buffer
    c.deliver.ensures.value c.deliver.ensures.buffer_after
