-- 9,728 bytes hold the totals.
use Rattle.std.proofs.Common.{ℕ, ◌≡◌, ◌<◌, ◌∙◌, ap, arith, length, take, get_or, replicate, length-take-le}
use Rattle.std.proofs.lemmas.List.{length-replicate}
use Rattle.listing.specs.Labels.{block_labels}
use Rattle.listing.specs.Laws.Labels.{totals-room}
use Rattle.listing.specs.Laws.Parts.{gives-put}
use Rattle.listing.proofs.parts.totals_text.Goals as goal

pub returns : goal.returns
returns c =
    let blocks = c.args.blocks in
    let labels = c.args.labels.now in
    let room : length (take blocks.count (replicate {A = ℕ} 4096 0)) ≡ blocks.count =
    length-take-le blocks.count (replicate 4096 0) (omega (arith, blocks.few, blocks.within, length-replicate {A = ℕ} 4096 0)) in
    let is = c.label_blocks.ensures ∙ ap (block_labels labels blocks.list.now) room in
    let bytes : (i : ℕ) → get_or labels i 0 < 256 = λ i. omega (arith, c.type_inv.labels i) in
    let fits = totals-room labels blocks.list.now blocks.count bytes c.requires blocks.within blocks.few in
    gives-put 9728 c.new-text.ensures.front c.new-text.ensures.text (rw is at c.put_totals.ensures) (omega (arith, fits))
    c.written.result.now c.written.ensures (omega arith) c.args.buffer.now c.deliver.result c.deliver.new.buffer
    c.deliver.ensures.value c.deliver.ensures.buffer_after
