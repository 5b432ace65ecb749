-- The lowest region of the block is one of the entries, so that it is seen.
use Rattle.std.proofs.Common.{ℕ, ◌≡◌, Some, Ok, replicate, rules}
use Rattle.std.proofs.lemmas.List.{length-replicate}
use Rattle.listing.specs.Laws.Parts.{gives_same, lowest-text}
use Rattle.listing.proofs.parts.Listed.block_part.Goals as goal

pub returns : goal.returns
returns c = λ m read.
    let self = c.args.self in
    let shown = c.show_item-shown in
    let is : shown.result ≡ Ok (Some c.in-Ok-Some.seen) = search rules in
    gives_same c.args.buffer.now _ _
    (lowest-text self.table.now self.entries.now self.partition.list.now self.partition.count c.args.b c.lowest_of-low.result
    (replicate 4097 0) (replicate 4096 0) shown.result c.requires self.partition.within self.partition.few self.entries_of_all
    c.lowest_of-low.ensures.value c.lowest_of-low.ensures.within (length-replicate {A = ℕ} 4097 0) (length-replicate {A = ℕ} 4096 0)
    shown.ensures.value shown.new.delays shown.new.rows shown.auto.delays shown.ensures.alone c.in-Ok-Some.seen
    is m read)
    c.block_text.ensures
