-- The labels of the regions are listed, and the totals over them are those of the records.
use Rattle.std.proofs.Common.{ℕ, ◌≡◌, ◌∙◌, ap, arith, length, take, replicate, length-take-le}
use Rattle.std.proofs.lemmas.List.{length-replicate}
use Rattle.partition.specs.Passed.{listed}
use Rattle.partition.specs.Instances.{graph}
use Rattle.listing.specs.Labels.{labels_to}
use Rattle.listing.specs.Laws.Labels.{totals-same}
use Rattle.listing.specs.Laws.Parts.{gives_same}
use Rattle.listing.proofs.parts.Listed.totals_part.Goals as goal

pub returns : goal.returns
returns c = λ m read.
    let blocks = c.args.self.partition in
    let entries = c.args.self.entries.now in
    let list = blocks.list.now in
    let long : length (take (length list) (replicate {A = ℕ} 4096 0)) ≡ length list =
    length-take-le (length list) (replicate 4096 0) (omega (arith, blocks.few, length-replicate {A = ℕ} 4096 0)) in
    let is = c.label_regions.ensures m read ∙ ap (λ (n : ℕ). labels_to (graph m (listed entries n)) n) long in
    gives_same c.args.buffer.now _ _ (totals-same m entries list _ blocks.count (omega (arith, blocks.some, blocks.within)) is)
    c.totals_text.ensures
