use Rattle.std.proofs.Common.{rules, ◌≡◌, ◌∙◌, eqb, count_by}
use Rattle.listing.specs.Laws.Blocks.{size-count}
use Rattle.listing.proofs.blocks.Blocks.size_of.Goals as goal

pub returns : goal.returns
returns c =
    let n : c.count.result ≡ count_by (λ x. eqb x c.args.b) c.args.self.list.now = search rules in
    n ∙ size-count c.args.self.list.now c.args.b
