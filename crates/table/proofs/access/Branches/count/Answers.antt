-- `count` meets its contract: the branches of the model's edge were counted. Assumes nothing.
use mathlib.Core.Path.{◌∙◌}
use Rattle.table.proofs.Laws.Reads.{branch-count-read}
use Rattle.table.proofs.access.Branches.count.Goals as goal

pub returns-clause-value_2 : goal.returns-clause-value_2
returns-clause-value_2 c =
    let self = c.args.self in
    λ m e reads. self.count_is ∙ branch-count-read self.table.now m self.of_bytes self.place e reads
