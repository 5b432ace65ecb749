-- What the region layer says of the region is what is said of the item.
use Rattle.std.proofs.Common.{length, ◌∙◌}
use Rattle.regions.specs.Passed.{read_table}
use Rattle.partition.specs.Laws.View.{showing-from, alone}
use Rattle.partition.proofs.view.show_item.Goals as goal

pub returns-clause-value : goal.returns-clause-value
returns-clause-value c =
    let args = c.args in
    c.show_region.ensures.value
    ∙ showing-from args.n args.x (length args.entries.now) (length args.delays.now) (length args.rows.now) args.entries.now
    (read_table args.bytes.now)

pub returns-clause-alone : goal.returns-clause-alone
returns-clause-alone c =
    let args = c.args in
    λ m read seen. alone args.bytes.now m read args.entries.now args.n args.x (length args.entries.now) (length args.delays.now)
    (length args.rows.now) seen args.delays.now _ _ (c.show_region.ensures.sighted m read seen)
