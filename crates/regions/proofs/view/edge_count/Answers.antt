-- `edge_count` meets its contract. Assumes nothing.
use mathlib.Core.Path.{sym, ◌∙◌, ap}
use Rattle.table.proofs.Laws.Reads.{reads_of, refusal-of, counts-read}
use Rattle.regions.specs.View.{edges_read}
use Rattle.regions.proofs.view.edge_count.Goals as goal

pub returns-in-Err : goal.returns-in-Err
returns-in-Err c = sym (ap edges_read (refusal-of c.args.bytes.now _ c.in-Err.ensures))

pub returns-in-Ok : goal.returns-in-Ok
returns-in-Ok c =
    let (m, reads) = reads_of c.args.bytes.now _ c.in-Ok.ensures in
    (counts-read c.args.bytes.now _ m reads).edges ∙ sym (ap edges_read reads.answer)
