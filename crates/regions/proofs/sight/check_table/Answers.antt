-- `check_table` meets its contract. Assumes nothing.
use mathlib.Core.Path.{sym, ◌∙◌, ap}
use Rattle.std.specs.Prelude.{Ok, Err, ◌≡◌}
use Rattle.std.proofs.Common.{rules}
use Rattle.table.proofs.Laws.Reads.{reads_of, refusal-of, counts-read}
use Rattle.regions.specs.Sight.{checked_of}
use Rattle.regions.proofs.sight.check_table.Goals as goal

pub returns-in_err-shape : goal.returns-in_err-shape
returns-in_err-shape c =
    let same : c.from_residual.result ≡ Err c.in_err-shape.field-0.0 = search rules in
    same ∙ sym (ap checked_of (refusal-of c.args.bytes.now _ (sym c.in_err-shape.was ∙ c.read.ensures)))

pub returns : goal.returns
returns c =
    let (m, reads) = reads_of c.args.bytes.now _ (sym c.in_ok-shape.was ∙ c.read.ensures) in
    ap Ok (counts-read c.args.bytes.now _ m reads).clocks ∙ sym (ap checked_of reads.answer)
