-- `bounds_read` meets its contract. Assumes nothing.
use Prim.Native.Nat.{ℕ}
use mathlib.Core.Path.{sym, ◌∙◌, ap}
use lib.ListN.{replicate, length-replicate}
use Rattle.table.proofs.Laws.Reads.{reads_of, refusal-of, sound-read}
use Rattle.regions.specs.Edges.{placed-filled}
use Rattle.regions.specs.View.{bounds_read}
use Rattle.regions.proofs.view.bounds_read.Goals as goal

pub returns-in-Err : goal.returns-in-Err
returns-in-Err c = sym (ap bounds_read (refusal-of c.args.bytes.now _ c.in-Err.ensures))

pub returns-in-Ok : goal.returns-in-Ok
returns-in-Ok c =
    let (m, reads) = reads_of c.args.bytes.now _ c.in-Ok.ensures in
    let sound = sound-read c.args.bytes.now c.in-Ok.shape m reads in
    c.bounds_of.ensures m reads
    (placed-filled m sound (replicate 128 0) c.list_places.new.places (length-replicate {A = ℕ} 128 0)
    (c.list_places.ensures.places_after_2 m reads))
    ∙ sym (ap bounds_read reads.answer)
