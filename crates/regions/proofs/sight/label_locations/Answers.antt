-- A refused table leaves the slice; one that is read gives its labels.
use mathlib.Core.Path.{sym, ◌∙◌, ap}
use Rattle.table.specs.Reading.{Answer}
use Rattle.table.proofs.Laws.Reads.{refusal-of, reads_of}
use Rattle.regions.specs.Sight.{labels_after}
use Rattle.regions.proofs.sight.label_locations.Goals as goal

pub returns-in_default : goal.returns-in_default
returns-in_default c =
    sym
    (ap (λ (a : Answer). labels_after a c.args.labels.now)
    (refusal-of c.args.bytes.now _ (sym c.in_default.is ∙ c.read.ensures)))

pub returns-in-Ok : goal.returns-in-Ok
returns-in-Ok c =
    let (m, reads) = reads_of c.args.bytes.now _ c.in-Ok.ensures in
    c.store_location_labels.ensures m reads ∙ sym (ap (λ (a : Answer). labels_after a c.args.labels.now) reads.answer)
