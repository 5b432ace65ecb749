-- The constant table is the format's list of body lengths.
use Rattle.std.specs.Prelude.{◌≡◌}
use mathlib.Core.Path.{◌∙◌, ap}
use Rattle.table.proofs.Laws.Lengths.{body-short}
use Rattle.table.specs.Format.{body_length, body_lengths}
use Rattle.table.proofs.codes.body_length.Goals as goal

pub returns : goal.returns
unfolding body_length body_lengths
returns c =
    let same : c.at.result ≡ body_length c.args.byte = c.at.ensures ∙ ap body_length c.from.ensures in
    (same, rw same (body-short c.args.byte))
