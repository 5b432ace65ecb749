-- Loop: the names so far are a set; these and the names that are left are those of all.
use Rattle.std.proofs.Common.{◌-◌, ◌<◌, ◌∙◌, length, arith}
use Rattle.signatures.specs.Laws.Insert.{put-size}
use Rattle.signatures.specs.Laws.Raw.{names-size, names_at, gathering-on, gathering-end}
use Rattle.signatures.proofs.steps.gather_names.Goals as goal

pub loop-name-preserved : goal.loop-name-preserved
loop-name-preserved c =
    let raw = c.args.raw.now in
    let loop = c.loop-name in
    let less : loop.name-index < length raw - 1 = omega (arith, names-size raw) in
    rw c.insert.ensures (
      gathering-on raw (length raw - 1) loop.names.items loop.name-index loop.invariant.0 c.from.result less
          (c.from.ensures ∙ names_at raw loop.name-index less),
      omega (arith, put-size c.from.result loop.names.items, loop.invariant.1),
    )

pub returns : goal.returns
returns c =
    let raw = c.args.raw.now in
    let loop = c.loop-name in
    gathering-end raw (length raw - 1) loop.names.items loop.name-index loop.invariant.0 (omega (arith, names-size raw))
