-- Loop: the sum and the mass of the branches that are left are the mass of all.
use Rattle.std.proofs.Common.{◌≡◌, ◌+◌, ◌-◌, ◌<◌, ◌∙◌, ap, sym, get_or, length, arith}
use Rattle.graph.specs.Readers.{low_of}
use Rattle.signatures.specs.Laws.Raw.{names-size, names_at, mass-here, mass-past}
use Rattle.signatures.proofs.steps.mass_of.Goals as goal
use Rattle.signatures.proofs.steps.mass_of.Goals.{then-from-name, else-from-name}

pub loop-branch-preserved : goal.loop-branch-preserved
loop-branch-preserved c =
    let name = c.args.name in
    let raw = c.args.raw.now in
    let edges = c.args.edges.now in
    let loop = c.loop-branch in
    let i = loop.branch in
    let less : i < length raw - 1 = omega (arith, names-size raw) in
    let target : c.from.result ≡ get_or raw (1 + i) 0 = c.from.ensures ∙ names_at raw i less in
    elim c.if-from-name.branch [
      | then-from-name w ↦ rw w.mass-is (
        mass-here edges raw name (length raw - 1) loop.mass i loop.invariant.0 w.low_of-mass.result less
            (w.low_of-mass.ensures.0 ∙ ap (λ e. low_of edges e i) c.from-edge.ensures) (sym target ∙ w.if-from-name.true),
        omega (arith, w.low_of-mass.ensures.1, loop.invariant.1),
      )
      | else-from-name w ↦ rw w.mass-is (
        mass-past edges raw name (length raw - 1) loop.mass i loop.invariant.0 less (λ e. w.if-from-name.false (target ∙ e)),
        omega (arith, loop.invariant.1),
      )
    ]
