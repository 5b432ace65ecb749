-- The edge that is told next is the last available one below the one before.
use Rattle.std.proofs.Common.{◌-◌, arith, ◌∙◌}
use Rattle.comparison.specs.Held.{is_open}
use Rattle.rounds.specs.Changes.{EdgeCalm}
use Rattle.comparison.specs.Laws.Open.{edge-most, edge-open}
use Rattle.comparison.specs.Laws.Down.{down-first, down-on}
use Rattle.rounds.proofs.changes.are_edges_calm.Goals as goal

pub loop-e-init : goal.loop-e-init
loop-e-init c =
    let args = c.args in
    let flags = args.graph.flags.now in
    let k = args.graph.k in
    let pre = c.requires in (
      omega (arith, c.open_edge-e.ensures, edge-most flags args.x k),
      λ n opened inside. down-first (is_open flags args.x) (EdgeCalm args.graph args.changed.now args.x) k c.open_edge-e.result
          (c.open_edge-e.ensures ∙ edge-open n k flags args.x k opened pre.1 pre.0 inside (omega arith)),
    )

pub loop-e-preserved : goal.loop-e-preserved
loop-e-preserved c =
    let args = c.args in
    let flags = args.graph.flags.now in
    let k = args.graph.k in
    let pre = c.requires in
    let loop = c.loop-e in
    let next = c.open_edge-e-in-loop-e in (
      omega (arith, next.ensures, edge-most flags args.x (loop.e - 1), loop.invariant.0, c.loop-e-test.true),
      λ n opened inside. down-on (is_open flags args.x) (EdgeCalm args.graph args.changed.now args.x) k loop.e next.result
          c.loop-e-test.true
          (loop.invariant.1 n opened inside) (c.is_edge_calm.ensures c.if-not-is_edge_calm.false)
          (next.ensures ∙ edge-open n k flags args.x (loop.e - 1) opened pre.1
          (omega (arith, loop.invariant.0, pre.0)) inside (omega (arith, loop.invariant.0))),
    )
