-- `largest_edge` meets its contract. Assumes nothing.
use Prim.Native.Nat.{◌<◌, max}
use mathlib.Core.Path.{◌∙◌, ap}
use native.Mathlib.Omega.{arith}
use lib.ListN.{length}
use Rattle.table.specs.Access.{no_edge}
use Rattle.table.specs.Reads.{ReadsEdge}
use Rattle.regions.specs.Graph.{edge_constant}
use Rattle.regions.specs.Laws.Every.{largest-on, largest-over}
use Rattle.regions.proofs.bounds.largest_edge.Goals as goal

pub loop-e-init : goal.loop-e-init
loop-e-init c = λ m answer few placed. omega arith

pub loop-e-preserved : goal.loop-e-preserved
loop-e-preserved c =
    let loop = c.loop-e in
    let loop-test = c.loop-e-test in
    let args = c.args in
    let at = c.at in
    let max-best = c.max-best in
    λ m answer few placed. let here : loop.e < length m.edges = omega (arith, loop-test.true) in let edge :
    ReadsEdge args.bytes.now at.result m loop.e = record
    { answer = answer; place_is = at.ensures ∙ placed loop.e here } in largest-on edge_constant m.edges loop.e
    loop.best no_edge (loop.invariant m answer few placed) here max-best.result
    (max-best.ensures ∙ ap (max loop.best) (c.largest_guard.ensures m loop.e edge))

pub returns : goal.returns
returns c = let loop = c.loop-e in
    λ m answer few placed. largest-over edge_constant m.edges loop.e loop.best no_edge
    (loop.invariant m answer few placed) (omega (arith, c.loop-e-test.false))
