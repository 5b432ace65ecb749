-- Where no edge stands, or the list has no more room, what was stored is all that is stored of the whole list.
use Rattle.std.specs.Prelude.{◌≡◌, [], min}
use Rattle.table.specs.Edges.{edge_list}
use Rattle.table.specs.Access.{no_edge_struct}
use Rattle.std.proofs.Common.{rules}
use Rattle.std.proofs.Math.Nat.{sub-zero}
use mathlib.Core.Path.{sym, ◌∙◌, ap}
use mathlib.Core.Logic.{inl, inr}
use native.Mathlib.Omega.{arith}
use lib.ListN.{set}
use borrow.Author.Tests.{eqb-true, eqb-false}
use Rattle.table.specs.Access.{read_edge, edge_with}
use Rattle.table.specs.Format.{max_edges}
use Rattle.table.proofs.Laws.Reads.{edge-listed}
use Rattle.table.proofs.Laws.Edges.{comes-on, list_over}
use Rattle.table.proofs.edges.list_edges.Goals as goal

pub loop-i-init : goal.loop-i-init
unfolding edge_list
loop-i-init c =
    let same : c.default-edges.result ≡ no_edge_struct = search rules in
    rw (same, sub-zero)

pub returns-then-not-is_kind : goal.returns-then-not-is_kind
returns-then-not-is_kind c =
    let args = c.args in
    let bytes = c.type_inv.table in
    let loop = c.loop-i in
    let whole = list_over args.table.now args.shape.edges args.shape.first_edge loop.at loop.i loop.edges
    (inr (eqb-false _ 4 (sym c.is_kind.ensures ∙ c.if-not-is_kind.true))) loop.invariant in
    record {
      value = whole;
      lists = λ m reads. edge-listed args.table.now m (λ i. omega (arith, bytes i)) args.shape reads loop.edges whole;
    }

pub loop-i-preserved : goal.loop-i-preserved
loop-i-preserved c =
    let args = c.args in
    let loop = c.loop-i in
    rw c.next_edge-at.ensures
    (comes-on args.table.now (min args.shape.edges max_edges) args.shape.first_edge (read_edge args.table.now) (edge_list [])
    loop.at loop.i loop.edges (set loop.edges loop.i c.edge.result) (omega arith)
    (eqb-true _ 4 (sym c.is_kind.ensures ∙ c.if-not-is_kind.false))
    (ap (set loop.edges loop.i) (c.edge.ensures ∙ ap edge_with c.body_at.ensures)) loop.invariant)

pub returns : goal.returns
returns c =
    let args = c.args in
    let bytes = c.type_inv.table in
    let loop = c.loop-i in
    let whole = list_over args.table.now args.shape.edges args.shape.first_edge loop.at loop.i loop.edges (inl (omega arith)) loop.invariant in
    record {
      value = whole;
      lists = λ m reads. edge-listed args.table.now m (λ i. omega (arith, bytes i)) args.shape reads loop.edges whole;
    }
