-- Where no edge stands, or all were met, what was stored is all that is stored of the whole list.
use mathlib.Core.Path.{sym, ◌∙◌, ap}
use mathlib.Core.Logic.{inl, inr}
use native.Mathlib.Omega.{arith}
use lib.Seq.{sets}
use borrow.Author.Tests.{eqb-true, eqb-false}
use Rattle.table.proofs.Laws.Reads.{places-read}
use Rattle.table.proofs.Laws.Edges.{comes-on, places-over}
use Rattle.table.proofs.edges.list_places.Goals as goal

pub returns-then-not-is_kind : goal.returns-then-not-is_kind
returns-then-not-is_kind c =
    let args = c.args in
    let bytes = c.type_inv.table in
    let loop = c.loop-i in
    let whole = places-over args.table.now args.shape.edges args.shape.first_edge args.places.now loop.at loop.i
    loop.places (inr (eqb-false _ 4 (sym c.is_kind.ensures ∙ c.if-not-is_kind.true))) loop.invariant.0 in
    record {
      places_after = whole;
      places_after_2 = λ m reads. whole
          ∙ ap (sets args.places.now 0) (places-read args.table.now m (λ i. omega (arith, bytes i)) args.shape reads);
    }

pub loop-i-preserved : goal.loop-i-preserved
loop-i-preserved c =
    let args = c.args in
    let loop = c.loop-i in
    rw c.next_edge-at.ensures (
      comes-on args.table.now args.shape.edges args.shape.first_edge (λ p. p) args.places.now loop.at loop.i
          loop.places c.put.new.list c.loop-i-test.true (eqb-true _ 4 (sym c.is_kind.ensures ∙ c.if-not-is_kind.false))
          c.put.ensures loop.invariant.0,
      c.put.auto.list ∙ loop.invariant.1,
    )

pub returns : goal.returns
returns c =
    let args = c.args in
    let bytes = c.type_inv.table in
    let loop = c.loop-i in
    let whole = places-over args.table.now args.shape.edges args.shape.first_edge args.places.now loop.at loop.i
    loop.places (inl c.loop-i-test.false) loop.invariant.0 in
    record {
      places_after = whole;
      places_after_2 = λ m reads. whole
          ∙ ap (sets args.places.now 0) (places-read args.table.now m (λ i. omega (arith, bytes i)) args.shape reads);
    }
