-- `link_edges` meets its contract. The loop's invariant: the edges from where the loop has come to are linked. Assumes nothing.
use native.Mathlib.Omega.{arith}
use Prim.Native.Nat.{ℕ, suc, ◌+◌, ◌-◌, ◌<◌}
use native.Mathlib.Numerals.{add-one}
use mathlib.Core.Path.{◌≡◌, refl, sym, ◌∙◌, ap, subst}
use lib.ListN.{length, length-set, set}
use Rattle.regions.specs.Edges.{LinkedFrom, linked-none, linked_on}
use Rattle.table.specs.declared.model.Edge.{Edge as EdgeStruct}
use Rattle.regions.proofs.edges.link_edges.Goals as goal

pub loop-e-init : goal.loop-e-init
loop-e-init c =
    (refl, refl, λ m lists zeroed room. linked-none m c.args.starts.now c.args.follows.now zeroed room (length c.args.edges.now) lists.long)

pub loop-e-preserved : goal.loop-e-preserved
loop-e-preserved c =
    let loop = c.loop-e in
    let e : ℕ = loop.e - 1 in
    let next : suc e ≡ loop.e = omega (arith, c.loop-e-test.true) in
    let inside : e < length c.args.edges.now = omega (arith, c.loop-e-test.true, loop.auto.e) in (
      ap length c.put-in-loop-e.ensures ∙ length-set loop.starts c.from-source.result (e + 1) ∙ loop.invariant.0,
      ap length c.put.ensures ∙ length-set loop.follows e c.at.result ∙ loop.invariant.1,
      λ m lists zeroed room.
          let is = c.from-source.ensures ∙ ap (λ (x : EdgeStruct). x.source) (lists.each e inside) in
          linked_on m e loop.starts loop.follows
          (subst (λ (k : ℕ). LinkedFrom m k loop.starts loop.follows) (sym next) (loop.invariant.2 m lists zeroed room))
          (omega (arith, inside, lists.long)) (omega (arith, inside, c.requires)) c.from-source.result is
          (omega (arith, c.from-source.ensures)) c.at.result c.at.ensures _ _ c.put.ensures
          (c.put-in-loop-e.ensures ∙ ap (set loop.starts c.from-source.result) (add-one e)),
    )
