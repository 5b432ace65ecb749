-- Loop: the items so far have the ids of their signatures, or none.
use Rattle.std.proofs.Common.{◌∙◌, ap, arith}
use Rattle.signatures.specs.Pass.{State}
use Rattle.signatures.specs.Laws.Passes.{number-is, signed-small, passing-on}
use Rattle.signatures.proofs.pass.Pass.sign_all.Goals as goal

pub loop-item-preserved : goal.loop-item-preserved
loop-item-preserved c =
    let s = c.args.self.now in
    let loop = c.loop-item in
    let after = c.signature.new.self.held in
    let signed = rw loop.invariant.0 at c.signature.ensures.signed in
    let small = signed-small loop.self.held _ _ _ c.signature.result c.signature.ensures.keeps.sound signed in (
      c.signature.ensures.keeps.stays ∙ ap (λ (p : State). record p { held = after }) loop.invariant.0,
      passing-on s.graph s.edges s.names c.args.items.now loop.items loop.self.held after loop.item-index loop.invariant.1 (omega arith)
          c.signature.ensures.grows loop.invariant.3 c.signature.result c.unwrap_or.result c.from.result small
          (c.unwrap_or.ensures ∙ number-is c.signature.result small) c.from.ensures signed,
      c.signature.ensures.keeps.sound,
      λ e. absurd (omega arith),
    )
