-- The three cases: a reset that is known, one by no clock, and one that is noted both ways.
use Prim.Native.Nat.{ℕ, ◌+◌, ◌*◌, ◌%◌}
use native.Mathlib.Omega.{arith}
use mathlib.Core.Path.{sym, ◌∙◌, ap}
use mathlib.Core.List.{List}
use Rattle.std.specs.Prelude.{◌≡◌}
use Rattle.graph.specs.Writers.{with_source}
use Rattle.graph.proofs.Laws.Walks.{reset-known, reset-plain, reset-both}
use Rattle.graph.proofs.classes.store_reset.Goals as goal

-- The place of a reset is in its column.
place : (class mask : ℕ) → (16 * (class % 4096) + mask % 16) % 65536 ≡ 16 * (class % 4096) + mask % 16
place class mask = omega arith

pub returns-then-reset_class-ne-NOTHING : goal.returns-then-reset_class-ne-NOTHING
returns-then-reset_class-ne-NOTHING c =
    let args = c.args in
    sym (reset-known args.graph.now args.class args.mask args.after (λ e. c.if-reset_class-ne-NOTHING.true (c.reset_class.ensures.0 ∙ e)))

pub returns-else-mask-ne0 : goal.returns-else-mask-ne0
returns-else-mask-ne0 c =
    let args = c.args in
    let fresh = sym c.reset_class.ensures.0 ∙ c.if-reset_class-ne-NOTHING.false in
    c.set.ensures ∙ rw place (sym (reset-plain args.graph.now args.class args.mask args.after fresh c.if-mask-ne0.false))

pub returns-then-mask-ne0 : goal.returns-then-mask-ne0
returns-then-mask-ne0 c =
    let args = c.args in
    let fresh = sym c.reset_class.ensures.0 ∙ c.if-reset_class-ne-NOTHING.false in
    c.store_source.ensures ∙ ap (λ (g : List ℕ). with_source g args.class (args.mask % 16) args.after) c.set.ensures
    ∙ rw place (sym (reset-both args.graph.now args.class args.mask args.after fresh c.if-mask-ne0.true))
