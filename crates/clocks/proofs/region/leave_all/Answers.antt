-- What `any` finds, and what each clock becomes.
use Rattle.std.proofs.Common.{rules, arith, ◌≡◌}
use Rattle.std.specs.List.{list_any}
use Rattle.std.proofs.lemmas.Grind.{common_steps}
use Rattle.std.proofs.lemmas.Iterator.{YieldsList-from_slice}
use Rattle.std.proofs.lemmas.Iterator.Search.{any_from_yields_List}
use Rattle.clocks.specs.Cells.{leaving}
use Rattle.clocks.specs.Packed.{cell_of}
use Rattle.clocks.specs.declared.clock.Clock.{Clock}
use Rattle.clocks.proofs.region.leave_all.Goals as goal

pub returns : goal.returns
returns c =
    let any : c.any-any.result ≡ list_any (λ (k : Clock). leaving (cell_of k)) c.args.clocks =
    any_from_yields_List (λ (k : Clock). leaving (cell_of k)) _ _ c.any-any.result c.any-any.ensures.ran
    (YieldsList-from_slice _ c.iter.ensures.rest) (λ x b q k. search rules) in
    grind (arith, common_steps)
