-- What the fold finds, and what each clock becomes.
use Rattle.std.proofs.Common.{rules, arith, ◌≡◌, max}
use Rattle.std.specs.List.{fold}
use Rattle.std.proofs.lemmas.Grind.{common_steps}
use Rattle.std.proofs.lemmas.Iterator.{YieldsList-from_slice}
use Rattle.std.proofs.lemmas.Iterator.Consumers.{fold_from_yields_List}
use Rattle.clocks.specs.Cells.{fraction_of}
use Rattle.clocks.specs.Packed.{cell_of}
use Rattle.clocks.specs.declared.clock.Clock.{Clock}
use Rattle.clocks.proofs.region.arrive_all.Goals as goal

pub returns : goal.returns
returns c =
    let top : c.fold-top.result ≡ fold (λ top (k : Clock). max top (fraction_of (cell_of k))) 0 c.args.clocks =
    fold_from_yields_List _ (λ top (k : Clock). max top (fraction_of (cell_of k))) _ c.fold-top.result c.fold-top.ensures.ran
    (YieldsList-from_slice _ c.iter.ensures.rest) (λ a x b q k. search rules) in
    grind (arith, common_steps)
