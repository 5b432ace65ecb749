-- `delay_number` meets its contract: what follows is one of the entries. Assumes nothing.
use Prim.Native.Nat.{ℕ}
use mathlib.Core.Path.{sym, ◌∙◌, ap}
use Rattle.std.specs.Option.{unwrap_or}
use Rattle.regions.specs.Explore.{size_of}
use Rattle.regions.specs.Shown.{followers}
use Rattle.regions.specs.Laws.Filling.{follows-none, follows-found}
use Rattle.regions.proofs.moves.delay_number.Goals as goal

pub returns-in_default-clause-r_value : goal.returns-in_default-clause-r_value
returns-in_default-clause-r_value c =
    let n = size_of c.args.found in
    λ m x reads all h is. follows-none m c.args.found.entries.now n c.args.r (c.in_default.ensures m reads)
    ∙ ap (followers n) (sym c.count.ensures.count)

pub returns-clause-r_value : goal.returns-clause-r_value
returns-clause-r_value c =
    let n = size_of c.args.found in
    λ m x reads all h is. follows-found m c.args.found.entries.now n c.args.r all c.in-Some.q (c.in-Some.ensures m reads)
    c.find.result c.find.ensures x h is
    ∙ ap (λ (k : ℕ). followers n (unwrap_or c.find.result k)) (sym c.count-2.ensures.count)
    ∙ ap (followers n) (sym c.unwrap_or.ensures)
