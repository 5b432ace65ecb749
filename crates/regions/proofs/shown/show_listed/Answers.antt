-- `show_listed` meets its contract. Assumes nothing.
use Prim.Native.Nat.{ℕ}
use mathlib.Core.Path.{subst}
use Rattle.clocks.specs.declared.region.Bounds.{Bounds}
use Rattle.regions.specs.Explore.{size_of}
use Rattle.regions.specs.Filling.{Targeted}
use Rattle.regions.specs.Graph.{bounds_of}
use Rattle.regions.specs.Laws.Shown.{shown}
use Rattle.regions.proofs.shown.show_listed.Goals as goal

pub returns-clause-shown : goal.returns-clause-shown
returns-clause-shown c =
    let found = c.args.found in
    let model = c.args.model.now in
    let es = found.entries.now in
    let n = size_of found in
    let rows = c.show_rows.new.rows in
    let resets = c.show_targets.new.resets in
    let spots = c.show_targets.new.spots in
    λ m reads all.
    let suits = model.suits m reads in
    shown model.bytes.now m reads.answer suits.fitting es n all c.show_labels.new.labels c.show_nexts.new.nexts c.show_flags.new.flags
    resets spots rows (c.show_labels.ensures m reads) (c.show_nexts.ensures m reads all) (c.show_flags.ensures m reads)
    (c.show_rows.ensures m reads)
    (λ d. subst (λ (k : ℕ). Targeted es n (bounds_of m) rows k resets spots) (c.edge_count.ensures.count m reads)
    (subst (λ (b : Bounds). Targeted es n b rows c.edge_count.result resets spots) suits.bounds_are (c.show_targets.ensures d)))
