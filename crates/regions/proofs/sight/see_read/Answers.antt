-- `see_read` meets its contract. Assumes nothing.
use Prim.Native.Nat.{ℕ}
use mathlib.Core.Path.{◌≡◌, sym, ◌∙◌, ap, subst}
use lib.ListN.{get_or, length}
use Rattle.table.proofs.Laws.Reads.{counts-read}
use Rattle.regions.specs.Of.{of-table}
use Rattle.regions.specs.Entries.{region_at}
use Rattle.regions.specs.Explore.{listed}
use Rattle.regions.specs.Sight.{delay_list}
use Rattle.regions.specs.Laws.Sight.{sight-seen}
use Rattle.regions.proofs.sight.see_read.Goals as goal

pub returns-clause-value : goal.returns-clause-value
returns-clause-value c =
    let args = c.args in
    let seen = sym c.is_seen.ensures ∙ c.if-not-is_seen.false in
    λ m reads. sight-seen m args.entries.now args.n args.x _ seen c.region.result c.label_at.result c.see_steps.result
    args.shape.edges c.region.ensures
    (c.label_at.ensures.value_2 m reads ∙ ap (λ (l : ℕ). get_or m.labels l 0) c.from-location.ensures)
    (subst (λ (k : ℕ). c.see_steps.result ≡ length (delay_list m (listed args.entries.now k) (region_at args.entries.now args.x)))
    c.link_all.ensures.1
    (c.see_steps.ensures m (of-table c.new-model.result args.bytes.now args.shape m c.new-model.ensures reads)).0)
    (counts-read args.bytes.now args.shape m reads).edges
