-- The three cases of delay, by the tests that the code makes.
use Rattle.std.proofs.Common.{rules, ◌≡◌, sym, ◌∙◌}
use Rattle.std.proofs.lemmas.Iterator.{YieldsList-from_slice}
use Rattle.std.proofs.lemmas.Iterator.Search.{any_from_yields_List, all_from_yields_List}
use Rattle.clocks.specs.Cells.{is_over, standing, all, some}
use Rattle.clocks.specs.Packed.{cell_of, cells_of, all-cells, some-cells, moved_nothing, moved-leaves, moved-arrives}
use Rattle.clocks.specs.declared.clock.Clock.{Clock}
use Rattle.clocks.proofs.region.Region.delay.Goals as goal
use Rattle.clocks.proofs.region.Region.delay.Goals.{then-any, else-any}

pub returns-then-all : goal.returns-then-all
returns-then-all c =
    let clocks = c.clocks-clocks in
    let over : c.all.result ≡ all is_over (cells_of clocks.result) =
    all_from_yields_List (λ (k : Clock). is_over (cell_of k)) _ _ c.all.result c.all.ensures.ran
    (YieldsList-from_slice _ c.iter.ensures.rest) (λ x b q k. search rules) ∙ all-cells is_over clocks.result in
    moved_nothing c.args.bounds c.args.self clocks.result clocks.ensures (sym over ∙ c.if-all.true)

pub returns : goal.returns
returns c =
    let clocks = c.clocks-clocks in
    let made = c.with_clocks in
    let over : c.all.result ≡ all is_over (cells_of clocks.result) =
    all_from_yields_List (λ (k : Clock). is_over (cell_of k)) _ _ c.all.result c.all.ensures.ran
    (YieldsList-from_slice _ c.iter.ensures.rest) (λ x b q k. search rules) ∙ all-cells is_over clocks.result in
    let stands : c.any.result ≡ some standing (cells_of clocks.result) =
    any_from_yields_List (λ (k : Clock). standing (cell_of k)) _ _ c.any.result c.any.ensures.ran
    (YieldsList-from_slice _ c.iter-2.ensures.rest) (λ x b q k. search rules) ∙ some-cells standing clocks.result in
    elim c.if-any.branch [
      | then-any w ↦
          moved-leaves c.args.bounds c.args.self clocks.result clocks.ensures c.if-any.next made.result made.ensures
          (sym over ∙ c.if-all.false) (sym stands ∙ w.if-any.true) (w.next-is ∙ w.leave_all-next.ensures)
      | else-any w ↦
          moved-arrives c.args.bounds c.args.self clocks.result clocks.ensures c.if-any.next made.result made.ensures
          (sym over ∙ c.if-all.false) (sym stands ∙ w.if-any.false) (w.next-is ∙ w.arrive_all-next.ensures)
    ]
