-- A round is made from the one before, and the last one adds no block.
use Rattle.std.proofs.Common.{◌≡◌, Bool, true, false, arith, ◌∙◌}
use Rattle.bisimulation.specs.Finite.{related}
use Rattle.rounds.specs.Laws.Names.{reps-below}
use Rattle.rounds.specs.Laws.Rounds.{turned-first, turned-step, turned_on, turned-over}
use Rattle.comparison.specs.Laws.Steps.{zeros-at}
use Rattle.std.proofs.lemmas.List.{get_or-replicate}
use Rattle.rounds.specs.Laws.Prepared.{prepared-first, prepared-step, prepared-settled, prepared-keyed, prepared-compared, prepared-led}
use Rattle.rounds.proofs.rounds.refine.Goals as goal

pub loop-count-init : goal.loop-count-init
loop-count-init c =
    let args = c.args in
    let n = args.graph.n in
    let round = c.first_round-count in
    let list = round.new.list in
    let led = round.ensures.led in (
      round.ensures.count,
      omega arith,
      λ F held closed. (
        turned-first F closed args.graph.labels.now list n round.result held.size held.label led,
        prepared-first F args.graph list _
            (c.first_names.ensures n (round.auto.list ∙ c.requires.1) (reps-below (related args.graph.labels.now) n list led.reps))
            (λ x h. zeros-at 4096 x) (λ x h. get_or-replicate {A = Bool} 4096 x true false (omega (arith, h, c.requires.2))),
      ),
    )

pub returns-then-more-count : goal.returns-then-more-count
returns-then-more-count c =
    let args = c.args in
    let n = args.graph.n in
    let loop = c.loop-count in
    let more = c.make_round-more in
    λ F held closed.
    let (turned, prepared) = loop.invariant.2 F held closed in
    let step = turned-step F closed loop.second loop.count loop.made turned n held.size in
    let (led, keyed) = more.ensures.led F (prepared-keyed held closed step prepared) (prepared-step held closed step prepared)
    (prepared-settled held closed step prepared) in
    turned-over F closed loop.second loop.count loop.made turned n held.size more.new.new more.result
    (prepared-led held closed step prepared led) c.if-more-count.true

pub loop-count-preserved : goal.loop-count-preserved
loop-count-preserved c =
    let args = c.args in
    let n = args.graph.n in
    let loop = c.loop-count in
    let more = c.make_round-more in (
      more.ensures.count,
      omega (arith, loop.invariant.1, c.if-more-count.false),
      λ F held closed.
          let (turned, prepared) = loop.invariant.2 F held closed in
          let step = turned-step F closed loop.second loop.count loop.made turned n held.size in
          let (led, keyed) = more.ensures.led F (prepared-keyed held closed step prepared) (prepared-step held closed step prepared)
          (prepared-settled held closed step prepared) in
          let compared = prepared-compared held closed step prepared more.new.keys keyed in
          let led' = prepared-led held closed step prepared led in
          let same : c.copy.new.to ≡ more.new.new = c.copy.ensures in
          rw same (
            turned_on F closed loop.second loop.count loop.made turned n held.size more.new.new more.result led' c.if-more-count.false,
            c.follow_round.ensures F held closed (λ t. c.is_classed-classed.ensures t held.opened) step compared led'.reps,
          ),
    )
