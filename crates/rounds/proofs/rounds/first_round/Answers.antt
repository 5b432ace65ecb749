-- The first item with a label leads the others.
use Rattle.std.proofs.Common.{ℕ, ◌<◌, ◌+◌, length, length-set, arith, refl, sym, ◌∙◌, replicate}
use Rattle.std.proofs.lemmas.List.{length-replicate}
use Rattle.bisimulation.specs.Finite.{related}
use Rattle.comparison.specs.Laws.Steps.{zeros-at}
use Rattle.rounds.specs.Laws.Rounds.{Counts, led-none, led_on, seen_none, seen_new, seen_known}
use Rattle.rounds.proofs.rounds.first_round.Goals.{in-Some, in-None}
use Rattle.rounds.proofs.rounds.first_round.Goals as goal

pub loop-i-init : goal.loop-i-init
loop-i-init c =
    let labels = c.args.labels.now in (
      length-replicate {A = ℕ} 65536 0,
      omega arith,
      led-none (related labels) c.args.list.now,
      seen_none labels (replicate 65536 0) (λ label h. zeros-at 65536 label),
    )

pub loop-i-preserved : goal.loop-i-preserved
loop-i-preserved c =
    let labels = c.args.labels.now in
    let loop = c.loop-i in
    let i = loop.i in
    let label = c.from-label.result in
    let labelled = c.from-label.ensures ∙ c.at.ensures in
    let room : label < 65536 = omega (arith, c.from-label.ensures, c.at.type_inv) in
    let inside : i < length loop.list = omega (arith, c.loop-i-test.true, loop.auto.list, c.requires.0) in
    elim c.match-linked.branch [
      | in-Some w ↦
          let m = w.in-Some.first in
          let (own, below, seen) = seen_known labels loop.seen i label loop.invariant.3 labelled room m (sym w.in-Some.ensures) in
          rw (w.lead-is, w.count-is, w.seen-is) (
            loop.invariant.0,
            omega (arith, loop.invariant.1),
            led_on (related labels) loop.list i m loop.count loop.count inside loop.invariant.2 own
                (Counts.as_before (λ e. omega (arith, e, below)) refl),
            seen,
          )
      | in-None w ↦
          let (own, seen) = seen_new labels loop.seen i label loop.invariant.3 labelled room (sym w.in-None.ensures) loop.invariant.0 in
          rw (w.lead-is, w.count-is, w.seen-is, w.link.ensures) (
            length-set loop.seen label (i + 1) ∙ loop.invariant.0,
            omega (arith, loop.invariant.1),
            led_on (related labels) loop.list i i loop.count (loop.count + 1) inside loop.invariant.2 own (Counts.one_more refl refl),
            seen,
          )
    ]
