-- `delays_key` sums over the blocks that x reaches, each once.
use Rattle.std.proofs.Common.{arith, ℕ, ap, ◌∙◌}
use Rattle.std.proofs.lemmas.List.{length-replicate}
use Rattle.comparison.specs.Laws.KeyLoops.{marking-none, marking-small, marking-on, marking-over, clear-zeros}
use Rattle.comparison.proofs.Laws.Walks.{left-of}
use Rattle.comparison.proofs.held.Graph.delays_key.Goals as goal

pub loop-item-init : goal.loop-item-init
loop-item-init c =
    let g = c.args.self in
    marking-none g.n c.args.list.now g.nexts.now c.args.x _ (left-of c.into_iter-item-iterator.result) (length-replicate {A = ℕ} 512 0)
    (clear-zeros 512) (ap left-of c.into_iter-item-iterator.ensures.into_iter_gives ∙ c.delays-item-items.ensures)

pub overflow_add-total : goal.overflow_add-total
overflow_add-total c =
    let g = c.args.self in
    let loop = c.loop-item in
    let small = marking-small g.n c.args.list.now g.nexts.now c.args.x loop.marks loop.total (left-of loop.item-iterator) loop.invariant in
    omega (arith, c.mark_one-total.ensures.value.1)

pub loop-item-preserved : goal.loop-item-preserved
loop-item-preserved c =
    let g = c.args.self in
    let loop = c.loop-item in
    let at = c.mark_at.ensures in
    rw c.mark_one-total.ensures.marks_after
    (marking-on g.n c.args.list.now g.nexts.now c.args.x loop.marks loop.total (left-of loop.item-iterator) loop.invariant c.in-Some.item
    (left-of c.next.new.self) c.mark_at.result c.mark_one-total.result c.in-Some.ensures.steps at.1 at.0
    c.mark_one-total.ensures.value.0)

pub returns : goal.returns
returns c =
    let g = c.args.self in
    let loop = c.loop-item in
    let small = marking-small g.n c.args.list.now g.nexts.now c.args.x loop.marks loop.total (left-of loop.item-iterator) loop.invariant in (
      marking-over g.n c.args.list.now g.nexts.now c.args.x loop.marks loop.total (left-of loop.item-iterator) loop.invariant
          c.in-None.ensures.steps.0,
      omega arith,
    )
