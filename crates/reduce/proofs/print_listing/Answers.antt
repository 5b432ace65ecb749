-- What was written of a part is within the buffer, and is the part; where there is none, the listing was printed to its end.
use Rattle.std.proofs.Common.{◌≤◌, length, arith, rules, sym, ◌∙◌, ap, subst, length-take-le, IfOk, Ok}
use Rattle.listing.specs.Parts.{Within, Past}
use Rattle.listing.specs.Laws.Parts.{parted-within}
use Rattle.listing.specs.declared.parts.Part.{Part}
use Rattle.reduce.proofs.Printing.{part-written, part-over, begun-on}
use Rattle.reduce.proofs.print_listing.Goals as goal

pub slice_bounds-write_all-end : goal.slice_bounds-write_all-end
slice_bounds-write_all-end g c =
    let loop = c.loop-part in
    let arm = c.in-Ok-Written in
    let fits : arm.k ≤ length loop.buffer =
    subst (λ (p : Part). Within p (length loop.buffer)) arm.field-0-is
    (parted-within _ _ _ _ _ _ _ loop.buffer _ _ arm.ensures) in
    omega (arith, fits, c.write_part.auto.buffer)

pub slice_bounds-write_all-end-in-Ok-Written : goal.slice_bounds-write_all-end-in-Ok-Written
slice_bounds-write_all-end-in-Ok-Written g c =
    sym (length-take-le c.in-Ok-Written.k c.write_part.new.buffer (slice_bounds-write_all-end g c))

-- No part is longer than `most_bytes`.
pub overflow_add-bytes : goal.overflow_add-bytes
overflow_add-bytes g c =
    let arm = c.in-Ok-Written in
    let written = part-written _ _ _ _ _ _ _ _ arm.k (sym arm.ensures.answer-is ∙ ap Ok arm.field-0-is) in
    omega (arith, c.loop-part.invariant.2, written.0, arm.ensures.enough)

pub loop-part-preserved : goal.loop-part-preserved
loop-part-preserved g c =
    let arm = c.in-Ok-Written in
    let written = part-written _ _ _ _ _ _ _ _ arm.k (sym arm.ensures.answer-is ∙ ap Ok arm.field-0-is) in (
      search rules,
      search rules,
      omega (arith, c.loop-part.invariant.2, written.0, arm.ensures.enough),
      begun-on arm.k written c.loop-part.invariant.3,
    )

pub returns-in-Ok-End : goal.returns-in-Ok-End
returns-in-Ok-End g c =
    let loop = c.loop-part in
    let past : IfOk c.write_part.result Past = search rules in
    let over = part-over _ _ _ _ _ _ loop.part (length loop.buffer) (subst (λ a. IfOk a Past) c.write_part.ensures.answer-is past) in
    record { parts = loop.part; begun = loop.invariant.3; over = over }

pub returns-in-Ok-End-2 : goal.returns-in-Ok-End-2
returns-in-Ok-End-2 g c =
    let loop = c.loop-part in
    let past : IfOk c.write_part.result Past = search rules in
    let over = part-over _ _ _ _ _ _ loop.part (length loop.buffer) (subst (λ a. IfOk a Past) c.write_part.ensures.answer-is past) in
    record { parts = loop.part; begun = loop.invariant.3; over = over }
