-- What was written of a part is within the buffer.
use Rattle.std.proofs.Common.{ℕ, ◌≤◌, ◌≡◌, length, arith, sym, subst, length-take-le}
use Rattle.listing.specs.Parts.{Within}
use Rattle.listing.specs.Laws.Parts.{parted-within}
use Rattle.listing.specs.declared.parts.Part.{Part}
use Rattle.listing.specs.declared.parts.Part.TheVariants.{Written}
use Rattle.crosscheck.proofs.listings.Text.of_table.Goals as goal

written-within : (part : Part) (k room : ℕ) → part ≡ Written k → Within part room → k ≤ room
written-within part k room is within = subst (λ (p : Part). Within p room) is within

pub slice_bounds-buffer-end-in-loop-part : goal.slice_bounds-buffer-end-in-loop-part
slice_bounds-buffer-end-in-loop-part c =
    let arm = c.in-Ok-Written in
    let buffer = c.loop-part.buffer in
    omega (
      arith,
      written-within arm.field-0 arm.k (length buffer) arm.field-0-is (parted-within _ _ _ _ _ _ _ buffer _ _ arm.ensures),
    )

pub slice_bounds-push-end-in-loop-part : goal.slice_bounds-push-end-in-loop-part
slice_bounds-push-end-in-loop-part c =
    let arm = c.in-Ok-Written in
    let buffer = c.loop-part.buffer in
    sym (length-take-le arm.k c.write_part.new.buffer (omega (
      arith,
      written-within arm.field-0 arm.k (length buffer) arm.field-0-is (parted-within _ _ _ _ _ _ _ buffer _ _ arm.ensures),
    )))
