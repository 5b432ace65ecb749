-- `print_listing`: before each part the buffer is as long as at first, no listing has more parts than were printed, and the parts that were
-- printed have so many bytes.
use Rattle.std.proofs.Common.{◌*◌, ◌≤◌, ◌≡◌, length}
use Rattle.listing.specs.Parts.{most_bytes, most_parts, text_of}
use Rattle.reduce.specs.Printing.{Begun}
use Rattle.reduce.proofs.print_listing.Given as goal

abbrev pub invariant-loop-part : goal.invariant-loop-part
invariant-loop-part g l =
    (length l.buffer ≡ length l.initial.buffer) × (l.part ≤ most_parts) × (l.bytes ≤ most_bytes * l.part)
    × Begun (text_of l.table l.entries l.list l.regions l.blocks l.rounds) l.part l.bytes
