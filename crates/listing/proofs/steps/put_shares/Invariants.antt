-- The shares of the blocks below the next one are put.
use Rattle.std.proofs.Common.{◌≡◌, true, ◌<◌, ◌-◌, ◌+◌, ◌*◌, get_or}
use Rattle.std.specs.Prelude.{IfSome, unwrap_or}
use Rattle.text.specs.Text.{rising, each}
use Rattle.text.specs.Writing.{Puts}
use Rattle.listing.specs.Printed.{is_among}
use Rattle.listing.specs.Slices.{branches_at}
use Rattle.listing.specs.Laws.Rising.{share_text}
use Rattle.listing.proofs.steps.put_shares.Given as goal

abbrev pub invariant-loop-next : goal.invariant-loop-next
invariant-loop-next l =
    Puts l.initial.text l.text
    (each (share_text l.blocks.list.now (get_or l.edge.rows.now (32 * l.edge.number + 2) 0) (branches_at l.edge.rows.now l.edge.number))
    (rising (λ b. is_among l.blocks.list.now b l.targets) (unwrap_or l.next l.blocks.count)))
    × IfSome l.next (λ c. (c < l.blocks.count) × (is_among l.blocks.list.now c l.targets ≡ true))

abbrev pub decreases-loop-next : goal.decreases-loop-next
decreases-loop-next l = l.blocks.count - unwrap_or l.next l.blocks.count
