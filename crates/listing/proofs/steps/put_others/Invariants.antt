-- The other blocks below the next one are put.
use Rattle.std.proofs.Common.{◌≡◌, true, ◌<◌, ◌-◌, eqb}
use Rattle.std.specs.Prelude.{IfSome, unwrap_or, not, ◌&&◌}
use Rattle.text.specs.Text.{field, each}
use Rattle.text.specs.Writing.{Puts}
use Rattle.listing.specs.Printed.{is_among, other_blocks}
use Rattle.listing.proofs.steps.put_others.Given as goal

abbrev pub invariant-loop-next : goal.invariant-loop-next
invariant-loop-next l =
    Puts l.initial.text l.text (each field (other_blocks l.blocks.list.now (unwrap_or l.next l.blocks.count) l.own l.reached))
    × IfSome l.next (λ c. (c < l.blocks.count) × ((not (eqb c l.own) && is_among l.blocks.list.now c l.reached) ≡ true))

abbrev pub decreases-loop-next : goal.decreases-loop-next
decreases-loop-next l = l.blocks.count - unwrap_or l.next l.blocks.count
