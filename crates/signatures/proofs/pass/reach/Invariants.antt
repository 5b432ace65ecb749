-- Loop: the names so far are a set; these and those of the rest are those of the whole.
use Rattle.std.proofs.Common.{◌-◌, ◌≤◌, length}
use Rattle.signatures.specs.Structure.{chain_from}
use Rattle.signatures.specs.Signatures.{names_of}
use Rattle.signatures.specs.Named.{items_in, jump_of}
use Rattle.signatures.specs.Walked.{Walked}
use Rattle.signatures.proofs.pass.reach.Given as goal

abbrev pub invariant-loop-i : goal.invariant-loop-i
invariant-loop-i l =
    Walked (names_of l.names (chain_from (jump_of l.names) (items_in l.names) (items_in l.names) l.x)) l.delays.items
    (names_of l.names (chain_from (jump_of l.names) (items_in l.names) (items_in l.names - l._i) l.y))
    × (length l.delays.items ≤ l._i)
