-- Loop: the ids of the steps of the ranks so far are a set.
use Rattle.std.proofs.Common.{◌≡◌, length}
use Rattle.signatures.specs.Book.{Sound}
use Rattle.signatures.specs.Signatures.{steps_below}
use Rattle.signatures.specs.Structure.{structure_of}
use Rattle.signatures.specs.Named.{items_in, Partial}
use Rattle.signatures.proofs.pass.Pass.step_ids.Given as goal

abbrev pub invariant-loop-rank : goal.invariant-loop-rank
invariant-loop-rank l =
    let s = l.initial.self in
    (l.self ≡ record s { held = l.self.held })
    × Sound l.self.held
    × Partial s.held l.self.held (steps_below (structure_of (items_in s.names) s.graph s.edges) s.names l.x l.rank) l.rank l.ids.items
    (length l.ids.items)
