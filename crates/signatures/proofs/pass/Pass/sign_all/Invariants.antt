-- Loop: the items so far have the ids of their signatures, or none.
use Rattle.std.proofs.Common.{◌≡◌, []}
use Rattle.signatures.specs.Book.{Sound}
use Rattle.signatures.specs.Named.{Passing}
use Rattle.signatures.proofs.pass.Pass.sign_all.Given as goal

abbrev pub invariant-loop-item : goal.invariant-loop-item
invariant-loop-item l =
    let s = l.initial.self in
    (l.self ≡ record s { held = l.self.held })
    × Passing s.graph s.edges s.names l.initial.items l.items l.self.held l.item-index
    × Sound l.self.held × (l.item-index ≡ 0 → l.self.held ≡ [])
