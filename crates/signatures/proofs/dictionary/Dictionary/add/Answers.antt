-- A list that is added stands behind the others, at the first place that none has reached.
use Rattle.std.proofs.Common.{ℕ, ◌≡◌, ◌+◌, ◌-◌, List, inl, inr, refl, length, arith}
use borrow.Rule.Slice.PartMut.{put_mid}
use Rattle.std.proofs.lemmas.Slice.{put_mid-paste}
use Rattle.std.specs.Prelude.{Ok}
use Rattle.signatures.specs.Dictionary.{Interns, count_of, start_of}
use Rattle.signatures.specs.Laws.Dictionary.{sound, interned-full, interned-made}
use Rattle.signatures.proofs.dictionary.Dictionary.add.Goals as goal

pub returns-then-from-ge-MAX_IDS-clause-told : goal.returns-then-from-ge-MAX_IDS-clause-told
returns-then-from-ge-MAX_IDS-clause-told c =
    let inside = c.self.inside in
    rw (← c.self.view_is) ((interned-full c.args.list.now inside.index.now inside.numbers.now
    c.self.invariant (rw c.self.view_is c.requires) (inl (omega arith))).told)

pub returns-then-from-ge-MAX_IDS-clause-sound : goal.returns-then-from-ge-MAX_IDS-clause-sound
returns-then-from-ge-MAX_IDS-clause-sound c = rw (← c.self.view_is) (sound c.self.invariant)

pub returns-then-start-list-clause-told : goal.returns-then-start-list-clause-told
returns-then-start-list-clause-told c =
    let inside = c.self.inside in
    let at : c.from-start.result ≡ start_of inside.index.now (count_of inside.index.now) = rw (← c.from-2.ensures) c.from-start.ensures in
    rw (← c.self.view_is) ((interned-full c.args.list.now inside.index.now inside.numbers.now
    c.self.invariant (rw c.self.view_is c.requires) (inr (omega arith))).told)

pub returns-then-start-list-clause-sound : goal.returns-then-start-list-clause-sound
returns-then-start-list-clause-sound c = rw (← c.self.view_is) (sound c.self.invariant)

-- The numbers with the list copied to its place.
abbrev numbers' : goal.After-enter → List ℕ
numbers' c =
    let start = c.from-start.result in
    put_mid start (start + length c.args.list.now - start) c.self.inside.numbers.now c.copy_from_slice.new.self

-- What is made, in the names of the code.
made : (c : goal.After-enter) → Interns c.args.list.now c.self.inside.index.now c.self.inside.numbers.now c.enter.new.index (numbers' c)
    (Ok (count_of c.self.inside.index.now))
made c =
    let inside = c.self.inside in
    let d = c.self.invariant in
    let list = c.args.list.now in
    let start = c.from-start.result in
    let at : start ≡ start_of inside.index.now (count_of inside.index.now) = rw (← c.from-2.ensures) c.from-start.ensures in
    interned-made list inside.index.now inside.numbers.now c.enter.new.index (numbers' c) (count_of inside.index.now) start
    c.bucket_of.result d (rw c.self.view_is c.requires) refl at c.bucket_of.ensures.0 (omega arith)
    (omega (arith, d.within (count_of inside.index.now) (omega arith))) c.enter.ensures
    (put_mid-paste start _ inside.numbers.now c.copy_from_slice.new.self list (length list) c.copy_from_slice.ensures.after
    (omega arith) refl)

pub invariant_of-self : goal.invariant_of-self
invariant_of-self c = (made c).kept

pub returns-clause-told : goal.returns-clause-told
returns-clause-told c = rw (← c.self.view_is) (made c).told

pub returns-clause-sound : goal.returns-clause-sound
returns-clause-sound c = sound (made c).kept
