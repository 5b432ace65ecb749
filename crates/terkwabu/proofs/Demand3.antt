-- Demand 3 holds, entire, and for relations at every level: the statements are `Demand3` and `Demand3At` (specs/Demand3.antt).
use Rattle.std.proofs.Common.{⊎_elim}
use mathlib.Core.Logic.Iff
use Rattle.states.specs.States.{State}
use Rattle.terkwabu.specs.Rows.{state_asked}
use Rattle.terkwabu.proofs.Laws.Bridges.{reduced-of, first-left, second-left, pair-regions}
use Rattle.terkwabu.proofs.Laws.Bridges.{pair-first-left, pair-second-left}
use Rattle.terkwabu.proofs.Laws.Bridges.{value-first, value-second, value-together, value-apart}
use Rattle.terkwabu.proofs.Laws.States.{number_of, numbers-block, numbers-differ, numbers-given, numbers-equal}
use Rattle.terkwabu.proofs.Laws.States.{numbers-zero, place-number}
use Rattle.terkwabu.proofs.Demand2.{both-made, demand-2}
use Rattle.terkwabu.specs.Demand3.{Demand3, Demand3At}

pub demand-3 : Demand3
demand-3 =
    record {
      lists = demand-2.blocks;
      partition = λ table m read a b ia ib ra rb entries first second answer entries' first' second' call none.
          let one = first-left table entries first second answer entries' first' second' call none in
          let two = second-left table entries first second answer entries' first' second' call none in
          let (i, hi, at, only-i) = number_of one m read a ra in
          let (j, hj, bt, only-j) = number_of one m read b rb in (
            i,
            j,
            (hi, at, only-i),
            (hj, bt, only-j),
            numbers-differ one m read a b ia ib i j hi at hj bt,
            numbers-differ two m read a b ia ib i j hi at hj bt,
          );
      pair = λ table m read a b ia ib entries first second r s answer entries' first' second' call none at bt.
          let left = pair-first-left table entries first second r s answer entries' first' second' call none in
          let (hr, hs) = pair-regions table entries first second r s answer entries' first' second' call none in
          Iff.trans (value-apart table entries first second r s answer entries' first' second' call none)
          (numbers-differ left m read a b ia ib r s hr at hs bt);
      pair-lists = λ table entries first second r s answer entries' first' second' call none.
          let (m, read, all, order, one, two) =
          both-made (pair-first-left table entries first second r s answer entries' first' second' call none)
          (pair-second-left table entries first second r s answer entries' first' second' call none) in
          (_, _, _, m, read, all, order, one, two);
      agree = λ table entries first second answer entries' first' second' call none
          entries₂ first₂ second₂ r s answer₂ entries₂' first₂' second₂' call₂ none₂.
          let reduced = reduced-of table entries first second answer entries' first' second' call none in (
            value-first table entries₂ first₂ second₂ r s answer₂ entries₂' first₂' second₂' call₂ none₂ entries first second
                answer.value answer.blocks answer.rounds entries' first' second' reduced,
            value-second table entries₂ first₂ second₂ r s answer₂ entries₂' first₂' second₂' call₂ none₂ entries first second
                answer.value answer.blocks answer.rounds entries' first' second' reduced,
          );
      place = λ table m read entries first second answer entries' first' second' call none
          entries₁ location v₀ v₁ v₂ v₃ denominator answer₁ entries₁' call₁ none₁.
          let one = first-left table entries first second answer entries' first' second' call none in
          let two = second-left table entries first second answer entries' first' second' call none in
          let s : State = state_asked m location v₀ v₁ v₂ v₃ denominator in
          let (is, h, at) =
          place-number one entries₁ location v₀ v₁ v₂ v₃ denominator answer₁ entries₁' call₁ none₁ m read in
          (is, h, at, numbers-block one m read s answer₁.value h at, numbers-block two m read s answer₁.value h at);
      given = λ table m read a b ia ib entries first second answer entries' first' second' call none i j hi at hj bt.
          ⊎_elim
          (numbers-given (first-left table entries first second answer entries' first' second' call none) m read a b ia ib i j hi at hj bt)
          (numbers-given (second-left table entries first second answer entries' first' second' call none) m read a b ia ib i j hi at hj
          bt);
      zero-delay = λ table m read a b ia ib ra rb entries first second answer entries' first' second' call none.
          let left = first-left table entries first second answer entries' first' second' call none in
          let (i, hi, at, only-i) = number_of left m read a ra in
          let (j, hj, bt, only-j) = number_of left m read b rb in
          numbers-zero left m read a b ia ib i j hi at hj bt;
    }

pub demand-3-at {ℓ} : Demand3At {ℓ}
demand-3-at table m read a b ia ib R w q = (
  λ entries first second answer entries' first' second' call none i j hi at hj bt. (
    numbers-equal (first-left table entries first second answer entries' first' second' call none) m read a b ia ib i j hi at hj bt R w q,
    numbers-equal (second-left table entries first second answer entries' first' second' call none) m read a b ia ib i j hi at hj bt R w q,
  ),
  λ entries first second r s answer entries' first' second' call none at bt.
      let left = pair-first-left table entries first second r s answer entries' first' second' call none in
      let (hr, hs) = pair-regions table entries first second r s answer entries' first' second' call none in
      (value-together table entries first second r s answer entries' first' second' call none).1
      (numbers-equal left m read a b ia ib r s hr at hs bt R w q),
)
