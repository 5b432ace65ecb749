-- Bytes put one after the other: steps put together, and what a text holds in the end.
use Rattle.std.specs.Prelude.{ℕ, zero, suc, ◌+◌, ◌-◌, ◌≤◌, ◌<◌, min, ◌≡◌, refl, List, [], ◌∷◌, ◌++◌, length, take, drop, set}
use Rattle.std.proofs.Common.{add-one, arith, sym, ◌∙◌, ap, ap₂, subst, append_assoc, append-nil, length-append, length-set}
use Rattle.std.proofs.Common.{take-append-drop, length-take-le, take_all, take-suc-set, drop-drop, drop-set-lt}
use Rattle.std.proofs.lemmas.List.{take-append-le}
use Rattle.text.specs.Writing.{Holds, Adds}

-- Nothing is put.
pub adds_none : (text : List ℕ) (at : ℕ) → Adds text at text at []
adds_none text at =
    record {
      as_long = refl;
      holds = λ content h. subst (λ (l : List ℕ). Holds text at l) (sym (append-nil content)) h;
      onward = omega arith;
      rest = refl;
      full = λ h. (refl, refl);
    }

-- What is the same from one place on is so from a later one on.
drop-later : (text text' : List ℕ) (at at' : ℕ) → at ≤ at' → drop at text ≡ drop at text' → drop at' text ≡ drop at' text'
drop-later text text' at at' h same =
    let on : at + (at' - at) ≡ at' = omega (arith, h) in
    ap (λ (k : ℕ). drop k text) (sym on)
    ∙ sym (drop-drop (at' - at) at text)
    ∙ ap (drop (at' - at)) same
    ∙ drop-drop (at' - at) at text'
    ∙ ap (λ (k : ℕ). drop k text') on

-- Some bytes are put, and then others.
pub adds_then : {text : List ℕ} {at : ℕ} {text₁ : List ℕ} {at₁ : ℕ} {text₂ : List ℕ} {at₂ : ℕ} {one two : List ℕ}
    → Adds text at text₁ at₁ one → Adds text₁ at₁ text₂ at₂ two → Adds text at text₂ at₂ (one ++ two)
adds_then {text} {at} {text₁} {at₁} {text₂} {at₂} {one} {two} a b =
    record {
      as_long = b.as_long ∙ a.as_long;
      holds = λ content h.
          subst (λ (l : List ℕ). Holds text₂ at₂ l) (append_assoc content one two) (b.holds (content ++ one) (a.holds content h));
      onward = omega (arith, a.onward, b.onward);
      rest = b.rest ∙ drop-later text₁ text at₁ at₂ b.onward a.rest;
      full = λ h.
          let (same, still) = a.full h in
          let (same₂, still₂) = b.full (omega (arith, h, still, ap length same)) in
          (same₂ ∙ same, still₂ ∙ still);
    }

-- The same bytes, otherwise said.
pub adds_same : {text : List ℕ} {at : ℕ} {text' : List ℕ} {at' : ℕ} {one two : List ℕ} → one ≡ two
    → Adds text at text' at' one → Adds text at text' at' two
adds_same {text} {at} {text'} {at'} e a = subst (λ (l : List ℕ). Adds text at text' at' l) e a

-- One byte is put where there is room.
pub adds_one : (text : List ℕ) (at byte : ℕ) → at < length text → Adds text at (set text at byte) (at + 1) (byte ∷ [])
adds_one text at byte room =
    let long = length-set text at byte in
    record {
      as_long = long;
      holds = λ content h.
          let all = length-append content (byte ∷ []) in
          let count = h.count in
          let last : length (byte ∷ []) ≡ 1 = refl in
          record {
            count = omega (arith, count, all, last, long, room);
            is =
                ap (λ (k : ℕ). take k (set text at byte)) (add-one at)
                ∙ take-suc-set text at byte room
                ∙ ap (λ (l : List ℕ). l ++ (byte ∷ [])) (h.is ∙ take_all (length text) content (omega (arith, count, room)))
                ∙ sym (take_all (length (set text at byte)) (content ++ (byte ∷ [])) (omega (arith, count, all, last, long, room)));
          };
      onward = omega arith;
      rest = drop-set-lt (at + 1) text at byte (omega arith);
      full = λ h. absurd (omega (arith, h, room));
    }

-- Nothing goes in where there is no room.
pub adds-full : (text : List ℕ) (at : ℕ) (bytes : List ℕ) → length text ≤ at → Adds text at text at bytes
adds-full text at bytes full =
    record {
      as_long = refl;
      holds = λ content h.
          let all = length-append content bytes in
          let count = h.count in
          record {
            count = omega (arith, count, all, full);
            is = h.is ∙ sym (take-append-le (length text) content bytes (omega (arith, count, full)));
          };
      onward = omega arith;
      rest = refl;
      full = λ h. (refl, refl);
    }

nothing : (n : ℕ) → [] ≡ take {A = ℕ} n []
nothing zero = refl
nothing (suc n) = refl

-- What was put from the front of a text on, where there is room for it.
pub adds-all : {text text' : List ℕ} {at' : ℕ} {bytes : List ℕ} → Adds text 0 text' at' bytes → length bytes ≤ length text
    → (at' ≡ length bytes) × (take at' text' ≡ bytes)
adds-all {text} {text'} {at'} {bytes} a room =
    let h = a.holds [] (record { count = omega arith; is = nothing (length text) }) in
    let long = a.as_long in (
      h.count ∙ omega (arith, long, room),
      h.is ∙ take_all (length text') bytes (omega (arith, long, room)),
    )

-- What the text then is, and the place, where `at` is within the text: the bytes stand at that place, as far as there is room, and all
-- else is as it was. Where it is past the end, `full` says it.
pub adds-is : {text : List ℕ} {at : ℕ} {text' : List ℕ} {at' : ℕ} {bytes : List ℕ} → Adds text at text' at' bytes → at ≤ length text
    → (at' ≡ min (at + length bytes) (length text)) × (text' ≡ take (length text) (take at text ++ bytes) ++ drop at' text)
adds-is {text} {at} {text'} {at'} {bytes} a within =
    let front : length (take at text) ≡ at = length-take-le at text within in
    let h =
    a.holds (take at text)
    (record { count = omega (arith, front, within); is = sym (take_all (length text) (take at text) (omega (arith, front, within))) }) in
    let long = a.as_long in
    let all = length-append (take at text) bytes in (
      h.count ∙ omega (arith, long, all, front),
      sym (take-append-drop at' text')
          ∙ ap₂ (λ (l k : List ℕ). l ++ k) (h.is ∙ ap (λ (k : ℕ). take k (take at text ++ bytes)) long) a.rest,
    )
