-- What the answer of a call says of the text that it was given, and how many bytes the listing of the program then has.
use Rattle.std.specs.Prelude.{ℕ, ◌+◌, ◌<◌, ◌≡◌, refl, Bool, true, false, cond, leb, ltb, length, Ok, Err, IfOk}
use Rattle.std.proofs.Common.{arith, add-one, inl, sym, ◌∙◌, subst, ap, length-append, ltb-true, ltb-false}
use mathlib.Core.List.{List, [], ◌∷◌}
use Rattle.partition.specs.Passed.{Answer, Refusal, refusal, accepted, read_table, room_for, number}
use Rattle.partition.specs.Calls.{counts, reduce_of}
use Rattle.partition.specs.Promises.{Reduced}
use Rattle.text.specs.Text.{up_to}
use Rattle.listing.specs.Parts.{Fits, Past, fitted, bytes_in, part_from, part_of, text_from, text_of, part_count}
use Rattle.listing.specs.Printed.{refusal_line, listing, program_listing}
use Rattle.listing.specs.Laws.Joined.{parts-joined, parts-end, parts-some, refused-listing, program-sixteen}
use Rattle.listing.specs.declared.parts.Part.TheVariants as P
use Rattle.reduce.specs.Printing.{Begun, Printed}

-- ---- What an answer says of a text

-- What fits was written whole,
pub fits-bytes : (text : List ℕ) (room : ℕ) → Fits (fitted text room) → bytes_in (fitted text room) ≡ length text
fits-bytes [] room h = refl
fits-bytes (c ∷ l) room h = go (leb (length (c ∷ l)) room) h
  where
    go : (b : Bool) → Fits (cond b (P.Written (length (c ∷ l))) (P.Short (length (c ∷ l))))
        → bytes_in (cond b (P.Written (length (c ∷ l))) (P.Short (length (c ∷ l)))) ≡ length (c ∷ l)
    go true k = refl
    go false k = absurd k

-- what was written is some text,
written-some : (text : List ℕ) (room k : ℕ) → fitted text room ≡ P.Written k → (k ≡ length text) × (0 < length text)
written-some [] room k e = cc
written-some (c ∷ l) room k e = go (leb (length (c ∷ l)) room) e
  where
    go : (b : Bool) → cond b (P.Written (length (c ∷ l))) (P.Short (length (c ∷ l))) ≡ P.Written k
        → (k ≡ length (c ∷ l)) × (0 < length (c ∷ l))
    go true e' = (cc, omega arith)
    go false e' = cc

-- and at the end there is none.
past-none : (text : List ℕ) (room : ℕ) → Past (fitted text room) → text ≡ []
past-none [] room h = refl
past-none (c ∷ l) room h = go (leb (length (c ∷ l)) room) h
  where
    go : (b : Bool) → Past (cond b (P.Written (length (c ∷ l))) (P.Short (length (c ∷ l)))) → c ∷ l ≡ []
    go true k = absurd k
    go false k = absurd k

module _ (table entries list : List ℕ) (regions blocks rounds part room : ℕ) where
  abbrev text : List ℕ
  text = text_of table entries list regions blocks rounds part

  -- A part that was written has as many bytes as its answer says, and is not empty.
  pub part-written : (k : ℕ) → part_of table entries list regions blocks rounds part room ≡ Ok (P.Written k)
      → (k ≡ length text) × (0 < length text)
  unfolding part_of
  part-written k e = go (read_table table) e
    where
      go : (a : Answer) → part_from a text room ≡ Ok (P.Written k) → (k ≡ length text) × (0 < length text)
      go (refusal reason place) e' = cc
      go (accepted m) e' = written-some text room k cc

  -- A part that is past the listing is empty.
  pub part-over : IfOk (part_of table entries list regions blocks rounds part room) Past → text ≡ []
  unfolding part_of text_of
  part-over h = go (read_table table) h
    where
      go : (a : Answer) → IfOk (part_from a (text_from a entries list regions blocks rounds part) room) Past
          → text_from a entries list regions blocks rounds part ≡ []
      go (refusal reason place) h' = refl
      go (accepted m) h' = past-none (text_from (accepted m) entries list regions blocks rounds part) room h'

-- ---- Part after part

pub begun-none : (text : ℕ → List ℕ) → Begun text 0 0
begun-none text = record { bytes-are = refl; some = λ part h. absurd (omega (arith, h)) }

module _ {text : ℕ → List ℕ} {parts bytes : ℕ} (k : ℕ) (written : (k ≡ length (text parts)) × (0 < length (text parts)))
    (b : Begun text parts bytes) where
  some-on : (part : ℕ) → part < parts + 1 → 0 < length (text part)
  some-on part h = go (ltb part parts) refl
    where
      go : (t : Bool) → ltb part parts ≡ t → 0 < length (text part)
      go true e = b.some part (ltb-true part parts e)
      go false e =
          let last : parts ≡ part = omega (arith, h, ltb-false part parts e) in
          subst (λ (n : ℕ). 0 < length (text n)) last written.1

  pub begun-on : Begun text (parts + 1) (bytes + k)
  begun-on =
      let on = ap (λ (n : ℕ). length (up_to text n)) (add-one parts) ∙ length-append (up_to text parts) (text parts) in
      record { bytes-are = omega (arith, b.bytes-are, written.0, on); some = some-on }

-- ---- The listing of the program

module _ (table entries first second entries' first' second' : List ℕ) (lent : length entries ≡ 18432) where
  listing-is : listing table (room_for (length entries)) ≡ program_listing table
  listing-is = ap (λ (n : ℕ). listing table (room_for n)) lent

  pub printed-all : (n b k bytes : ℕ) → Reduced table entries first second (Ok (counts n b k)) entries' first' second'
      → Printed (text_of table entries' first' n b k) bytes → bytes ≡ length (program_listing table)
  printed-all n b k bytes reduced p =
      let count = part_count n b in
      let text = text_of table entries' first' n b k in
      let more : count < p.parts → ⊥ =
      λ h.
      omega (
        arith,
        p.begun.some count h,
        ap length (parts-end table entries first second n b k entries' first' second' reduced first' (inl refl) count (omega arith)),
      ) in
      let fewer : p.parts < count → ⊥ =
      λ h.
      omega (
        arith,
        parts-some table entries first second n b k entries' first' second' reduced first' (inl refl) p.parts h,
        ap length p.over,
      ) in
      let same : p.parts ≡ count = omega (arith, more, fewer) in
      p.begun.bytes-are
      ∙ ap (λ (x : ℕ). length (up_to text x)) same
      ∙ ap length
      (parts-joined table entries first second n b k entries' first' second' reduced first' (inl refl) ∙ listing-is)

  pub refused-all : (r : Refusal) → Reduced table entries first second (Err r) entries' first' second' → length first ≡ 2048
      → length second ≡ 2048 → length (refusal_line (number r.reason) r.place) ≡ length (program_listing table)
  refused-all r reduced one two =
      let answer : Err r ≡ reduce_of table (room_for 18432) first second =
      reduced.answer-is ∙ ap (λ (x : ℕ). reduce_of table (room_for x) first second) lent in
      ap length
      (sym
      (refused-listing table entries first second r entries' first' second' reduced (program-sixteen table first second r answer one two))
      ∙ listing-is)
