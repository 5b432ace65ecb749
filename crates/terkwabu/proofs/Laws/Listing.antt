-- The listing as a C host comes by it. With the five numbers that a partition call answered, without a refusal, and the entries and either
-- list that it left, what the part calls leave in the host's buffers, joined, is the listing (`host-joined`), and the host sees where the
-- parts end (`host-end`, `host-some`). Where the partition call refused, the line of that refusal is the listing (`host-refused`).
use Rattle.std.specs.Prelude.{ℕ, ◌≤◌, ◌<◌, ◌⊎◌, ◌≡◌, refl, List, length, take, Result, Ok, Err}
use Rattle.std.proofs.Common.{arith, sym, ◌∙◌, ap}
use Rattle.std.proofs.Math.Path.{ap₂}
use Rattle.regions.specs.Call.{room_for}
use Rattle.partition.specs.Passed.{Refusal, number}
use Rattle.partition.specs.Calls.{counts, reduce_of}
use Rattle.partition.specs.Promises.{Reduced}
use Rattle.partition.specs.declared.calls.Reduction.{Reduction}
use Rattle.text.specs.Text.{up_to}
use Rattle.text.specs.Laws.Texts.{upto-same}
use Rattle.listing.specs.Printed.{refusal_line, listing}
use Rattle.listing.specs.Parts.{part_count, text_of, part_of, fitted, buffer_after, most_bytes}
use Rattle.listing.specs.Laws.Parts.{parted}
use Rattle.listing.specs.Laws.Buffers.{fitted-written}
use Rattle.listing.specs.Laws.Joined.{joined-most, parts-answer, parts-end, parts-some, refused-joined}
use Rattle.terkwabu.specs.Answers.{result_as, of_reduction, told_part, of_part}
use Rattle.terkwabu.specs.Calls.{ReduceCall, PartCall, LineCall}
use Rattle.terkwabu.proofs.Laws.Host.{value-part, value-told}
use Rattle.terkwabu.proofs.Laws.Bridges.{reduced-of}
use Rattle.terkwabu.specs.declared.answer.Answer.{Answer}

module _ (table entries first second : List ℕ) (answer : Answer) (entries' first' second' : List ℕ)
    (call : ReduceCall table entries first second answer entries' first' second') where
  module _ (none : answer.refusal ≡ 0) (list : List ℕ) (either : (list ≡ first') ⊎ (list ≡ second')) where
    -- The three counts answered, and how many parts there are.
    abbrev n : ℕ
    n = answer.value

    abbrev b : ℕ
    b = answer.blocks

    abbrev k : ℕ
    k = answer.rounds

    abbrev count : ℕ
    count = part_count n b

    promised : Reduced table entries first second (Ok (counts n b k)) entries' first' second'
    promised = reduced-of table entries first second answer entries' first' second' call none

    -- Part p was asked for with a buffer of 65,536 bytes or more, for each part before the end: of each buffer as many bytes as the value
    -- says, one after the other, are the listing. (Buffers may be one and the same, lent again and again.)
    pub host-joined : (buffers : ℕ → List ℕ) (answers : ℕ → Answer) (buffers' : ℕ → List ℕ)
        → ((p : ℕ) → p < count → PartCall table entries' list n b k p (buffers p) (answers p) (buffers' p))
        → ((p : ℕ) → p < count → most_bytes ≤ length (buffers p))
        → up_to (λ p. take (answers p).value (buffers' p)) count ≡ listing table (room_for (length entries))
    host-joined buffers answers buffers' calls long =
        upto-same _ _ count
        (λ p h.
        ap (λ (j : ℕ). take j (buffers' p))
        (ap (λ (a : Answer). a.value) (calls p h).answer-is ∙ value-told (part_of table entries' list n b k p (length (buffers p)))))
        ∙ joined-most table entries first second n b k entries' first' second' promised list either buffers
        (λ p. part_of table entries' list n b k p (length (buffers p))) buffers'
        (λ p h. parted table entries' list n b k p (buffers p) _ (buffers' p) refl (calls p h).buffer-is (calls p h).enough) long

    -- One part call.
    module _ (p : ℕ) (buffer : List ℕ) (said : Answer) (buffer' : List ℕ) (asked : PartCall table entries' list n b k p buffer said buffer')
      where
        said-is : said ≡ told_part (fitted (text_of table entries' list n b k p) (length buffer))
        said-is =
            asked.answer-is
            ∙ ap of_part (parts-answer table entries first second n b k entries' first' second' promised list either p (length buffer))

        -- Past the last part all numbers answered are 0,
        pub host-end : count ≤ p → said ≡ result_as 0 0 0
        host-end past =
            said-is
            ∙ ap (λ (t : List ℕ). told_part (fitted t (length buffer)))
            (parts-end table entries first second n b k entries' first' second' promised list either p past)

        -- and before it, where the buffer has 65,536 bytes, the value is not.
        pub host-some : p < count → most_bytes ≤ length buffer → 0 < said.value
        host-some below long =
            let text : List ℕ = text_of table entries' list n b k p in
            let some = parts-some table entries first second n b k entries' first' second' promised list either p below in
            let value : said.value ≡ length text =
            ap (λ (a : Answer). a.value) said-is
            ∙ ap (λ o. (told_part o).value) (fitted-written text (length buffer) some (omega (arith, asked.enough, long))) in
            omega (arith, some, value)

  -- The call refused, and not since a lent list is too short: its line is the listing.
  refused_as_lem : ¬ (answer.refusal ≡ 0)
      → (r : Refusal) × (Err r ≡ reduce_of table (room_for (length entries)) first second) × (answer.refusal ≡ number r.reason)
      × (answer.place ≡ r.place)
  refused_as_lem some = by_answer (reduce_of table (room_for (length entries)) first second) refl
    where
      by_answer : (o : Result Reduction Refusal) → reduce_of table (room_for (length entries)) first second ≡ o
          → (r : Refusal) × (Err r ≡ reduce_of table (room_for (length entries)) first second) × (answer.refusal ≡ number r.reason)
          × (answer.place ≡ r.place)
      by_answer (Err r) e =
          let is = call.answer-is ∙ ap of_reduction e in
          (r, sym e, ap (λ (a : Answer). a.refusal) is, ap (λ (a : Answer). a.place) is)
      by_answer (Ok c) e = absurd (some (ap (λ (a : Answer). a.refusal) (call.answer-is ∙ ap of_reduction e)))

  pub host-refused : ¬ (answer.refusal ≡ 0) → ¬ (answer.refusal ≡ 16) → (buffer : List ℕ) (said : Answer) (buffer' : List ℕ)
      → LineCall answer.refusal answer.place buffer said buffer' → 128 ≤ length buffer
      → take said.value buffer' ≡ listing table (room_for (length entries))
  host-refused some other buffer said buffer' line long =
      let (r, e, code, place) = refused_as_lem some in
      let same : refusal_line answer.refusal answer.place ≡ refusal_line (number r.reason) r.place = ap₂ refusal_line code place in
      ap (λ (j : ℕ). take j buffer')
      (ap (λ (a : Answer). a.value) line.answer-is
      ∙ value-part (fitted (refusal_line answer.refusal answer.place) (length buffer)))
      ∙ refused-joined table entries first second r entries' first' second'
      (record { answer-is = e; entries-are = call.entries-are; first-is = call.first-is; second_is = call.second_is })
      (λ short. other (code ∙ ap number short)) buffer (fitted (refusal_line answer.refusal answer.place) (length buffer)) buffer'
      (ap (λ (l : List ℕ). fitted l (length buffer)) same) (line.buffer-is ∙ ap (λ (l : List ℕ). buffer_after l buffer) same)
      (omega (arith, ap length same, line.enough, long))
