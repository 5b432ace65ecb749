-- "The library may make the listing in parts; joined they are the listing" (document 01): `joined`. After a partition call that
-- succeeded with n regions and b blocks the parts are those below `part_count n b` (`parts-some`, `parts-end`), and so the part calls
-- answer (`call-written`, `call-end`). After one that refused, but not with 16, the listing is the refusal's line (`refused-listing`,
-- `refused-joined`), and there is no part (`refused-parts`). The program lends what it takes (`program-room`, `program-sixteen`).
use Rattle.std.specs.Prelude.{ℕ, zero, suc, ◌+◌, ◌-◌, ◌*◌, ◌≤◌, ◌<◌, ◌⊎◌, ◌≡◌, refl, Bool, true, false, ltb, length, take, drop}
use Rattle.std.specs.Prelude.{Result, Ok, Err}
use Rattle.std.proofs.Common.{arith, inl, inr, sym, ◌∙◌, subst, eq-eqb, ne_eqb, lt-ltb, le-ltb, le-leb, ltb-true, ltb-false}
use Rattle.std.proofs.Math.Path.{ap, ap₂}
use mathlib.Core.List.{List, [], ◌∷◌, ◌++◌, map}
use Rattle.std.proofs.Math.Seq.{take-append_seam}
use Rattle.partition.specs.Passed.{Model, Region, Answer, Refusal, number, refusal, accepted, read_table}
use Rattle.partition.specs.Passed.{last_blocks, room_for, max_entries, entry_bytes}
use Rattle.partition.specs.Instances.{graph}
use Rattle.partition.specs.Calls.{reduce_of, counts}
use Rattle.partition.specs.Promises.{Reduced}
use Rattle.partition.specs.Laws.Calls.{on-accepted}
use Rattle.partition.specs.Laws.Left.{reduced-first, reduced-second, reduced-refused, no-sixteen}
use Rattle.partition.specs.Left.{Left}
use Rattle.table.specs.declared.refusals.Reason.TheVariants.{ShortList}
use Rattle.text.specs.Text.{up_to}
use Rattle.listing.specs.Printed.{first_line, region_line, block_lines, region_record, block_record, printed, printed_graph, refusal_line}
use Rattle.listing.specs.Printed.{listing}
use Rattle.listing.specs.Printed.{region_records, block_records, totals_text}
use Rattle.listing.specs.Parts.{part_count, block_part, line_part, part_text, is_borne, text_from, text_of, fitted, bytes_in}
use Rattle.listing.specs.Parts.{bytes_told, buffer_after, part_from, part_of, most_bytes, Parted}
use Rattle.text.specs.Laws.Texts.{upto-same, upto_add, each-upto}
use Rattle.totals.specs.Laws.Counts.{totals-some}
use Rattle.listing.specs.Laws.Buffers.{fitted-written}
use Rattle.listing.specs.declared.parts.Part.{Part}
use Rattle.listing.specs.declared.parts.Part.TheVariants as P

some : (text : List ℕ) (c : ℕ) (more : List ℕ) → text ≡ c ∷ more → 0 < length text
some text c more e = omega (arith, ap length e)

-- ---- The parts of a model with its regions, their blocks and both counts

module _ (m : Model) (found : List Region) (list : List ℕ) (blocks rounds : ℕ) where
  part-line : (x : ℕ) → part_text m found list blocks rounds (1 + x) ≡ line_part m found list blocks x
  part-line x =
      let at : 1 + x - 1 ≡ x = omega arith in
      rw (ne_eqb (1 + x) 0 (omega arith)) (ap (line_part m found list blocks) at)

  line-region : (x : ℕ) → x < length found → line_part m found list blocks x ≡ region_line (region_record m found list x)
  line-region x h = rw (lt-ltb x (length found) h) refl

  line-block : (b : ℕ) → line_part m found list blocks (length found + b) ≡ block_part m found list blocks b
  line-block b =
      let at : length found + b - length found ≡ b = omega arith in
      rw (le-ltb (length found + b) (length found) (omega arith)) (ap (block_part m found list blocks) at)

  block-lines : (b : ℕ) → b < blocks → block_part m found list blocks b ≡ block_lines (block_record (graph m found) list blocks b)
  block-lines b h = rw (lt-ltb b blocks h) refl

  block-totals : (b : ℕ) → b ≡ blocks
      → block_part m found list blocks b ≡ totals_text (region_records m found list) (block_records m found list blocks)
  block-totals b e = rw (le-ltb b blocks (omega (arith, e)), eq-eqb b blocks e) refl

  block_none : (b : ℕ) → blocks < b → block_part m found list blocks b ≡ []
  block_none b h = rw (le-ltb b blocks (omega (arith, h)), ne_eqb b blocks (λ e. omega (arith, e, h))) refl

  -- All of them, joined, are the printed model.
  text-joined : up_to (part_text m found list blocks rounds) (part_count (length found) blocks) ≡ printed m found list blocks rounds
  text-joined =
      let whole : part_count (length found) blocks ≡ 1 + (length found + suc blocks) = omega arith in
      ap (up_to (part_text m found list blocks rounds)) whole
      ∙ upto_add (part_text m found list blocks rounds) 1 (length found + suc blocks)
      ∙ ap (λ (t : List ℕ). first_line (length found) blocks rounds ++ t)
      (upto-same (λ x. part_text m found list blocks rounds (1 + x)) (line_part m found list blocks) (length found + suc blocks)
      (λ x h. part-line x)
      ∙ upto_add (line_part m found list blocks) (length found) (suc blocks)
      ∙ ap₂ (λ (t u : List ℕ). t ++ u)
      (upto-same (line_part m found list blocks) (λ x. region_line (region_record m found list x)) (length found) line-region
      ∙ sym (each-upto region_line (region_record m found list) (length found)))
      (ap₂ (λ (t u : List ℕ). t ++ u)
      (upto-same (λ b. line_part m found list blocks (length found + b))
      (λ b. block_lines (block_record (graph m found) list blocks b)) blocks (λ b h. line-block b ∙ block-lines b h)
      ∙ sym (each-upto block_lines (block_record (graph m found) list blocks) blocks))
      (line-block blocks ∙ block-totals blocks refl)))

  text-end : (part : ℕ) → part_count (length found) blocks ≤ part → part_text m found list blocks rounds part ≡ []
  text-end part h =
      let at : part ≡ 1 + (length found + (part - 1 - length found)) = omega (arith, h) in
      ap (part_text m found list blocks rounds) at
      ∙ part-line (length found + (part - 1 - length found))
      ∙ line-block (part - 1 - length found)
      ∙ block_none (part - 1 - length found) (omega (arith, h))

  -- The lines of a region and of a block begin with a letter, and the totals have a last line.
  block-some : (b : ℕ) → b < suc blocks → 0 < length (block_part m found list blocks b)
  block-some b h = go (ltb b blocks) refl
    where
      go : (t : Bool) → ltb b blocks ≡ t → 0 < length (block_part m found list blocks b)
      go true e = some _ _ _ (block-lines b (ltb-true b blocks e))
      go false e =
          subst (λ (l : List ℕ). 0 < length l) (sym (block-totals b (omega (arith, h, ltb-false b blocks e))))
          (totals-some (map (λ r. r.label) (region_records m found list)) (map (λ c. c.label) (block_records m found list blocks)))

  line-some : (x : ℕ) → x < length found + suc blocks → 0 < length (line_part m found list blocks x)
  line-some x h = go (ltb x (length found)) refl
    where
      go : (t : Bool) → ltb x (length found) ≡ t → 0 < length (line_part m found list blocks x)
      go true e = some _ _ _ (line-region x (ltb-true x (length found) e))
      go false e =
          let past = ltb-false x (length found) e in
          let at : x ≡ length found + (x - length found) = omega (arith, past) in
          subst (λ (l : List ℕ). 0 < length l) (sym (ap (line_part m found list blocks) at ∙ line-block (x - length found)))
          (block-some (x - length found) (omega (arith, h, past)))

  text-some : (part : ℕ) → part < part_count (length found) blocks → 0 < length (part_text m found list blocks rounds part)
  text-some zero h = some (part_text m found list blocks rounds 0) _ _ refl
  text-some (suc x) h =
      let at : suc x ≡ 1 + x = omega arith in
      subst (λ (l : List ℕ). 0 < length l) (sym (ap (part_text m found list blocks rounds) at ∙ part-line x))
      (line-some x (omega (arith, h)))

-- ---- The parts after a partition call that succeeded, of the entries and one of the two lists that it left

module _ (table : List ℕ) (cap n b k : ℕ) (entries list : List ℕ) (left : Left table cap n b k entries list) where
  abbrev model : Model
  model = left.from.model

  abbrev found : List Region
  found = left.from.found

  abbrev numbers : List ℕ
  numbers = last_blocks (graph model found)

  borne : is_borne n b (length entries) (length list) ≡ true
  borne =
      rw (le-leb n max_entries left.few-regions, le-leb (entry_bytes * n) (length entries) left.entries-long)
      (rw (le-leb n (length list) left.list-long, lt-ltb 0 b left.some-blocks, le-leb b n left.few-blocks) refl)

  text-is : (part : ℕ) → text_of table entries list n b k part ≡ part_text model found numbers b k part
  unfolding text_of
  text-is part =
      ap (λ (a : Answer). text_from a entries list n b k part) left.from.read
      ∙ rw borne
      (ap₂ (λ (f : List Region) (l : List ℕ). part_text model f l b k part) left.entries-hold left.list-holds)

  count-is : part_count n b ≡ part_count (length found) b
  count-is = ap (λ (x : ℕ). part_count x b) left.regions-are

  listing-is : listing table cap ≡ printed model found numbers b k
  unfolding listing
  listing-is =
      on-accepted (λ reason place. refusal_line (number reason) place) printed_graph table cap left.from
      ∙ ap₂ (λ (x y : ℕ). printed model found numbers x y) (sym left.blocks-are) (sym left.rounds-are)

  left-joined : up_to (text_of table entries list n b k) (part_count n b) ≡ listing table cap
  left-joined =
      upto-same (text_of table entries list n b k) (part_text model found numbers b k) (part_count n b) (λ part h. text-is part)
      ∙ ap (up_to (part_text model found numbers b k)) count-is
      ∙ text-joined model found numbers b k
      ∙ sym listing-is

  left_end : (part : ℕ) → part_count n b ≤ part → text_of table entries list n b k part ≡ []
  left_end part h = text-is part ∙ text-end model found numbers b k part (omega (arith, count-is, h))

  left-some : (part : ℕ) → part < part_count n b → 0 < length (text_of table entries list n b k part)
  left-some part h =
      subst (λ (l : List ℕ). 0 < length l) (sym (text-is part))
      (text-some model found numbers b k part (omega (arith, count-is, h)))

  -- The answer of a part call.
  left-answer : (part room : ℕ)
      → part_of table entries list n b k part room ≡ Ok (fitted (text_of table entries list n b k part) room)
  unfolding part_of
  left-answer part room =
      ap (λ (a : Answer). part_from a (text_of table entries list n b k part) room) left.from.read

pub listing-left : {table : List ℕ} {cap n b k : ℕ} {entries list : List ℕ} (left : Left table cap n b k entries list)
    → listing table cap
    ≡ printed left.from.model left.from.found (last_blocks (graph left.from.model left.from.found)) b k
listing-left {table} {cap} {n} {b} {k} {entries} {list} left = listing-is table cap n b k entries list left

-- ---- A text in a buffer that has room for it

fitted-front : (text buffer : List ℕ) → length text ≤ length buffer → take (length text) (buffer_after text buffer) ≡ text
fitted-front text buffer fits =
    rw (le-leb (length text) (length buffer) fits) (take-append_seam text (drop (length text) buffer))

-- ---- The same of the call's own words

-- A partition call succeeded: it answered n regions, b blocks and k rounds. `list` is either of the two block lists that it left.
module _ (table entries first second : List ℕ) (n b k : ℕ) (entries' first' second' : List ℕ)
    (reduced : Reduced table entries first second (Ok (counts n b k)) entries' first' second')
    (list : List ℕ) (either : (list ≡ first') ⊎ (list ≡ second')) where
  left-either : Left table (room_for (length entries)) n b k entries' list
  left-either = go either
    where
      go : (list ≡ first') ⊎ (list ≡ second') → Left table (room_for (length entries)) n b k entries' list
      go (inl e) =
          subst (λ (l : List ℕ). Left table (room_for (length entries)) n b k entries' l) (sym e)
          (reduced-first table entries first second n b k entries' first' second' reduced)
      go (inr e) =
          subst (λ (l : List ℕ). Left table (room_for (length entries)) n b k entries' l) (sym e)
          (reduced-second table entries first second n b k entries' first' second' reduced)

  -- The texts of the first `part_count n b` parts, joined, are the listing of the table with as much room as was lent.
  pub parts-joined : up_to (text_of table entries' list n b k) (part_count n b) ≡ listing table (room_for (length entries))
  parts-joined = left-joined table (room_for (length entries)) n b k entries' list left-either

  -- There are no others.
  pub parts-end : (part : ℕ) → part_count n b ≤ part → text_of table entries' list n b k part ≡ []
  parts-end = left_end table (room_for (length entries)) n b k entries' list left-either

  -- None of these is empty.
  pub parts-some : (part : ℕ) → part < part_count n b → 0 < length (text_of table entries' list n b k part)
  parts-some = left-some table (room_for (length entries)) n b k entries' list left-either

  -- What a part call answers for a text.
  pub parts-answer : (part room : ℕ)
      → part_of table entries' list n b k part room ≡ Ok (fitted (text_of table entries' list n b k part) room)
  parts-answer = left-answer table (room_for (length entries)) n b k entries' list left-either

  -- One part call with what the partition call left.
  module _ (part : ℕ) (buffer : List ℕ) (answer : Result Part Refusal) (buffer' : List ℕ)
      (call : Parted table entries' list n b k part buffer answer buffer') where
    answer-fits : answer ≡ Ok (fitted (text_of table entries' list n b k part) (length buffer))
    answer-fits =
        call.answer-is ∙ parts-answer part (length buffer)

    -- Past the last part it says that there is none.
    pub call-end : part_count n b ≤ part → answer ≡ Ok P.End
    call-end past = answer-fits ∙ ap (λ (t : List ℕ). Ok (fitted t (length buffer))) (parts-end part past)

    module _ (below : part < part_count n b) (room : length (text_of table entries' list n b k part) ≤ length buffer) where
      -- Else it writes, where the buffer has room for the part,
      pub call-written : answer ≡ Ok (P.Written (length (text_of table entries' list n b k part)))
      call-written =
          answer-fits ∙ ap Ok (fitted-written (text_of table entries' list n b k part) (length buffer) (parts-some part below) room)

      -- and as many bytes of the buffer as it says are the part.
      pub call-wrote : take (bytes_told answer) buffer' ≡ text_of table entries' list n b k part
      call-wrote =
          ap₂ (λ (a : Result Part Refusal) (l : List ℕ). take (bytes_told a) l) call-written call.buffer-is
          ∙ fitted-front (text_of table entries' list n b k part) buffer room

  -- "Joined they are the listing." Part calls are made with what the partition call left, for each part below `part_count n b`, where call
  -- `part` is lent `buffers part`, which has room for the part, and leaves `buffers' part`. Of each buffer take the bytes at its
  -- front, as many as the answer says: these, joined in the order of the parts, are the listing of the table with as much room as
  -- was lent to the partition call. (Buffers may be one and the same, lent again and again.)
  pub joined : (buffers : ℕ → List ℕ) (answers : ℕ → Result Part Refusal) (buffers' : ℕ → List ℕ)
      → (calls : (part : ℕ) → part < part_count n b
      → Parted table entries' list n b k part (buffers part) (answers part) (buffers' part))
      → (room : (part : ℕ) → part < part_count n b → length (text_of table entries' list n b k part) ≤ length (buffers part))
      → up_to (λ part. take (bytes_told (answers part)) (buffers' part)) (part_count n b) ≡ listing table (room_for (length entries))
  joined buffers answers buffers' calls room =
      upto-same (λ part. take (bytes_told (answers part)) (buffers' part)) (text_of table entries' list n b k) (part_count n b)
      (λ part h. call-wrote part (buffers part) (answers part) (buffers' part) (calls part h) h (room part h))
      ∙ parts-joined

  -- A buffer of 65,536 bytes is enough for each call.
  pub joined-most : (buffers : ℕ → List ℕ) (answers : ℕ → Result Part Refusal) (buffers' : ℕ → List ℕ)
      → (calls : (part : ℕ) → part < part_count n b
      → Parted table entries' list n b k part (buffers part) (answers part) (buffers' part))
      → (room : (part : ℕ) → part < part_count n b → most_bytes ≤ length (buffers part))
      → up_to (λ part. take (bytes_told (answers part)) (buffers' part)) (part_count n b) ≡ listing table (room_for (length entries))
  joined-most buffers answers buffers' calls room =
      joined buffers answers buffers' calls (λ part h. omega (arith, (calls part h).enough, room part h))

-- ---- A table that is refused

-- Where the partition call refused, and not since a lent block list is too short (16), the listing is the refusal's line.
pub refused-listing : (table entries first second : List ℕ) (r : Refusal) (entries' first' second' : List ℕ)
    → Reduced table entries first second (Err r) entries' first' second' → (r.reason ≡ ShortList → ⊥)
    → listing table (room_for (length entries)) ≡ refusal_line (number r.reason) r.place
unfolding listing
refused-listing table entries first second r entries' first' second' reduced other =
    reduced-refused (λ reason place. refusal_line (number reason) place) printed_graph table (room_for (length entries)) first second r
    reduced.answer-is other

-- Where that line was given to a buffer that has room for it, as many bytes of the buffer as the answer says are the listing.
pub refused-joined : (table entries first second : List ℕ) (r : Refusal) (entries' first' second' : List ℕ)
    → Reduced table entries first second (Err r) entries' first' second' → (r.reason ≡ ShortList → ⊥)
    → (buffer : List ℕ) (answer : Part) (buffer' : List ℕ) → answer ≡ fitted (refusal_line (number r.reason) r.place) (length buffer)
    → buffer' ≡ buffer_after (refusal_line (number r.reason) r.place) buffer
    → length (refusal_line (number r.reason) r.place) ≤ length buffer
    → take (bytes_in answer) buffer' ≡ listing table (room_for (length entries))
refused-joined table entries first second r entries' first' second' reduced other buffer answer buffer' e f room =
    let line : List ℕ = refusal_line (number r.reason) r.place in
    ap₂ (λ (a : Part) (l : List ℕ). take (bytes_in a) l) (e ∙ fitted-written line (length buffer) (some line _ _ refl) room) f
    ∙ fitted-front line buffer room
    ∙ sym (refused-listing table entries first second r entries' first' second' reduced other)

-- A host that goes on with the zeros of an answer that refuses gets no part: nothing comes after the refusal's line.
pub refused-parts : (table entries list : List ℕ) (part : ℕ) → text_of table entries list 0 0 0 part ≡ []
unfolding text_of
refused-parts table entries list part = by_answer (read_table table)
  where
    none : is_borne 0 0 (length entries) (length list) ≡ false
    none = rw (le-leb 0 (length entries) (omega arith), le-leb 0 (length list) (omega arith)) refl

    by_answer : (a : Answer) → text_from a entries list 0 0 0 part ≡ []
    by_answer (refusal reason place) = refl
    by_answer (accepted m) = rw none refl

-- ---- What the program lends

-- 18,432 bytes are 2,048 entries: `program_listing` is the listing with as much room as these.
pub program-room : room_for 18432 ≡ 2048
program-room = refl

-- With lists of 2,048 numbers the partition call then does not refuse with 16.
pub program-sixteen : (table first second : List ℕ) (r : Refusal)
    → Err r ≡ reduce_of table (room_for 18432) first second → length first ≡ 2048 → length second ≡ 2048 → r.reason ≡ ShortList → ⊥
program-sixteen table first second r e one two =
    no-sixteen table (room_for 18432) first second r e (omega (arith, program-room, one)) (omega (arith, program-room, two))
