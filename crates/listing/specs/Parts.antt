-- The listing in parts (document 01: "The library may make the listing in parts; joined they are the listing."). The cut is a choice of
-- ours: part 0 is the first line, then comes a part for each region, its line, then one for each block, its lines, and then one with
-- the totals. What every cut has in common is said by `joined` of Laws.Joined. The parts are numbered from 0. Past the last there is no
-- part; its text is then empty, which no part's text is.
use Rattle.std.specs.Prelude.{ℕ, suc, ◌+◌, ◌-◌, ◌*◌, ◌≤◌, ◌≡◌, Bool, cond, ◌&&◌, List, [], ◌∷◌, ◌++◌, eqb, leb, ltb, length, take, drop}
use Rattle.std.specs.Prelude.{Result, Ok, Err, IfOk}
use Rattle.partition.specs.Passed.{Model, Region, Answer, refusal, accepted, read_table, entry_bytes, max_entries, listed}
use Rattle.partition.specs.Passed.{Refusal, refusal_at}
use Rattle.partition.specs.Instances.{graph}
use Rattle.listing.specs.Printed.{first_line, region_line, block_lines, region_record, block_record}
use Rattle.listing.specs.Printed.{region_records, block_records, totals_text}
use Rattle.listing.specs.declared.parts.Part.{Part}
use Rattle.listing.specs.declared.parts.Part.TheVariants as P

-- ---- The text of a part

-- Of a model with its regions, their blocks and both counts: past the blocks the totals, once.
abbrev pub totals_part : Model → List Region → List ℕ → (blocks b : ℕ) → List ℕ
totals_part m found list blocks b =
    cond (eqb b blocks) (totals_text (region_records m found list) (block_records m found list blocks)) []

abbrev pub block_part : Model → List Region → List ℕ → (blocks b : ℕ) → List ℕ
block_part m found list blocks b =
    cond (ltb b blocks) (block_lines (block_record (graph m found) list blocks b)) (totals_part m found list blocks b)

abbrev pub line_part : Model → List Region → List ℕ → (blocks x : ℕ) → List ℕ
line_part m found list blocks x =
    cond (ltb x (length found)) (region_line (region_record m found list x)) (block_part m found list blocks (x - length found))

abbrev pub part_text : Model → List Region → List ℕ → (blocks rounds part : ℕ) → List ℕ
part_text m found list blocks rounds part =
    cond (eqb part 0) (first_line (length found) blocks rounds) (line_part m found list blocks (part - 1))

-- How many parts there are: the first line, one for each region and each block, and the totals.
abbrev pub part_count : (regions blocks : ℕ) → ℕ
part_count regions blocks = suc (suc (regions + blocks))

-- The counts can be those of what is lent: entries and a list for that many regions, and at least one block, at most as many as there are
-- regions. A successful partition call leaves such; others have no parts (a choice of ours), so that the zeros of an answer that
-- refuses print nothing.
abbrev pub is_borne : (regions blocks entries list : ℕ) → Bool
is_borne regions blocks entries list =
    leb regions max_entries && (leb (entry_bytes * regions) entries && (leb regions list && (ltb 0 blocks && leb blocks regions)))

-- Of what is lent: the regions are the first entries, and their blocks the first numbers of the list, as many as the count of regions
-- says. A table that reading refuses (1 to 13) has no parts: its listing is one line, which a call of its own makes. 14, 15 and 16 are
-- not asked again: the counts are taken as they are (both are choices of ours).
abbrev pub text_from : Answer → (entries list : List ℕ) → (regions blocks rounds part : ℕ) → List ℕ
text_from (refusal reason place) entries list regions blocks rounds part = []
text_from (accepted m) entries list regions blocks rounds part =
    cond (is_borne regions blocks (length entries) (length list))
    (part_text m (listed entries regions) (take regions list) blocks rounds part) []

unfoldable pub text_of : (table entries list : List ℕ) → (regions blocks rounds part : ℕ) → List ℕ
text_of table entries list regions blocks rounds part = text_from (read_table table) entries list regions blocks rounds part

-- ---- The part call

-- A text for a buffer with so much room: the end where it is empty; else how many bytes were written, or, where it does not fit, how
-- many it takes.
abbrev pub fitted : List ℕ → (room : ℕ) → Part
fitted [] room = P.End
fitted (c ∷ l) room = cond (leb (length (c ∷ l)) room) (P.Written (length (c ∷ l))) (P.Short (length (c ∷ l)))

-- How many bytes of the listing an answer says that the buffer holds: none, unless the part was written.
abbrev pub bytes_in : Part → ℕ
bytes_in (P.Written bytes) = bytes
bytes_in (P.Short bytes) = 0
bytes_in P.End = 0

-- The same of the part call's answer, which may be that the table is refused.
abbrev pub bytes_told : Result Part Refusal → ℕ
bytes_told (Err r) = 0
bytes_told (Ok part) = bytes_in part

-- What the buffer then holds: the text at its front, and after it what was there; all that was there where the text does not fit.
abbrev pub buffer_after : List ℕ → List ℕ → List ℕ
buffer_after text buffer = cond (leb (length text) (length buffer)) (text ++ drop (length text) buffer) buffer

abbrev pub part_from : Answer → (text : List ℕ) → (room : ℕ) → Result Part Refusal
part_from (refusal reason place) text room = Err (refusal_at reason place)
part_from (accepted m) text room = Ok (fitted text room)

unfoldable pub part_of : (table entries list : List ℕ) → (regions blocks rounds part room : ℕ) → Result Part Refusal
part_of table entries list regions blocks rounds part room =
    part_from (read_table table) (text_of table entries list regions blocks rounds part) room

-- The bytes that an answer says were written are within a buffer with so much room.
abbrev pub Within : Part → (room : ℕ) → Type 0
Within (P.Written k) room = k ≤ room
Within (P.Short k) room = Unit
Within P.End room = Unit

-- So many bytes are enough for every part, of whatever is lent.
abbrev pub most_bytes : ℕ
most_bytes = 65536

-- Every part's number is below this, whatever is lent: the first line, a part for each of 4,096 regions and of as many blocks, and the
-- totals.
abbrev pub most_parts : ℕ
most_parts = 8194

-- The answer is not that the buffer is too short.
abbrev pub Fits : Part → Type 0
Fits (P.Written k) = Unit
Fits (P.Short k) = ⊥
Fits P.End = Unit

-- The answer is not that there is such a part.
abbrev pub Past : Part → Type 0
Past (P.Written k) = ⊥
Past (P.Short k) = ⊥
Past P.End = Unit

-- A text was given to a buffer: the answer, and what the buffer then holds.
pub record Gives (text buffer : List ℕ) (answer : Part) (buffer' : List ℕ) : Type 0 where
  pub answer-is : answer ≡ fitted text (length buffer)
  pub buffer-is : buffer' ≡ buffer_after text buffer
  pub enough : length text ≤ most_bytes

-- What the part call promises: its answer, what the buffer then holds, how long a buffer is enough, and how many parts there may be. So a
-- caller that lends `most_bytes` and goes from part to part comes to the end within `most_parts` parts, and no buffer is too short on the
-- way.
pub record Parted (table entries list : List ℕ) (regions blocks rounds part : ℕ)
    (buffer : List ℕ) (answer : Result Part Refusal) (buffer' : List ℕ) : Type 0 where
  pub answer-is : answer ≡ part_of table entries list regions blocks rounds part (length buffer)
  pub buffer-is : buffer' ≡ buffer_after (text_of table entries list regions blocks rounds part) buffer
  pub enough : length (text_of table entries list regions blocks rounds part) ≤ most_bytes
  pub fits : most_bytes ≤ length buffer → IfOk answer Fits
  pub past : most_parts ≤ part → IfOk answer Past
