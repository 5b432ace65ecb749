-- For the code of the parts: a text that was put together and given to a buffer, the lines of a region and of a block from what the
-- layer beneath says of them, and which part a number is.
use Rattle.std.specs.Prelude.{ℕ, zero, suc, ◌+◌, ◌-◌, ◌*◌, ◌≤◌, ◌<◌, ◌≡◌, refl, Bool, true, false, cond, ◌&&◌, leb, ltb}
use Rattle.std.specs.Prelude.{get_or, take, drop, replicate, Option, Some, None, Result, Ok, Err, IfOk}
use Rattle.std.proofs.Common.{arith, ◌∙◌, ap₂, length-append, take_at, eq-eqb, ne_eqb, lt-ltb, le-ltb, le-leb, leb-true, ltb-true}
use Rattle.std.proofs.Math.Path.{sym, ap, subst}
use Rattle.std.proofs.lemmas.Bool.{false≢true}
use mathlib.Core.List.{List, [], ◌∷◌, ◌++◌, append-nil}
use Rattle.std.proofs.Math.ListN.{length, length-replicate}
use Rattle.partition.specs.Passed.{Model, Region, Finite, Answer, refusal, accepted, read_table, entry_bytes, max_entries, listed}
use Rattle.partition.specs.Passed.{Refusal, Seen}
use Rattle.partition.specs.Instances.{region_of, graph}
use Rattle.partition.specs.View.{entry_in, Alone, is_seen, item_of, showing_of}
use Rattle.partition.specs.Laws.View.{listed-length, entry_listed, entry-small, item-shown, item-model, item-seen, seen_here}
use Rattle.text.specs.Text.{up_to, each}
use Rattle.listing.specs.Printed.{StepRecord, record_of, step_of, step_line}
use Rattle.listing.specs.Printed.{first_line, region_line, block_line, delay_line_of}
use Rattle.listing.specs.Printed.{other_blocks, lowest_of, size_below, region_record, block_record, block_lines}
use Rattle.listing.specs.Printed.{region_records, block_records, totals_text}
use Rattle.listing.specs.Slices.{step_at, step_text_at, row_room}
use Rattle.text.specs.declared.writing.Writer.{Writer}
use Rattle.text.specs.Writing.{Puts}
use Rattle.listing.specs.Parts.{line_part, part_text, is_borne, text_from, text_of, part_from}
use Rattle.listing.specs.Parts.{part_of, fitted, buffer_after, Within, most_bytes}
use Rattle.listing.specs.Parts.{most_parts, Fits, Past, Gives, Parted}
use Rattle.listing.specs.Laws.Lengths.{region-fits}
use Rattle.text.specs.Laws.Texts.{each_append}
use Rattle.text.specs.Laws.Writer.{puts-all}
use Rattle.listing.specs.declared.parts.Part.{Part}
use Rattle.listing.specs.declared.parts.Part.TheVariants as P

-- ---- A text that was put together

-- In a room of n bytes, from its front on.
module _ {a b : Writer} {bytes : List ℕ} (n : ℕ) (front : a.at ≡ 0) (room : a.text.now ≡ replicate n 0) (p : Puts a b bytes)
    (fits : length bytes ≤ n) (text : List ℕ) (written : text ≡ take b.at b.text.now) where
  pub put-written : text ≡ bytes
  put-written = written ∙ (puts-all p front (omega (arith, fits, ap length room, length-replicate {A = ℕ} n 0))).1

  pub gives-put : n ≤ most_bytes → (buffer : List ℕ) (answer : Part) (buffer' : List ℕ)
      → answer ≡ fitted text (length buffer) → buffer' ≡ buffer_after text buffer → Gives bytes buffer answer buffer'
  gives-put most buffer answer buffer' e f =
      record {
        answer-is = e ∙ ap (λ (l : List ℕ). fitted l (length buffer)) put-written;
        buffer-is = f ∙ ap (λ (l : List ℕ). buffer_after l buffer) put-written;
        enough = omega (arith, fits, most);
      }

pub gives_same : {text text' : List ℕ} (buffer : List ℕ) (answer : Part) (buffer' : List ℕ) → text ≡ text'
    → Gives text buffer answer buffer' → Gives text' buffer answer buffer'
gives_same buffer answer buffer' e g = subst (λ (l : List ℕ). Gives l buffer answer buffer') e g

-- No text: the end, and the buffer as it was.
pub gives-end : (buffer : List ℕ) → Gives [] buffer P.End buffer
gives-end buffer = record { answer-is = refl; buffer-is = sym (whole (leb 0 (length buffer))); enough = omega arith }
  where
    whole : (b : Bool) → cond b ([] ++ drop 0 buffer) buffer ≡ buffer
    whole true = refl
    whole false = refl

-- ---- The line of a region

pub region-room : (es : List ℕ) → ((k : ℕ) → get_or es k 0 < 256) → (x block clocks : ℕ)
    → x < 18446744073709551616 → block < 18446744073709551616 → clocks ≤ 4
    → length (region_line (record_of x 0 block clocks (entry_in es x))) ≤ 256
region-room es small x block clocks hx hb few =
    let bytes = entry-small es small x in
    region-fits x (entry_in es x).location block clocks (entry_in es x).whole (entry_in es x).rank hx (omega (arith, bytes.0)) hb few
    (λ i h. bytes.1 i) (λ i h. bytes.2 i) 0

pub region-text : (m : Model) (es list : List ℕ) (n x : ℕ) → x < n → n ≤ max_entries
    → region_line (record_of x 0 (get_or list x 0) m.clocks (entry_in es x)) ≡ region_line (region_record m (listed es n) list x)
region-text m es list n x h few =
    ap (λ (r : Region). region_line (record_of x 0 (get_or list x 0) m.clocks r))
    (entry_listed m es n x h few (region_of m (listed es n) x) refl)

-- ---- The lines of a block

module _ (F : Finite) (list : List ℕ) (count b : ℕ) (delays delays' rows : List ℕ)
    (alone : Alone F (lowest_of list b) delays delays' rows) where
  abbrev low : ℕ
  low = lowest_of list b

  abbrev step : ℕ → StepRecord
  step e = step_of list count (F.action low e) (F.whole low e) (F.branches low e)

  -- The record of a step is that in its row.
  step_same : (e : ℕ) → e < F.edges → F.available low e ≡ true → step e ≡ step_at list rows count e
  step_same e h can =
      ap (λ (a : ℕ). step_of list count a (F.whole low e) (F.branches low e)) (alone.action e h can)
      ∙ ap (λ (w : ℕ). step_of list count (get_or rows (row_room * e + 1) 0) w (F.branches low e)) (alone.whole e h can)
      ∙ ap (step_of list count (get_or rows (row_room * e + 1) 0) (get_or rows (row_room * e + 2) 0)) (alone.branches e h can)

  one-step : (e : ℕ) → e < F.edges
      → each (step_line b) (cond (F.available low e) (step e ∷ []) []) ≡ step_text_at list rows count b e
  one-step e h = go (F.available low e) refl
    where
      go : (t : Bool) → F.available low e ≡ t → each (step_line b) (cond t (step e ∷ []) []) ≡ step_text_at list rows count b e
      go true can =
          append-nil (step_line b (step e))
          ∙ ap (step_line b) (step_same e h can)
          ∙ sym (ap (λ (t : Bool). cond t (step_line b (step_at list rows count e)) []) (sym (alone.available e h) ∙ can))
      go false can = sym (ap (λ (t : Bool). cond t (step_line b (step_at list rows count e)) []) (sym (alone.available e h) ∙ can))

  all-steps : (k : ℕ) → k ≤ F.edges
      → each (step_line b) (up_to (λ e. cond (F.available low e) (step e ∷ []) []) k) ≡ up_to (step_text_at list rows count b) k
  all-steps zero h = refl
  all-steps (suc k) h =
      each_append (step_line b) (up_to (λ e. cond (F.available low e) (step e ∷ []) []) k) (cond (F.available low k) (step k ∷ []) [])
      ∙ ap₂ (λ (x y : List ℕ). x ++ y) (all-steps k (omega arith)) (one-step k (omega arith))

  pub block-text : (label edges : ℕ) (reached : List ℕ) → label ≡ F.label low → edges ≡ F.edges → reached ≡ F.delays low
      → block_line (record { number = b; label = label; size = size_below list b (length list); delays = []; steps = [] })
      ++ (delay_line_of b (other_blocks list count b reached) ++ up_to (step_text_at list rows count b) edges)
      ≡ block_lines (block_record F list count b)
  block-text label edges reached el ee er =
      let head : ℕ → List ℕ =
      λ l. block_line (record { number = b; label = l; size = size_below list b (length list); delays = []; steps = [] }) in
      ap (λ (l : ℕ). head l ++ (delay_line_of b (other_blocks list count b reached) ++ up_to (step_text_at list rows count b) edges)) el
      ∙ ap (λ (r : List ℕ). head (F.label low) ++ (delay_line_of b (other_blocks list count b r) ++ up_to (step_text_at list rows count b)
      edges)) er
      ∙ ap (λ (k : ℕ). head (F.label low) ++ (delay_line_of b (other_blocks list count b (F.delays low)) ++ up_to
      (step_text_at list rows count b) k)) ee
      ∙ ap (λ (t : List ℕ). head (F.label low) ++ (delay_line_of b (other_blocks list count b (F.delays low)) ++ t))
      (sym (all-steps F.edges (omega arith)))

  -- How many are reached fits in the slice, and those are at its front.
  pub reached-front : (k : ℕ) → k ≡ length (F.delays low) → length delays' ≡ length delays → take k delays' ≡ F.delays low
  reached-front k e long =
      ap (λ (j : ℕ). take j delays') e
      ∙ ap (take (length (F.delays low))) alone.delays-are
      ∙ take_at (F.delays low) (drop (length (F.delays low)) delays) (length (F.delays low)) refl

  pub reached-few : (k : ℕ) → k ≡ length (F.delays low) → length delays' ≡ length delays → k ≤ length delays'
  reached-few k e long =
      let sum = ap length alone.delays-are ∙ length-append (F.delays low) (drop (length (F.delays low)) delays) in
      omega (arith, sum, e)

  pub few-rows : (edges : ℕ) → edges ≡ F.edges → (e : ℕ) → e < edges → get_or rows (32 * e) 0 ≡ 1 → get_or rows (32 * e + 3) 0 ≤ 8
  few-rows edges ee e h is =
      alone.few e (omega (arith, h, ee)) (alone.available e (omega (arith, h, ee)) ∙ eq-eqb (get_or rows (32 * e) 0) 1 is)

-- The same from what the layer beneath says of the lowest region, where the slices lent have room: it is seen.
module _ (table es list : List ℕ) (count b low : ℕ) (delays rowed : List ℕ) (answer : Result (Option Seen) Refusal)
    (below : b < count) (fewer : count ≤ length list) (few : length list ≤ max_entries) (long : entry_bytes * length list ≤ length es)
    (lowest : low ≡ lowest_of list b) (within : 0 < length list → low < length list)
    (wide : length delays ≡ 4097) (roomy : length rowed ≡ 4096)
    (shown : answer
    ≡ showing_of (is_seen (length list) low (length es) (length delays) (length rowed)) es (length list) low (read_table table)) where
  abbrev sees : Bool
  sees = is_seen (length list) low (length es) (length delays) (length rowed)

  lowest-seen : sees ≡ true
  lowest-seen =
      seen_here (length list) low (length es) (length delays) (length rowed) few (within (omega (arith, below, fewer)))
      long (omega (arith, few, wide)) (omega (arith, roomy))

  -- No other answer is given of a table that was read.
  pub never-refused : (m : Model) → read_table table ≡ accepted m → (r : Refusal) → answer ≡ Err r → ⊥
  never-refused m read r is =
      (item-seen m es (length list) low sees lowest-seen).0 r
      (sym is ∙ shown ∙ ap (λ (a : Answer). showing_of sees es (length list) low a) read)

  pub never-unseen : (m : Model) → read_table table ≡ accepted m → answer ≡ Ok None → ⊥
  never-unseen m read is =
      (item-seen m es (length list) low sees lowest-seen).1
      (sym is ∙ shown ∙ ap (λ (a : Answer). showing_of sees es (length list) low a) read)

  module _ (delays' rows : List ℕ) (kept : length delays' ≡ length delays)
      (told : (m : Model) → read_table table ≡ accepted m → sees ≡ true
      → Alone (graph m (listed es (length list))) low delays delays' rows)
      (seen : Seen) (is : answer ≡ Ok (Some seen)) where
    is-alone : (m : Model) → read_table table ≡ accepted m
        → Alone (graph m (listed es (length list))) (lowest_of list b) delays delays' rows
    is-alone m read =
        subst (λ (x : ℕ). Alone (graph m (listed es (length list))) x delays delays' rows) lowest (told m read lowest-seen)

    is-item : (m : Model) → read_table table ≡ accepted m → seen ≡ item_of (graph m (listed es (length list))) (lowest_of list b)
    is-item m read =
        item-shown m es (length list) low sees lowest-seen seen (sym is ∙ shown ∙ ap (showing_of sees es (length list) low) read)
        ∙ ap (item_of (graph m (listed es (length list)))) lowest

    some-model : (m : Model) × (read_table table ≡ accepted m)
    some-model = item-model table es (length list) low sees seen (sym is ∙ shown)

    pub lowest-reached : seen.reached ≤ length delays'
    lowest-reached =
        let (m, read) = some-model in
        reached-few (graph m (listed es (length list))) list count b delays delays' rows (is-alone m read) seen.reached
        (ap (λ (s : Seen). s.reached) (is-item m read)) kept

    pub lowest-edges : seen.edges ≤ 128
    lowest-edges =
        let (m, read) = some-model in
        omega (arith, ap (λ (s : Seen). s.edges) (is-item m read), (is-alone m read).few-edges)

    pub lowest-rows : (e : ℕ) → e < seen.edges → get_or rows (32 * e) 0 ≡ 1 → get_or rows (32 * e + 3) 0 ≤ 8
    lowest-rows =
        let (m, read) = some-model in
        few-rows (graph m (listed es (length list))) list count b delays delays' rows (is-alone m read) seen.edges
        (ap (λ (s : Seen). s.edges) (is-item m read))

    pub lowest-text : (m : Model) → read_table table ≡ accepted m
        → block_line (record { number = b; label = seen.label; size = size_below list b (length list); delays = []; steps = [] })
        ++ (delay_line_of b (other_blocks list count b (take seen.reached delays')) ++ up_to (step_text_at list rows count b) seen.edges)
        ≡ block_lines (block_record (graph m (listed es (length list))) list count b)
    lowest-text m read =
        let F : Finite = graph m (listed es (length list)) in
        let item = is-item m read in
        block-text F list count b delays delays' rows (is-alone m read) seen.label seen.edges (take seen.reached delays')
        (ap (λ (s : Seen). s.label) item) (ap (λ (s : Seen). s.edges) item)
        (reached-front F list count b delays delays' rows (is-alone m read) seen.reached (ap (λ (s : Seen). s.reached) item) kept)

-- ---- Which part

module _ (m : Model) (found : List Region) (list : List ℕ) (blocks : ℕ) where
  pub line-region : (n x : ℕ) → n ≡ length found → x < n → region_line (region_record m found list x) ≡ line_part m found list blocks x
  line-region n x e h = rw (lt-ltb x (length found) (omega (arith, e, h))) refl

  pub line-block : (n x b : ℕ) → n ≡ length found → (n ≤ x) × (b ≡ x - n) → b < blocks
      → block_lines (block_record (graph m found) list blocks b) ≡ line_part m found list blocks x
  line-block n x b e h less =
      let past : x - length found ≡ b = omega (arith, e, h.1) in
      ap (λ (k : ℕ). block_lines (block_record (graph m found) list blocks k)) (sym past)
      ∙ rw (le-ltb x (length found) (omega (arith, e, h.0)), lt-ltb (x - length found) blocks (omega (arith, past, less))) refl

  pub line-totals : (n x b : ℕ) → n ≡ length found → (n ≤ x) × (b ≡ x - n) → b ≡ blocks
      → totals_text (region_records m found list) (block_records m found list blocks) ≡ line_part m found list blocks x
  line-totals n x b e h same =
      rw (
        le-ltb x (length found) (omega (arith, e, h.0)),
        le-ltb (x - length found) blocks (omega (arith, e, h.1, same)),
        eq-eqb (x - length found) blocks (omega (arith, e, h.1, same)),
      ) refl

  pub line-end : (n x b : ℕ) → n ≡ length found → (n ≤ x) × (b ≡ x - n) → blocks < b → [] ≡ line_part m found list blocks x
  line-end n x b e h past =
      rw (
        le-ltb x (length found) (omega (arith, e, h.0)),
        le-ltb (x - length found) blocks (omega (arith, e, h.1, past)),
        ne_eqb (x - length found) blocks (λ same. omega (arith, e, h.1, past, same)),
      ) refl

  pub part-first : (n rounds part : ℕ) → n ≡ length found → part ≡ 0
      → first_line n blocks rounds ≡ part_text m found list blocks rounds part
  part-first n rounds part e z =
      ap (λ (k : ℕ). first_line k blocks rounds) e ∙ rw (eq-eqb part 0 z) refl

  pub part-line : (rounds part : ℕ) → (part ≡ 0 → ⊥) → line_part m found list blocks (part - 1) ≡ part_text m found list blocks rounds part
  part-line rounds part n = rw (ne_eqb part 0 n) refl

-- ---- Counts that what is lent can hold

module _ (regions blocks entries list : ℕ) where
  and_both : (x y : Bool) → x && y ≡ true → (x ≡ true) × (y ≡ true)
  and_both true y e = (refl, e)
  and_both false y e = absurd (false≢true e)

  pub borne-parts : is_borne regions blocks entries list ≡ true
      → (regions ≤ max_entries) × (entry_bytes * regions ≤ entries) × (regions ≤ list) × (blocks ≤ regions) × (0 < blocks)
  borne-parts e =
      let (a, s) = and_both (leb regions max_entries) _ e in
      let (b, t) = and_both (leb (entry_bytes * regions) entries) _ s in
      let (c, u) = and_both (leb regions list) _ t in
      let (z, d) = and_both (ltb 0 blocks) _ u in (
        leb-true regions max_entries a,
        leb-true (entry_bytes * regions) entries b,
        leb-true regions list c,
        leb-true blocks regions d,
        ltb-true 0 blocks z,
      )

-- ---- How long, and how many

pub fitted-fits : (text : List ℕ) (room : ℕ) → length text ≤ room → Fits (fitted text room)
fitted-fits [] room h = tt
fitted-fits (c ∷ l) room h = go (leb (length (c ∷ l)) room) (le-leb (length (c ∷ l)) room h)
  where
    go : (b : Bool) → b ≡ true → Fits (cond b (P.Written (length (c ∷ l))) (P.Short (length (c ∷ l))))
    go true e = tt
    go false e = absurd (false≢true e)

fitted-past : (text : List ℕ) (room : ℕ) → [] ≡ text → Past (fitted text room)
fitted-past text room e = subst (λ (l : List ℕ). Past (fitted l room)) e tt

-- From `most_parts` on there is no text.
past-text : (m : Model) (entries list : List ℕ) (regions blocks rounds part : ℕ) → most_parts ≤ part
    → [] ≡ text_from (accepted m) entries list regions blocks rounds part
past-text m entries list regions blocks rounds part h = go (is_borne regions blocks (length entries) (length list)) refl
  where
    go : (b : Bool) → is_borne regions blocks (length entries) (length list) ≡ b
        → [] ≡ cond b (part_text m (listed entries regions) (take regions list) blocks rounds part) []
    go true e =
        let (few, _, _, fewer, _) = borne-parts regions blocks (length entries) (length list) e in
        let n = listed-length entries regions in
        line-end m (listed entries regions) (take regions list) blocks regions (part - 1) (part - 1 - regions) (sym n)
        (omega (arith, few, h), refl) (omega (arith, few, fewer, h))
        ∙ part-line m (listed entries regions) (take regions list) blocks rounds part (omega (arith, h))
    go false e = refl

-- ---- The part call

from-fits : (a : Answer) (text : List ℕ) (room : ℕ) → length text ≤ room → IfOk (part_from a text room) Fits
from-fits (refusal reason place) text room h = tt
from-fits (accepted m) text room h = fitted-fits text room h

from_past : (a : Answer) (entries list : List ℕ) (regions blocks rounds part room : ℕ) → most_parts ≤ part
    → IfOk (part_from a (text_from a entries list regions blocks rounds part) room) Past
from_past (refusal reason place) entries list regions blocks rounds part room h = tt
from_past (accepted m) entries list regions blocks rounds part room h =
    fitted-past (text_from (accepted m) entries list regions blocks rounds part) room
    (past-text m entries list regions blocks rounds part h)

module _ (table entries list : List ℕ) (regions blocks rounds part : ℕ) (buffer : List ℕ) where
  -- Room and number of the parts follow from the answer and the length.
  pub parted : (answer : Result Part Refusal) (buffer' : List ℕ)
      → answer ≡ part_of table entries list regions blocks rounds part (length buffer)
      → buffer' ≡ buffer_after (text_of table entries list regions blocks rounds part) buffer
      → length (text_of table entries list regions blocks rounds part) ≤ most_bytes
      → Parted table entries list regions blocks rounds part buffer answer buffer'
  unfolding text_of part_of
  parted answer buffer' e f few =
      record {
        answer-is = e;
        buffer-is = f;
        enough = few;
        fits = λ h.
            subst (λ (a : Result Part Refusal). IfOk a Fits) (sym e)
            (from-fits (read_table table) (text_of table entries list regions blocks rounds part) (length buffer) (omega (arith, few, h)));
        past = λ h.
            subst (λ (a : Result Part Refusal). IfOk a Past) (sym e)
            (from_past (read_table table) entries list regions blocks rounds part (length buffer) h);
      }

  -- A text that is that of the part, of a table that was read.
  parted-from : (m : Model) → read_table table ≡ accepted m → (text : List ℕ)
      → text ≡ text_from (accepted m) entries list regions blocks rounds part → (answer : Part) (buffer' : List ℕ)
      → Gives text buffer answer buffer' → Parted table entries list regions blocks rounds part buffer (Ok answer) buffer'
  unfolding text_of part_of
  parted-from m read text e answer buffer' g =
      let is : text ≡ text_of table entries list regions blocks rounds part =
      e ∙ sym (ap (λ (a : Answer). text_from a entries list regions blocks rounds part) read) in
      parted (Ok answer) buffer'
      (ap Ok (g.answer-is ∙ ap (λ (l : List ℕ). fitted l (length buffer)) is)
      ∙ sym (ap (λ (a : Answer). part_from a (text_from (read_table table) entries list regions blocks rounds part) (length buffer)) read))
      (g.buffer-is ∙ ap (λ (l : List ℕ). buffer_after l buffer) is)
      (subst (λ (l : List ℕ). length l ≤ most_bytes) is g.enough)

  pub parted-read : (m : Model) → read_table table ≡ accepted m → is_borne regions blocks (length entries) (length list) ≡ true
      → (answer : Part) (buffer' : List ℕ)
      → Gives (part_text m (listed entries regions) (take regions list) blocks rounds part) buffer answer buffer'
      → Parted table entries list regions blocks rounds part buffer (Ok answer) buffer'
  parted-read m read borne answer buffer' g = parted-from m read _ (rw borne refl) answer buffer' g

  pub parted-not : (m : Model) → read_table table ≡ accepted m → is_borne regions blocks (length entries) (length list) ≡ false
      → Parted table entries list regions blocks rounds part buffer (Ok P.End) buffer
  parted-not m read out = parted-from m read [] (rw out refl) P.End buffer (gives-end buffer)

  pub parted-refused : (r : Refusal) → read_table table ≡ refusal r.reason r.place
      → Parted table entries list regions blocks rounds part buffer (Err r) buffer
  unfolding text_of part_of
  parted-refused r read =
      parted (Err r) buffer
      (sym (ap (λ (a : Answer). part_from a (text_from (read_table table) entries list regions blocks rounds part) (length buffer)) read))
      ((gives-end buffer).buffer-is
      ∙ sym (ap (λ (a : Answer). buffer_after (text_from a entries list regions blocks rounds part) buffer) read))
      (subst (λ (a : Answer). length (text_from a entries list regions blocks rounds part) ≤ most_bytes) (sym read) (omega arith))

-- ---- What an answer says was written is within the buffer

pub fitted-within : (text : List ℕ) (room : ℕ) → Within (fitted text room) room
fitted-within [] room = tt
fitted-within (c ∷ l) room = go (leb (length (c ∷ l)) room) refl
  where
    go : (b : Bool) → leb (length (c ∷ l)) room ≡ b
        → Within (cond b (P.Written (length (c ∷ l))) (P.Short (length (c ∷ l)))) room
    go true e = leb-true (length (c ∷ l)) room e
    go false e = tt

from-within : (a : Answer) (text : List ℕ) (room : ℕ) → IfOk (part_from a text room) (λ part. Within part room)
from-within (refusal reason place) text room = tt
from-within (accepted m) text room = fitted-within text room

pub parted-within : (table entries list : List ℕ) (regions blocks rounds part : ℕ) (buffer : List ℕ) (answer : Result Part Refusal)
    (buffer' : List ℕ) → Parted table entries list regions blocks rounds part buffer answer buffer'
    → IfOk answer (λ part. Within part (length buffer))
unfolding part_of
parted-within table entries list regions blocks rounds part buffer answer buffer' p =
    subst (λ (a : Result Part Refusal). IfOk a (λ part. Within part (length buffer))) (sym p.answer-is)
    (from-within (read_table table) (text_of table entries list regions blocks rounds part) (length buffer))
