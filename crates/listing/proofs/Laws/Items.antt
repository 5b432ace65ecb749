-- A text that was put together, and one that is copied; whether counts can be those of what is lent; the record of an entry; and what is
-- said of an item that is seen: laws that stand for a reader of the definitions; the code needs none of them.
use Rattle.std.specs.Prelude.{ℕ, suc, ◌+◌, ◌*◌, ◌≤◌, ◌<◌, ◌≡◌, refl, true, false, leb, ltb, get_or, set, take, drop}
use Rattle.std.specs.Prelude.{Option, Some, Result, Ok}
use Rattle.std.proofs.Common.{arith, add-one, ◌∙◌, sym, ap, subst, length-take-le, take-suc, drop-cons, le-leb, le-ltb, lt-ltb}
use Rattle.std.proofs.Math.Seq.{length_front, append_snoc}
use Rattle.std.proofs.lemmas.List.{set_at}
use Rattle.std.proofs.lemmas.Bool.{lt-leb}
use mathlib.Core.List.{List, [], ◌++◌}
use Rattle.std.proofs.Math.ListN.{length}
use Rattle.partition.specs.Passed.{Model, Region, Finite, accepted, read_table, entry_bytes, max_entries, listed}
use Rattle.partition.specs.Passed.{Refusal, Seen}
use Rattle.partition.specs.Instances.{graph}
use Rattle.partition.specs.View.{entry_in, Alone, is_seen, item_of, showing_of}
use Rattle.partition.specs.Laws.View.{entry-small, item-shown, item-model}
use Rattle.text.specs.Text.{up_to}
use Rattle.text.specs.Writing.{Adds}
use Rattle.text.specs.Laws.Writing.{adds-all}
use Rattle.listing.specs.Printed.{RegionRecord, record_of, region_line, region_record, block_line, delay_line_of, other_blocks, lowest_of}
use Rattle.listing.specs.Printed.{size_below, block_record, block_lines}
use Rattle.listing.specs.Slices.{step_text_at}
use Rattle.listing.specs.Parts.{is_borne, fitted, buffer_after, most_bytes, Gives}
use Rattle.listing.specs.Laws.Lengths.{region-fits}
use Rattle.listing.specs.Laws.Parts as L
use Rattle.listing.specs.Laws.Parts.{block-text, reached-front, reached-few, few-rows, gives_same, lowest-text}
use Rattle.listing.specs.declared.parts.Part.{Part}

-- ---- A text that was put together

pub adds-within : {text text' : List ℕ} {k : ℕ} {bytes : List ℕ} → Adds text 0 text' k bytes → length bytes ≤ length text
    → k ≤ length text'
adds-within a room = omega (arith, (adds-all a room).0, room, a.as_long)

pub gives-text : {text text' : List ℕ} {k : ℕ} {bytes : List ℕ} → Adds text 0 text' k bytes → length bytes ≤ length text
    → length bytes ≤ most_bytes → (buffer : List ℕ) (answer : Part) (buffer' : List ℕ) → answer ≡ fitted (take k text') (length buffer)
    → buffer' ≡ buffer_after (take k text') buffer → Gives bytes buffer answer buffer'
gives-text a room most buffer answer buffer' e f =
    let is = (adds-all a room).1 in
    record {
      answer-is = e ∙ ap (λ (l : List ℕ). fitted l (length buffer)) is;
      buffer-is = f ∙ ap (λ (l : List ℕ). buffer_after l buffer) is;
      enough = most;
    }

-- The first i bytes of a text at the front of a buffer.

pub copied-length : (text buffer : List ℕ) (i : ℕ) → i ≤ length text → i ≤ length buffer
    → length (take i text ++ drop i buffer) ≡ length buffer
copied-length text buffer i p q =
    length_front buffer (take i text) i (length-take-le i text p ∙ sym (length-take-le i buffer q))

pub copied_on : (text buffer : List ℕ) (i : ℕ) → i < length text → i < length buffer
    → set (take i text ++ drop i buffer) i (get_or text i 0) ≡ take (i + 1) text ++ drop (i + 1) buffer
copied_on text buffer i p q =
    ap (λ (l : List ℕ). set (take i text ++ l) i (get_or text i 0)) (drop-cons buffer i 0 q)
    ∙ set_at (take i text) (get_or buffer i 0) (drop (suc i) buffer) (get_or text i 0) i (length-take-le i text (omega (arith, p)))
    ∙ sym (append_snoc (take i text) (get_or text i 0) (drop (suc i) buffer))
    ∙ ap (λ (l : List ℕ). l ++ drop (suc i) buffer) (sym (take-suc text i 0 p))
    ∙ ap (λ (k : ℕ). take k text ++ drop k buffer) (sym (add-one i))

-- ---- Whether counts can be those of what is lent, test by test

module _ (regions blocks entries list : ℕ) where
  pub borne-many : max_entries < regions → false ≡ is_borne regions blocks entries list
  borne-many h = rw (lt-leb regions max_entries h) refl

  module _ (a : regions ≤ max_entries) where
    pub borne-entries : entries < entry_bytes * regions → false ≡ is_borne regions blocks entries list
    borne-entries h = rw (le-leb regions max_entries a, lt-leb (entry_bytes * regions) entries h) refl

    module _ (b : entry_bytes * regions ≤ entries) where
      pub borne-list : list < regions → false ≡ is_borne regions blocks entries list
      borne-list h = rw (le-leb regions max_entries a, le-leb (entry_bytes * regions) entries b, lt-leb regions list h) refl

      module _ (c : regions ≤ list) where
        pub borne-none : blocks ≤ 0 → false ≡ is_borne regions blocks entries list
        borne-none h =
            rw (
              le-leb regions max_entries a,
              le-leb (entry_bytes * regions) entries b,
              le-leb regions list c,
              le-ltb 0 blocks h,
            ) refl

        pub borne-rest : 0 < blocks → leb blocks regions ≡ is_borne regions blocks entries list
        borne-rest h =
            rw (
              le-leb regions max_entries a,
              le-leb (entry_bytes * regions) entries b,
              le-leb regions list c,
              lt-ltb 0 blocks h,
            ) refl

-- ---- The line of a region, of an entry. The label is any, since the line does not print it.

abbrev pub entry_record : (x label block clocks : ℕ) → Region → RegionRecord
entry_record x label block clocks entry = record_of x label block clocks entry

pub region-room : (es : List ℕ) → ((k : ℕ) → get_or es k 0 < 256) → (x label block clocks : ℕ) (entry : Region) → entry ≡ entry_in es x
    → x < 18446744073709551616 → block < 18446744073709551616 → clocks ≤ 4
    → length (region_line (entry_record x label block clocks entry)) ≤ 256
region-room es small x label block clocks entry e hx hb few =
    let bytes = entry-small es small x in
    subst (λ (q : Region). length (region_line (entry_record x label block clocks q)) ≤ 256) (sym e)
    (region-fits x (entry_in es x).location block clocks (entry_in es x).whole (entry_in es x).rank hx (omega (arith, bytes.0)) hb few
    (λ i h. bytes.1 i) (λ i h. bytes.2 i) label)

pub region-text : (m : Model) (es list : List ℕ) (n x label block clocks : ℕ) (entry : Region) → entry ≡ entry_in es x → x < n
    → n ≤ max_entries → clocks ≡ m.clocks → block ≡ get_or list x 0
    → region_line (entry_record x label block clocks entry) ≡ region_line (region_record m (listed es n) list x)
region-text m es list n x label block clocks entry from h few same is =
    ap (λ (q : Region). region_line (record_of x label block clocks q)) from
    ∙ ap (λ (k : ℕ). region_line (record_of x label block k (entry_in es x))) same
    ∙ ap (λ (k : ℕ). region_line (record_of x 0 k m.clocks (entry_in es x))) is
    ∙ L.region-text m es list n x h few

-- ---- An item that is seen: the lowest region of a block

module _ (table es list : List ℕ) (n count b low wide rowed : ℕ) (lowest : low ≡ lowest_of list b) (delays delays' rows : List ℕ)
    (long : length delays' ≡ length delays) (seen : is_seen n low (length es) wide rowed ≡ true)
    (told : (m : Model) → read_table table ≡ accepted m → is_seen n low (length es) wide rowed ≡ true
    → Alone (graph m (listed es n)) low delays delays' rows)
    (item : Seen) (shown : Ok (Some item) ≡ showing_of (is_seen n low (length es) wide rowed) es n low (read_table table)) where
  is-alone : (m : Model) → read_table table ≡ accepted m → Alone (graph m (listed es n)) (lowest_of list b) delays delays' rows
  is-alone m read = subst (λ (x : ℕ). Alone (graph m (listed es n)) x delays delays' rows) lowest (told m read seen)

  is-item : (m : Model) → read_table table ≡ accepted m → item ≡ item_of (graph m (listed es n)) (lowest_of list b)
  is-item m read =
      item-shown m es n low (is_seen n low (length es) wide rowed) seen item
      (shown ∙ ap (showing_of (is_seen n low (length es) wide rowed) es n low) read)
      ∙ ap (item_of (graph m (listed es n))) lowest

  some-model : (m : Model) × (read_table table ≡ accepted m)
  some-model = item-model table es n low (is_seen n low (length es) wide rowed) item shown

  pub item-reached : item.reached ≤ length delays'
  item-reached =
      let (m, read) = some-model in
      reached-few (graph m (listed es n)) list count b delays delays' rows (is-alone m read) item.reached
      (ap (λ (s : Seen). s.reached) (is-item m read)) long

  pub item-edges : item.edges ≤ 128
  item-edges =
      let (m, read) = some-model in
      omega (arith, ap (λ (s : Seen). s.edges) (is-item m read), (is-alone m read).few-edges)

  pub item-rows : (e : ℕ) → e < item.edges → get_or rows (32 * e) 0 ≡ 1 → get_or rows (32 * e + 3) 0 ≤ 8
  item-rows =
      let (m, read) = some-model in
      few-rows (graph m (listed es n)) list count b delays delays' rows (is-alone m read) item.edges
      (ap (λ (s : Seen). s.edges) (is-item m read))

  pub item-text : (m : Model) → read_table table ≡ accepted m
      → block_line (record { number = b; label = item.label; size = size_below list b (length list); delays = []; steps = [] })
      ++ (delay_line_of b (other_blocks list count b (take item.reached delays')) ++ up_to (step_text_at list rows count b) item.edges)
      ≡ block_lines (block_record (graph m (listed es n)) list count b)
  item-text m read =
      let F : Finite = graph m (listed es n) in
      let is = is-item m read in
      block-text F list count b delays delays' rows (is-alone m read) item.label item.edges (take item.reached delays')
      (ap (λ (s : Seen). s.label) is) (ap (λ (s : Seen). s.edges) is)
      (reached-front F list count b delays delays' rows (is-alone m read) item.reached (ap (λ (s : Seen). s.reached) is) long)

-- The text of its lines, given to a buffer, is that of the block.
module _ (table es list : List ℕ) (count b low : ℕ) (delays rowed : List ℕ) (answer : Result (Option Seen) Refusal)
    (counts : (b < count) × (count ≤ length list) × (length list ≤ max_entries) × (entry_bytes * length list ≤ length es))
    (lowest : (low ≡ lowest_of list b) × (low ≤ length list) × (0 < length list → low < length list))
    (wide : length delays ≡ 4097) (long : length rowed ≡ 4096)
    (shown : answer
    ≡ showing_of (is_seen (length list) low (length es) (length delays) (length rowed)) es (length list) low (read_table table))
    (delays' rows : List ℕ) (kept : length delays' ≡ length delays)
    (told : (m : Model) → read_table table ≡ accepted m
    → is_seen (length list) low (length es) (length delays) (length rowed) ≡ true
    → Alone (graph m (listed es (length list))) low delays delays' rows)
    (item : Seen) (is : answer ≡ Ok (Some item)) where
  pub lowest-gives : (m : Model) → read_table table ≡ accepted m → (buffer : List ℕ) (part : Part) (buffer' : List ℕ)
      → Gives (block_line (record { number = b; label = item.label; size = size_below list b (length list); delays = []; steps = [] })
      ++ (delay_line_of b (other_blocks list count b (take item.reached delays')) ++ up_to (step_text_at list rows count b) item.edges))
      buffer part buffer'
      → Gives (block_lines (block_record (graph m (listed es (length list))) list count b)) buffer part buffer'
  lowest-gives m read buffer part buffer' g =
      gives_same buffer part buffer'
      (lowest-text table es list count b low delays rowed answer counts.0 counts.1 counts.2 counts.3 lowest.0 lowest.2 wide long shown
      delays' rows kept told item is m read) g
