-- The printed model (document 01, "The printed model"): records of the regions and blocks of a model, each line over them, and the
-- listing of a table, which closes with the totals (document 02, Job 1).
use Rattle.std.specs.Prelude.{ℕ, zero, suc, ◌+◌, Bool, false, cond, not, ◌&&◌, ◌||◌, List, [], ◌∷◌, ◌++◌, map, eqb, length, get_or}
use Rattle.partition.specs.Passed.{Model, Region, Branch, Finite, number, read_table, rounds, last_blocks, block_count}
use Rattle.partition.specs.Instances.{region_of, graph}
use Rattle.partition.specs.Calls.{after_graph}
use Rattle.text.specs.Text.{line_feed, plus, colon, above, blank, decimal, field, up_to, rising, each}
use Rattle.text.specs.Text.{regions_word, blocks_word, rounds_word, region_word, block_word}
use Rattle.text.specs.Text.{delay_word, step_word, refused_word, place_word}
use Rattle.rounding.specs.Rounding.{ten_thousandths}
use Rattle.totals.specs.Totals.{TotalRecord, totals_of, total_lines}

-- ---- Records

-- A clock of a region: integer part (16 for over) and rank.
pub record ClockRecord : Type 0 where
  pub whole : ℕ
  pub rank : ℕ

pub record RegionRecord : Type 0 where
  pub number : ℕ
  pub location : ℕ
  pub label : ℕ
  pub block : ℕ
  pub clocks : List ClockRecord

-- A block landed in, and its share: a weight over a denominator.
pub record ShareRecord : Type 0 where
  pub block : ℕ
  pub weight : ℕ
  pub denominator : ℕ

pub record StepRecord : Type 0 where
  pub action : ℕ
  pub shares : List ShareRecord

pub record BlockRecord : Type 0 where
  pub number : ℕ
  pub label : ℕ
  pub size : ℕ
  pub delays : List ℕ
  pub steps : List StepRecord

-- ---- Lines: "every line, a refusal's too, ends with a line feed"

-- "The first line gives N, the count of blocks and the count of rounds."
abbrev pub first_line : (regions blocks rounds : ℕ) → List ℕ
first_line regions blocks rounds =
    regions_word ++ (field regions ++ (blocks_word ++ (field blocks ++ (rounds_word ++ (field rounds ++ (line_feed ∷ []))))))

-- "Clocks (integer part, `+rank` if not 0, `>` for over)".
abbrev pub rank_text : ℕ → List ℕ
rank_text rank = cond (eqb rank 0) [] (plus ∷ decimal rank)

abbrev pub clock_field : ClockRecord → List ℕ
clock_field c = cond (eqb c.whole 16) (blank ∷ above ∷ []) (field c.whole ++ rank_text c.rank)

-- "`region`: number, location, block, clocks". (The label is not printed here; totals count by it.)
abbrev pub region_line : RegionRecord → List ℕ
region_line r =
    region_word
    ++ (field r.number ++ (field r.location ++ (field r.block ++ (each clock_field r.clocks ++ (line_feed ∷ [])))))

-- "`block`: number, label, size."
abbrev pub block_line : BlockRecord → List ℕ
block_line b = block_word ++ (field b.number ++ (field b.label ++ (field b.size ++ (line_feed ∷ []))))

-- "`delay`: block, then other blocks reached; left out if none."
abbrev pub delay_line_of : (number : ℕ) → List ℕ → List ℕ
delay_line_of number [] = []
delay_line_of number (c ∷ l) = delay_word ++ (field number ++ (each field (c ∷ l) ++ (line_feed ∷ [])))

-- "Then block:share in ten-thousandths", a share being rounded as `Rounded` of `crates/rounding` has it.
abbrev pub share_field : ShareRecord → List ℕ
share_field s = field s.block ++ (colon ∷ decimal (ten_thousandths s.weight s.denominator))

-- "`step`: block, action, then block:share .. for blocks landed in."
abbrev pub step_line : (number : ℕ) → StepRecord → List ℕ
step_line number s = step_word ++ (field number ++ (field s.action ++ (each share_field s.shares ++ (line_feed ∷ []))))

-- A refusal "prints `refused 5 place 0`".
abbrev pub refusal_line : (number place : ℕ) → List ℕ
refusal_line number place = refused_word ++ (field number ++ (place_word ++ (field place ++ (line_feed ∷ []))))

-- "For each block .. its `block` line, its `delay` line and its `step` lines."
abbrev pub block_lines : BlockRecord → List ℕ
block_lines b = block_line b ++ (delay_line_of b.number b.delays ++ each (step_line b.number) b.steps)

-- ---- The records of a graph, of which `list` has the block of each region and `count` says how many blocks there are

-- The lowest region of block b, looked for from x on; 0 where there is none (a choice of ours: every block of a call's list has one).
abbrev pub lowest_from : List ℕ → (b x more : ℕ) → ℕ
lowest_from list b x zero = 0
lowest_from list b x (suc more) = cond (eqb (get_or list x 0) b) x (lowest_from list b (suc x) more)

abbrev pub lowest_of : List ℕ → ℕ → ℕ
lowest_of list b = lowest_from list b 0 (length list)

-- How many of the first n regions are of block b.
abbrev pub size_below : List ℕ → (b n : ℕ) → ℕ
size_below list b zero = 0
size_below list b (suc n) = cond (eqb (get_or list n 0) b) (suc (size_below list b n)) (size_below list b n)

-- One of some regions is of block b. (A region that is not in the list counts as one of block 0, a choice of ours: no region of a graph
-- leads out of it.)
abbrev pub is_among : List ℕ → ℕ → List ℕ → Bool
is_among list b [] = false
is_among list b (x ∷ l) = eqb (get_or list x 0) b || is_among list b l

abbrev pub targets_of : List (Branch ℕ) → List ℕ
targets_of branches = map (λ b. b.target) branches

-- "The sum of the weights of branches landing in" a block.
abbrev pub weight_into : List ℕ → ℕ → List (Branch ℕ) → ℕ
weight_into list c [] = 0
weight_into list c (b ∷ l) = cond (eqb (get_or list b.target 0) c) (b.weight + weight_into list c l) (weight_into list c l)

-- "Other blocks reached", "blocks within a line rise". (Numbers from the count of blocks on are not named, a choice of ours: no call
-- leaves such.)
abbrev pub other_blocks : List ℕ → (count b : ℕ) → List ℕ → List ℕ
other_blocks list count b reached = rising (λ c. not (eqb c b) && is_among list c reached) count

-- "For blocks landed in", rising.
abbrev pub shares_of : List ℕ → (count denominator : ℕ) → List (Branch ℕ) → List ShareRecord
shares_of list count denominator branches =
    map (λ c. record { block = c; weight = weight_into list c branches; denominator = denominator })
    (rising (λ c. is_among list c (targets_of branches)) count)

abbrev pub step_of : List ℕ → (count action denominator : ℕ) → List (Branch ℕ) → StepRecord
step_of list count action denominator branches =
    record { action = action; shares = shares_of list count denominator branches }

-- "Delay and steps are those of the block's lowest region, one step line an available edge in table order". So is the label, which all
-- regions of a block share.
abbrev pub block_record : Finite → List ℕ → (count b : ℕ) → BlockRecord
block_record F list count b =
    record {
      number = b;
      label = F.label (lowest_of list b);
      size = size_below list b (length list);
      delays = other_blocks list count b (F.delays (lowest_of list b));
      steps = up_to (λ e.
          cond (F.available (lowest_of list b) e)
          (step_of list count (F.action (lowest_of list b) e) (F.whole (lowest_of list b) e) (F.branches (lowest_of list b) e) ∷ []) [])
          F.edges;
    }

-- The n clocks of a model at a region.
abbrev pub clocks_at : (n : ℕ) → Region → List ClockRecord
clocks_at n r = up_to (λ i. record { whole = get_or r.whole i 0; rank = get_or r.rank i 0 } ∷ []) n

-- A region as a record.
abbrev pub record_of : (number label block clocks : ℕ) → Region → RegionRecord
record_of number label block clocks r =
    record { number = number; location = r.location; label = label; block = block; clocks = clocks_at clocks r }

abbrev pub region_record : Model → List Region → List ℕ → ℕ → RegionRecord
region_record m found list x = record_of x ((graph m found).label x) (get_or list x 0) m.clocks (region_of m found x)

-- ---- The listing

abbrev pub region_records : Model → List Region → List ℕ → List RegionRecord
region_records m found list = up_to (λ x. region_record m found list x ∷ []) (length found)

abbrev pub block_records : Model → List Region → List ℕ → (blocks : ℕ) → List BlockRecord
block_records m found list blocks = up_to (λ b. block_record (graph m found) list blocks b ∷ []) blocks

-- The totals over the region and block records, by their labels: a record for each label that a region bears, and the text.
abbrev pub total_records : List RegionRecord → List BlockRecord → List TotalRecord
total_records regions blocks = totals_of (map (λ r. r.label) regions) (map (λ b. b.label) blocks)

abbrev pub totals_text : List RegionRecord → List BlockRecord → List ℕ
totals_text regions blocks = total_lines (map (λ r. r.label) regions) (map (λ b. b.label) blocks)

-- Of a model with its regions, their blocks and both counts: "the region lines in number order, then for each block in number order"
-- its lines; "after the listing" the totals.
abbrev pub printed : Model → List Region → List ℕ → (blocks rounds : ℕ) → List ℕ
printed m found list blocks rounds =
    first_line (length found) blocks rounds
    ++ (each region_line (region_records m found list)
    ++ (each block_lines (block_records m found list blocks) ++ totals_text (region_records m found list)
    (block_records m found list blocks)))

abbrev pub printed_graph : Model → List Region → List ℕ
printed_graph m found =
    printed m found (last_blocks (graph m found)) (block_count (graph m found) (rounds (graph m found))) (rounds (graph m found))

-- Of a table, with room for so many regions (at most 4,096, as `room_for` has it): a refusal's line, or the printed model.
unfoldable pub listing : (table : List ℕ) (cap : ℕ) → List ℕ
listing table cap = after_graph (λ reason place. refusal_line (number reason) place) printed_graph cap (read_table table)

-- "The program reads a table from standard input and lends 2,048 entries": what it prints.
abbrev pub program_listing : List ℕ → List ℕ
program_listing table = listing table 2048
