-- The points that document 01 marks ★, one of them as document 02, Job 7, changes it, and the printed model with the totals of Job 1: each
-- row is a question to a definition that the contracts cite, and its answer, and `points-met` proves all rows. The example of "The printed
-- model" is among them, from its bytes to its text, so that what is proved of accepted tables is proved of something; and a row for each
-- refusal from 3 to 13, most of them at a record that meets a higher number too, so that their numbers, places and order stand here without
-- any stage or count. The rows of two small graphs show how regions are numbered. The bytes of the example, `printed`, and its model stand
-- in Example of the region layer.
use Rattle.std.specs.Prelude.{ℕ, zero, suc, ◌-◌, ◌≡◌, refl, Bool, true, false, List, [], ◌∷◌, get_or}
use Rattle.partition.specs.Passed as P
use Rattle.partition.specs.Passed.{Model, read_table, refusal, accepted, Reason, number, All, none, also}
use Rattle.table.specs.declared.refusals.Reason.TheVariants.{Missing, UnknownKind, CutShort, OutOfOrder, BadHeader, UnknownName}
use Rattle.table.specs.declared.refusals.Reason.TheVariants.{UnknownComparison, LargeConstant, BadWeight, TooMany, UnequalWeights}
use Rattle.table.specs.declared.refusals.Reason.TheVariants.{TrailingBytes}
use Rattle.partition.specs.Passed.{Cell, over, at, reset, cells, delay, State, placed, Bounds, Region, Outcome, whole, cut, outcome_of}
use Rattle.partition.specs.Passed.{Finite, alike, printed, printed_model}
use Rattle.partition.specs.Instances.{delays_from}
use Rattle.text.specs.Text.{decimal}
use Rattle.rounding.specs.Rounding.{ten_thousandths}
use Rattle.totals.specs.Totals.{TotalRecord, label_line, all_line}
use Rattle.listing.specs.Printed.{ShareRecord, share_field, listing}

pub data Point : Type 0 where
  -- The table is refused for this reason, which has this number, and with this place.
  refused : (table : List ℕ) → Reason → (n place : ℕ) → Point
  -- The table is read, as this model.
  read : (table : List ℕ) → Model → Point
  -- After these clocks of a region come those by delay.
  delayed : (before after : List Cell) → Point
  -- After these clocks come those by a reset of the mask.
  after_reset : (mask : ℕ) (before after : List Cell) → Point
  -- With these bounds the state lies in this region.
  lies : Bounds → State → Region → Point
  -- With room for so many regions the graph call comes to this: all regions, or the first of them, each with its number.
  graph : (table : List ℕ) (cap : ℕ) → Outcome → Point
  -- Whether a weight over its denominator is the same share as another.
  shares : (weight denominator weight' denominator' : ℕ) → Bool → Point
  -- A weight over its denominator is rounded to so many ten-thousandths.
  rounded : (weight denominator number : ℕ) → Point
  -- A share landed in has this text in its line.
  share_text : ShareRecord → (text : List ℕ) → Point
  -- A label's total has this line; and so many regions and blocks in all have this one.
  total_text : TotalRecord → (text : List ℕ) → Point
  all_text : (regions blocks : ℕ) (text : List ℕ) → Point
  -- With room for so many regions the listing of the table is this text.
  prints : (table : List ℕ) (cap : ℕ) (text : List ℕ) → Point

-- For the rows on shares: edges 0 and 1 of item 0 lead to it with a weight, and with the rest of the denominator to item 1.
abbrev two_edges : (weight denominator weight' denominator' : ℕ) → Finite
two_edges v d v' d' =
    record {
      size = 2;
      label = λ x. x;
      delays = λ x. x ∷ [];
      edges = 2;
      available = λ x e. true;
      action = λ x e. 0;
      whole = λ x e. get_or (d ∷ d' ∷ []) e 0;
      branches = λ x e.
          record { weight = get_or (v ∷ v' ∷ []) e 0; target = 0 }
          ∷ record { weight = get_or ((d - v) ∷ (d' - v') ∷ []) e 0; target = 1 } ∷ [];
    }

abbrev pub Met : Point → Type 0
Met (refused table reason n place) = (read_table table ≡ refusal reason place) × (number reason ≡ n)
Met (read table m) = read_table table ≡ accepted m
Met (delayed before after) = delay before ≡ cells after
Met (after_reset mask before after) = reset mask before ≡ after
Met (lies bounds s r) = placed bounds s ≡ r
Met (graph table cap out) = outcome_of table cap ≡ out
Met (shares v d v' d' answer) = alike (two_edges v d v' d') (0 ∷ 1 ∷ []) 0 0 0 1 ≡ answer
Met (rounded v d number) = ten_thousandths v d ≡ number
Met (share_text s text) = share_field s ≡ text
Met (total_text t text) = label_line t ≡ text
Met (all_text regions blocks text) = all_line regions blocks ≡ text
Met (prints table cap text) = listing table cap ≡ text

-- One location with label 0, and four clocks.
abbrev pub four_clocks : Model
four_clocks = record { clocks = 4; locations = 1; initial = 0; labels = 0 ∷ []; invariants = []; edges = [] }

-- One clock and one location, and after them other records, from place 6 on.
abbrev small : List ℕ → List ℕ
small rest = 1 ∷ 1 ∷ 1 ∷ 0 ∷ 2 ∷ 0 ∷ rest

-- The same with an edge at place 6 whose denominator is 2, and other records from place 11 on.
abbrev small_edge : List ℕ → List ℕ
small_edge rest = small (4 ∷ 0 ∷ 0 ∷ 2 ∷ 0 ∷ rest)

-- The guard atom x = 0, some times.
abbrev guard_times : ℕ → List ℕ
guard_times zero = []
guard_times (suc n) = 5 ∷ 0 ∷ 4 ∷ 0 ∷ guard_times n

-- One clock, and M = 1; location 0 with that clock at v/d; and with an integer part.
abbrev one_clock : Bounds
one_clock = record { count = 1; bound = 1 ∷ 1 ∷ 1 ∷ 1 ∷ [] }

abbrev clock_at : (v d : ℕ) → State
clock_at v d = record { location = 0; values = v ∷ []; denominator = d }

abbrev whole_at : ℕ → Region
whole_at w = record { location = 0; whole = w ∷ 0 ∷ 0 ∷ 0 ∷ []; rank = 0 ∷ 0 ∷ 0 ∷ 0 ∷ [] }

-- Four clocks, and M = 1; location 0 with them at values over 6.
abbrev sixths : (v₀ v₁ v₂ v₃ : ℕ) → State
sixths v₀ v₁ v₂ v₃ = record { location = 0; values = v₀ ∷ v₁ ∷ v₂ ∷ v₃ ∷ []; denominator = 6 }

-- Two locations, one clock, no constant, so that M is 0, and an edge from location 0 to location 1 that resets nothing.
abbrev delay_and_edge : List ℕ
delay_and_edge =
    1 ∷ 1 ∷ 2 ∷ 0
    ∷ 2 ∷ 0
    ∷ 2 ∷ 0
    ∷ 4 ∷ 0 ∷ 0 ∷ 1 ∷ 0
    ∷ 6 ∷ 1 ∷ 0 ∷ 1 ∷ 0
    ∷ 7 ∷ []

-- Five locations and no clock. Location 0 has an edge with branches to 3 and 2, and a later edge to 1; between them in the
-- table stands the edge of location 3, to 4.
abbrev edges_and_branches : List ℕ
edges_and_branches =
    1 ∷ 0 ∷ 5 ∷ 0
    ∷ 2 ∷ 0
    ∷ 2 ∷ 0
    ∷ 2 ∷ 0
    ∷ 2 ∷ 0
    ∷ 2 ∷ 0
    ∷ 4 ∷ 0 ∷ 0 ∷ 2 ∷ 0
    ∷ 6 ∷ 1 ∷ 0 ∷ 3 ∷ 0
    ∷ 6 ∷ 1 ∷ 0 ∷ 2 ∷ 0
    ∷ 4 ∷ 3 ∷ 0 ∷ 1 ∷ 0
    ∷ 6 ∷ 1 ∷ 0 ∷ 4 ∷ 0
    ∷ 4 ∷ 0 ∷ 0 ∷ 1 ∷ 0
    ∷ 6 ∷ 1 ∷ 0 ∷ 1 ∷ 0
    ∷ 7 ∷ []

-- Two locations and no clock. Four edges from location 0, each back to it and on to location 1: on with 1/20,000; with 3/20,000; with the
-- same by two branches, 1/20,000 and 2/20,000; and with 3/60,000.
abbrev halves : List ℕ
halves =
    1 ∷ 0 ∷ 2 ∷ 0
    ∷ 2 ∷ 1
    ∷ 2 ∷ 2
    ∷ 4 ∷ 0 ∷ 4 ∷ 32 ∷ 78
    ∷ 6 ∷ 1 ∷ 0 ∷ 1 ∷ 0
    ∷ 6 ∷ 31 ∷ 78 ∷ 0 ∷ 0
    ∷ 4 ∷ 0 ∷ 5 ∷ 32 ∷ 78
    ∷ 6 ∷ 3 ∷ 0 ∷ 1 ∷ 0
    ∷ 6 ∷ 29 ∷ 78 ∷ 0 ∷ 0
    ∷ 4 ∷ 0 ∷ 6 ∷ 32 ∷ 78
    ∷ 6 ∷ 1 ∷ 0 ∷ 1 ∷ 0
    ∷ 6 ∷ 29 ∷ 78 ∷ 0 ∷ 0
    ∷ 6 ∷ 2 ∷ 0 ∷ 1 ∷ 0
    ∷ 4 ∷ 0 ∷ 7 ∷ 96 ∷ 234
    ∷ 6 ∷ 3 ∷ 0 ∷ 1 ∷ 0
    ∷ 6 ∷ 93 ∷ 234 ∷ 0 ∷ 0
    ∷ 7 ∷ []

-- What is printed for it: weights are summed first, and a block landed in is named also with a share of 0.
abbrev halves_text : List ℕ
halves_text =
    -- `regions 2 blocks 2 rounds 0`
    114 ∷ 101 ∷ 103 ∷ 105 ∷ 111 ∷ 110 ∷ 115 ∷ 32 ∷ 50
    ∷ 32 ∷ 98 ∷ 108 ∷ 111 ∷ 99 ∷ 107 ∷ 115 ∷ 32 ∷ 50 ∷ 32 ∷ 114 ∷ 111 ∷ 117 ∷ 110 ∷ 100 ∷ 115 ∷ 32 ∷ 48 ∷ 10
    -- `region 0 0 0`
    ∷ 114 ∷ 101 ∷ 103 ∷ 105 ∷ 111 ∷ 110 ∷ 32 ∷ 48 ∷ 32 ∷ 48 ∷ 32 ∷ 48 ∷ 10
    -- `region 1 1 1`
    ∷ 114 ∷ 101 ∷ 103 ∷ 105 ∷ 111 ∷ 110 ∷ 32 ∷ 49 ∷ 32 ∷ 49 ∷ 32 ∷ 49 ∷ 10
    -- `block 0 1 1`
    ∷ 98 ∷ 108 ∷ 111 ∷ 99 ∷ 107 ∷ 32 ∷ 48 ∷ 32 ∷ 49 ∷ 32 ∷ 49 ∷ 10
    -- `step 0 4 0:10000 1:0`
    ∷ 115 ∷ 116 ∷ 101 ∷ 112 ∷ 32 ∷ 48 ∷ 32 ∷ 52 ∷ 32 ∷ 48 ∷ 58 ∷ 49 ∷ 48 ∷ 48 ∷ 48 ∷ 48 ∷ 32 ∷ 49 ∷ 58 ∷ 48 ∷ 10
    -- `step 0 5 0:9998 1:2`
    ∷ 115 ∷ 116 ∷ 101 ∷ 112 ∷ 32 ∷ 48 ∷ 32 ∷ 53 ∷ 32 ∷ 48 ∷ 58 ∷ 57 ∷ 57 ∷ 57 ∷ 56 ∷ 32 ∷ 49 ∷ 58 ∷ 50 ∷ 10
    -- `step 0 6 0:9998 1:2`
    ∷ 115 ∷ 116 ∷ 101 ∷ 112 ∷ 32 ∷ 48 ∷ 32 ∷ 54 ∷ 32 ∷ 48 ∷ 58 ∷ 57 ∷ 57 ∷ 57 ∷ 56 ∷ 32 ∷ 49 ∷ 58 ∷ 50 ∷ 10
    -- `step 0 7 0:10000 1:0`
    ∷ 115 ∷ 116 ∷ 101 ∷ 112 ∷ 32 ∷ 48 ∷ 32 ∷ 55 ∷ 32 ∷ 48 ∷ 58 ∷ 49 ∷ 48 ∷ 48 ∷ 48 ∷ 48 ∷ 32 ∷ 49 ∷ 58 ∷ 48 ∷ 10
    -- `block 1 2 1`
    ∷ 98 ∷ 108 ∷ 111 ∷ 99 ∷ 107 ∷ 32 ∷ 49 ∷ 32 ∷ 50 ∷ 32 ∷ 49 ∷ 10
    -- `label 1 regions 1 blocks 1`
    ∷ 108 ∷ 97 ∷ 98 ∷ 101 ∷ 108 ∷ 32 ∷ 49 ∷ 32 ∷ 114 ∷ 101 ∷ 103 ∷ 105 ∷ 111 ∷ 110 ∷ 115 ∷ 32 ∷ 49 ∷ 32 ∷ 98 ∷ 108 ∷ 111 ∷ 99 ∷ 107
    ∷ 115 ∷ 32 ∷ 49 ∷ 10
    -- `label 2 regions 1 blocks 1`
    ∷ 108 ∷ 97 ∷ 98 ∷ 101 ∷ 108 ∷ 32 ∷ 50 ∷ 32 ∷ 114 ∷ 101 ∷ 103 ∷ 105 ∷ 111 ∷ 110 ∷ 115 ∷ 32 ∷ 49 ∷ 32 ∷ 98 ∷ 108 ∷ 111 ∷ 99 ∷ 107
    ∷ 115 ∷ 32 ∷ 49 ∷ 10
    -- `all regions 2 blocks 2`
    ∷ 97 ∷ 108 ∷ 108 ∷ 32 ∷ 114 ∷ 101 ∷ 103 ∷ 105 ∷ 111 ∷ 110 ∷ 115 ∷ 32 ∷ 50 ∷ 32 ∷ 98 ∷ 108 ∷ 111 ∷ 99 ∷ 107 ∷ 115 ∷ 32 ∷ 50 ∷ 10 ∷ []

-- Four locations and no clock, with labels 255, 0, 7 and 255. An edge leads from location 0 to 1 and one from 1 to 3; none leads to 2.
abbrev labelled : List ℕ
labelled =
    1 ∷ 0 ∷ 4 ∷ 0
    ∷ 2 ∷ 255
    ∷ 2 ∷ 0
    ∷ 2 ∷ 7
    ∷ 2 ∷ 255
    ∷ 4 ∷ 0 ∷ 0 ∷ 1 ∷ 0
    ∷ 6 ∷ 1 ∷ 0 ∷ 1 ∷ 0
    ∷ 4 ∷ 1 ∷ 0 ∷ 1 ∷ 0
    ∷ 6 ∷ 1 ∷ 0 ∷ 3 ∷ 0
    ∷ 7 ∷ []

-- What is printed for it: labels rise in the totals, 0 and 255 have a line, and 7, which no region bears, has none.
abbrev labelled_text : List ℕ
labelled_text =
    -- `regions 3 blocks 3 rounds 1`
    114 ∷ 101 ∷ 103 ∷ 105 ∷ 111 ∷ 110 ∷ 115 ∷ 32 ∷ 51 ∷ 32 ∷ 98 ∷ 108 ∷ 111 ∷ 99 ∷ 107 ∷ 115 ∷ 32 ∷ 51 ∷ 32 ∷ 114 ∷ 111 ∷ 117 ∷ 110
    ∷ 100 ∷ 115 ∷ 32 ∷ 49 ∷ 10
    -- `region 0 0 0`
    ∷ 114 ∷ 101 ∷ 103 ∷ 105 ∷ 111 ∷ 110 ∷ 32 ∷ 48 ∷ 32 ∷ 48 ∷ 32 ∷ 48 ∷ 10
    -- `region 1 1 1`
    ∷ 114 ∷ 101 ∷ 103 ∷ 105 ∷ 111 ∷ 110 ∷ 32 ∷ 49 ∷ 32 ∷ 49 ∷ 32 ∷ 49 ∷ 10
    -- `region 2 3 2`
    ∷ 114 ∷ 101 ∷ 103 ∷ 105 ∷ 111 ∷ 110 ∷ 32 ∷ 50 ∷ 32 ∷ 51 ∷ 32 ∷ 50 ∷ 10
    -- `block 0 255 1`
    ∷ 98 ∷ 108 ∷ 111 ∷ 99 ∷ 107 ∷ 32 ∷ 48 ∷ 32 ∷ 50 ∷ 53 ∷ 53 ∷ 32 ∷ 49 ∷ 10
    -- `step 0 0 1:10000`
    ∷ 115 ∷ 116 ∷ 101 ∷ 112 ∷ 32 ∷ 48 ∷ 32 ∷ 48 ∷ 32 ∷ 49 ∷ 58 ∷ 49 ∷ 48 ∷ 48 ∷ 48 ∷ 48 ∷ 10
    -- `block 1 0 1`
    ∷ 98 ∷ 108 ∷ 111 ∷ 99 ∷ 107 ∷ 32 ∷ 49 ∷ 32 ∷ 48 ∷ 32 ∷ 49 ∷ 10
    -- `step 1 0 2:10000`
    ∷ 115 ∷ 116 ∷ 101 ∷ 112 ∷ 32 ∷ 49 ∷ 32 ∷ 48 ∷ 32 ∷ 50 ∷ 58 ∷ 49 ∷ 48 ∷ 48 ∷ 48 ∷ 48 ∷ 10
    -- `block 2 255 1`
    ∷ 98 ∷ 108 ∷ 111 ∷ 99 ∷ 107 ∷ 32 ∷ 50 ∷ 32 ∷ 50 ∷ 53 ∷ 53 ∷ 32 ∷ 49 ∷ 10
    -- `label 0 regions 1 blocks 1`
    ∷ 108 ∷ 97 ∷ 98 ∷ 101 ∷ 108 ∷ 32 ∷ 48 ∷ 32 ∷ 114 ∷ 101 ∷ 103 ∷ 105 ∷ 111 ∷ 110 ∷ 115 ∷ 32 ∷ 49 ∷ 32 ∷ 98 ∷ 108 ∷ 111 ∷ 99 ∷ 107
    ∷ 115 ∷ 32 ∷ 49 ∷ 10
    -- `label 255 regions 2 blocks 2`
    ∷ 108 ∷ 97 ∷ 98 ∷ 101 ∷ 108 ∷ 32 ∷ 50 ∷ 53 ∷ 53 ∷ 32 ∷ 114 ∷ 101 ∷ 103 ∷ 105 ∷ 111 ∷ 110 ∷ 115 ∷ 32 ∷ 50 ∷ 32 ∷ 98 ∷ 108 ∷ 111 ∷ 99
    ∷ 107 ∷ 115 ∷ 32 ∷ 50 ∷ 10
    -- `all regions 3 blocks 3`
    ∷ 97 ∷ 108 ∷ 108 ∷ 32 ∷ 114 ∷ 101 ∷ 103 ∷ 105 ∷ 111 ∷ 110 ∷ 115 ∷ 32 ∷ 51 ∷ 32 ∷ 98 ∷ 108 ∷ 111 ∷ 99 ∷ 107 ∷ 115 ∷ 32 ∷ 51 ∷ 10 ∷ []

-- One location with label 255, no clock and no edge; and what is printed for it: `all` is there for one label too.
abbrev alone : List ℕ
alone = 1 ∷ 0 ∷ 1 ∷ 0 ∷ 2 ∷ 255 ∷ 7 ∷ []

abbrev alone_text : List ℕ
alone_text =
    -- `regions 1 blocks 1 rounds 0`
    114 ∷ 101 ∷ 103 ∷ 105 ∷ 111 ∷ 110 ∷ 115 ∷ 32 ∷ 49 ∷ 32 ∷ 98 ∷ 108 ∷ 111 ∷ 99 ∷ 107 ∷ 115 ∷ 32 ∷ 49 ∷ 32 ∷ 114 ∷ 111 ∷ 117 ∷ 110
    ∷ 100 ∷ 115 ∷ 32 ∷ 48 ∷ 10
    -- `region 0 0 0`
    ∷ 114 ∷ 101 ∷ 103 ∷ 105 ∷ 111 ∷ 110 ∷ 32 ∷ 48 ∷ 32 ∷ 48 ∷ 32 ∷ 48 ∷ 10
    -- `block 0 255 1`
    ∷ 98 ∷ 108 ∷ 111 ∷ 99 ∷ 107 ∷ 32 ∷ 48 ∷ 32 ∷ 50 ∷ 53 ∷ 53 ∷ 32 ∷ 49 ∷ 10
    -- `label 255 regions 1 blocks 1`
    ∷ 108 ∷ 97 ∷ 98 ∷ 101 ∷ 108 ∷ 32 ∷ 50 ∷ 53 ∷ 53 ∷ 32 ∷ 114 ∷ 101 ∷ 103 ∷ 105 ∷ 111 ∷ 110 ∷ 115 ∷ 32 ∷ 49 ∷ 32 ∷ 98 ∷ 108 ∷ 111 ∷ 99
    ∷ 107 ∷ 115 ∷ 32 ∷ 49 ∷ 10
    -- `all regions 1 blocks 1`
    ∷ 97 ∷ 108 ∷ 108 ∷ 32 ∷ 114 ∷ 101 ∷ 103 ∷ 105 ∷ 111 ∷ 110 ∷ 115 ∷ 32 ∷ 49 ∷ 32 ∷ 98 ∷ 108 ∷ 111 ∷ 99 ∷ 107 ∷ 115 ∷ 32 ∷ 49 ∷ 10 ∷ []

-- A location, and clock 0 with an integer part and rank 0; with rank 1.
abbrev region : (location part : ℕ) → Region
region location part = record { location = location; whole = part ∷ 0 ∷ 0 ∷ 0 ∷ []; rank = 0 ∷ 0 ∷ 0 ∷ 0 ∷ [] }

abbrev between : (location part : ℕ) → Region
between location part = record { location = location; whole = part ∷ 0 ∷ 0 ∷ 0 ∷ []; rank = 1 ∷ 0 ∷ 0 ∷ 0 ∷ [] }

-- What document 01 has the program print for the printed model, line by line, and the totals of document 02, Job 1.
abbrev printed_text : List ℕ
printed_text =
    -- `regions 5 blocks 3 rounds 1`
    114 ∷ 101 ∷ 103 ∷ 105 ∷ 111 ∷ 110 ∷ 115 ∷ 32 ∷ 53
    ∷ 32 ∷ 98 ∷ 108 ∷ 111 ∷ 99 ∷ 107 ∷ 115 ∷ 32 ∷ 51 ∷ 32 ∷ 114 ∷ 111 ∷ 117 ∷ 110 ∷ 100 ∷ 115 ∷ 32 ∷ 49 ∷ 10
    -- `region 0 0 0 0`
    ∷ 114 ∷ 101 ∷ 103 ∷ 105 ∷ 111 ∷ 110 ∷ 32 ∷ 48 ∷ 32 ∷ 48 ∷ 32 ∷ 48 ∷ 32 ∷ 48 ∷ 10
    -- `region 1 0 0 0+1`
    ∷ 114 ∷ 101 ∷ 103 ∷ 105 ∷ 111 ∷ 110 ∷ 32 ∷ 49 ∷ 32 ∷ 48 ∷ 32 ∷ 48 ∷ 32 ∷ 48 ∷ 43 ∷ 49 ∷ 10
    -- `region 2 0 1 1`
    ∷ 114 ∷ 101 ∷ 103 ∷ 105 ∷ 111 ∷ 110 ∷ 32 ∷ 50 ∷ 32 ∷ 48 ∷ 32 ∷ 49 ∷ 32 ∷ 49 ∷ 10
    -- `region 3 1 2 1`
    ∷ 114 ∷ 101 ∷ 103 ∷ 105 ∷ 111 ∷ 110 ∷ 32 ∷ 51 ∷ 32 ∷ 49 ∷ 32 ∷ 50 ∷ 32 ∷ 49 ∷ 10
    -- `region 4 1 2 >`
    ∷ 114 ∷ 101 ∷ 103 ∷ 105 ∷ 111 ∷ 110 ∷ 32 ∷ 52 ∷ 32 ∷ 49 ∷ 32 ∷ 50 ∷ 32 ∷ 62 ∷ 10
    -- `block 0 5 2`
    ∷ 98 ∷ 108 ∷ 111 ∷ 99 ∷ 107 ∷ 32 ∷ 48 ∷ 32 ∷ 53 ∷ 32 ∷ 50 ∷ 10
    -- `delay 0 1`
    ∷ 100 ∷ 101 ∷ 108 ∷ 97 ∷ 121 ∷ 32 ∷ 48 ∷ 32 ∷ 49 ∷ 10
    -- `block 1 5 1`
    ∷ 98 ∷ 108 ∷ 111 ∷ 99 ∷ 107 ∷ 32 ∷ 49 ∷ 32 ∷ 53 ∷ 32 ∷ 49 ∷ 10
    -- `step 1 3 0:6667 2:3333`
    ∷ 115 ∷ 116 ∷ 101 ∷ 112 ∷ 32 ∷ 49 ∷ 32 ∷ 51 ∷ 32 ∷ 48 ∷ 58 ∷ 54 ∷ 54 ∷ 54 ∷ 55 ∷ 32 ∷ 50 ∷ 58 ∷ 51 ∷ 51 ∷ 51 ∷ 51 ∷ 10
    -- `block 2 9 2`
    ∷ 98 ∷ 108 ∷ 111 ∷ 99 ∷ 107 ∷ 32 ∷ 50 ∷ 32 ∷ 57 ∷ 32 ∷ 50 ∷ 10
    -- `label 5 regions 3 blocks 2`
    ∷ 108 ∷ 97 ∷ 98 ∷ 101 ∷ 108 ∷ 32 ∷ 53 ∷ 32 ∷ 114 ∷ 101 ∷ 103 ∷ 105 ∷ 111 ∷ 110 ∷ 115 ∷ 32 ∷ 51 ∷ 32 ∷ 98 ∷ 108 ∷ 111 ∷ 99 ∷ 107
    ∷ 115 ∷ 32 ∷ 50 ∷ 10
    -- `label 9 regions 2 blocks 1`
    ∷ 108 ∷ 97 ∷ 98 ∷ 101 ∷ 108 ∷ 32 ∷ 57 ∷ 32 ∷ 114 ∷ 101 ∷ 103 ∷ 105 ∷ 111 ∷ 110 ∷ 115 ∷ 32 ∷ 50 ∷ 32 ∷ 98 ∷ 108 ∷ 111 ∷ 99 ∷ 107
    ∷ 115 ∷ 32 ∷ 49 ∷ 10
    -- `all regions 5 blocks 3`
    ∷ 97 ∷ 108 ∷ 108 ∷ 32 ∷ 114 ∷ 101 ∷ 103 ∷ 105 ∷ 111 ∷ 110 ∷ 115 ∷ 32 ∷ 53 ∷ 32 ∷ 98 ∷ 108 ∷ 111 ∷ 99 ∷ 107 ∷ 115 ∷ 32 ∷ 51 ∷ 10 ∷ []

-- `refused 2 place 0` and `refused 5 place 0`: they differ by the number's sign.
abbrev refused_text : (sign : ℕ) → List ℕ
refused_text sign =
    114 ∷ 101 ∷ 102 ∷ 117 ∷ 115 ∷ 101 ∷ 100 ∷ 32 ∷ sign
    ∷ 32 ∷ 112 ∷ 108 ∷ 97 ∷ 99 ∷ 101 ∷ 32 ∷ 48 ∷ 10 ∷ []

abbrev pub points : List Point
points =
    -- "Empty table: 2 at place 0."
    refused [] Missing 2 0
    -- "The one byte 07: 5 at 0."
    ∷ refused (7 ∷ []) OutOfOrder 5 0
    -- "Header of 5 clocks: 6; of 4: read on": here to the place of the next record, and to the end.
    ∷ refused (1 ∷ 5 ∷ 1 ∷ 0 ∷ []) BadHeader 6 0
    ∷ refused (1 ∷ 4 ∷ 1 ∷ 0 ∷ []) Missing 2 4
    ∷ read (1 ∷ 4 ∷ 1 ∷ 0 ∷ 2 ∷ 0 ∷ 7 ∷ []) four_clocks
    -- The printed model.
    ∷ read printed printed_model
    -- 3: kind 8, and kind 0 where a location should stand.
    ∷ refused (8 ∷ []) UnknownKind 3 0
    ∷ refused (1 ∷ 1 ∷ 1 ∷ 0 ∷ 0 ∷ []) UnknownKind 3 4
    -- 4 and not 5: a guard atom with no edge, cut.
    ∷ refused (5 ∷ []) CutShort 4 0
    -- 5: a location too many.
    ∷ refused (small (2 ∷ 0 ∷ [])) OutOfOrder 5 6
    -- 7 and not 10: mask bit 1 with one clock, in a branch of weight 0.
    ∷ refused (small_edge (6 ∷ 0 ∷ 0 ∷ 0 ∷ 2 ∷ [])) UnknownName 7 11
    -- 8 and not 9: comparison 5 with constant 16.
    ∷ refused (small_edge (5 ∷ 0 ∷ 5 ∷ 16 ∷ [])) UnknownComparison 8 11
    -- 9: constant 16 in an invariant atom.
    ∷ refused (small (3 ∷ 0 ∷ 0 ∷ 1 ∷ 16 ∷ [])) LargeConstant 9 6
    -- 10 and not 12: an edge with W = 0 after an edge whose weights do not sum to W.
    ∷ refused (small_edge (4 ∷ 0 ∷ 0 ∷ 0 ∷ 0 ∷ [])) BadWeight 10 11
    -- 11: the ninth guard atom.
    ∷ refused (small_edge (guard_times 9)) TooMany 11 43
    -- 12 at the finished edge: by the next edge, and, not 13, by the end.
    ∷ refused (small_edge (6 ∷ 1 ∷ 0 ∷ 0 ∷ 0 ∷ 4 ∷ 0 ∷ 0 ∷ 1 ∷ 0 ∷ [])) UnequalWeights 12 6
    ∷ refused (small_edge (6 ∷ 3 ∷ 0 ∷ 0 ∷ 0 ∷ 7 ∷ 0 ∷ [])) UnequalWeights 12 6
    -- 13 at the first byte after the end.
    ∷ refused (small (7 ∷ 0 ∷ [])) TrailingBytes 13 7
    -- "M = 1: clock at 1 becomes over."
    ∷ delayed (at 1 1 0 ∷ []) (over 1 ∷ [])
    -- "M = 1, x between 0 and 1, y = 0: next y has rank 1, x rank 2."
    ∷ delayed (at 1 0 1 ∷ at 1 0 0 ∷ []) (at 1 0 2 ∷ at 1 0 1 ∷ [])
    -- "After that x = 1 with rank 0, y rank 1."
    ∷ delayed (at 1 0 2 ∷ at 1 0 1 ∷ []) (at 1 1 0 ∷ at 1 0 1 ∷ [])
    -- "Ranks x 1, y 2; reset x: y has rank 1."
    ∷ after_reset 1 (at 1 0 1 ∷ at 1 0 2 ∷ []) (at 1 0 0 ∷ at 1 0 1 ∷ [])
    -- "Value 2/2 is integer part 1, rank 0; 3/2 with M = 1 is over."
    ∷ lies one_clock (clock_at 2 2) (whole_at 1)
    ∷ lies one_clock (clock_at 3 2) (whole_at 16)
    -- Equal fractions have one rank, and an over clock has none: 5/6, 2/6, 9/6, 2/6.
    ∷ lies (record { count = 4; bound = 1 ∷ 1 ∷ 1 ∷ 1 ∷ [] }) (sixths 5 2 9 2)
    (record { location = 0; whole = 0 ∷ 0 ∷ 16 ∷ 0 ∷ []; rank = 2 ∷ 1 ∷ 0 ∷ 1 ∷ [] })
    -- "Its delay region first, then its available edges": 1 is by the delay of region 0, 2 by its edge, 3 by the edge of 1.
    ∷ graph delay_and_edge 4 (whole (region 0 0 ∷ region 0 16 ∷ region 1 0 ∷ region 1 16 ∷ []))
    -- "15 leaves the first regions."
    ∷ graph delay_and_edge 2 (cut (region 0 0 ∷ region 0 16 ∷ []))
    -- "In table order, branches in order", and "regions are then taken in number order": all that region 0 leads to comes
    -- before what region 1 leads to.
    ∷ graph edges_and_branches 5 (whole (region 0 0 ∷ region 3 0 ∷ region 2 0 ∷ region 1 0 ∷ region 4 0 ∷ []))
    -- "The model above with 5 entries is accepted; with 4 it gets 15 and four regions."
    ∷ graph printed 5 (whole (region 0 0 ∷ between 0 0 ∷ region 0 1 ∷ region 1 1 ∷ region 1 16 ∷ []))
    ∷ graph printed 4 (cut (region 0 0 ∷ between 0 0 ∷ region 0 1 ∷ region 1 1 ∷ []))
    -- "1/3 and 2/6 are equal shares; 3,333/10,000 is not 1/3."
    ∷ shares 1 3 2 6 true
    ∷ shares 1 3 3333 10000 false
    -- "1/20,000 prints 0 .. and 3/20,000 prints 2" (document 02, Job 7): exact halves, as 5/20,000 is, and what is next to them.
    ∷ rounded 1 20000 0
    ∷ rounded 3 20000 2
    ∷ rounded 5 20000 2
    ∷ rounded 1 19999 1
    ∷ rounded 1 20001 0
    ∷ rounded 3 19999 2
    ∷ rounded 3 20001 1
    ∷ share_text (record { block = 0; weight = 1; denominator = 20000 }) (32 ∷ 48 ∷ 58 ∷ 48 ∷ [])
    ∷ share_text (record { block = 0; weight = 3; denominator = 20000 }) (32 ∷ 48 ∷ 58 ∷ 50 ∷ [])
    ∷ prints halves 2048 halves_text
    -- The shares of the printed model's step, ` 0:6667` and ` 2:3333`.
    ∷ rounded 2 3 6667
    ∷ rounded 1 3 3333
    ∷ share_text (record { block = 0; weight = 2; denominator = 3 }) (32 ∷ 48 ∷ 58 ∷ 54 ∷ 54 ∷ 54 ∷ 55 ∷ [])
    ∷ share_text (record { block = 2; weight = 1; denominator = 3 }) (32 ∷ 50 ∷ 58 ∷ 51 ∷ 51 ∷ 51 ∷ 51 ∷ [])
    -- "For hex .. it prints ..", with 2,048 entries lent.
    ∷ prints printed 2048 printed_text
    -- "For each label that a reached region bears, labels rising" (document 02, Job 1).
    ∷ prints labelled 2048 labelled_text
    ∷ prints alone 2048 alone_text
    -- `label 254 regions 4096 blocks 1023`, and `all regions 4096 blocks 1023`.
    ∷ total_text (record { label = 254; regions = 4096; blocks = 1023 })
    (108 ∷ 97 ∷ 98 ∷ 101 ∷ 108 ∷ 32 ∷ 50 ∷ 53 ∷ 52 ∷ 32 ∷ 114 ∷ 101 ∷ 103 ∷ 105 ∷ 111 ∷ 110 ∷ 115 ∷ 32 ∷ 52 ∷ 48 ∷ 57 ∷ 54 ∷ 32 ∷ 98
    ∷ 108 ∷ 111 ∷ 99 ∷ 107 ∷ 115 ∷ 32 ∷ 49 ∷ 48 ∷ 50 ∷ 51 ∷ 10 ∷ [])
    ∷ all_text 4096 1023
    (97 ∷ 108 ∷ 108 ∷ 32 ∷ 114 ∷ 101 ∷ 103 ∷ 105 ∷ 111 ∷ 110 ∷ 115 ∷ 32 ∷ 52 ∷ 48 ∷ 57 ∷ 54 ∷ 32 ∷ 98 ∷ 108 ∷ 111 ∷ 99 ∷ 107 ∷ 115 ∷ 32
    ∷ 49 ∷ 48 ∷ 50 ∷ 51 ∷ 10 ∷ [])
    -- "A refusal prints `refused 5 place 0`": so of the one byte 07, and the empty table is refused with 2.
    ∷ prints (7 ∷ []) 2048 (refused_text 53)
    ∷ prints [] 2048 (refused_text 50)
    ∷ []

-- All points are met.
pub points-met : All Met points
unfolding P.body_length P.body_lengths P.record_of P.body_at P.record_at P.past P.rows_of P.next_step P.step_at P.item_at P.run P.run_table
    P.add P.gather P.model_of read_table
    P.reset_in delay P.atom placed P.state_cell P.clock_at P.delayed P.after_reset P.largest_constant P.bounds_of P.meets P.fits P.landing
    P.lands P.delay_next P.edge_next P.next_of P.first P.same_region P.explore_from P.explore outcome_of
    P.number_in P.label_of delays_from P.blocks P.rounds P.last_blocks P.block_count
    decimal ten_thousandths listing
points-met =
    also (refl, refl) (also (refl, refl) (also (refl, refl) (also (refl, refl) (also refl (also refl
    (also (refl, refl) (also (refl, refl) (also (refl, refl) (also (refl, refl) (also (refl, refl) (also (refl, refl)
    (also (refl, refl) (also (refl, refl) (also (refl, refl) (also (refl, refl) (also (refl, refl) (also (refl, refl)
    (also refl (also refl (also refl (also refl (also refl (also refl
    (also refl (also refl (also refl (also refl (also refl (also refl
    (also refl (also refl (also refl (also refl (also refl (also refl
    (also refl (also refl (also refl (also refl (also refl (also refl
    (also refl (also refl (also refl (also refl (also refl (also refl
    (also refl (also refl (also refl (also refl (also refl none))))))))))))))))))))))))))))))))))))))))))))))))))))
