-- The numbers that the three calls refuse with: those of the graph call, 1 to 15, then the call's own. None is 0.
use Rattle.std.specs.Prelude.{ℕ, ◌≤◌, ◌≡◌, Bool, cond, not, List, eqb, length, Result, Ok, Err}
use native.Mathlib.Omega.{arith}
use Rattle.std.proofs.Math.Path.{refl, ap}
use Rattle.std.proofs.Common.{◌∙◌}
use Rattle.std.proofs.Math.Bool.{true, false}
use Rattle.table.specs.Reasons.{number}
use Rattle.regions.specs.Passed.{Model, Answer, refusal, accepted, read_table, Region}
use Rattle.regions.specs.Call.{Outcome, refused, cut, whole, from_answer, outcome_of}
use Rattle.regions.specs.Laws.Numbers.{refused-number}
use Rattle.bisimulation.specs.Finite.{related, last_blocks, rounds, block_count, accepts}
use Rattle.partition.specs.Instances.{graph}
use Rattle.partition.specs.Calls.{from_outcome, after_graph, refuses, acceptance, counts, is_short, is_asked_past}
use Rattle.partition.specs.Calls.{blocks_of, reduce_of, shared_of, pair_of, judged_of, judge_of}
use Rattle.table.specs.declared.refusals.Reason.{Reason}
use Rattle.table.specs.declared.refusals.Reason.TheVariants.{ShortList, WrongLength, NoBisimulation, UnknownRegion}
use Rattle.table.specs.declared.refusals.Refusal.{Refusal}

-- The number of a refusal; 1 stands for an answer that is none.
abbrev number_in : {A : Type 0} → Result A Refusal → ℕ
number_in (Err r) = number r.reason
number_in (Ok x) = 1

-- A call whose own answers have numbers from 1 up to `most` refuses with no other, where `most` is 15 or more.
module _ {A : Type 0} (go : Model → List Region → Result A Refusal) (most : ℕ) (room : 15 ≤ most)
    (own : (m : Model) (found : List Region) → (1 ≤ number_in (go m found)) × (number_in (go m found) ≤ most))
    (table : List ℕ) (cap : ℕ) where
  each-number : (1 ≤ number_in (after_graph refuses go cap (read_table table)))
      × (number_in (after_graph refuses go cap (read_table table)) ≤ most)
  unfolding outcome_of
  each-number = by_answer (read_table table) refl
    where
      by-outcome : (m : Model) → read_table table ≡ accepted m → (o : Outcome) → from_answer cap (accepted m) ≡ o
          → (1 ≤ number_in (from_outcome refuses (go m) o)) × (number_in (from_outcome refuses (go m) o) ≤ most)
      by-outcome m t (refused n p) o =
          let (l, h) = refused-number table cap n p (ap (from_answer cap) t ∙ o) in (l, omega (arith, h, room))
      by-outcome m t (cut found) o = (omega arith, room)
      by-outcome m t (whole found) o = own m found

      by_answer : (x : Answer) → read_table table ≡ x
          → (1 ≤ number_in (after_graph refuses go cap x)) × (number_in (after_graph refuses go cap x) ≤ most)
      by_answer (refusal n p) t = let (l, h) = refused-number table cap n p (ap (from_answer cap) t) in (l, omega (arith, h, room))
      by_answer (accepted m) t = by-outcome m t (from_answer cap (accepted m)) refl

  refused-numbers : (reason : Reason) (place : ℕ) → after_graph refuses go cap (read_table table) ≡ refuses reason place
      → (1 ≤ number reason) × (number reason ≤ most)
  refused-numbers reason place e =
      let (l, h) = each-number in (omega (arith, l, ap number_in e), omega (arith, h, ap number_in e))

module _ (table : List ℕ) (cap : ℕ) where
  module _ (first second : List ℕ) where
    -- The partition call refuses with 1 to 16.
    pub reduce-numbers : (reason : Reason) (place : ℕ) → reduce_of table cap first second ≡ refuses reason place
        → (1 ≤ number reason) × (number reason ≤ 16)
    unfolding reduce_of
    reduce-numbers =
        refused-numbers (blocks_of first second) 16 (omega arith)
        (λ m found. own (is_short (length found) first second) (length found)
        (block_count (graph m found) (rounds (graph m found))) (rounds (graph m found)))
        table cap
      where
        own : (x : Bool) (c b k : ℕ) → (1 ≤ number_in (cond x (refuses ShortList 0) (Ok (counts c b k))))
            × (number_in (cond x (refuses ShortList 0) (Ok (counts c b k))) ≤ 16)
        own true c b k = (omega arith, omega arith)
        own false c b k = (omega arith, omega arith)

    -- The pair call refuses with 1 to 19.
    pub pair-numbers : (r s : ℕ) (reason : Reason) (place : ℕ) → pair_of table cap first second r s ≡ refuses reason place
        → (1 ≤ number reason) × (number reason ≤ 19)
    unfolding pair_of
    pair-numbers r s =
        refused-numbers (shared_of first second r s) 19 (omega arith)
        (λ m found. own (is_short (length found) first second) (is_asked_past (length found) r s)
        (related (last_blocks (graph m found)) r s))
        table cap
      where
        own : (x y v : Bool) → (1 ≤ number_in (cond x (refuses ShortList 0) (cond y (refuses UnknownRegion 0) (Ok v))))
            × (number_in (cond x (refuses ShortList 0) (cond y (refuses UnknownRegion 0) (Ok v))) ≤ 19)
        own true y v = (omega arith, omega arith)
        own false true v = (omega arith, omega arith)
        own false false v = (omega arith, omega arith)

  -- The judging call refuses with 1 to 18.
  pub judge-numbers : (proposal : List ℕ) (reason : Reason) (place : ℕ) → judge_of table cap proposal ≡ refuses reason place
      → (1 ≤ number reason) × (number reason ≤ 18)
  unfolding judge_of
  judge-numbers proposal =
      refused-numbers (judged_of proposal) 18 (omega arith)
      (λ m found. own (eqb (length proposal) (length found)) (accepts (graph m found) proposal)) table cap
    where
      own : (x y : Bool) → (1 ≤ number_in (cond (not x) (refuses WrongLength 0) (cond y acceptance (refuses NoBisimulation 0))))
          × (number_in (cond (not x) (refuses WrongLength 0) (cond y acceptance (refuses NoBisimulation 0))) ≤ 18)
      own false y = (omega arith, omega arith)
      own true true = (omega arith, omega arith)
      own true false = (omega arith, omega arith)
