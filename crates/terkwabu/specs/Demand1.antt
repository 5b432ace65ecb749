-- Demand 1: "The answer to every call, on any bytes and numbers, is the first refusal that document 01's list finds or, where it finds
-- none, the result; every lent table then holds what document 01 says." One closed statement; proofs/Demand1.antt has its theorem.
--
-- A premise `GraphCall table entries answer entries'` (Calls) is what the contract of terkwabu_graph says of every call with this table and
-- these entries that answers `answer` and leaves entries' (src/calls.rt). With this file five say what is claimed:
--   Rows                          the list as each call goes through it, and what the lent memory then holds
--   Answers                       `refused_as`, `result_as`: the five numbers answered
--   Refusals, Reading (of table)  rows 1 to 13
--   Order (of regions)            all regions that are reached, and their order
-- What these files rest on is named in their first lines. The part call and the line of a refusal are no calls of document 01's list, which
-- makes a listing in parts a choice of the library: the part call meets rows 1 to 13, and prints what is lent. (terkwabu_version takes
-- nothing, and answers the version.)
use Rattle.std.specs.Prelude.{ℕ, ◌≡◌, List, [], ◌∷◌}
use Rattle.regions.specs.Call.{flat}
use Rattle.listing.specs.Printed.{refusal_line}
use Rattle.listing.specs.Parts.{text_of}
use Rattle.terkwabu.specs.Calls.{GraphCall, PlaceCall, ReduceCall, PairCall, JudgeCall, PartCall, LineCall}
use Rattle.terkwabu.specs.Rows.{ByList, GraphRows, PlaceRows, ReduceRows, PairRows, JudgeRows, Given, PartRows}
use Rattle.terkwabu.specs.declared.answer.Answer.{Answer}

pub record Demand1 : Type 0 where
  -- "An entry is nine bytes: location, four integer parts .., four ranks": in this order.
  pub entry : (l w₀ w₁ w₂ w₃ k₀ k₁ k₂ k₃ : ℕ)
      → flat (record { location = l; whole = w₀ ∷ w₁ ∷ w₂ ∷ w₃ ∷ []; rank = k₀ ∷ k₁ ∷ k₂ ∷ k₃ ∷ [] } ∷ [])
      ≡ l ∷ w₀ ∷ w₁ ∷ w₂ ∷ w₃ ∷ k₀ ∷ k₁ ∷ k₂ ∷ k₃ ∷ []
  -- The graph call.
  pub graph : (table entries : List ℕ) (answer : Answer) (entries' : List ℕ)
      → GraphCall table entries answer entries'
      → ByList table entries entries' Unit GraphRows answer
  -- The state call, for a location, four values and a denominator.
  pub place : (table entries : List ℕ) (location v₀ v₁ v₂ v₃ denominator : ℕ) (answer : Answer) (entries' : List ℕ)
      → PlaceCall table entries location v₀ v₁ v₂ v₃ denominator answer entries'
      → ByList table entries entries' Unit (PlaceRows location v₀ v₁ v₂ v₃ denominator) answer
  -- The partition call.
  pub reduce : (table entries first second : List ℕ) (answer : Answer) (entries' first' second' : List ℕ)
      → ReduceCall table entries first second answer entries' first' second'
      → ByList table entries entries' ((first' ≡ first) × (second' ≡ second)) (ReduceRows first second first' second') answer
  -- The pair call, for two numbers.
  pub pair : (table entries first second : List ℕ) (r s : ℕ) (answer : Answer) (entries' first' second' : List ℕ)
      → PairCall table entries first second r s answer entries' first' second'
      → ByList table entries entries' ((first' ≡ first) × (second' ≡ second)) (PairRows first second r s first' second') answer
  -- The judging call.
  pub judge : (table entries proposal : List ℕ) (answer : Answer) (entries' : List ℕ)
      → JudgeCall table entries proposal answer entries'
      → ByList table entries entries' Unit (JudgeRows proposal) answer
  -- The part call, for whatever entries, list and counts are lent.
  pub part : (table entries list : List ℕ) (regions blocks rounds part : ℕ) (buffer : List ℕ) (answer : Answer) (buffer' : List ℕ)
      → PartCall table entries list regions blocks rounds part buffer answer buffer'
      → PartRows table (text_of table entries list regions blocks rounds part) buffer buffer' answer
  -- The line of a refusal.
  pub line : (number place : ℕ) (buffer : List ℕ) (answer : Answer) (buffer' : List ℕ)
      → LineCall number place buffer answer buffer'
      → Given (refusal_line number place) buffer buffer' answer
