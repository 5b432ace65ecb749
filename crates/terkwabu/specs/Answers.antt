-- What a call answers to a C host: numbers only. Document 01 leaves the form to us; every choice has in common that the refusal's
-- number and place, or the result, can be read off.
use Rattle.std.specs.Prelude.{ℕ, Bool, cond, Result, Ok, Err}
use Rattle.partition.specs.Passed.{Refusal, number}
use Rattle.partition.specs.declared.calls.Reduction.{Reduction}
use Rattle.listing.specs.declared.parts.Part.{Part}
use Rattle.listing.specs.declared.parts.Part.TheVariants as T
use Rattle.terkwabu.specs.declared.answer.Answer.{Answer}

-- A refusal is a number, which is not 0, and a place; everything else is then 0.
abbrev pub refused_as : ℕ → ℕ → Answer
refused_as number place = record { refusal = number; place = place; value = 0; blocks = 0; rounds = 0 }

-- A result: up to three numbers; what does not apply is 0.
abbrev pub result_as : (value blocks rounds : ℕ) → Answer
result_as value blocks rounds = record { refusal = 0; place = 0; value = value; blocks = blocks; rounds = rounds }

-- The number of a refusal is document 01's, that of its reason.
abbrev pub of_refusal : Refusal → Answer
of_refusal r = refused_as (number r.reason) r.place

-- The answer of a call: its refusal, or what is told of its result.
abbrev pub of : {A : Type 0} → (A → Answer) → Result A Refusal → Answer
of told (Err r) = of_refusal r
of told (Ok x) = told x

-- The graph call, N; the state call, the region's number: it is the value.
abbrev pub told_number : ℕ → Answer
told_number n = result_as n 0 0

abbrev pub of_graph : Result ℕ Refusal → Answer
of_graph = of told_number

abbrev pub of_placing : Result ℕ Refusal → Answer
of_placing = of told_number

-- The partition call: N is the value, and the counts of blocks and rounds have fields of their own.
abbrev pub told_counts : Reduction → Answer
told_counts r = result_as r.regions r.blocks r.rounds

abbrev pub of_reduction : Result Reduction Refusal → Answer
of_reduction = of told_counts

-- The pair call: 1 where the two regions share a block, 0 where not.
abbrev pub one_if : Bool → ℕ
one_if holds = cond holds 1 0

abbrev pub told_sharing : Bool → Answer
told_sharing holds = result_as (one_if holds) 0 0

abbrev pub of_pairing : Result Bool Refusal → Answer
of_pairing = of told_sharing

-- The judging call: 1 where the proposal is accepted.
abbrev pub told_acceptance : Unit {0} → Answer
told_acceptance done = result_as 1 0 0

abbrev pub of_judgement : Result (Unit {0}) Refusal → Answer
of_judgement = of told_acceptance

-- The part call, and the line of a refusal: the value is how many bytes were written. Where none were, it is 0, and the place, which is
-- no place in a table then (a choice of ours), is how many bytes the part takes, and 0 where there is no such part.
abbrev pub short_as : ℕ → Answer
short_as bytes = record { refusal = 0; place = bytes; value = 0; blocks = 0; rounds = 0 }

abbrev pub told_part : Part → Answer
told_part (T.Written k) = result_as k 0 0
told_part (T.Short k) = short_as k
told_part T.End = result_as 0 0 0

abbrev pub of_part : Result Part Refusal → Answer
of_part = of told_part
