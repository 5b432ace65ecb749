-- The answer as the code gives it. Document 01: "If an answer is an enum, a definition gives this paper's number and values for
-- each of its cases."
use Rattle.std.specs.Prelude.{Result, Ok, Err}
use Rattle.table.specs.Reasons.{refusal_at}
use Rattle.table.specs.Reading.{Answer, refusal, accepted}
use Rattle.table.specs.Written.{shape_of}
use Rattle.table.specs.declared.model.Shape.{Shape}
use Rattle.table.specs.declared.refusals.Refusal.{Refusal}

-- A refusal has its reason, which has a number (`number` of Reasons), and its place. An accepted table has its shape; the model that it
-- was read as is given back by `Reads-of`, and `reads-one` says that it is one (Reads).
unfoldable pub reading_of : Answer → Result Shape Refusal
reading_of (refusal r p) = Err (refusal_at r p)
reading_of (accepted m) = Ok (shape_of m)
