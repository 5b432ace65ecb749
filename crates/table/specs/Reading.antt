-- Reading a table, record by record, and its answer (document 01, "The model table" and refusals 1 to 13).
use Rattle.std.specs.Prelude.{ℕ, zero, suc, cond, List, [], ◌∷◌, ltb, length, Ok, Err, Some, None}
use Rattle.table.specs.Format.{max_bytes}
use Rattle.table.specs.Model.{Edge, Model}
use Rattle.table.specs.Records.{Record, header, location, invariant, edge, guard, branch, end, record_at, past}
use Rattle.table.specs.Refusals.{Step, start, step_at}
use Rattle.table.specs.declared.model.Invariant.{Invariant}
use Rattle.table.specs.declared.model.Guard.{Guard}
use Rattle.table.specs.declared.model.Branch.{Branch}
use Rattle.table.specs.declared.records.Progress.{Progress}
use Rattle.table.specs.declared.refusals.Reason.{Reason}
use Rattle.table.specs.declared.refusals.Reason.TheVariants.{TooLong, Missing}

-- A record of a table, and where it begins.
pub record Item : Type 0 where
  pub place : ℕ
  pub content : Record

unfoldable pub item_at : List ℕ → ℕ → Item
item_at table at = record { place = at; content = record_at table at }

-- Where the run over the records ends: refused by reason and place, or at the end record, with all records in their order and
-- what is remembered there (its counts, which the reader's code goes by).
pub data Run : Type 0 where
  refused : (reason : Reason) (place : ℕ) → Run
  ended : Progress → List Item → Run

-- One record more in front of a run.
abbrev pub before : Item → Run → Run
before i (refused r p) = refused r p
before i (ended q items) = ended q (i ∷ items)

abbrev pub go : (Progress → Run) → Progress → Item → Step → Run
go rest p i (Err e) = refused e.reason e.place
go rest p i (Ok (Some q)) = before i (rest q)
go rest p i (Ok None) = ended p (i ∷ [])

-- "Records are read in order." Each record is at least one byte long, so that a fuel of one more than the bytes left is
-- enough, and any larger one gives the same (`run-enough`): the first clause is never reached from `run_table`.
unfoldable pub run : ℕ → List ℕ → Progress → ℕ → Run
run zero table p at = refused Missing at
run (suc fuel) table p at = go (λ q. run fuel table q (past table at)) p (item_at table at) (step_at table p at)

-- What records say of the model, from the back: guard atoms and branches belong to the last edge before them.
pub record Parts : Type 0 where
  pub clocks : ℕ
  pub locations : ℕ
  pub initial : ℕ
  pub labels : List ℕ
  pub invariants : List Invariant
  pub guards : List Guard
  pub branches : List Branch
  pub edges : List Edge

abbrev pub parts : ℕ → ℕ → ℕ → List ℕ → List Invariant → List Guard → List Branch → List Edge → Parts
parts n l i labels invariants guards branches edges =
    record {
      clocks = n;
      locations = l;
      initial = i;
      labels = labels;
      invariants = invariants;
      guards = guards;
      branches = branches;
      edges = edges;
    }

abbrev pub no_parts : Parts
no_parts = parts 0 0 0 [] [] [] [] []

-- An edge takes the guard atoms and branches that were gathered behind it.
abbrev pub edge_with : ℕ → ℕ → ℕ → ℕ → Parts → Edge
edge_with at s a w g =
    record {
      place = at;
      source = s;
      action = a;
      denominator = w;
      guards = g.guards;
      branches = g.branches;
    }

unfoldable pub add : ℕ → Record → Parts → Parts
add at (header n l i) g = parts n l i g.labels g.invariants g.guards g.branches g.edges
add at (location x) g =
    parts g.clocks g.locations g.initial (x ∷ g.labels) g.invariants g.guards g.branches g.edges
add at (invariant a) g =
    parts g.clocks g.locations g.initial g.labels (a ∷ g.invariants) g.guards g.branches g.edges
add at (edge s a w) g =
    parts g.clocks g.locations g.initial g.labels g.invariants [] [] (edge_with at s a w g ∷ g.edges)
add at (guard x) g =
    parts g.clocks g.locations g.initial g.labels g.invariants (x ∷ g.guards) g.branches g.edges
add at (branch b) g =
    parts g.clocks g.locations g.initial g.labels g.invariants g.guards (b ∷ g.branches) g.edges
add at end g = g

unfoldable pub gather : List Item → Parts
gather [] = no_parts
gather (i ∷ items) = add i.place i.content (gather items)

unfoldable pub model_of : List Item → Model
model_of items =
    record {
      clocks = (gather items).clocks;
      locations = (gather items).locations;
      initial = (gather items).initial;
      labels = (gather items).labels;
      invariants = (gather items).invariants;
      edges = (gather items).edges;
    }

-- The answer: the reason of a refusal and its place, or the model.
pub data Answer : Type 0 where
  refusal : (reason : Reason) (place : ℕ) → Answer
  accepted : Model → Answer

abbrev pub answer_of : Run → Answer
answer_of (refused r p) = refusal r p
answer_of (ended q items) = accepted (model_of items)

-- Refusal 1: "The table exceeds 16,384 bytes (place 0)." Otherwise the records are read from place 0 on.
unfoldable pub run_table : List ℕ → Run
run_table table = cond (ltb max_bytes (length table)) (refused TooLong 0) (run (suc (length table)) table start 0)

-- Reading a table: the first refusal of document 01's list from 1 to 13, or the model that it describes.
unfoldable pub read_table : List ℕ → Answer
read_table table = answer_of (run_table table)
