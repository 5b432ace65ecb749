-- Document 01's printed model, which the examples of the layers above start from, so that what is proved of accepted tables is
-- proved of something.
use Rattle.std.specs.Prelude.{ℕ, ◌≡◌, refl, List, [], ◌∷◌}
use Rattle.table.specs.Format.{body_length, body_lengths}
use Rattle.table.specs.Model.{Model}
use Rattle.table.specs.Records.{record_of, body_at, record_at, past}
use Rattle.table.specs.Refusals.{rows_of, next_of, step_at}
use Rattle.table.specs.Reading.{item_at, run, run_table, add, gather, model_of, read_table, accepted}

-- The table, in document 01's grouping: header, two locations, an invariant atom, an edge with a guard atom and two branches, end.
abbrev pub printed : List ℕ
printed =
    1 ∷ 1 ∷ 2 ∷ 0
    ∷ 2 ∷ 5
    ∷ 2 ∷ 9
    ∷ 3 ∷ 0 ∷ 0 ∷ 1 ∷ 1
    ∷ 4 ∷ 0 ∷ 3 ∷ 3 ∷ 0
    ∷ 5 ∷ 0 ∷ 3 ∷ 1
    ∷ 6 ∷ 1 ∷ 0 ∷ 1 ∷ 0
    ∷ 6 ∷ 2 ∷ 0 ∷ 0 ∷ 1
    ∷ 7 ∷ []

abbrev pub printed_model : Model
printed_model =
    record {
      clocks = 1;
      locations = 2;
      initial = 0;
      labels = 5 ∷ 9 ∷ [];
      invariants = record { location = 0; clock = 0; comparison = 1; constant = 1 } ∷ [];
      edges =
          record {
            place = 13;
            source = 0;
            action = 3;
            denominator = 3;
            guards = record { clock = 0; comparison = 3; constant = 1 } ∷ [];
            branches = record { weight = 1; target = 1; mask = 0 } ∷ record { weight = 2; target = 0; mask = 1 } ∷ [];
          } ∷ [];
    }

pub printed-read : read_table printed ≡ accepted printed_model
unfolding body_length body_lengths record_of body_at record_at past rows_of next_of step_at
    item_at run run_table add gather model_of read_table
printed-read = refl
