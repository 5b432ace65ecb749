use Rattle.std.specs.Prelude.{◌+◌, ◌*◌}
use Rattle.table.specs.declared.records.Progress.{Progress}
use Rattle.table.specs.declared.model.Shape.{Shape}

-- The shape that the code makes of what it remembers.
abbrev pub shape_from : Progress → Shape
shape_from q =
    record {
      clocks = q.clocks;
      locations = q.locations;
      initial = q.initial;
      invariants = q.invariants;
      edges = q.edges;
      first_location = 4;
      first_invariant = 4 + 2 * q.locations;
      first_edge = 4 + 2 * q.locations + 5 * q.invariants;
    }
