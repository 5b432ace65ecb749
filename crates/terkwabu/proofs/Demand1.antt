-- Demand 1 holds, entire: the statement is `Demand1` (specs/Demand1.antt).
use Rattle.std.specs.Prelude.{refl}
use Rattle.terkwabu.proofs.Laws.Rows.{graph-rows, place-rows, reduce-rows, pair-rows, judge-rows, part-rows, line-rows}
use Rattle.terkwabu.specs.Demand1.{Demand1}

-- It holds.
pub demand-1 : Demand1
demand-1 =
    record {
      entry = λ l w₀ w₁ w₂ w₃ k₀ k₁ k₂ k₃. refl;
      graph = graph-rows;
      place = place-rows;
      reduce = reduce-rows;
      pair = pair-rows;
      judge = judge-rows;
      part = part-rows;
      line = line-rows;
    }
