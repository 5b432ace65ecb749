use Rattle.std.specs.Prelude.{ℕ, ◌*◌, ◌≤◌}
use Rattle.table.specs.declared.records.Progress.{Progress}

-- The counts are at most the bytes passed, so that none of the reader's sums wraps.
pub record Ranged (p : Progress) (at : ℕ) : Type 0 where
  pub labels : p.labels ≤ at
  pub invariants : p.invariants ≤ at
  pub weights : p.weights ≤ 65535 * at
