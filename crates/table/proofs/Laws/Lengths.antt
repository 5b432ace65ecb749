-- No body is longer than four bytes.
use Rattle.std.specs.Prelude.{ℕ, ◌<◌}
use Rattle.std.proofs.Common.{arith, rules}
use Rattle.std.proofs.Math.Decide.{dec_lt}
use Rattle.std.proofs.lemmas.List.{get_or_past}
use Rattle.std.proofs.lemmas.List.Elements.{All-get_or}
use Rattle.table.specs.Format.{body_length, body_lengths}

pub body-short : (kind : ℕ) → body_length kind < 5
unfolding body_length body_lengths
body-short kind = of (dec_lt kind 8)
  where
    of : Dec (kind < 8) → body_length kind < 5
    of (yes known) = All-get_or (λ (n : ℕ). n < 5) body_lengths kind 0 known (search rules)
    of (no other) = omega (arith, get_or_past body_lengths kind 0 (omega arith))
