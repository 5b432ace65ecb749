-- Loop: what is mixed so far, with the rest of the list, is the whole mixed.
use Rattle.std.proofs.Common.{ℕ, ◌≡◌, map, drop}
use Rattle.signatures.specs.Chain.{stirred}
use Rattle.signatures.proofs.mixing.mix.Given as goal

abbrev pub invariant-loop-number : goal.invariant-loop-number
invariant-loop-number g l =
    (number : g.row.T.Denot → ℕ) → ((x : g.row.T.Denot) (y : ℕ) → g.T.Into.converts x y → y ≡ number x)
    → stirred l.sum (map number (drop l.number-index l.list)) ≡ stirred 0 (map number l.list)
