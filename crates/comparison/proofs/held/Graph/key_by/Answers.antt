-- `key_by` joins the sums over edges and over delays.
use Rattle.std.proofs.Common.{ℕ, ◌+◌, ◌*◌, ap₂}
use Rattle.comparison.specs.Keys.{key_of}
use Rattle.comparison.proofs.held.Graph.key_by.Goals as goal

pub returns : goal.returns
unfolding key_of
returns c =
    λ opened hx coded. ap₂ (λ (a b : ℕ). a * 65536 + b + 1) (c.sum_codes.ensures.value c.args.list.now opened hx coded)
    c.delays_key.ensures.0
