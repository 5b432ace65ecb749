-- `open_before` meets its contract: what is left are the flags of the item for the edges below e.
use Rattle.std.proofs.Common.{arith, mul_comm, ◌*◌, ◌≤◌, ◌≡◌, ◌∙◌, ap, refl, length, drop}
use Rattle.std.proofs.lemmas.List.{take_rest}
use Rattle.comparison.specs.Walks.{front, flags_below}
use Rattle.comparison.proofs.Laws.Walks.{front-got, front-few, drop-cut}
use Rattle.comparison.proofs.held.Graph.open_before.Goals as goal

pub returns : goal.returns
returns c =
    let flags = c.args.self.flags.now in
    let few : length flags ≤ 18446744073709551615 = omega arith in
    let cut : drop c.min-start.result flags ≡ drop (128 * c.args.x) flags =
    rw (c.min-start.ensures, c.saturating_mul.ensures, mul_comm c.args.x 128) (drop-cut _ _ _ few) in
    let same : c.unwrap_or.result.now ≡ flags_below flags c.args.x c.args.e =
    ap (λ r. r.now) c.unwrap_or.ensures
    ∙ front-got c.args.e _ c.get.result _ refl c.get.ensures.lookup.0
    ∙ ap (front c.args.e) (take_rest flags c.min-start.result ∙ cut) in
    (same, rw same (front-few c.args.e (drop (128 * c.args.x) flags)))
