-- What the code compares is the raw form of the cell.
use Rattle.std.proofs.Common.{◌≡◌, ◌+◌, ◌-◌, ◌*◌, ◌↔◌, ◌∙◌, refl, sym, IsTrue, take, drop, arith, rules}
use Rattle.std.proofs.lemmas.Bool.{false≢true}
use Rattle.signatures.specs.Laws.Memo.{part-raw}
use Rattle.signatures.proofs.memo.noted.Goals as goal

pub returns-then-eq : goal.returns-then-eq
returns-then-eq c =
    let args = c.args in
    let pre = c.requires in
    let start = 11 * args.cell + 2 in
    let size = c.from-size.result in
    let same : IsTrue c.eq.result ↔ (take (start + (size - 1) - start) (drop start args.memo.now) ≡ args.raw.now) = search rules in
    let is = part-raw args.memo.now args.cell pre.0 pre.1 pre.2 size c.from-size.ensures c.if-size-eq0.false in
    (record { some = omega arith; is = sym is ∙ same.0 c.if-eq.true }, refl)

pub returns-else-eq : goal.returns-else-eq
returns-else-eq c = λ holds.
    let args = c.args in
    let pre = c.requires in
    let start = 11 * args.cell + 2 in
    let size = c.from-size.result in
    let same : IsTrue c.eq.result ↔ (take (start + (size - 1) - start) (drop start args.memo.now) ≡ args.raw.now) = search rules in
    let is = part-raw args.memo.now args.cell pre.0 pre.1 pre.2 size c.from-size.ensures c.if-size-eq0.false in
    false≢true (sym c.if-eq.false ∙ same.1 (is ∙ holds.is))
