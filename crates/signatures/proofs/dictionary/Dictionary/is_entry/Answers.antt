-- What stands between the start and the end of an id is its list.
use Rattle.std.proofs.Common.{◌≡◌, ◌-◌, ◌<◌, ◌↔◌, ◌∙◌, ap, sym, IsTrue, List, [], length, get_or, take, drop, arith, rules}
use Rattle.signatures.specs.Dictionary.{count_of}
use Rattle.signatures.specs.Laws.Dictionary.{count-is, entry-rises, entry-within, entry-part, held_entry}
use Rattle.signatures.proofs.dictionary.Dictionary.is_entry.Goals as goal

pub bounds-self-inside-from : goal.bounds-self-inside-from
bounds-self-inside-from c =
    let d = c.self.invariant in
    omega (arith, count-is d, ap length c.self.view_is)

pub bounds-self-inside-from-2 : goal.bounds-self-inside-from-2
bounds-self-inside-from-2 c =
    let d = c.self.invariant in
    omega (arith, count-is d, ap length c.self.view_is)

pub slice_bounds-entry-count : goal.slice_bounds-entry-count
slice_bounds-entry-count c =
    let d = c.self.invariant in
    let less : c.args.id < count_of c.self.inside.index.now = omega (arith, count-is d, ap length c.self.view_is) in
    rw (c.from-start.ensures, c.from-end.ensures, c.from.ensures, c.from-2.ensures) (entry-rises d c.args.id less)

pub slice_bounds-entry-start : goal.slice_bounds-entry-start
slice_bounds-entry-start c =
    let d = c.self.invariant in
    let less : c.args.id < count_of c.self.inside.index.now = omega (arith, count-is d, ap length c.self.view_is) in
    rw (c.from-start.ensures, c.from-end.ensures, c.from.ensures, c.from-2.ensures) (entry-rises d c.args.id less)

pub slice_bounds-entry-end : goal.slice_bounds-entry-end
slice_bounds-entry-end c =
    let d = c.self.invariant in
    let less : c.args.id < count_of c.self.inside.index.now = omega (arith, count-is d, ap length c.self.view_is) in
    rw (c.from-end.ensures, c.from-2.ensures) (entry-within d c.args.id less)

pub returns : goal.returns
returns c =
    let d = c.self.invariant in
    let numbers = c.self.inside.numbers.now in
    let less : c.args.id < count_of c.self.inside.index.now = omega (arith, count-is d, ap length c.self.view_is) in
    let is : take (c.from-end.result - c.from-start.result) (drop c.from-start.result numbers) ≡ get_or c.args.self.now c.args.id [] =
    rw (c.from-start.ensures, c.from-end.ensures, c.from.ensures, c.from-2.ensures)
    (entry-part d c.args.id less ∙ sym (held_entry d c.args.id less) ∙ ap (λ (l : List _). get_or l c.args.id []) c.self.view_is) in
    let same : IsTrue c.eq.result ↔ (take (c.from-end.result - c.from-start.result) (drop c.from-start.result numbers) ≡ c.args.list.now) =
    search rules in
    (λ t. sym is ∙ same.0 t, λ h. same.1 (is ∙ h))
