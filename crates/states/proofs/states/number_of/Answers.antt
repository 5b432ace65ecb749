-- The entry is the region, or it is not.
use Rattle.std.proofs.Common.{rules, arith, sym, ◌∙◌, ◌≡◌, ◌<◌, length}
use Rattle.regions.specs.Explore.{listed, listed-length, listed_at}
use Rattle.regions.specs.Laws.Sight.{entry-inside}
use Rattle.regions.specs.Laws.View.{number-here, number-on}
use Rattle.states.specs.Laws.StateCall.{is-found}
use Rattle.states.proofs.states.number_of.Goals as goal

pub returns-then-eq : goal.returns-then-eq
returns-then-eq c =
    λ few.
    let args = c.args in
    let list = listed args.entries.now args.n in
    let j = c.loop-j.j in
    let inside : j < length list = omega (arith, listed-length args.entries.now args.n) in
    let here : c.entry_at.result ≡ args.region = search rules in
    let entry =
    sym here ∙ c.entry_at.ensures ∙ entry-inside args.entries.now j (omega arith)
    ∙ sym (listed_at args.entries.now args.n j args.region (omega arith)) in
    is-found args.n j _ (number-here list args.region j args.region (c.loop-j.invariant few) inside entry) c.loop-j-test.true

pub loop-j-preserved : goal.loop-j-preserved
loop-j-preserved c =
    λ few.
    let args = c.args in
    let list = listed args.entries.now args.n in
    let j = c.loop-j.j in
    let inside : j < length list = omega (arith, listed-length args.entries.now args.n) in
    let other : c.entry_at.result ≡ args.region → ⊥ = search rules in
    let entry =
    c.entry_at.ensures ∙ entry-inside args.entries.now j (omega arith)
    ∙ sym (listed_at args.entries.now args.n j args.region (omega arith)) in
    number-on list args.region j args.region (c.loop-j.invariant few) inside (λ e. other (entry ∙ sym e))
