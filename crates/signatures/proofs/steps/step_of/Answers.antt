-- Loop: behind the first number stand the shares of the names so far.
use Rattle.std.proofs.Common.{ℕ, refl, ◌≡◌, ◌-◌, ◌∙◌, ap, ap₂, List, [], ◌∷◌, ◌++◌, length, take, arith, length-append}
use Rattle.std.proofs.Math.Seq.{length-take-le, take-length}
use Rattle.graph.specs.Readers.{action_of, denominator_of}
use Rattle.signatures.specs.Steps.{mass_of, shares_over}
use Rattle.signatures.specs.Raw.{raw_branches}
use Rattle.signatures.specs.Laws.Raw.{shares-on, shares-size, step-listed}
use Rattle.signatures.proofs.steps.step_of.Goals as goal

pub put_share-requires : goal.put_share-requires
put_share-requires c =
    let raw = c.args.raw.now in
    let mass : ℕ → ℕ = λ m. mass_of m (raw_branches c.args.edges.now raw 0 (length raw - 1)) in
    let names = c.as_slice-name-items.result.now in
    let loop = c.loop-name in
    let some = take loop.name-index names in
    let size = ap length loop.invariant in (
      c.mass_of.ensures.bound,
      c.denominator_of-denominator.ensures.1,
      omega (
        arith,
        size,
        length-append c.push.new.self.items (shares_over mass c.denominator_of-denominator.result some),
        shares-size mass c.denominator_of-denominator.result some,
        length-take-le loop.name-index names (omega arith),
        c.as_slice-name-items.ensures.fits,
        c.push.ensures.len,
        ap length c.new-step.ensures,
      ),
    )

pub loop-name-preserved : goal.loop-name-preserved
loop-name-preserved c =
    let raw = c.args.raw.now in
    let mass : ℕ → ℕ = λ m. mass_of m (raw_branches c.args.edges.now raw 0 (length raw - 1)) in
    let loop = c.loop-name in
    rw (c.put_share.ensures, c.mass_of.ensures.value)
    (shares-on mass c.denominator_of-denominator.result c.as_slice-name-items.result.now c.push.new.self.items loop.step.items
    loop.name-index _ c.loop-name-test.true refl loop.invariant)

pub returns : goal.returns
returns c =
    let raw = c.args.raw.now in
    let edges = c.args.edges.now in
    let mass : ℕ → ℕ = λ m. mass_of m (raw_branches edges raw 0 (length raw - 1)) in
    let names = c.as_slice-name-items.result.now in
    let action = c.action_of.result in
    let loop = c.loop-name in
    let end : loop.name-index ≡ length names = omega arith in
    let all : take loop.name-index names ≡ names = ap (λ (n : ℕ). take n names) end ∙ take-length names in
    let first : c.push.new.self.items ≡ action ∷ [] =
    c.push.ensures.items ∙ ap (λ (l : List ℕ). l ++ (action ∷ [])) c.new-step.ensures in
    let whole = c.denominator_of-denominator.ensures.0 ∙ ap (denominator_of edges) c.from-edge.ensures in
    step-listed edges raw names loop.step.items action (c.action_of.ensures.0 ∙ ap (action_of edges) c.from-edge.ensures)
    (c.as_slice-name-items.ensures.value ∙ c.gather_names-names.ensures)
    (loop.invariant ∙ ap₂ (λ (a b : List ℕ). a ++ b) first (ap₂ (λ (d : ℕ) (l : List ℕ). shares_over mass d l) whole all))
