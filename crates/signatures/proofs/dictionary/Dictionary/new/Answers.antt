-- Where all of the index is 0, nothing is held.
use Rattle.std.proofs.Common.{ℕ, ◌∙◌, ap, sym, replicate}
use Rattle.signatures.specs.Laws.Dictionary.{cleared, zeros-all}
use Rattle.signatures.proofs.dictionary.Dictionary.new.Goals as goal

pub invariant_of-result : goal.invariant_of-result
invariant_of-result c =
    let fill = c.fill.ensures in
    let zero = fill.after (λ y e. e) ∙ ap (λ (n : ℕ). replicate n 0) (sym fill.len) in
    (cleared c.fill.new.self c.args.numbers.now (fill.len ∙ c.requires.0) c.requires.1 (λ k h. zeros-all c.fill.new.self zero k)).kept

pub returns : goal.returns
returns c =
    let fill = c.fill.ensures in
    let zero = fill.after (λ y e. e) ∙ ap (λ (n : ℕ). replicate n 0) (sym fill.len) in
    (cleared c.fill.new.self c.args.numbers.now (fill.len ∙ c.requires.0) c.requires.1 (λ k h. zeros-all c.fill.new.self zero k)).none
