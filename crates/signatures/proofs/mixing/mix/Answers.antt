-- Loop: what is mixed so far, with the rest of the list, is the whole mixed.
use Rattle.std.proofs.Common.{ℕ, ◌≡◌, ◌+◌, ◌*◌, ◌%◌, ◌<◌, ◌≤◌, ◌∙◌, List, map, length, drop, get_or, sym, ap, arith}
use Rattle.std.proofs.lemmas.List.{at_drop_more, at_drop_all}
use Rattle.signatures.specs.Chain.{stirred}
use Rattle.signatures.proofs.mixing.mix.Goals as goal

-- A sum and a product, each taken modulo 2^32.
turn : (h x : ℕ) → (h + x) % 4294967296 * 1540483477 % 4294967296 ≡ (h + x) * 1540483477 % 4294967296
turn h x = omega arith

-- One number more is mixed in.
stirred-on : {T : Type 0} (number : T → ℕ) (list : List T) (h i : ℕ) (item : T) → i < length list → item ≡ get_or list i item
    → stirred ((h + number item) * 1540483477 % 4294967296) (map number (drop (i + 1) list)) ≡ stirred h (map number (drop i list))
unfolding stirred
stirred-on number list h i item room is =
    sym (at_drop_more (λ l. stirred h (map number l)) list i item room
    ∙ ap (λ v. stirred ((h + number v) * 1540483477 % 4294967296) (map number (drop (i + 1) list))) (sym is))

-- None is left.
stirred-end : {T : Type 0} (number : T → ℕ) (list : List T) (h i : ℕ) → length list ≤ i → stirred h (map number (drop i list)) ≡ h
unfolding stirred
stirred-end number list h i past = at_drop_all (λ l. stirred h (map number l)) list i past

pub loop-number-preserved : goal.loop-number-preserved
loop-number-preserved g c = λ number is.
    let loop = c.loop-number in
    let item = c.number-item in
    let e = is item.result c.into.result c.into.ensures in
    rw (turn loop.sum c.into.result, e)
    (stirred-on number c.args.list.now loop.sum loop.number-index item.result c.loop-number-test.true item.is ∙ loop.invariant number is)

pub returns : goal.returns
returns g c = λ number is.
    let loop = c.loop-number in
    sym (stirred-end number c.args.list.now loop.sum loop.number-index c.loop-number-test.false) ∙ loop.invariant number is
