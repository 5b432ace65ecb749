-- The numbers mixed into one are below 2^32, so that its highest bits are below 8,192.
use Rattle.std.proofs.Common.{◌≡◌, ◌∙◌, ap, arith}
use Rattle.std.proofs.lemmas.List.{map-id}
use Rattle.signatures.specs.Chain.{stirred}
use Rattle.signatures.specs.Laws.Chain.{hash-is}
use Rattle.signatures.proofs.dictionary.bucket_of.Goals as goal

pub returns : goal.returns
returns c =
    let list = c.args.list.now in
    let e : c.mix.result ≡ stirred 0 list = c.mix.ensures (λ x. x) (λ x y h. h) ∙ ap (stirred 0) (map-id list) in
    (omega (arith, e, c.mix.type_inv, hash-is list), omega (arith, c.mix.type_inv))
