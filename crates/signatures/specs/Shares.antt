-- A share, weight over denominator, as two numbers: the first two digits of the fraction in base 2^30. Where the weight is at most the
-- denominator, and that from 1 to below 2^30, the first is at most 2^30 and the second below it, and they are equal exactly where the cross
-- products are (`share-same`, `share-apart`). Other numbers have some share too.
use Rattle.std.specs.Prelude.{ℕ, ◌*◌, ◌/◌, ◌%◌}

unfoldable pub high_share : (weight denominator : ℕ) → ℕ
high_share weight denominator = weight * 1073741824 / denominator % 4294967296

unfoldable pub low_share : (weight denominator : ℕ) → ℕ
low_share weight denominator = weight * 1073741824 % denominator * 1073741824 / denominator
