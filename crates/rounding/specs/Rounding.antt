-- The rounding of shares (document 02, Job 7, "Half to even"): what it means that a share is rounded to a number of ten-thousandths, and
-- the number that is printed. That it is the one, and that there is no other, is proved in Rounding of Laws.
use Rattle.std.specs.Prelude.{ℕ, suc, ◌+◌, ◌-◌, ◌*◌, ◌/◌, ◌%◌, ◌≤◌, ◌≡◌, cond, eqb, ltb}

-- How far t ten-thousandths are from the share weight / denominator, times 10,000 times the denominator, which makes it a whole number.
-- (One of the two differences is 0.)
abbrev pub distance : (weight denominator t : ℕ) → ℕ
distance weight denominator t = (10000 * weight - t * denominator) + (t * denominator - 10000 * weight)

-- "Shares in step lines go to the nearest ten-thousandth, an exact half to the even one": no number is nearer than t, and where another
-- is equally near, t is even. (Over a denominator above 0: over 0 all numbers are equally far. A number below 0 is further off than 0.)
pub record Rounded (weight denominator t : ℕ) : Type 0 where
  pub nearest : (s : ℕ) → distance weight denominator t ≤ distance weight denominator s
  pub even : (s : ℕ) → ¬ (s ≡ t) → distance weight denominator s ≡ distance weight denominator t → t % 2 ≡ 0

-- A remainder is below a half of the denominator where twice the remainder is below the denominator.
abbrev pub twice : ℕ → ℕ
twice remainder = 2 * remainder

-- The even one of a number and the next.
abbrev pub to_even : ℕ → ℕ
to_even down = down + down % 2

-- Rounds `down` and remainder/denominator more: below a half it goes down, above it up, and an exact half to the even one.
abbrev pub rounding : (down remainder denominator : ℕ) → ℕ
rounding down remainder denominator =
    cond (ltb (twice remainder) denominator) down (cond (ltb denominator (twice remainder)) (suc down) (to_even down))

-- The share weight / denominator, rounded, in ten-thousandths. (0 where the denominator is 0, a choice of ours: no available edge has
-- W = 0, by `wholes-some` of `crates/listing`.)
unfoldable pub ten_thousandths : (weight denominator : ℕ) → ℕ
ten_thousandths weight denominator =
    cond (eqb denominator 0) 0 (rounding (10000 * weight / denominator) (10000 * weight % denominator) denominator)
