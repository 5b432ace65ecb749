-- Guard and invariant atoms on a clock (document 01, "The model table", kinds 3 and 5). The constant is at most the clock's
-- bound, so that a clock that is over is above it.
use Rattle.std.specs.Prelude.{ℕ, Bool, false, cond, not, ◌&&◌, eqb, leb, ltb, Option, Some, None}
use Rattle.clocks.specs.Cells.{Cell, over, at}

-- The clock is below the constant.
abbrev pub below : ℕ → Cell → Bool
below k (over m) = false
below k (at m w f) = ltb w k

-- The clock is at most the constant: below it, or the constant itself.
abbrev pub at_most : ℕ → Cell → Bool
at_most k (over m) = false
at_most k (at m w f) = cond (eqb f 0) (leb w k) (ltb w k)

-- What a comparison says.
abbrev pub verdict : Bool → Option Bool
verdict holds = Some holds

-- "0 is <, 1 is ≤, 2 is >, 3 is ≥ and 4 is =." No other number is a comparison of a model that was read, and it says nothing.
unfoldable pub atom : ℕ → ℕ → Cell → Option Bool
atom comparison k c =
    cond (eqb comparison 0) (verdict (below k c))
    (cond (eqb comparison 1) (verdict (at_most k c))
    (cond (eqb comparison 2) (verdict (not (at_most k c)))
    (cond (eqb comparison 3) (verdict (not (below k c)))
    (cond (eqb comparison 4) (verdict (at_most k c && not (below k c))) None))))
