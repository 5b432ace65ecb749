-- Laws on the bits of a reset mask.
use Rattle.std.specs.Prelude.{ℕ, ◌<◌, ◌≤◌, ◌/◌, ◌%◌, ◌^◌, ◌≡◌, false, eqb}
use Rattle.std.proofs.Common.{lt_of_lt_of_le, arith, ap}
use Rattle.std.proofs.Math.Nat.{pow-le-pow_right, div-eq_of_lt}
use Rattle.table.specs.Model.{reset_in}

-- A mask below 2^n has nothing from bit n on.
pub nothing-from : (n : ℕ) {mask clock : ℕ} → mask < 2 ^ n → n ≤ clock → mask / 2 ^ clock ≡ 0
nothing-from n small h = div-eq_of_lt (lt_of_lt_of_le small (pow-le-pow_right (omega arith) h))

-- So it resets no clock from n on: in a model that was read, none that does not exist.
pub no-reset : (n : ℕ) {mask clock : ℕ} → mask < 2 ^ n → n ≤ clock → reset_in mask clock ≡ false
unfolding reset_in
no-reset n small h = ap (λ bits. eqb (bits % 2) 1) (nothing-from n small h)
