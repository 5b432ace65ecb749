-- `new` makes arrays that are long enough: by the law on lengths, so that nothing counts the elements out.
use Rattle.std.proofs.Common.{ℕ, ◌≤◌, length, arith, replicate}
use Rattle.std.proofs.lemmas.List.{length-replicate}
use Rattle.partition.proofs.room.Room.new.Goals as goal

full : (n : ℕ) → n ≤ length {A = ℕ} (replicate n 0)
full n = omega (arith, length-replicate {A = ℕ} n 0)

pub returns : goal.returns
returns c =
    record {
      labels-room = full 4096;
      nexts-room = full 4096;
      flags-room = full 524288;
      resets-room = full 65536;
      spots-room = full 262144;
      rows-room = full 4096;
    }
