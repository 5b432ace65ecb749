-- `edge_count` meets its contract: a model that was read has at most 128 edges. Assumes nothing.
use native.Mathlib.Omega.{arith}
use Rattle.table.proofs.Laws.Reads.{counts-read, sound-read}
use Rattle.regions.proofs.prepared.Prepared.edge_count.Goals as goal

pub returns-clause-count : goal.returns-clause-count
returns-clause-count c =
    let self = c.args.self.now in
    λ m reads.
    let count = (counts-read self.bytes.now self.shape m reads).edges in
    let few = (sound-read self.bytes.now self.shape m reads).few-edges in
    omega (arith, c.min.ensures)
