-- `new` meets its contract: each part is what its callee makes of the table. Assumes nothing.
use native.Mathlib.Omega.{arith}
use Prim.Native.Nat.{ℕ}
use Rattle.std.proofs.Common.{rules}
use mathlib.Core.Path.{◌≡◌, refl}
use lib.ListN.{length, replicate, length-replicate}
use Rattle.table.proofs.Laws.Reads.{counts-read, sound-read}
use Rattle.regions.specs.Edges.{Placed, placed-filled, lists-front}
use Rattle.regions.specs.Laws.Rows.{edge-fits}
use Rattle.regions.proofs.prepared.Prepared.new.Goals as goal

pub invariant_of-result : goal.invariant_of-result
invariant_of-result c =
    let bytes = c.args.bytes.now in
    let shape = c.args.shape in
    record {
      suits = λ m reads.
          let sound = sound-read bytes shape m reads in
          let count = (counts-read bytes shape m reads).edges in
          let all : c.min.result ≡ length m.edges = omega (arith, c.min.ensures, sound.few-edges, count) in
          let long : length c.list_edges-edges.result ≡ 128 = search rules in
          let lists = c.list_edges-edges.ensures.lists m reads in
          let placed : Placed m c.list_places.new.places =
          placed-filled m sound (replicate 128 0) c.list_places.new.places (length-replicate {A = ℕ} 128 0)
          (c.list_places.ensures.places_after_2 m reads) in
          record {
            bounds_are = c.bounds_of-bounds.ensures m reads placed;
            edges_are = lists;
            placed = placed;
            linked = c.link_edges.ensures m
                (lists-front m c.list_edges-edges.result c.min.result lists (omega (arith, long, all, sound.few-edges)) all) refl
                (length-replicate {A = ℕ} 128 0);
            limits_are = (c.list_limits.ensures m reads refl).limit;
            fitting = edge-fits bytes m (λ i. search rules) reads.answer;
          };
    }
