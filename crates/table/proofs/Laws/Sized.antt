-- Labels and actions of a model that was read from bytes are bytes.
use Rattle.std.specs.Prelude.{ℕ, zero, suc, ◌<◌, ◌≡◌, List, [], ◌∷◌, ◌++◌}
use Rattle.std.proofs.Common.{arith, subst}
use Rattle.table.specs.Model.{Edge, Model}
use Rattle.table.specs.Records.{header, location, invariant, end, kind_of, body_of}
use Rattle.table.specs.Reading.{read_table, accepted}
use Rattle.table.specs.Sound.{All, none, also, ByteSized}
use Rattle.table.specs.Written.{Bytes, bytes_of, written, edge_bytes, edges_bytes, table_of}
use Rattle.table.proofs.Laws.Models.{table-written}

bytes_left : (a b : List ℕ) → Bytes (a ++ b) → Bytes a
bytes_left [] b bytes i = omega arith
bytes_left (x ∷ a) b bytes zero = bytes 0
bytes_left (x ∷ a) b bytes (suc i) = bytes_left a b (λ j. bytes (suc j)) i

bytes-right : (a b : List ℕ) → Bytes (a ++ b) → Bytes b
bytes-right [] b bytes = bytes
bytes-right (x ∷ a) b bytes = bytes-right a b (λ i. bytes (suc i))

labels-sized : (l : List ℕ) → Bytes (written location l) → All (λ (x : ℕ). x < 256) l
unfolding kind_of body_of
labels-sized [] bytes = none
labels-sized (x ∷ l) bytes = also (bytes 1) (labels-sized l (bytes-right (bytes_of (location x)) (written location l) bytes))

actions-sized : (es : List Edge) → Bytes (edges_bytes es) → All (λ (e : Edge). e.action < 256) es
unfolding edge_bytes kind_of body_of
actions-sized [] bytes = none
actions-sized (e ∷ es) bytes = also (bytes 2) (actions-sized es (bytes-right (edge_bytes e) (edges_bytes es) bytes))

-- A model that was read from bytes has labels and actions from 0 to 255.
pub byte-sized : (table : List ℕ) (m : Model) → Bytes table → read_table table ≡ accepted m → ByteSized m
unfolding table_of
byte-sized table m bytes answer =
    let whole : Bytes (table_of m) = subst Bytes (table-written table m bytes answer) bytes in
    let labels = written location m.labels in
    let invariants = written invariant m.invariants in
    let edges = edges_bytes m.edges in
    let from-labels : Bytes (labels ++ (invariants ++ (edges ++ bytes_of end))) = bytes-right (bytes_of (header _ _ _)) _ whole in
    let from-edges : Bytes (edges ++ bytes_of end) = bytes-right invariants _ (bytes-right labels _ from-labels) in
    record {
      labels = labels-sized m.labels (bytes_left labels _ from-labels);
      actions = actions-sized m.edges (bytes_left edges _ from-edges);
    }
