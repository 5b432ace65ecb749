-- From the answer of `read` to the model that a table was read as, and the items that the accessors then give: what the layer above
-- goes by.
use Rattle.std.specs.Prelude.{Ok, Err, ℕ, ◌<◌, ◌≡◌, refl, List, map, length, get_or}
use Rattle.std.proofs.Common.{arith, ◌∙◌, ap}
use Rattle.std.proofs.lemmas.List.{length-map}
use Rattle.std.proofs.Math.ListN.{get_or-map}
use Rattle.std.proofs.lemmas.List.Edits.{sets}
use Rattle.table.specs.Model.{Edge, Model}
use Rattle.table.specs.Reading.{Answer, refusal, accepted, read_table}
use Rattle.table.specs.Answer.{reading_of}
use Rattle.table.specs.Sound.{Sound}
use Rattle.table.specs.Edges.{edge_list}
use Rattle.table.specs.Reads.{Reads, Counts, edge_of, Lists, ReadsEdge}
use Rattle.table.proofs.Laws.Edges.{edge-in-list, stored_at}
use Rattle.table.specs.Written.{Bytes, shape_of}
use Rattle.table.specs.Access.{no_invariant, no_guard, no_branch, no_edge_struct, no_edge, edge_struct, label_at, invariant_at}
use Rattle.table.specs.Access.{guard_at, guard_count, branch_at, branch_count, read_edge, edge_places}
use Rattle.table.proofs.Laws.Models.{sound, table-written, places}
use Rattle.table.proofs.Laws.Items.{label_is, invariant-is, places-are, structs-are, EdgeParts, edge-parts-are}
use Rattle.table.proofs.Laws.Walks.{label-part, invariant-part, guard-part, branch-part}
use Rattle.table.specs.declared.model.Edge.{Edge as EdgeStruct}
use Rattle.table.specs.declared.model.Shape.{Shape}
use Rattle.table.specs.Reasons.{refusal_at}
use Rattle.table.specs.declared.refusals.Refusal.{Refusal}

-- A table that `read` refuses is refused by the definition, with that reason and place.
pub refusal-of : (table : List ℕ) (r : Refusal) → Err r ≡ reading_of (read_table table) → read_table table ≡ refusal r.reason r.place
unfolding reading_of
refusal-of table r given = of (read_table table) given
  where
    of : (a : Answer) → Err r ≡ reading_of a → a ≡ refusal r.reason r.place
    of (refusal k q) e = let same : refusal_at k q ≡ r = cc in rw (← same) refl
    of (accepted m) e = cc

-- A table that `read` accepts is read as a model, with the shape that it gives; and there is one such model.
pub reads_of : (table : List ℕ) (shape : Shape) → Ok shape ≡ reading_of (read_table table) → (m : Model) × Reads table shape m
unfolding reading_of
reads_of table shape given = of (read_table table) refl given
  where
    of : (a : Answer) → read_table table ≡ a → Ok shape ≡ reading_of a → (m : Model) × Reads table shape m
    of (refusal n p) answer e = absurd (let z : ◌≡◌ {A = ℕ} 0 1 = cc in omega arith)
    of (accepted m) answer e = (m, record { answer = answer; shape_is = cc })

pub reads-one : (table : List ℕ) (shape : Shape) (m k : Model) → Reads table shape m → Reads table shape k → m ≡ k
reads-one table shape m k r q = cc (r.answer, q.answer)

pub counts-read : (table : List ℕ) (shape : Shape) (m : Model) → Reads table shape m → Counts shape m
unfolding shape_of
counts-read table shape m reads =
    let e = reads.shape_is in
    record {
      clocks = ap (λ (x : Shape). x.clocks) e;
      locations = ap (λ (x : Shape). x.locations) e;
      initial = ap (λ (x : Shape). x.initial) e;
      invariants = ap (λ (x : Shape). x.invariants) e;
      edges = ap (λ (x : Shape). x.edges) e;
    }

-- What is sound in every model that was read.
pub sound-read : (table : List ℕ) (shape : Shape) (m : Model) → Reads table shape m → Sound m
sound-read table shape m reads = sound table m reads.answer

-- Where a list was filled with the places of the edges, number e of it is the place of edge e, as far as there are edges and room.
pub place-listed : (m : Model) (old now : List ℕ) → now ≡ sets old 0 (map (λ edge. edge.place) m.edges)
    → (e : ℕ) → e < length m.edges → e < length old → get_or now e 0 ≡ (edge_of m e).place
place-listed m old now is e h room =
    ap (λ l. get_or l e 0) is
    ∙ stored_at 0 (map (λ edge. edge.place) m.edges) old e (rw length-map h) room
    ∙ get_or-map (λ (edge : Edge). edge.place) m.edges e no_edge

module _ (table : List ℕ) (m : Model) (bytes : Bytes table) where
  module _ (shape : Shape) (reads : Reads table shape m) where
    pub label-read : (i : ℕ) → label_at table shape i ≡ get_or m.labels i 0
    label-read i = rw reads.shape_is (label_is m table (table-written table m bytes reads.answer) i)

    pub invariant-read : (i : ℕ) → invariant_at table shape i ≡ get_or m.invariants i no_invariant
    invariant-read i = rw reads.shape_is (invariant-is m table (table-written table m bytes reads.answer) i)

    -- The places of the edges, as `list_places` stores them.
    pub places-read : edge_places table shape ≡ map (λ edge. edge.place) m.edges
    places-read =
        rw reads.shape_is
        (places-are m table (table-written table m bytes reads.answer) (places table m reads.answer) (sound table m reads.answer))

    -- The edges by number, as `list_edges` stores them.
    pub structs-read : map (read_edge table) (edge_places table shape) ≡ map edge_struct m.edges
    structs-read =
        rw reads.shape_is
        (structs-are m table (table-written table m bytes reads.answer) (places table m reads.answer) (sound table m reads.answer))

    -- The edge list of the table is that of the model.
    pub edge-listed : (list : List EdgeStruct) → list ≡ edge_list (map (read_edge table) (edge_places table shape)) → Lists m list
    edge-listed list is e =
        ap (λ l. get_or l e no_edge_struct) (is ∙ ap edge_list structs-read)
        ∙ edge-in-list (map edge_struct m.edges) (rw length-map (sound-read table shape m reads).few-edges) e
        ∙ get_or-map edge_struct m.edges e no_edge

  module _ (place e : ℕ) (reads : ReadsEdge table place m e) where
    parts : EdgeParts table (edge_of m e)
    parts =
        edge-parts-are m table (table-written table m bytes reads.answer) (places table m reads.answer)
        (sound table m reads.answer) e

    pub guard-read : (i : ℕ) → guard_at table place i ≡ get_or (edge_of m e).guards i no_guard
    guard-read i = ap (λ p. guard_at table p i) reads.place_is ∙ parts.guard-is i

    pub guard-count-read : guard_count table place ≡ length (edge_of m e).guards
    guard-count-read = ap (guard_count table) reads.place_is ∙ parts.guard-count-is

    pub branch_read : (i : ℕ) → branch_at table place i ≡ get_or (edge_of m e).branches i no_branch
    branch_read i = ap (λ p. branch_at table p i) reads.place_is ∙ parts.branch-is i

    pub branch-count-read : branch_count table place ≡ length (edge_of m e).branches
    branch-count-read = ap (branch_count table) reads.place_is ∙ parts.branch-count-is

-- What the accessors give, of any bytes and of a table that was read.
pub ruleset items = (
  label-part,
  invariant-part,
  guard-part,
  branch-part,
  label-read,
  invariant-read,
  guard-read,
  guard-count-read,
  branch_read,
  branch-count-read,
)
