-- The laws of `Access`: on the table of a model the accessors give the items of the model, and the value of zeros where
-- there is no such item. One law for the items of a kind (`item-is`) serves labels, invariant atoms, guard atoms and
-- branches; what is between two edges is then known (`next_place`), so that the edges follow one by one (`edges_are`).
use Prim.Native.Nat.{ℕ, zero, suc, ◌+◌, ◌≤◌}
use Rattle.std.proofs.Common.{add-zero, not-suc-le-zero, le_of_suc-le-suc, arith, sym, ap₂, ◌∙◌, get_or-drop, drop-drop}
use Rattle.std.specs.Prelude.{◌≡◌, true, false, eqb, length, get_or, drop}
use Rattle.std.proofs.Math.Path.{refl, ap}
use mathlib.Core.List.{List, [], ◌∷◌, ◌++◌, map, append_assoc}
use Rattle.std.proofs.Math.ListN.{length-append}
use Rattle.std.proofs.Math.Seq.{drop-append_seam}
use Rattle.table.specs.Format.{body_length, two_bytes, max_guards, max_branches}
use Rattle.table.specs.Model.{Edge, Model}
use Rattle.table.specs.Records.{Record, location, invariant, edge, guard, branch, end, kind_of, body_of, kind_at, body_at}
use Rattle.table.specs.Sound.{All, none, also, SoundEdge, Sound}
use Rattle.table.specs.Written.{bytes_of, written, edge_bytes, edges_bytes, table_of, shape_of}
use Rattle.table.specs.Written.{first_location, first_invariant, first_edge, Placed}
use Rattle.table.specs.Access.{no_invariant, no_guard, no_branch, no_edge, walk_to, passed, item_from}
use Rattle.table.specs.Access.{read_label, read_invariant, read_guard, read_branch, read_edge, edge_struct, label_at, invariant_at}
use Rattle.table.specs.Access.{guards_from, branches_from, next_edge, guard_at, guard_count}
use Rattle.table.specs.Access.{branch_at, branch_count, places_from, edge_places}

-- ---- The bytes of a table from a place on

pub byte : (t : List ℕ) (at i : ℕ) {a : List ℕ} → drop at t ≡ a → get_or t (at + i) 0 ≡ get_or a i 0
byte t at i e = sym (get_or-drop at t i 0) ∙ ap (λ (l : List ℕ). get_or l i 0) e

kind-at : (t : List ℕ) (at k : ℕ) {a : List ℕ} → drop at t ≡ a → eqb (kind_at t at) k ≡ eqb (get_or a 0 0) k
kind-at t at k e = ap (λ (n : ℕ). eqb n k) (rw add-zero at (byte t at 0 e))

-- What stands after the bytes at a place.
pub onward : (t : List ℕ) (at : ℕ) (a more : List ℕ) → drop at t ≡ a ++ more → drop (at + length a) t ≡ more
onward t at a more e = rw (← drop-drop, e) (drop-append_seam a more)

-- Bytes that do not begin with a record of kind k: what follows the items of that kind.
abbrev Other : ℕ → List ℕ → Type 0
Other k l = eqb (get_or l 0 0) k ≡ false

other_items : {A : Type 0} (f : A → Record) (k : ℕ) → ((x : A) → eqb (kind_of (f x)) k ≡ false)
    → (xs : List A) (more : List ℕ) → Other k more → Other k (written f xs ++ more)
other_items f k differ [] more o = o
other_items f k differ (x ∷ l) more o = differ x

-- What a table holds after its invariant atoms, or after one of its edges.
abbrev pub edges_to_end : List Edge → List ℕ
edges_to_end es = edges_bytes es ++ bytes_of end

other-edges : (k : ℕ) → eqb 4 k ≡ false → eqb 7 k ≡ false → (es : List Edge) → Other k (edges_to_end es)
unfolding edge_bytes kind_of
other-edges k no-edge no_end [] = no_end
other-edges k no-edge no_end (x ∷ l) = no-edge

-- ---- Items of one kind

-- `f` writes records of kind k, and `read` reads them back.
record Kind {A : Type 0} (f : A → Record) (k : ℕ) (read : List ℕ → ℕ → A) : Type 0 where
  kind : (x : A) → eqb (kind_of (f x)) k ≡ true
  size : (x : A) → length (body_of (f x)) ≡ body_length k
  back : (t : List ℕ) (at : ℕ) (x : A) (more : List ℕ) → drop at t ≡ bytes_of (f x) ++ more → read t at ≡ x

labels : Kind location 2 read_label
unfolding kind_of body_of body_length body_at
labels = record { kind = λ x. refl; size = λ x. refl; back = λ t at x more e. byte t at 1 e }

invariants : Kind invariant 3 read_invariant
unfolding kind_of body_of body_length body_at
invariants =
    record {
      kind = λ x. refl;
      size = λ x. refl;
      back = λ t at x more e i. record
          { location = byte t at 1 e i; clock = byte t at 2 e i; comparison = byte t at 3 e i; constant = byte t at 4 e i };
    }

guards : Kind guard 5 read_guard
unfolding kind_of body_of body_length body_at
guards =
    record {
      kind = λ x. refl;
      size = λ x. refl;
      back = λ t at x more e i. record { clock = byte t at 1 e i; comparison = byte t at 2 e i; constant = byte t at 3 e i };
    }

branches : Kind branch 6 read_branch
unfolding kind_of body_of body_length body_at
branches =
    record {
      kind = λ x. refl;
      size = λ x. refl;
      back = λ t at x more e.
          let w : two_bytes (get_or t (at + 1) 0) (get_or t (at + 2) 0) ≡ x.weight = omega (arith, byte t at 1 e, byte t at 2 e) in
          λ i. record { weight = w i; target = byte t at 3 e i; mask = byte t at 4 e i };
    }

-- From a place on stand the records of all these items, and then no other record of their kind k.
record Stand {A : Type 0} (f : A → Record) (k : ℕ) (t : List ℕ) (at : ℕ) (xs : List A) : Type 0 where
  more : List ℕ
  bytes : drop at t ≡ written f xs ++ more
  other : Other k more

module _ {A : Type 0} {f : A → Record} {k : ℕ} {read : List ℕ → ℕ → A} (is : Kind f k read) {t : List ℕ} where
  nothing-at : {at : ℕ} → Stand f k t at [] → eqb (kind_at t at) k ≡ false
  nothing-at {at} s = kind-at t at k s.bytes ∙ s.other

  something-at : {at : ℕ} {x : A} {l : List A} → Stand f k t at (x ∷ l) → eqb (kind_at t at) k ≡ true
  something-at {at} {x} s = kind-at t at k s.bytes ∙ is.kind x

  first-bytes : {at : ℕ} {x : A} {l : List A} (s : Stand f k t at (x ∷ l))
      → drop at t ≡ bytes_of (f x) ++ (written f l ++ s.more)
  first-bytes {x} {l} s = s.bytes ∙ append_assoc (bytes_of (f x)) (written f l) s.more

  rest : {at : ℕ} {x : A} {l : List A} → Stand f k t at (x ∷ l) → Stand f k t (at + 1 + body_length k) l
  rest {at} {x} {l} s =
      let past : at + 1 + body_length k ≡ at + length (bytes_of (f x)) = omega (arith, is.size x) in
      record {
        more = s.more;
        bytes = rw past (onward t at (bytes_of (f x)) (written f l ++ s.more) (first-bytes s));
        other = s.other;
      }

  after-them : {at : ℕ} {xs : List A} (s : Stand f k t at xs) → drop (at + length (written f xs)) t ≡ s.more
  after-them {at} {xs} s = onward t at (written f xs) s.more s.bytes

  -- Item i of those that stand there, `d` past the last.
  item-is : {at : ℕ} {xs : List A} → Stand f k t at xs → (d : A) (i : ℕ) → item_from k d read t at i ≡ get_or xs i d
  unfolding walk_to
  item-is {xs = []} s d zero = rw (nothing-at s)
  item-is {xs = []} s d (suc i) = rw (nothing-at s, nothing-at s)
  item-is {at} {xs = x ∷ l} s d zero = rw (something-at s) (is.back t at x (written f l ++ s.more) (first-bytes s))
  item-is {at} {xs = x ∷ l} s d (suc i) = rw (something-at s) (item-is {at = at + 1 + body_length k} (rest s) d i)

  -- A walk that is long enough ends behind them and has counted them.
  walk_is : {at : ℕ} {xs : List A} → Stand f k t at xs → (most : ℕ) → length xs ≤ most
      → (walk_to k most t at ≡ at + length (written f xs)) × (passed k most t at ≡ length xs)
  unfolding walk_to passed
  walk_is {at} {xs = []} s zero h = (sym (add-zero at), refl)
  walk_is {at} {xs = []} s (suc most) h = rw (nothing-at s) (sym (add-zero at), refl)
  walk_is {xs = x ∷ l} s zero h = absurd (not-suc-le-zero h)
  walk_is {at} {xs = x ∷ l} s (suc most) h =
      let ih = walk_is {at = at + 1 + body_length k} (rest s) most (le_of_suc-le-suc h) in
      rw (something-at s, length-append) (omega (arith, ih, is.size x))

-- ---- Edges

-- The accessors give the guard atoms and the branches of an edge.
pub record EdgeParts (t : List ℕ) (x : Edge) : Type 0 where
  pub guard-is : (i : ℕ) → guard_at t x.place i ≡ get_or x.guards i no_guard
  pub guard-count-is : guard_count t x.place ≡ length x.guards
  pub branch-is : (i : ℕ) → branch_at t x.place i ≡ get_or x.branches i no_branch
  pub branch-count-is : branch_count t x.place ≡ length x.branches

parts : {t : List ℕ} {x : Edge} → Stand guard 5 t (guards_from t x.place) x.guards → length x.guards ≤ max_guards
    → Stand branch 6 t (branches_from t x.place) x.branches → length x.branches ≤ max_branches → EdgeParts t x
unfolding guard_at guard_count branch_at branch_count
parts g few-guards b few-branches =
    record {
      guard-is = item-is guards g no_guard;
      guard-count-is = (walk_is guards g max_guards few-guards).1;
      branch-is = item-is branches b no_branch;
      branch-count-is = (walk_is branches b max_branches few-branches).1;
    }

-- An edge that stands at its place, with other edges and the end record after it.
module _ {c l : ℕ} (t : List ℕ) (x : Edge) (es : List Edge) (q : SoundEdge c l x)
    (here : drop x.place t ≡ edge_bytes x ++ edges_to_end es) where
  is-edge : eqb (kind_at t x.place) 4 ≡ true
  unfolding edge_bytes kind_of
  is-edge = kind-at t x.place 4 here

  denominator-read : two_bytes (get_or t (x.place + 3) 0) (get_or t (x.place + 4) 0) ≡ x.denominator
  unfolding edge_bytes kind_of body_of
  denominator-read = omega (arith, byte t x.place 3 here, byte t x.place 4 here)

  struct-read : read_edge t x.place ≡ edge_struct x
  unfolding edge_bytes kind_of body_of body_at
  struct-read i =
      record {
        source = byte t x.place 1 here i;
        action = byte t x.place 2 here i;
        denominator = denominator-read i;
      }

  guards-place : guards_from t x.place ≡ x.place + 5
  unfolding guards_from walk_to body_length
  guards-place = rw is-edge (omega arith)

  guards-stand : Stand guard 5 t (guards_from t x.place) x.guards
  unfolding edge_bytes kind_of body_of
  guards-stand =
      record {
        more = written branch x.branches ++ edges_to_end es;
        bytes = rw guards-place (onward t x.place (bytes_of (edge x.source x.action x.denominator)) _ here
            ∙ append_assoc (written guard x.guards) (written branch x.branches) (edges_to_end es));
        other = other_items branch 5 (λ b. refl) x.branches (edges_to_end es) (other-edges 5 refl refl es);
      }

  branches-place : branches_from t x.place ≡ guards_from t x.place + length (written guard x.guards)
  unfolding branches_from
  branches-place = (walk_is guards guards-stand max_guards q.few-guards).0

  branches-stand : Stand branch 6 t (branches_from t x.place) x.branches
  unfolding guards-stand
  branches-stand =
      record {
        more = edges_to_end es;
        bytes = rw branches-place (after-them guards guards-stand);
        other = other-edges 6 refl refl es;
      }

  next_place : next_edge t x.place ≡ x.place + length (edge_bytes x)
  unfolding next_edge edge_bytes kind_of body_of
  next_place =
      simp length-append
      (omega (arith, guards-place, branches-place, walk_is branches branches-stand max_branches q.few-branches))

  first-place : (n : ℕ) → places_from t (suc n) x.place ≡ x.place ∷ places_from t n (x.place + length (edge_bytes x))
  unfolding places_from
  first-place n = rw is-edge (ap (λ k. x.place ∷ places_from t n k) next_place)

  edge-parts : EdgeParts t x
  edge-parts = parts guards-stand q.few-guards branches-stand q.few-branches

-- What is found of edges from a place on: their places, what the edge list holds of each, and the parts of each.
record Found (t : List ℕ) (at : ℕ) (es : List Edge) : Type 0 where
  places : places_from t (length es) at ≡ map (λ x. x.place) es
  structs : map (read_edge t) (places_from t (length es) at) ≡ map edge_struct es
  each : All (EdgeParts t) es

edges_are : {c l : ℕ} (t : List ℕ) (es : List Edge) (at : ℕ) → Placed at es → All (SoundEdge c l) es
    → drop at t ≡ edges_to_end es → Found t at es
unfolding places_from
edges_are t [] at p none e = record { places = refl; structs = refl; each = none }
edges_are t (x ∷ es) at p (also q qs) e =
    let split : drop at t ≡ edge_bytes x ++ edges_to_end es = rw append_assoc at e in
    let here : drop x.place t ≡ edge_bytes x ++ edges_to_end es = ap (λ (n : ℕ). drop n t) p.0 ∙ split in
    let others = edges_are t es (at + length (edge_bytes x)) p.1 qs (onward t at (edge_bytes x) (edges_to_end es) split) in
    let first : places_from t (suc (length es)) at ≡ x.place ∷ places_from t (length es) (at + length (edge_bytes x)) =
    cc (first-place t x es q here (length es), p.0) in
    record {
      places = first ∙ ap (λ l. x.place ∷ l) others.places;
      structs = ap (map (read_edge t)) first ∙ ap₂ ◌∷◌ (struct-read t x es q here) others.structs;
      each = also (edge-parts t x es q here) others.each;
    }

-- What holds of all elements, and of the value past the end, holds of element j.
all-at : {A : Type 0} {P : A → Type 0} {l : List A} → All P l → (d : A) → P d → (j : ℕ) → P (get_or l j d)
all-at none d q zero = q
all-at none d q (suc j) = q
all-at (also h hs) d q zero = h
all-at (also h hs) d q (suc j) = all-at hs d q j

-- ---- The table of a model

-- At place 0 stands the header, which is no edge: no guard atoms and no branches are found there.
no-edge : (m : Model) → EdgeParts (table_of m) no_edge
unfolding table_of kind_of guards_from branches_from walk_to
no-edge m =
    parts
    (record { more = table_of m; bytes = refl; other = refl }) (omega arith)
    (record { more = table_of m; bytes = refl; other = refl }) (omega arith)

module _ (m : Model) (t : List ℕ) (e : t ≡ table_of m) where
  labels-stand : Stand location 2 t (first_location m) m.labels
  unfolding table_of kind_of body_of
  labels-stand =
      record {
        more = written invariant m.invariants ++ edges_to_end m.edges;
        bytes = ap (drop 4) e;
        other = other_items invariant 2 (λ x. refl) m.invariants (edges_to_end m.edges) (other-edges 2 refl refl m.edges);
      }

  invariants-stand : Stand invariant 3 t (first_invariant m) m.invariants
  unfolding labels-stand
  invariants-stand =
      record {
        more = edges_to_end m.edges;
        bytes = after-them labels labels-stand;
        other = other-edges 3 refl refl m.edges;
      }

  -- Label i is that of location i of the model, 0 where there is no such location.
  pub label_is : (i : ℕ) → label_at t (shape_of m) i ≡ get_or m.labels i 0
  unfolding label_at shape_of
  label_is = item-is labels labels-stand 0

  -- Invariant atom i is that of the model, `no_invariant` where there is none.
  pub invariant-is : (i : ℕ) → invariant_at t (shape_of m) i ≡ get_or m.invariants i no_invariant
  unfolding invariant_at shape_of
  invariant-is = item-is invariants invariants-stand no_invariant

  module _ (placed : Placed (first_edge m) m.edges) (sound : Sound m) where
    all_edges : Found t (first_edge m) m.edges
    unfolding invariants-stand
    all_edges = edges_are t m.edges (first_edge m) placed sound.edges (after-them invariants invariants-stand)

    -- The places of the edges are those of the model, and what is read there is what the edge list holds of them.
    pub places-are : edge_places t (shape_of m) ≡ map (λ x. x.place) m.edges
    unfolding shape_of
    places-are = all_edges.places

    pub structs-are : map (read_edge t) (edge_places t (shape_of m)) ≡ map edge_struct m.edges
    unfolding shape_of
    structs-are = all_edges.structs

    -- The guard atoms and branches found at the place of edge j are those of the model, none where there is no such edge.
    pub edge-parts-are : (j : ℕ) → EdgeParts t (get_or m.edges j no_edge)
    edge-parts-are = all-at all_edges.each no_edge (rw e (no-edge m))
