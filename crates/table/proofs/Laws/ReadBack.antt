-- The converse of `Models`: a sound model whose edges' places are where its table has them is read back from that
-- table (`read_back`). So the accepted tables are exactly the tables of such models (`accepted-iff`).
-- The proof goes from the end of the table to its front (`Reads`): one law puts a record in front (`read-on`), and from it
-- comes one for each list of the model, which takes what is known of all that follows the list.
use Rattle.std.specs.Prelude.{Ok, Some, ℕ, zero, suc, ◌+◌, ◌*◌, ◌/◌, ◌%◌, ◌^◌, ◌≤◌, ◌<◌, ◌↔◌, ◌≡◌, false, cond, not, eqb, leb, drop}
use Rattle.std.proofs.Common.{arith, add-zero, div-lt_iff_lt-mul, pow_pos, ◌∙◌, length-append, get_or-drop, le-ltb, le-leb, eq-eqb, ne_eqb}
use Rattle.std.proofs.Math.Path.{refl, ap}
use mathlib.Core.List.{List, [], ◌∷◌, ◌++◌, append_assoc}
use Rattle.std.proofs.Math.ListN.{length}
use Rattle.std.proofs.lemmas.Bool.{lt-leb}
use Rattle.table.proofs.Laws.Lengths.{body-short}
use Rattle.table.specs.Format.{body_length, max_bytes, max_invariants, max_edges, max_guards, max_branches}
use Rattle.table.specs.Model.{Edge, Model, total}
use Rattle.table.specs.Records.{Record, header, location, invariant, edge, guard, branch, end}
use Rattle.table.specs.Records.{kind_of, body_of, record_of, body_at, kind_at, record_at, past}
use Rattle.table.specs.Refusals.{Step, Row, decide, outer_rows, rows_of, next_of, step_at}
use Rattle.table.specs.Refusals.{start, turn, after_header, after_location}
use Rattle.table.specs.Refusals.{after_invariant, after_edge, after_guard, after_branch}
use Rattle.table.specs.Reading.{Item, item_at, Run, refused, ended, before, run, run_table}
use Rattle.table.specs.Reading.{Parts, parts, no_parts, add, gather, model_of, accepted, answer_of, read_table}
use Rattle.table.specs.Sound.{All, none, also, SoundInvariant, SoundGuard, SoundBranch, SoundEdge, Sound}
use Rattle.table.specs.Written.{Bytes, bytes_of, written, edge_bytes, edges_bytes, table_of, first_edge, Placed}
use Rattle.table.proofs.Laws.Runs.{Denied, model_with}
use Rattle.table.proofs.Laws.Models.{sound, table-written, places}
use Rattle.table.proofs.Laws.Items.{byte, onward, edges_to_end}
use Rattle.table.specs.declared.model.Invariant.{Invariant}
use Rattle.table.specs.declared.model.Guard.{Guard}
use Rattle.table.specs.declared.model.Branch.{Branch}
use Rattle.table.specs.declared.records.Stage.TheVariants.{InLocations, InInvariants}
use Rattle.table.specs.declared.records.Progress.{Progress}

-- A row that does not hold: `omega allowed` proves it.
same-allowed : (a b : ℕ) → a ≡ b → not (eqb a b) ≡ false
same-allowed a b e = rw (eq-eqb a b e)

some-allowed : (a : ℕ) → 1 ≤ a → eqb a 0 ≡ false
some-allowed a h = ne_eqb a 0 (omega arith)

ruleset allowed = (arith, le-ltb, lt-leb, same-allowed, some-allowed)

none-decides : (rows : List Row) (next : Step) → Denied rows → decide rows next ≡ next
none-decides [] next d = refl
none-decides (r ∷ rows) next d = rw d.0 (none-decides rows next d.1)

-- ---- The record in front of some bytes

record-from : (t : List ℕ) (at : ℕ) → record_at t at ≡ record_at (drop at t) 0
unfolding record_at body_at
record-from t at = simp (get_or-drop, add-zero)

-- It is read as it was written, and its kind and its length are those of the format.
read_first : (r : Record) (more : List ℕ)
    → (record_at (bytes_of r ++ more) 0 ≡ r)
    × (1 ≤ kind_of r) × (kind_of r ≤ 7) × (body_length (kind_of r) ≡ length (body_of r))
unfolding record_at record_of body_at kind_of body_of body_length
read_first (header n l i) more = (refl, omega arith, omega arith, refl)
read_first (location x) more = (refl, omega arith, omega arith, refl)
read_first (invariant a) more = (refl, omega arith, omega arith, refl)
read_first (edge s a w) more = (ap (edge s a) (omega arith), omega arith, omega arith, refl)
read_first (guard g) more = (refl, omega arith, omega arith, refl)
read_first (branch b) more =
    let w : b.weight % 256 + 256 * (b.weight / 256) ≡ b.weight = omega arith in
    (λ i. branch (record { weight = w i; target = b.target; mask = b.mask }), omega arith, omega arith, refl)
read_first end more = (refl, omega arith, omega arith, refl)

-- These bytes are what a table holds from a place on.
record Here (t : List ℕ) (at : ℕ) (bytes : List ℕ) : Type 0 where
  there : drop at t ≡ bytes
  long : at + length bytes ≡ length t

module _ {t : List ℕ} {at : ℕ} (r : Record) (more : List ℕ) (h : Here t at (bytes_of r ++ more)) where
  record_is : record_at t at ≡ r
  record_is = record-from t at ∙ ap (λ l. record_at l 0) h.there ∙ (read_first r more).0

  kind-is : kind_at t at ≡ kind_of r
  kind-is = rw add-zero at (byte t at 0 h.there)

  past_is : past t at ≡ at + length (bytes_of r)
  unfolding past
  past_is = rw kind-is (omega (arith, (read_first r more).3))

  fits : at + length (bytes_of r) + length more ≡ length t
  fits = omega (arith, h.long, length-append (bytes_of r) more)

  beyond : Here t (past t at) more
  beyond = rw past_is (record { there = onward t at (bytes_of r) more h.there; long = fits })

  step_is : (p : Progress) → Denied (rows_of p at (length t) r) → step_at t p at ≡ next_of p at r
  unfolding step_at
  step_is p d =
      let k = read_first r more in
      let outer : Denied (outer_rows t at) = omega (allowed, kind-is, past_is, fits) in
      none-decides (outer_rows t at) _ outer ∙ (rw record_is (none-decides (rows_of p at (length t) r) (next_of p at r) d))

-- ---- Bytes that are read to the end

-- A run that came to the end record and said the parts g.
abbrev Ended : Run → Parts → Type 0
Ended (refused n k) g = ⊥
Ended (ended q items) g = gather items ≡ g

-- Where these bytes stand in a table, up to its end, and p is remembered, they are read to the end and say the parts g.
record Reads (t : List ℕ) (p : Progress) (bytes : List ℕ) (g : Parts) : Type 0 where
  ends : (at f : ℕ) → Here t at bytes → length t < f + at → Ended (run f t p at) g

ended-before : (i : Item) (r : Run) (g : Parts) → Ended r g → Ended (before i r) (add i.place i.content g)
unfolding gather
ended-before i (refused n k) g e = e
ended-before i (ended q items) g e = ap (add i.place i.content) e

-- The record r at a place is allowed where p is remembered, q is remembered after it, and with the parts g it says the parts g'.
record Allowed (t : List ℕ) (p : Progress) (at : ℕ) (r : Record) (q : Progress) (g g' : Parts) : Type 0 where
  own : Denied (rows_of p at (length t) r)
  next : next_of p at r ≡ Ok (Some q)
  said : add at r g ≡ g'

-- One record more in front.
read-on : {t : List ℕ} {p q : Progress} {more : List ℕ} {g g' : Parts} (r : Record)
    → ((at : ℕ) → at + length (bytes_of r ++ more) ≡ length t → Allowed t p at r q g g') → Reads t q more g
    → Reads t p (bytes_of r ++ more) g'
unfolding run item_at
read-on {t} {p} {q} {more} {g} {g'} r allow rest = record { ends = ends }
  where
    ends : (at f : ℕ) → Here t at (bytes_of r ++ more) → length t < f + at → Ended (run f t p at) g'
    ends at zero h fuel = absurd (omega (arith, fits r more h))
    ends at (suc f) h fuel =
        let a = allow at h.long in
        let ran = rest.ends (past t at) f (beyond r more h) (omega (arith, past_is r more h)) in
        rw (step_is r more h p a.own, a.next, ← a.said, ← record_is r more h)
        (ended-before (item_at t at) (run f t q (past t at)) g ran)

-- The end record is the last byte.
read-end : {t : List ℕ} {p : Progress} → 2 ≤ turn p.stage → p.weights ≡ p.denominator → Reads t p (bytes_of end) no_parts
unfolding run item_at gather add next_of rows_of body_of
read-end {t} {p} stage sum = record { ends = ends }
  where
    ends : (at f : ℕ) → Here t at (bytes_of end) → length t < f + at → Ended (run f t p at) no_parts
    ends at zero h fuel = absurd (omega (arith, h.long))
    ends at (suc f) h fuel = rw (step_is end [] h p (omega allowed), record_is end [] h)

-- What is remembered leaves room for the parts g behind it, and their weights complete those of the last edge.
record Room (n l : ℕ) (p : Progress) (g : Parts) : Type 0 where
  clocks : p.clocks ≡ n
  locations : p.locations ≡ l
  invariants : p.invariants + length g.invariants ≤ max_invariants
  edges : p.edges + length g.edges ≤ max_edges
  guards : p.guards + length g.guards ≤ max_guards
  branches : p.branches + length g.branches ≤ max_branches
  sum : p.weights + total g.branches ≡ p.denominator

-- The parts that follow the header, and those that follow the record of an edge.
abbrev front : List ℕ → List Invariant → List Edge → Parts
front ls is es = parts 0 0 0 ls is [] [] es

abbrev behind : List Guard → List Branch → List Edge → Parts
behind gs bs es = parts 0 0 0 [] [] gs bs es

mask-within : (n k mask : ℕ) → k ≡ n → mask < 2 ^ n → mask / 2 ^ k ≤ 0
mask-within n k mask e h =
    rw e (let d = (div-lt_iff_lt-mul {x = mask} {y = 1} (pow_pos n)).1 (omega arith) in omega arith)

module _ {t : List ℕ} {n l : ℕ} where
  -- For each list of the model: its records are read, if all that follows them is.
  branches-read : {p : Progress} {es : List Edge} {more : List ℕ} (bs : List Branch)
      → Room n l p (behind [] bs es) → 3 ≤ turn p.stage → All (SoundBranch n l) bs
      → ((q : Progress) → Room n l q (behind [] [] es) → 2 ≤ turn q.stage → Reads t q more (behind [] [] es))
      → Reads t p (written branch bs ++ more) (behind [] bs es)
  unfolding kind_of body_of rows_of next_of add
  branches-read {p} [] room stage none rest = rest p room (omega arith)
  branches-read {p} (b ∷ bs) room stage (also s all) rest =
      let mask = mask-within n p.clocks b.mask room.clocks s.mask in
      read-on (branch b) (λ at long. record { own = omega allowed; next = refl; said = refl })
      (branches-read {p = after_branch p b.weight} bs (omega arith) (omega arith) all rest)

  guards-read : {p : Progress} {bs : List Branch} {es : List Edge} {more : List ℕ} (gs : List Guard)
      → Room n l p (behind gs bs es) → turn p.stage ≡ 3 → All (SoundGuard n) gs
      → ((q : Progress) → Room n l q (behind [] bs es) → turn q.stage ≡ 3 → Reads t q more (behind [] bs es))
      → Reads t p (written guard gs ++ more) (behind gs bs es)
  unfolding kind_of body_of rows_of next_of add
  guards-read {p} [] room stage none rest = rest p room stage
  guards-read {p} (g ∷ gs) room stage (also s all) rest =
      read-on (guard g) (λ at long. record { own = omega allowed; next = refl; said = refl })
      (guards-read {p = after_guard p} gs (omega arith) stage all rest)

  edge-read : {p : Progress} {e : Edge} {es : List Edge}
      → Room n l p (behind [] [] (e ∷ es)) → 2 ≤ turn p.stage → SoundEdge n l e → e.place + length (edges_to_end (e ∷ es)) ≡ length t
      → ((q : Progress) → Room n l q (behind [] [] es) → 2 ≤ turn q.stage → Reads t q (edges_to_end es) (behind [] [] es))
      → Reads t p (edges_to_end (e ∷ es)) (behind [] [] (e ∷ es))
  unfolding kind_of body_of rows_of next_of add edge_bytes
  edge-read {p} {e} {es} room stage s here rest =
      let r = edge e.source e.action e.denominator in
      let more = written guard e.guards ++ (written branch e.branches ++ edges_to_end es) in
      let split : edges_to_end (e ∷ es) ≡ bytes_of r ++ more = simp append_assoc in
      let begun = after_edge p e.place e.denominator in
      let own_room : Room n l begun (behind e.guards e.branches es) = omega (arith, s.sum) in
      rw split
      (read-on r
      (λ at long.
      let same : at ≡ e.place = omega (arith, ap length split) in
      rw same (record { own = omega allowed; next = refl; said = refl }))
      (guards-read e.guards own_room refl s.guards
      (λ q room stage. branches-read e.branches room (omega arith) s.branches rest)))

  edges-read : {p : Progress} (es : List Edge) (first : ℕ)
      → Room n l p (behind [] [] es) → 2 ≤ turn p.stage → All (SoundEdge n l) es
      → Placed first es → first + length (edges_to_end es) ≡ length t
      → Reads t p (edges_to_end es) (behind [] [] es)
  edges-read [] first room stage none placed long = read-end stage (omega (arith, room.sum))
  edges-read (e ∷ es) first room stage (also s all) placed long =
      let split = ap length (append_assoc (edge_bytes e) (edges_bytes es) (bytes_of end)) in
      let size = length-append (edge_bytes e) (edges_to_end es) in
      edge-read room stage s (omega (arith, placed.0))
      (λ q room stage. edges-read es (first + length (edge_bytes e)) room stage all placed.1 (omega arith))

  invariants-read : {p : Progress} {es : List Edge} {more : List ℕ} (is : List Invariant)
      → Room n l p (front [] is es) → turn p.stage ≡ 2 → All (SoundInvariant n l) is
      → ((q : Progress) → Room n l q (front [] [] es) → 2 ≤ turn q.stage → Reads t q more (front [] [] es))
      → Reads t p (written invariant is ++ more) (front [] is es)
  unfolding kind_of body_of rows_of next_of add
  invariants-read {p} [] room stage none rest = rest p room (omega arith)
  invariants-read {p} (a ∷ is) room stage (also s all) rest =
      read-on (invariant a) (λ at long. record { own = omega allowed; next = refl; said = refl })
      (invariants-read {p = after_invariant p} is (omega arith) stage all rest)

  locations-read : {p : Progress} {is : List Invariant} {es : List Edge} {more : List ℕ} (ls : List ℕ)
      → Room n l p (front ls is es) → p.stage ≡ cond (leb p.locations p.labels) InInvariants InLocations
      → p.labels + length ls ≡ p.locations
      → ((q : Progress) → Room n l q (front [] is es) → turn q.stage ≡ 2 → Reads t q more (front [] is es))
      → Reads t p (written location ls ++ more) (front ls is es)
  unfolding kind_of body_of rows_of next_of add
  locations-read {p} [] room stage missing rest =
      rest p room (let last : p.stage ≡ InInvariants = stage ∙ rw (le-leb p.locations p.labels (omega arith)) in ap turn last)
  locations-read {p} (x ∷ ls) room stage missing rest =
      let missing_some : p.stage ≡ InLocations = stage ∙ rw (lt-leb p.locations p.labels (omega arith)) in
      let now : turn p.stage ≡ 1 = ap turn missing_some in
      read-on (location x) (λ at long. record { own = omega allowed; next = refl; said = refl })
      (locations-read {p = after_location p} ls (omega arith) refl (omega arith) rest)

-- ---- Whole tables

record-short : (r : Record) → length (bytes_of r) ≤ 5
record-short r = omega (arith, (read_first r []).3, body-short (kind_of r))

written-short : {A : Type 0} (f : A → Record) (l : List A) → length (written f l) ≤ 5 * length l
written-short f [] = omega arith
written-short f (x ∷ l) =
    omega (arith, length-append (bytes_of (f x)) (written f l), record-short (f x), written-short f l)

edges-short : {n l : ℕ} (es : List Edge) → All (SoundEdge n l) es → length (edges_bytes es) ≤ 85 * length es
unfolding edge_bytes
edges-short [] none = omega arith
edges-short (e ∷ es) (also s all) =
    simp length-append
    (omega (
      arith,
      record-short (edge e.source e.action e.denominator),
      written-short guard e.guards,
      written-short branch e.branches,
      edges-short es all,
      s.few-guards,
      s.few-branches,
    ))

-- No table of a sound model is refused for its length.
table-short : (m : Model) → Sound m → length (table_of m) ≤ max_bytes
unfolding table_of body_of
table-short m s =
    simp length-append
    (omega (
      arith,
      written-short location m.labels,
      written-short invariant m.invariants,
      edges-short m.edges s.edges,
    ))

model-reads : (m : Model) → Sound m → Placed (first_edge m) m.edges
    → Reads (table_of m) start (table_of m)
    (parts m.clocks m.locations m.initial m.labels m.invariants [] [] m.edges)
unfolding table_of rows_of next_of add kind_of body_of
model-reads m s placed =
    let p = after_header m.clocks m.locations m.initial in
    let room : Room m.clocks m.locations p (front m.labels m.invariants m.edges) = omega arith in
    let long : first_edge m + length (edges_to_end m.edges) ≡ length (table_of m) = simp length-append (omega arith) in
    read-on (header m.clocks m.locations m.initial)
    (λ at long. record { own = omega allowed; next = refl; said = refl })
    (locations-read m.labels room (rw (lt-leb m.locations 0 s.some-location)) (omega arith)
    (λ q room stage. invariants-read m.invariants room stage s.invariants
    (λ q room stage. edges-read m.edges (first_edge m) room stage s.edges placed long)))

read_whole : (t : List ℕ) (g : Parts) → length t ≤ max_bytes → Reads t start t g
    → read_table t ≡ accepted (model_with g.clocks g.locations g.initial g)
unfolding read_table run_table model_of
read_whole t g short reads =
    let all : Here t 0 t = record { there = refl; long = omega arith } in
    rw (le-ltb max_bytes (length t) short) (whole (run (suc (length t)) t start 0) (reads.ends 0 _ all (omega arith)))
  where
    whole : (r : Run) → Ended r g → answer_of r ≡ accepted (model_with g.clocks g.locations g.initial g)
    whole (refused n k) e = absurd e
    whole (ended q items) e = ap (λ g. accepted (model_with g.clocks g.locations g.initial g)) e

-- A sound model whose edges' places are where its table has them is read back from its table.
pub read_back : (m : Model) → Sound m → Placed (first_edge m) m.edges → read_table (table_of m) ≡ accepted m
read_back m s placed = read_whole (table_of m) _ (table-short m s) (model-reads m s placed)

-- The accepted tables are exactly the tables of such models.
pub accepted-iff : (t : List ℕ) (m : Model) → Bytes t
    → (read_table t ≡ accepted m) ↔ (Sound m × Placed (first_edge m) m.edges × (t ≡ table_of m))
accepted-iff t m b = (
  λ e. (sound t m e, places t m e, table-written t m b e),
  λ k. rw k.2 (read_back m k.0 k.1),
)
