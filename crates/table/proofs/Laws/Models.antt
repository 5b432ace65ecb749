-- What every accepted table is: sound (`sound`), the table that its model is written as (`table-written`), with its edges
-- where they are written (`places`); and what its reader remembers at the end is its model's shape (`counts`, `shape`).
-- Each is an induction over the rest of the table behind its header (`Rest`).
use Rattle.std.specs.Prelude.{ℕ, ◌+◌, ◌*◌, ◌-◌, ◌/◌, ◌^◌, ◌≤◌, ◌<◌, ◌≢◌, ◌≡◌, refl, List, [], ◌∷◌, ◌++◌, length, drop}
use Rattle.std.proofs.Common.{arith, add-zero, div-lt_iff_lt-mul, pow_pos, inl, inr, sym, ap, ◌∙◌, subst}
use Rattle.std.proofs.Common.{append_assoc, append-nil, length-append, drop_of_length-le}
use Rattle.table.specs.Format.{max_invariants, max_edges, max_guards, max_branches}
use Rattle.table.specs.Model.{Edge, Model, total}
use Rattle.table.specs.Records.{Record, header, location, invariant, guard, branch, end, kind_of, body_of, past}
use Rattle.table.specs.Refusals.{start, turn}
use Rattle.table.specs.Reading.{Item, Parts, add, model_of, ended, run_table, accepted, read_table}
use Rattle.table.specs.Sound.{All, none, also, SoundInvariant, SoundGuard, SoundBranch, SoundEdge, Sound}
use Rattle.table.specs.Written.{Bytes, bytes_of, written, edge_bytes, edges_bytes, table_of}
use Rattle.table.specs.Written.{first_invariant, first_edge, Placed, shape_of}
use Rattle.table.proofs.Laws.Runs.{Rest, a-location, an-invariant, an-edge, a-guard, a-branch, the_end}
use Rattle.table.proofs.Laws.Runs.{denials, Stands, Whole, whole, location-stage, run-whole, accepted-whole}
use Rattle.table.specs.Laws.Models.{shape_from}
use Rattle.table.specs.declared.records.Progress.{Progress}
use Rattle.table.specs.declared.model.Invariant.{Invariant}

-- The counts of the parts that a rest says: as the reader counts them, and within the limits.
record Counts (p q : Progress) (g : Parts) : Type 0 where
  clocks : q.clocks ≡ p.clocks
  locations : q.locations ≡ p.locations
  initial : q.initial ≡ p.initial
  invariants : q.invariants ≡ p.invariants + length g.invariants
  edges : q.edges ≡ p.edges + length g.edges
  few-invariants : length g.invariants ≤ max_invariants - p.invariants
  few-edges : length g.edges ≤ max_edges - p.edges
  few-guards : length g.guards ≤ max_guards - p.guards
  few-branches : length g.branches ≤ max_branches - p.branches
  sum : p.weights + total g.branches ≡ p.denominator

rest-counts : {t : List ℕ} {p q : Progress} {at : ℕ} {g : Parts} → Rest t p at q g → Counts p q g
unfolding add
rest-counts (a-location x d w r) = let c = rest-counts r in omega denials
rest-counts (an-invariant a d w r) = let c = rest-counts r in omega denials
rest-counts (an-edge s a n d w r) = let c = rest-counts r in omega denials
rest-counts (a-guard x d w r) = let c = rest-counts r in omega denials
rest-counts (a-branch b d w r) = let c = rest-counts r in omega denials
rest-counts (the_end d w) = omega denials

-- The order of a table's records: which parts a rest cannot say after a stage, and that it says every missing label.
record Ordered (p : Progress) (g : Parts) : Type 0 where
  labels : 1 < turn p.stage → length g.labels ≡ 0
  invariants : 2 < turn p.stage → length g.invariants ≡ 0
  guards : turn p.stage ≢ 3 → length g.guards ≡ 0
  branches : turn p.stage < 3 → length g.branches ≡ 0
  missing : turn p.stage ≡ 1 → p.labels < p.locations → p.labels + length g.labels ≡ p.locations

rest-ordered : {t : List ℕ} {p q : Progress} {at : ℕ} {g : Parts} → Rest t p at q g → Ordered p g
unfolding add
rest-ordered {p = p} (a-location x d w r) =
    let o = rest-ordered r in
    elim (location-stage p) [
      | inl k ↦ omega (denials, o.labels (omega arith), o.guards (omega arith), o.branches (omega arith))
      | inr k ↦ omega (denials, o.missing k.0 k.1, o.guards (omega arith), o.branches (omega arith))
    ]
rest-ordered (an-invariant a d w r) =
    let o = rest-ordered r in omega (denials, o.labels (omega denials), o.guards (omega denials), o.branches (omega denials))
rest-ordered (an-edge s a n d w r) =
    let o = rest-ordered r in omega (denials, o.labels (omega arith), o.invariants (omega arith))
rest-ordered (a-guard x d w r) =
    let o = rest-ordered r in omega (denials, o.labels (omega denials), o.invariants (omega denials))
rest-ordered (a-branch b d w r) =
    let o = rest-ordered r in omega (denials, o.labels (omega arith), o.invariants (omega arith), o.guards (omega arith))
rest-ordered (the_end d w) = omega denials

mask_fits : (n mask : ℕ) → mask / 2 ^ n ≤ 0 → mask < 2 ^ n
mask_fits n mask h = let f = (div-lt_iff_lt-mul {x = mask} {y = 1} (pow_pos n)).0 (omega arith) in omega arith

-- Every part that a rest says is sound.
record SoundParts (n l : ℕ) (g : Parts) : Type 0 where
  invariants : All (SoundInvariant n l) g.invariants
  guards : All (SoundGuard n) g.guards
  branches : All (SoundBranch n l) g.branches
  edges : All (SoundEdge n l) g.edges

rest-sound : {t : List ℕ} {p q : Progress} {at : ℕ} {g : Parts} → Rest t p at q g → SoundParts p.clocks p.locations g
unfolding add
rest-sound (a-location x d w r) =
    let s = rest-sound r in record { invariants = s.invariants; guards = s.guards; branches = s.branches; edges = s.edges }
rest-sound (an-invariant a d w r) =
    let s = rest-sound r in
    record { invariants = also {a = a} (omega denials) s.invariants; guards = s.guards; branches = s.branches; edges = s.edges }
rest-sound {at = at} (an-edge {g = g} f a n d w r) =
    let s = rest-sound r in
    let c = rest-counts r in
    record {
      invariants = s.invariants;
      guards = none;
      branches = none;
      edges =
          also
          {a = record { place = at; source = f; action = a; denominator = n; guards = g.guards; branches = g.branches }}
          (record {
            source = omega denials;
            positive = omega denials;
            denominator = omega denials;
            few-guards = c.few-guards;
            guards = s.guards;
            few-branches = c.few-branches;
            branches = s.branches;
            sum = omega arith;
          })
          s.edges;
    }
rest-sound (a-guard x d w r) =
    let s = rest-sound r in
    record { invariants = s.invariants; guards = also {a = x} (omega denials) s.guards; branches = s.branches; edges = s.edges }
rest-sound {p = p} (a-branch b d w r) =
    let s = rest-sound r in
    let fits = mask_fits p.clocks b.mask (omega denials) in
    record { invariants = s.invariants; guards = s.guards; branches = also {a = b} (omega denials) s.branches; edges = s.edges }
rest-sound (the_end d w) = record { invariants = none; guards = none; branches = none; edges = none }

whole-sound : {t : List ℕ} {q : Progress} {m : Model} → Whole t start 0 q m → Sound m
whole-sound (whole n l i d w r) =
    let s = rest-sound r in
    let c = rest-counts r in
    let labels = (rest-ordered r).missing refl (omega denials) in
    record {
      clocks = omega denials;
      some-location = omega denials;
      locations = omega denials;
      initial = omega denials;
      labels = omega arith;
      few-invariants = c.few-invariants;
      invariants = s.invariants;
      few-edges = c.few-edges;
      edges = s.edges;
    }

-- Every model that was read is sound.
pub sound : (t : List ℕ) (m : Model) → read_table t ≡ accepted m → Sound m
sound t m e = whole-sound (accepted-whole t m e).1

-- The parts that a rest says before its first edge, as they are written.
abbrev own_bytes : Parts → List ℕ
own_bytes g =
    written location g.labels
    ++ (written invariant g.invariants
    ++ (written guard g.guards
    ++ written branch g.branches))

-- From a place on stand some bytes, then the edges, each at its place, then the end.
record Laid (t : List ℕ) (at : ℕ) (own : List ℕ) (edges : List Edge) : Type 0 where
  bytes : Bytes t → drop at t ≡ own ++ (edges_bytes edges ++ bytes_of end)
  places : Placed (at + length own) edges

-- One record more in front.
lay-record : {t : List ℕ} {at : ℕ} {r : Record} {own own' : List ℕ} {edges : List Edge} → Stands t at r
    → Laid t (past t at) own edges → own' ≡ bytes_of r ++ own → Laid t at own' edges
lay-record {t} {at} {r} {own} {own'} {edges} w l e =
    record {
      bytes = λ b. w.bytes b ∙ (rw (l.bytes b, e) (sym (append_assoc (bytes_of r) own (edges_bytes edges ++ bytes_of end))));
      places =
          let long : past t at + length own ≡ at + length (bytes_of r ++ own) = rw (length-append (bytes_of r) own) (omega arith) in
          rw e (subst (λ k. Placed k edges) long l.places);
    }

-- The bytes in front are the first edge's.
lay-edge : {t : List ℕ} {at : ℕ} {e : Edge} {edges : List Edge} → e.place ≡ at → Laid t at (edge_bytes e) edges
    → Laid t at [] (e ∷ edges)
lay-edge {e = e} p l =
    record {
      bytes = λ b. l.bytes b ∙ sym (append_assoc (edge_bytes e) _ (bytes_of end));
      places = rw add-zero (p, l.places);
    }

empty : {A : Type 0} (l : List A) → length l ≡ 0 → l ≡ []
empty [] e = refl
empty (x ∷ l) e = absurd (omega arith)

rest-laid : {t : List ℕ} {p q : Progress} {at : ℕ} {g : Parts} → Rest t p at q g → Laid t at (own_bytes g) g.edges
unfolding add kind_of body_of edge_bytes
rest-laid (a-location x d w r) = lay-record w (rest-laid r) refl
rest-laid (an-invariant {g = g} a d w r) =
    let l = empty g.labels ((rest-ordered r).labels (omega denials)) in
    lay-record w (rest-laid r) (rw l)
rest-laid (an-edge {g = g} s a n d w r) =
    let o = rest-ordered r in
    let l = empty g.labels (o.labels (omega arith)) in
    let i = empty g.invariants (o.invariants (omega arith)) in
    rw (l, i) (lay-edge refl (lay-record w (rest-laid r) (rw (l, i))))
rest-laid (a-guard {g = g} x d w r) =
    let o = rest-ordered r in
    let l = empty g.labels (o.labels (omega denials)) in
    let i = empty g.invariants (o.invariants (omega denials)) in
    lay-record w (rest-laid r) (rw (l, i))
rest-laid (a-branch {g = g} b d w r) =
    let o = rest-ordered r in
    let l = empty g.labels (o.labels (omega arith)) in
    let i = empty g.invariants (o.invariants (omega arith)) in
    let c = empty g.guards (o.guards (omega arith)) in
    lay-record w (rest-laid r) (rw (l, i, c))
rest-laid {t} {at = at} (the_end d w) =
    record { bytes = λ b. w.bytes b ∙ ap (λ l. 7 ∷ l) (drop_of_length-le t {i = past t at} (omega denials)); places = tt }

-- The bytes before the first edge.
abbrev front_bytes : Model → List ℕ
front_bytes m =
    bytes_of (header m.clocks m.locations m.initial) ++ (written location m.labels ++ written invariant m.invariants)

whole-laid : {t : List ℕ} {q : Progress} {m : Model} → Whole t start 0 q m → Laid t 0 (front_bytes m) m.edges
whole-laid (whole {g = g} n l i d w r) =
    let o = rest-ordered r in
    let no-guards = empty g.guards (o.guards (omega arith)) in
    let no-branches = empty g.branches (o.branches (omega arith)) in
    lay-record w (rest-laid r) (rw (no-guards, no-branches, append-nil (written invariant g.invariants)))

-- Nothing of an accepted table is lost: it is the table that its model is written as.
pub table-written : (t : List ℕ) (m : Model) → Bytes t → read_table t ≡ accepted m → t ≡ table_of m
unfolding table_of
table-written t m b e = (whole-laid (accepted-whole t m e).1).bytes b ∙ simp append_assoc

-- Each edge of an accepted table begins where its place says.
pub places : (t : List ℕ) (m : Model) → read_table t ≡ accepted m → Placed (first_edge m) m.edges
unfolding body_of
places t m e =
    let long : 0 + length (front_bytes m) ≡ first_edge m = simp length-append (omega arith) in
    subst (λ k. Placed k m.edges) long (whole-laid (accepted-whole t m e).1).places

-- What is remembered are a model's counts.
pub record Counted (q : Progress) (m : Model) : Type 0 where
  pub clocks : q.clocks ≡ m.clocks
  pub locations : q.locations ≡ m.locations
  pub initial : q.initial ≡ m.initial
  pub invariants : q.invariants ≡ length m.invariants
  pub edges : q.edges ≡ length m.edges

whole-counted : {t : List ℕ} {q : Progress} {m : Model} → Whole t start 0 q m → Counted q m
whole-counted (whole n l i d w r) = let c = rest-counts r in omega arith

-- The reader counts what the model has.
pub counts : (t : List ℕ) (q : Progress) (items : List Item) → run_table t ≡ ended q items → Counted q (model_of items)
counts t q items e = whole-counted (run-whole t q items e)

length-locations : (l : List ℕ) → length (written location l) ≡ 2 * length l
unfolding kind_of body_of
length-locations [] = refl
length-locations (x ∷ l) = let e = length-locations l in omega arith

length-invariants : (l : List Invariant) → length (written invariant l) ≡ 5 * length l
unfolding kind_of body_of
length-invariants [] = refl
length-invariants (a ∷ l) = let e = length-invariants l in omega arith

-- The shape of what is remembered at the end is the model's.
pub shape : (t : List ℕ) (q : Progress) (items : List Item) → run_table t ≡ ended q items → shape_from q ≡ shape_of (model_of items)
unfolding shape_of body_of
shape t q items e =
    let w = run-whole t q items e in
    let m = model_of items in
    let c = whole-counted w in
    let s = whole-sound w in
    let labels = length-locations m.labels in
    let invariants = length-invariants m.invariants in
    let first-invariant : (shape_from q).first_invariant ≡ first_invariant m = omega arith in
    let first-edge : (shape_from q).first_edge ≡ first_edge m = omega arith in
    λ i.
    record {
      clocks = c.clocks i;
      locations = c.locations i;
      initial = c.initial i;
      invariants = c.invariants i;
      edges = c.edges i;
      first_location = 4;
      first_invariant = first-invariant i;
      first_edge = first-edge i;
    }
