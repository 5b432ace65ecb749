-- What the region layer says of one region is what the layer above is told of an item of the graph.
use Rattle.std.specs.Prelude.{ℕ, zero, suc, ◌+◌, ◌*◌, ◌≤◌, ◌<◌, ◌≡◌, refl, Bool, true, false}
use Rattle.std.specs.Prelude.{cond, List, [], ◌∷◌, ◌++◌, map, eqb, ltb, length, get_or, drop, Option, Some, None, Result, Ok, Err}
use Rattle.std.proofs.Common.{arith, sym, ◌∙◌, ap, subst, lt-ltb, le-leb}
use Rattle.regions.specs.Passed.{Model, Answer, refusal, accepted, read_table, edge_of, Branch as ModelBranch, Region}
use Rattle.regions.specs.Graph.{first}
use Rattle.regions.specs.Explore.{listed, listed_at}
pub use Rattle.regions.specs.Explore.{listed-length}
use Rattle.regions.specs.Entries.{entry_bytes, max_entries, region_at}
use Rattle.regions.specs.View.{label_of, Way, way_of}
use Rattle.regions.specs.Sight.{no_region, entry_in, delay_list, ways_from, Stepping, is_seen, sight_of, Sighted}
use Rattle.regions.specs.Laws.Sight.{seen_parts, seen-rest, labels_at}
use Rattle.regions.specs.Laws.Shown.{few-edges, few-branches}
pub use Rattle.regions.specs.Laws.Shown.{few-clocks}
use Rattle.bisimulation.specs.Structures.{Branch}
use Rattle.partition.specs.Instances.{region_of, lands_at, graph}
use Rattle.comparison.specs.Held.{row_room}
use Rattle.partition.specs.View.{checked_of, location_labels, branches_from, Alone, item_of, showing_of}
use Rattle.table.specs.Reasons.{refusal_at}
use Rattle.table.specs.declared.refusals.Refusal.{Refusal}
use Rattle.regions.specs.declared.sight.Seen.{Seen}

-- ---- Answers

-- Region x of the graph is that at entry x.
here : (m : Model) (es : List ℕ) (n x : ℕ) → x < n → get_or (listed es n) x (first m) ≡ region_at es x
here m es n x h = listed_at es n x (first m) h

pub showing-from : (n x entries delays rows : ℕ) (es : List ℕ) (a : Answer)
    → sight_of (is_seen n x entries delays rows) es n x a ≡ showing_of (is_seen n x entries delays rows) es n x a
showing-from n x entries delays rows es (refusal reason place) = refl
showing-from n x entries delays rows es (accepted m) = go (is_seen n x entries delays rows) refl
  where
    go : (b : Bool) → is_seen n x entries delays rows ≡ b → sight_of b es n x (accepted m) ≡ showing_of b es n x (accepted m)
    go false e = refl
    go true e =
        let h : x < n = (seen_parts n x entries delays rows e).1 in
        ap
        (λ (q : Region).
        Ok (Some (record { label = label_of m q; reached = length (delay_list m (listed es n) q); edges = length m.edges })))
        (sym (here m es n x h))

-- ---- Slices

-- Ways in a row are branches in it.
abbrev branch_of : Way → Branch ℕ
branch_of w = record { weight = w.weight; target = w.target }

ways-branches : (rows : List ℕ) (at k : ℕ) → map branch_of (ways_from rows at k) ≡ branches_from rows at k
ways-branches rows at zero = refl
ways-branches rows at (suc k) =
    ap (λ (l : List (Branch ℕ)). record { weight = get_or rows at 0; target = get_or rows (at + 1) 0 } ∷ l) (ways-branches rows (at + 2) k)

ways-lands : (m : Model) (found : List Region) (r : Region) (l : List ModelBranch)
    → map branch_of (map (way_of m found r) l) ≡ map (lands_at m found r) l
ways-lands m found r [] = refl
ways-lands m found r (b ∷ l) = ap (λ (k : List (Branch ℕ)). lands_at m found r b ∷ k) (ways-lands m found r l)

ways-length : (rows : List ℕ) (at k : ℕ) → length (ways_from rows at k) ≡ k
ways-length rows at zero = refl
ways-length rows at (suc k) = ap suc (ways-length rows (at + 2) k)

map-length : {A B : Type 0} (f : A → B) (l : List A) → length (map f l) ≡ length l
map-length f [] = refl
map-length f (x ∷ l) = ap suc (map-length f l)

-- A flag of 1 says that it is so.
flag-says : (b : Bool) (v : ℕ) → v ≡ cond b 1 0 → b ≡ eqb v 1
flag-says true v e = sym (ap (λ k. eqb k 1) e)
flag-says false v e = sym (ap (λ k. eqb k 1) e)

module _ (table : List ℕ) (m : Model) (read : read_table table ≡ accepted m) (es : List ℕ) (n x entries most wide : ℕ)
    (seen : is_seen n x entries most wide ≡ true) (delays delays' rows' : List ℕ)
    (sighted : Sighted m es n x delays delays' rows') where
  inside : x < n
  inside = (seen_parts n x entries most wide seen).1

  same : get_or (listed es n) x (first m) ≡ region_at es x
  same = here m es n x inside

  row : (e : ℕ) → e < length m.edges → Stepping m (listed es n) (get_or (listed es n) x (first m)) e rows'
  row e h = subst (λ (q : Region). Stepping m (listed es n) q e rows') (sym same) (sighted.rows_are e h)

  pub alone : Alone (graph m (listed es n)) x delays delays' rows'
  alone =
      record {
        delays-are =
            sighted.delays-are
            ∙ ap (λ (q : Region). delay_list m (listed es n) q ++ drop (length (delay_list m (listed es n) q)) delays) (sym same);
        available = λ e h. flag-says _ _ (row e h).flag;
        action = λ e h can. sym ((row e h).action can);
        whole = λ e h can. sym ((row e h).whole can);
        branches = λ e h can.
            sym (ways-lands m (listed es n) _ (edge_of m e).branches)
            ∙ ap (map branch_of) (sym ((row e h).ways can))
            ∙ ways-branches rows' (row_room * e + 4) (get_or rows' (row_room * e + 3) 0);
        few = λ e h can.
            let count : get_or rows' (row_room * e + 3) 0 ≡ length (edge_of m e).branches =
            sym (ways-length rows' (row_room * e + 4) (get_or rows' (row_room * e + 3) 0))
            ∙ ap length ((row e h).ways can)
            ∙ map-length (way_of m (listed es n) (get_or (listed es n) x (first m))) (edge_of m e).branches in
            omega (arith, count, few-branches table m read e h);
        few-edges = few-edges table m read;
      }

-- ---- Entries and tables

-- The entry of a region of the graph.
pub entry_listed : (m : Model) (es : List ℕ) (n x : ℕ) → x < n → n ≤ max_entries → (q : Region) → q ≡ region_of m (listed es n) x
    → entry_in es x ≡ q
entry_listed m es n x h few q e =
    ap (λ (b : Bool). cond b (region_at es x) no_region) (lt-ltb x max_entries (omega (arith, h, few))) ∙ sym (here m es n x h) ∙ sym e

-- The label of an item of the graph is that of its entry's location.
pub label-listed : (m : Model) (es : List ℕ) (n x k : ℕ) → x < n → n ≤ max_entries → (entry_in es x).location < k
    → get_or (location_labels m k) (entry_in es x).location 0 ≡ (graph m (listed es n)).label x
unfolding label_of
label-listed m es n x k h few below =
    labels_at m k (entry_in es x).location below
    ∙ ap (λ (r : Region). get_or m.labels r.location 0) (entry_listed m es n x h few (region_of m (listed es n) x) refl)

four-small : (a b c d : ℕ) → a < 256 → b < 256 → c < 256 → d < 256 → (i : ℕ) → get_or (a ∷ b ∷ c ∷ d ∷ []) i 0 < 256
four-small a b c d ha hb hc hd zero = ha
four-small a b c d ha hb hc hd (suc zero) = hb
four-small a b c d ha hb hc hd (suc (suc zero)) = hc
four-small a b c d ha hb hc hd (suc (suc (suc zero))) = hd
four-small a b c d ha hb hc hd (suc (suc (suc (suc i)))) = omega arith

-- Its numbers are bytes where those of the entries are.
pub entry-small : (es : List ℕ) → ((k : ℕ) → get_or es k 0 < 256) → (x : ℕ) → ((entry_in es x).location < 256)
    × ((i : ℕ) → get_or (entry_in es x).whole i 0 < 256) × ((i : ℕ) → get_or (entry_in es x).rank i 0 < 256)
unfolding region_at
entry-small es small x = go (ltb x max_entries)
  where
    go : (b : Bool) → ((cond b (region_at es x) no_region).location < 256)
        × ((i : ℕ) → get_or (cond b (region_at es x) no_region).whole i 0 < 256)
        × ((i : ℕ) → get_or (cond b (region_at es x) no_region).rank i 0 < 256)
    go false = (
      omega arith,
      four-small 0 0 0 0 (omega arith) (omega arith) (omega arith) (omega arith),
      four-small 0 0 0 0 (omega arith)
          (omega arith) (omega arith) (omega arith),
    )
    go true = (
      small _,
      four-small _ _ _ _ (small _) (small _) (small _) (small _),
      four-small _ _ _ _ (small _) (small _) (small _)
          (small _),
    )

-- A table that is not refused was read as a model.
pub read-model : (table : List ℕ) (clocks : ℕ) → Ok clocks ≡ checked_of (read_table table)
    → (m : Model) × (read_table table ≡ accepted m) × (clocks ≡ m.clocks)
read-model table clocks e = go (read_table table) refl e
  where
    go : (a : Answer) → read_table table ≡ a → Ok clocks ≡ checked_of a
        → (m : Model) × (read_table table ≡ accepted m) × (clocks ≡ m.clocks)
    go (refusal reason place) t q = absurd (let z : ◌≡◌ {A = ℕ} 0 1 = cc in omega arith)
    go (accepted m) t q = (m, t, cc)

-- A refused one was refused by reading, with that reason and place.
pub read-refused : (table : List ℕ) (r : Refusal) → Err r ≡ checked_of (read_table table) → read_table table ≡ refusal r.reason r.place
read-refused table r e = go (read_table table) refl e
  where
    go : (a : Answer) → read_table table ≡ a → Err r ≡ checked_of a → read_table table ≡ refusal r.reason r.place
    go (refusal reason place) t q =
        let is : refusal_at reason place ≡ r = cc in t ∙ ap (λ (x : Refusal). refusal x.reason x.place) is
    go (accepted m) t q = cc

-- One table is read as one model.
pub same-model : (table : List ℕ) (m k : Model) → read_table table ≡ accepted m → read_table table ≡ accepted k → m ≡ k
same-model table m k e f = ap model (sym e ∙ f)
  where
    model : Answer → Model
    model (refusal reason place) = m
    model (accepted k) = k

-- What is said of an item that is seen.
pub item-shown : (m : Model) (es : List ℕ) (n x : ℕ) (seen : Bool) → seen ≡ true → (item : Seen)
    → Ok (Some item) ≡ showing_of seen es n x (accepted m) → item ≡ item_of (graph m (listed es n)) x
item-shown m es n x seen can item e =
    let is : ◌≡◌ {A = Result (Option Seen) Refusal} (Ok (Some item)) (Ok (Some (item_of (graph m (listed es n)) x))) =
    e ∙ ap (λ (b : Bool). showing_of b es n x (accepted m)) can in cc

-- It is one of a table that was read.
pub item-model : (table es : List ℕ) (n x : ℕ) (seen : Bool) (item : Seen)
    → Ok (Some item) ≡ showing_of seen es n x (read_table table) → (m : Model) × (read_table table ≡ accepted m)
item-model table es n x seen item e = go (read_table table) refl e
  where
    go : (a : Answer) → read_table table ≡ a → Ok (Some item) ≡ showing_of seen es n x a → (m : Model) × (read_table table ≡ accepted m)
    go (refusal reason place) t q = absurd (let z : ◌≡◌ {A = ℕ} 0 1 = cc in omega arith)
    go (accepted m) t q = (m, t)

-- An item that can be seen is.
pub item-seen : (m : Model) (es : List ℕ) (n x : ℕ) (seen : Bool) → seen ≡ true
    → ((r : Refusal) → Err r ≡ showing_of seen es n x (accepted m) → ⊥) × (Ok None ≡ showing_of seen es n x (accepted m) → ⊥)
item-seen m es n x seen can = (
  λ r e. cc,
  λ e.
      let is : ◌≡◌ {A = Result (Option Seen) Refusal} (Ok None) (Ok (Some (item_of (graph m (listed es n)) x))) =
      e ∙ ap (λ (b : Bool). showing_of b es n x (accepted m)) can in cc,
)

-- Item x of n entries is seen where there is room.
pub seen_here : (n x entries delays rows : ℕ) → n ≤ max_entries → x < n → entry_bytes * n ≤ entries → n < delays → 4096 ≤ rows
    → is_seen n x entries delays rows ≡ true
seen_here n x entries delays rows a b c d e = sym (seen-rest n x entries delays rows a b c d) ∙ le-leb 4096 rows e
