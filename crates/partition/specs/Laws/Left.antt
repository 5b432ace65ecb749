-- What a partition call that succeeded left, said for the layer above: what its three counts are, and what the lent entries and the two
-- lent block lists then hold (`reduced-first`, `reduced-second`); that the blocks so listed are all taken, that the graph does not
-- lead out of its regions, and that a block has one label (`left-taken` to `left-labels`). And what one that refused says of other calls
-- (`reduced-refused`, `no-sixteen`).
use Rattle.std.specs.Prelude.{ℕ, ◌≤◌, ◌<◌, ◌≡◌, refl, Bool, true, false, cond, get_or, Result, Ok, Err}
use Rattle.std.proofs.Common.{arith, ◌∙◌, get_or-take, eq-eqb}
use Rattle.std.proofs.Math.Path.{sym, ap, ap₂}
use mathlib.Core.List.{List, ◌++◌, Memᴰ}
use Rattle.std.proofs.Math.ListN.{length, take, drop, length-append}
use Rattle.std.proofs.Math.Seq.{take_at}
use Rattle.regions.specs.Passed.{Model, Answer, refusal, accepted, read_table, Region}
use Rattle.regions.specs.Call.{Outcome, refused, cut, whole, from_answer, room_for, outcome_of, entries_after}
use Rattle.regions.specs.Explore.{listed}
use Rattle.regions.specs.Laws.Bytes.{listed-whole, entries-length, room_fits}
use Rattle.regions.specs.Laws.Call.{whole-graph}
use Rattle.regions.specs.Laws.Numbers.{refused-number}
use Rattle.bisimulation.specs.Structures.{Branch, Closed}
use Rattle.bisimulation.specs.Finite.{Finite, structure, related, blocks, rounds, last_blocks, block_count}
use Rattle.bisimulation.proofs.Laws.Blocks.{blocks-length, blocks-range, blocks-taken, count-some, last-bisimulation}
use Rattle.bisimulation.proofs.Laws.Leads.{leaders-most}
use Rattle.partition.specs.Instances.{graph}
use Rattle.partition.specs.Calls.{from_outcome, after_graph, refuses, counts, is_short, blocks_of, reduce_of, list_after}
use Rattle.partition.specs.Promises.{Reduced}
use Rattle.partition.specs.Left.{Left}
use Rattle.partition.specs.Laws.Instances.{call-closed}
use Rattle.partition.specs.Laws.Success.{reduce-succeeds}
use Rattle.partition.specs.Calls.{Accepted}
use Rattle.partition.specs.Laws.Calls.{on-accepted, reduce-accepted, reduce-lists}
use Rattle.table.specs.Reasons.{number, refusal_at}
use Rattle.table.specs.declared.refusals.Reason.{Reason}
use Rattle.table.specs.declared.refusals.Reason.TheVariants.{TooManyRegions, ShortList}
use Rattle.table.specs.declared.refusals.Refusal.{Refusal}
use Rattle.partition.specs.declared.calls.Reduction.{Reduction}

-- Every block has a leader of its own.
count_most : (F : Finite) (k : ℕ) → block_count F k ≤ F.size
unfolding block_count
count_most F k = leaders-most (λ x y. related (blocks F k) x y) F.size

last-length : (F : Finite) → length (last_blocks F) ≡ F.size
unfolding last_blocks
last-length F = blocks-length F (rounds F)

closed_in : (table : List ℕ) (cap : ℕ) (a : Accepted table cap) → Closed (structure (graph a.model a.found))
closed_in table cap a = call-closed table cap a.found a.out a.model a.read

counts_of : (short : Bool) (n b k n' b' k' : ℕ) → cond short (refuses ShortList 0) (Ok (counts n' b' k')) ≡ Ok (counts n b k)
    → (n ≡ n') × (b ≡ b') × (k ≡ k')
counts_of true n b k n' b' k' e = cc
counts_of false n b k n' b' k' e =
    let is : counts n b k ≡ counts n' b' k' = cc in
    (ap (λ (r : Reduction). r.regions) is, ap (λ (r : Reduction). r.blocks) is, ap (λ (r : Reduction). r.rounds) is)

module _ (table entries first second : List ℕ) (n b k : ℕ) (entries' : List ℕ) where
  abbrev cap : ℕ
  cap = room_for (length entries)

  left_in : Ok (counts n b k) ≡ reduce_of table cap first second → entries' ≡ entries_after entries (outcome_of table cap)
      → (list list' : List ℕ) → list' ≡ list_after table cap first second list → Left table cap n b k entries' list'
  unfolding reduce_of
  left_in answer held list list' is =
      let a : Accepted table cap = reduce-accepted table cap first second n b k (sym answer) in
      let F : Finite = graph a.model a.found in
      let (en, eb, ek) =
      counts_of (is_short (length a.found) first second) n b k (length a.found) (block_count F (rounds F)) (rounds F)
      (sym (answer ∙ on-accepted refuses (blocks_of first second) table cap a)) in
      let (begun, all, fits) = whole-graph table cap a.found a.out in
      let now : list' ≡ last_blocks F ++ drop (length a.found) list = is ∙ reduce-lists table cap first second n b k (sym answer) list in
      let long = ap length now ∙ length-append (last_blocks F) (drop (length a.found) list) in
      let size : length (last_blocks F) ≡ length a.found = last-length F in
      let bytes = ap length held ∙ entries-length table entries cap (room_fits (length entries)) in
      record {
        from = a;
        regions-are = en;
        blocks-are = eb;
        rounds-are = ek;
        entries-hold = ap₂ (λ (es : List ℕ) (x : ℕ). listed es x) held en ∙ listed-whole table entries cap a.found a.out;
        list-holds = ap (λ (l : List ℕ). take n l) now ∙ take_at (last_blocks F) (drop (length a.found) list) n (size ∙ sym en);
        entries-long = omega (arith, bytes, en, fits, room_fits (length entries));
        list-long = omega (arith, long, size, en);
        few-regions = omega (arith, en, fits);
        few-blocks = omega (arith, eb, en, count_most F (rounds F));
        some-blocks = omega (arith, eb, count-some F (closed_in table cap a) (rounds F) all.some);
      }

  module _ (first' second' : List ℕ) (r : Reduced table entries first second (Ok (counts n b k)) entries' first' second') where
    -- What the first list then holds.
    pub reduced-first : Left table cap n b k entries' first'
    reduced-first = left_in r.answer-is r.entries-are first first' r.first-is

    -- And the second.
    pub reduced-second : Left table cap n b k entries' second'
    reduced-second = left_in r.answer-is r.entries-are second second' r.second_is

-- ---- What holds of the numbers and the graph that were left

module _ {table : List ℕ} {cap n b k : ℕ} {entries list : List ℕ} (left : Left table cap n b k entries list) where
  abbrev F : Finite
  F = graph left.from.model left.from.found

  pub left-closed : Closed (structure F)
  left-closed = closed_in table cap left.from

  number_is : (x : ℕ) → get_or (take n list) x 0 ≡ get_or (last_blocks F) x 0
  number_is x = ap (λ (l : List ℕ). get_or l x 0) left.list-holds

  -- Number x of the list is that of region x.
  pub left_at : (x : ℕ) → x < n → get_or list x 0 ≡ get_or (last_blocks F) x 0
  left_at x h = sym (get_or-take n list x 0 h) ∙ number_is x

  -- As many numbers as there are regions.
  pub left-length : length (take n list) ≡ n
  left-length = ap length left.list-holds ∙ last-length F ∙ sym left.regions-are

  -- Every block has a region,
  pub left-taken : (c : ℕ) → c < b → (x : ℕ) × (x < n) × (get_or (take n list) x 0 ≡ c)
  unfolding last_blocks
  left-taken c h =
      let (x, hx, leads, is) = blocks-taken F left-closed (rounds F) c (omega (arith, h, left.blocks-are)) in
      (x, omega (arith, hx, left.regions-are), number_is x ∙ is)

  -- every region is of one of them,
  pub left_below : (x : ℕ) → x < n → get_or (take n list) x 0 < b
  unfolding last_blocks
  left_below x h =
      omega (arith, number_is x, blocks-range F left-closed (rounds F) x (omega (arith, h, left.regions-are)), left.blocks-are)

  -- and what a region leads to is a region: by delay,
  pub left-delays : (x y : ℕ) → x < n → Memᴰ y (F.delays x) → y < n
  left-delays x y h m = omega (arith, left-closed.delays {x = x} {y = y} (omega (arith, h, left.regions-are)) m, left.regions-are)

  -- and by a branch of an available edge.
  pub left-targets : (x e : ℕ) → x < n → e < F.edges → F.available x e ≡ true → (t : Branch ℕ)
      → Memᴰ t (F.branches x e) → t.target < n
  left-targets x e h k can t m =
      omega (arith, left-closed.targets {x = x} {e = e} (omega (arith, h, left.regions-are)) (k, can) t m, left.regions-are)

  -- The denominator of an available edge is not 0.
  pub left-wholes : (x e : ℕ) → x < n → e < F.edges → F.available x e ≡ true → 0 < F.whole x e
  left-wholes x e h k can = left-closed.positive {x = x} {e = e} (omega (arith, h, left.regions-are)) (k, can)

  -- Regions of one block bear one label.
  pub left-labels : (x y : ℕ) → x < n → y < n → get_or (take n list) x 0 ≡ get_or (take n list) y 0 → F.label x ≡ F.label y
  left-labels x y hx hy e =
      (last-bisimulation F left-closed).labels {x = x} {y = y} (omega (arith, hx, left.regions-are)) (omega (arith, hy, left.regions-are))
      (eq-eqb (get_or (last_blocks F) x 0) (get_or (last_blocks F) y 0) (sym (number_is x) ∙ e ∙ number_is y))

-- ---- A call that refused

-- Where the partition call refused, and not since a lent list is too short (16), whatever else is said after the graph call is refused
-- with the same reason and place.
pub reduced-refused : {A : Type 0} (refuse : Reason → ℕ → A) (go : Model → List Region → A) (table : List ℕ) (cap : ℕ)
    (first second : List ℕ) (r : Refusal) → Err r ≡ reduce_of table cap first second → (r.reason ≡ ShortList → ⊥)
    → after_graph refuse go cap (read_table table) ≡ refuse r.reason r.place
unfolding reduce_of
reduced-refused {A} refuse go table cap first second r e other = by_answer (read_table table) e
  where
    same : (reason : Reason) (place : ℕ) → ◌≡◌ {A = Result Reduction Refusal} (Err r) (refuses reason place)
        → refuse reason place ≡ refuse r.reason r.place
    same reason place e = let is : refusal_at reason place ≡ r = cc in ap (λ (x : Refusal). refuse x.reason x.place) is

    by_length : (short : Bool) (n b k : ℕ) → Err r ≡ cond short (refuses ShortList 0) (Ok (counts n b k)) → ⊥
    by_length true n b k e = let is : r ≡ refusal_at ShortList 0 = cc in other (ap (λ (x : Refusal). x.reason) is)
    by_length false n b k e = cc

    by-outcome : (m : Model) (o : Outcome) → Err r ≡ from_outcome refuses (blocks_of first second m) o
        → from_outcome refuse (go m) o ≡ refuse r.reason r.place
    by-outcome m (refused reason place) e = same reason place e
    by-outcome m (cut found) e = same TooManyRegions 0 e
    by-outcome m (whole found) e = absurd (by_length (is_short (length found) first second) _ _ _ e)

    by_answer : (x : Answer) → Err r ≡ after_graph refuses (blocks_of first second) cap x
        → after_graph refuse go cap x ≡ refuse r.reason r.place
    by_answer (refusal reason place) e = same reason place e
    by_answer (accepted m) e = by-outcome m (from_answer cap (accepted m)) e

-- 16 is not among the numbers that it refuses with, where both lists are as long as there is room for regions.
pub no-sixteen : (table : List ℕ) (cap : ℕ) (first second : List ℕ) (r : Refusal)
    → Err r ≡ reduce_of table cap first second → cap ≤ length first → cap ≤ length second → r.reason ≡ ShortList → ⊥
unfolding reduce_of outcome_of
no-sixteen table cap first second r e one two is = by_answer (read_table table) refl e
  where
    low : (reason : Reason) (place : ℕ) → outcome_of table cap ≡ refused reason place
        → ◌≡◌ {A = Result Reduction Refusal} (Err r) (refuses reason place) → ⊥
    low reason place o e =
        let most = (refused-number table cap reason place o).1 in
        let same : r ≡ refusal_at reason place = cc in
        omega (arith, most, ap (λ (x : Refusal). number x.reason) same, ap number is)

    by-outcome : (m : Model) → read_table table ≡ accepted m → (o : Outcome) → from_answer cap (accepted m) ≡ o
        → Err r ≡ from_outcome refuses (blocks_of first second m) o → ⊥
    by-outcome m t (refused n p) o f = low n p (ap (from_answer cap) t ∙ o) f
    by-outcome m t (cut found) o f =
        let same : r ≡ refusal_at TooManyRegions 0 = cc in omega (arith, ap (λ (x : Refusal). number x.reason) same, ap number is)
    by-outcome m t (whole found) o f =
        let out : outcome_of table cap ≡ whole found = ap (from_answer cap) t ∙ o in
        let fits = (whole-graph table cap found out).2 in
        let a : Accepted table cap = record { model = m; read = t; found = found; out = out } in
        let done = reduce-succeeds table cap a first second (omega (arith, fits, one)) (omega (arith, fits, two)) in
        cc

    by_answer : (x : Answer) → read_table table ≡ x → Err r ≡ after_graph refuses (blocks_of first second) cap x → ⊥
    by_answer (refusal n p) t f = low n p (ap (from_answer cap) t) f
    by_answer (accepted m) t f = by-outcome m t (from_answer cap (accepted m)) refl f
