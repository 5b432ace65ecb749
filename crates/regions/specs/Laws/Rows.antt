-- Laws for the code that fills the rows of the edges: three numbers are stored at a time, and those of a model that was read fit
-- (`edge-fits`).
use Rattle.std.specs.Prelude.{ℕ, zero, suc, ◌+◌, ◌*◌, ◌%◌, ◌^◌, ◌≤◌, ◌<◌, ◌≡◌, refl, Bool, true}
use Rattle.std.specs.Prelude.{false, List, [], ◌∷◌, eqb, length, get_or, set}
use Rattle.std.proofs.Common.{arith, sym, ◌∙◌, ap, subst, length-set, get_or-set_same, get_or-set_other, eqb-true}
use Rattle.std.proofs.lemmas.Bool.{eqb-false}
use Rattle.table.specs.Model.{Model, Edge, total}
use Rattle.table.specs.Written.{Bytes}
use Rattle.table.specs.Reading.{read_table, accepted}
use Rattle.table.specs.Reads.{edge_of}
use Rattle.table.specs.Access.{no_branch, no_edge}
use Rattle.table.proofs.Laws.Models.{sound}
use Rattle.table.proofs.Laws.Sized.{byte-sized}
use Rattle.table.specs.declared.model.Branch.{Branch}
use Rattle.regions.specs.Filling.{Before, three_set, Fitting, RowTo, RowsTo}
use Rattle.regions.specs.Laws.Bounds.{all-at}
use Rattle.regions.specs.Laws.Filling.{before-none, before_on}
use Rattle.regions.specs.Laws.Worklist.{member}

-- ---- Three numbers

module _ (l : List ℕ) (at a b c : ℕ) where
  abbrev one : List ℕ
  one = set l at a

  abbrev two : List ℕ
  two = set one (at + 1) b

  module _ (room : at + 3 ≤ length l) where
    three-first : get_or (three_set l at a b c) at 0 ≡ a
    three-first =
        get_or-set_other two (at + 2) at c 0 (omega arith)
        ∙ get_or-set_other one (at + 1) at b 0 (omega arith)
        ∙ get_or-set_same l at a 0 (omega arith)

    three-second : get_or (three_set l at a b c) (at + 1) 0 ≡ b
    three-second =
        get_or-set_other two (at + 2) (at + 1) c 0 (omega arith)
        ∙ get_or-set_same one (at + 1) b 0 (omega (arith, length-set l at a))

    three_third : get_or (three_set l at a b c) (at + 2) 0 ≡ c
    three_third = get_or-set_same two (at + 2) c 0 (omega (arith, length-set l at a, length-set one (at + 1) b))

-- What is before them stays.
pub before-three : (at k a b c : ℕ) (l l' l'' : List ℕ) → at ≤ k → l'' ≡ three_set l' k a b c → Before at l l' → Before at l l''
before-three at k a b c l l' l'' h e before =
    before_on at (k + 2) c l (two l' k a b c) l'' (omega arith) e
    (before_on at (k + 1) b l (one l' k a b c) (two l' k a b c) (omega arith) refl
    (before_on at k a l l' (one l' k a b c) h refl before))

pub before-then : (at : ℕ) (l l' l'' : List ℕ) → Before at l l' → Before at l' l'' → Before at l l''
before-then at l l' l'' a b = record { as_long = b.as_long ∙ a.as_long; below = λ k h. b.below k h ∙ a.below k h }

-- ---- A row

module _ (e : Edge) (at : ℕ) (fitting : Fitting e) where
  -- The first three numbers.
  pub row-start : (a d n : ℕ) (l l' : List ℕ) → at + 32 ≤ length l → a ≡ e.action → d ≡ e.denominator → n ≡ length e.branches
      → l' ≡ three_set l at (a % 65536) (d % 65536) (n % 65536) → RowTo e at 0 l'
  row-start a d n l l' room ea ed en is =
      let fits = fitting.action in
      let fits' = fitting.whole in
      let few = fitting.few in
      let small : a % 65536 ≡ e.action = omega (arith, fits, ea) in
      let small' : d % 65536 ≡ e.denominator = omega (arith, fits', ed) in
      let small'' : n % 65536 ≡ length e.branches = omega (arith, few, en) in
      record {
        action = ap (λ x. get_or x at 0) is ∙ three-first l at (a % 65536) (d % 65536) (n % 65536) (omega arith) ∙ small;
        whole = ap (λ x. get_or x (at + 1) 0) is ∙ three-second l at (a % 65536) (d % 65536) (n % 65536) (omega arith) ∙ small';
        count = ap (λ x. get_or x (at + 2) 0) is ∙ three_third l at (a % 65536) (d % 65536) (n % 65536) (omega arith) ∙ small'';
        weight = λ j h. absurd (omega arith);
        mask = λ j h. absurd (omega arith);
        spot = λ j h. absurd (omega arith);
      }

  -- One number of each of the first branches, and that of one more.
  part-on : (p i : ℕ) (f : ℕ → ℕ) (l l' : List ℕ) → p ≤ at + 5 → Before (at + 3 + 3 * i) l l' → get_or l' (p + 3 * i) 0 ≡ f i
      → ((j : ℕ) → j < i → get_or l (p + 3 * j) 0 ≡ f j) → (j : ℕ) → j < i + 1 → get_or l' (p + 3 * j) 0 ≡ f j
  part-on p i f l l' low before here old j h = go (eqb j i) refl
    where
      go : (b : Bool) → eqb j i ≡ b → get_or l' (p + 3 * j) 0 ≡ f j
      go true t = subst (λ k. get_or l' (p + 3 * k) 0 ≡ f k) (sym (eqb-true j i t)) here
      go false t =
          let less : j < i = omega (arith, h, eqb-false j i t) in
          before.below (p + 3 * j) (omega (arith, less, low)) ∙ old j less

  -- One more branch.
  pub row_on : (i : ℕ) (l l' : List ℕ) (b : Branch) → at + 32 ≤ length l → i < length e.branches → b ≡ get_or e.branches i no_branch
      → l' ≡ three_set l (at + 3 + 3 * i) (b.weight % 65536) (b.mask % 65536) (b.target % 65536) → RowTo e at i l → RowTo e at (i + 1) l'
  row_on i l l' b room h is stored row =
      let few = fitting.few in
      let k : ℕ = at + 3 + 3 * i in
      let fits : k + 3 ≤ length l = omega (arith, room, h, few) in
      let before : Before k l l' =
      before-three k k (b.weight % 65536) (b.mask % 65536) (b.target % 65536) l l l' (omega arith) stored (before-none k l) in
      let low = fitting.weight i h in
      let low' = fitting.mask i h in
      let low'' = fitting.spot i h in
      let weight : b.weight % 65536 ≡ (get_or e.branches i no_branch).weight =
      omega (arith, low, ap (λ (x : Branch). x.weight) is) in
      let mask : b.mask % 65536 ≡ (get_or e.branches i no_branch).mask = omega (arith, low', ap (λ (x : Branch). x.mask) is) in
      let spot : b.target % 65536 ≡ (get_or e.branches i no_branch).target =
      omega (arith, low'', ap (λ (x : Branch). x.target) is) in
      let second : at + 4 + 3 * i ≡ k + 1 = omega arith in
      let third : at + 5 + 3 * i ≡ k + 2 = omega arith in
      record {
        action = before.below at (omega arith) ∙ row.action;
        whole = before.below (at + 1) (omega arith) ∙ row.whole;
        count = before.below (at + 2) (omega arith) ∙ row.count;
        weight = part-on (at + 3) i (λ j. (get_or e.branches j no_branch).weight) l l' (omega arith) before
            (ap (λ x. get_or x k 0) stored
            ∙ three-first l k (b.weight % 65536) (b.mask % 65536) (b.target % 65536) fits ∙ weight) row.weight;
        mask = part-on (at + 4) i (λ j. (get_or e.branches j no_branch).mask) l l' (omega arith) before
            (ap (λ n. get_or l' n 0) second ∙ ap (λ x. get_or x (k + 1) 0) stored
            ∙ three-second l k (b.weight % 65536) (b.mask % 65536) (b.target % 65536) fits ∙ mask) row.mask;
        spot = part-on (at + 5) i (λ j. (get_or e.branches j no_branch).target) l l' (omega arith) before
            (ap (λ n. get_or l' n 0) third ∙ ap (λ x. get_or x (k + 2) 0) stored
            ∙ three_third l k (b.weight % 65536) (b.mask % 65536) (b.target % 65536) fits ∙ spot) row.spot;
      }

  -- A row stays where the numbers up to its end do.
  row_kept : (k : ℕ) (l l' : List ℕ) → at + 32 ≤ k → Before k l l' → RowTo e at (length e.branches) l
      → RowTo e at (length e.branches) l'
  row_kept k l l' h before row =
      let few = fitting.few in
      record {
        action = before.below at (omega arith) ∙ row.action;
        whole = before.below (at + 1) (omega arith) ∙ row.whole;
        count = before.below (at + 2) (omega arith) ∙ row.count;
        weight = λ j less. before.below (at + 3 + 3 * j) (omega (arith, few, less, h)) ∙ row.weight j less;
        mask = λ j less. before.below (at + 4 + 3 * j) (omega (arith, few, less, h)) ∙ row.mask j less;
        spot = λ j less. before.below (at + 5 + 3 * j) (omega (arith, few, less, h)) ∙ row.spot j less;
      }

-- One more row.
pub rows_on : (m : Model) (k : ℕ) (l l' : List ℕ) → ((e : ℕ) → e < length m.edges → Fitting (edge_of m e)) → k < length m.edges
    → Before (32 * k) l l' → RowsTo m k l → RowTo (edge_of m k) (32 * k) (length (edge_of m k).branches) l' → RowsTo m (k + 1) l'
rows_on m k l l' fitting inside before rows row e h = go (eqb e k) refl
  where
    go : (b : Bool) → eqb e k ≡ b → RowTo (edge_of m e) (32 * e) (length (edge_of m e).branches) l'
    go true t =
        subst (λ (i : ℕ). RowTo (edge_of m i) (32 * i) (length (edge_of m i).branches) l') (sym (eqb-true e k t)) row
    go false t =
        let less : e < k = omega (arith, h, eqb-false e k t) in
        row_kept (edge_of m e) (32 * e) (fitting e (omega arith)) (32 * k) l l' (omega arith) before (rows e less)

-- ---- The numbers of a model that was read

-- A weight is no more than the sum of all.
weight-most : (l : List Branch) (i : ℕ) → i < length l → (get_or l i no_branch).weight ≤ total l
weight-most [] i h = absurd (omega arith)
weight-most (b ∷ l) zero h = omega arith
weight-most (b ∷ l) (suc i) h = omega (arith, weight-most l i (omega arith))

masks-few : (n : ℕ) → n ≤ 4 → 2 ^ n ≤ 16
masks-few zero h = omega arith
masks-few (suc zero) h = omega arith
masks-few (suc (suc zero)) h = omega arith
masks-few (suc (suc (suc zero))) h = omega arith
masks-few (suc (suc (suc (suc zero)))) h = omega arith
masks-few (suc (suc (suc (suc (suc n))))) h = absurd (omega arith)

pub edge-fits : (table : List ℕ) (m : Model) → Bytes table → read_table table ≡ accepted m → (e : ℕ) → e < length m.edges
    → Fitting (edge_of m e)
edge-fits table m bytes read e h =
    let ok = sound table m read in
    let here = member no_edge m.edges e h in
    let edge = all-at m.edges ok.edges here in
    let small = all-at m.edges (byte-sized table m bytes read).actions here in
    let branches = (edge_of m e).branches in
    let most = edge.denominator in
    let sum = edge.sum in
    let clocks = masks-few m.clocks ok.clocks in
    let locations = ok.locations in
    record {
      action = omega (arith, small);
      whole = omega (arith, most);
      few = edge.few-branches;
      weight = λ i less. omega (arith, weight-most branches i less, most, sum);
      mask = λ i less. omega (arith, (all-at branches edge.branches (member no_branch branches i less)).mask, clocks);
      spot = λ i less. omega (arith, (all-at branches edge.branches (member no_branch branches i less)).target, locations);
    }
