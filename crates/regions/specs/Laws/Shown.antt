-- What the slices of the graph hold once all of them are filled (`shown`), and what the graph call says of the entries that it leaves.
use Rattle.std.specs.Prelude.{ℕ, suc, ◌+◌, ◌*◌, ◌≤◌, ◌<◌, ◌≡◌, refl, Bool, true, false, length, get_or, Result, Ok, Err}
use Rattle.std.proofs.Common.{arith, sym, ◌∙◌, ap₂, subst}
use Rattle.std.proofs.Math.Path.{ap}
use mathlib.Core.List.{List, Memᴰ}
use Rattle.table.specs.Model.{Model}
use Rattle.table.specs.Reading.{read_table, accepted}
use Rattle.table.specs.Reads.{edge_of}
use Rattle.table.specs.Access.{no_branch, no_edge}
use Rattle.table.proofs.Laws.Models.{sound}
use Rattle.regions.specs.Entries.{entry_bytes, max_entries, region_at}
use Rattle.clocks.specs.Packed.{after_reset}
use Rattle.regions.specs.Graph.{bounds_of, landing, available, first}
use Rattle.regions.specs.Explore.{listed, listed-length, listed_at}
use Rattle.regions.specs.View.{number_in, label_of, delay_numbers}
use Rattle.regions.specs.Shown.{Shown, followers, shown_region, open_below, branch_of}
use Rattle.regions.specs.Filling.{Blocks, RowsTo, InUse, by-branch, Flagged, Fitting, bare, Distinct, Grouped, Numbers, Targeted}
use Rattle.regions.specs.Call.{Outcome, whole, from_answer, outcome_of, graph_of, entries_after}
use Rattle.regions.specs.Laws.Bounds.{all-at}
use Rattle.regions.specs.Laws.Bytes.{listed-whole, entries-length}
use Rattle.regions.specs.Laws.Call.{whole-graph, whole-model}
use Rattle.regions.specs.Order.{AllRegions}
use Rattle.regions.specs.Laws.Filling.{in_use}
use Rattle.regions.specs.Laws.Locations.{reached-location}
use Rattle.regions.specs.Laws.Numbers.{answers-n}
use Rattle.regions.specs.Laws.Worklist.{member}
use Rattle.regions.specs.Laws.View.{landing-number}
use Rattle.table.specs.declared.refusals.Refusal.{Refusal}
use Rattle.clocks.specs.declared.region.Bounds.{Bounds}
use Rattle.clocks.specs.declared.region.Region.{Region}

-- The set of clocks after a reset, and then the region with that set at a location.
pub targeted : (es : List ℕ) (n : ℕ) (bounds : Bounds) (sets spots resets : List ℕ) (count : ℕ)
    → Grouped es n n sets count spots → (rows : List ℕ) (used : List Bool) (k : ℕ) → Flagged rows k used
    → Blocks 16 16 n (λ x mask v. get_or used mask false ≡ true → Numbers bounds (region_at es x) sets count mask v) resets
    → Distinct es n → Targeted es n bounds rows k resets spots
targeted es n bounds sets spots resets count g rows used k flagged blocks d x mask t hx hm used-so ht e =
    let (j, less, is) = g.covered t ht in
    let (inside, at) = blocks x mask hx hm (in_use rows used k mask flagged hm used-so) j less (is ∙ e) in
    g.spotted d t (get_or resets (16 * x + mask) 0) ht inside (at ∙ sym e)

-- The clocks that a branch lands with are those after its reset.
landing-bare : (bounds : Bounds) (r : Region) (m : Model) (e i : ℕ)
    → bare (landing bounds r (branch_of m e i)) ≡ bare (after_reset bounds r (branch_of m e i).mask)
unfolding landing
landing-bare bounds r m e i = refl

landing-location : (bounds : Bounds) (r : Region) (m : Model) (e i : ℕ)
    → (landing bounds r (branch_of m e i)).location ≡ (branch_of m e i).target
unfolding landing
landing-location bounds r m e i = refl

module _ (table : List ℕ) (m : Model) (read : read_table table ≡ accepted m) (fits : (e : ℕ) → e < length m.edges → Fitting (edge_of m e))
    (es : List ℕ) (n : ℕ) (all : AllRegions m (listed es n)) where
  abbrev found : List Region
  found = listed es n

  here : (x : ℕ) → x < n → shown_region m found x ≡ region_at es x
  here x h = listed_at es n x (first m) h

  within : (x : ℕ) → x < length found → x < n
  within x h = omega (arith, h, listed-length es n)

  is-listed : (x : ℕ) → x < n → Memᴰ (region_at es x) found
  is-listed x h = subst (λ r. Memᴰ r found) (here x h) (member (first m) found x (omega (arith, h, listed-length es n)))

  -- The regions are different, and at locations below 64.
  pub distinct : Distinct es n
  distinct =
      record {
        apart = λ i j hi hj e. all.different (first m) i j (omega (arith, hi, listed-length es n)) (omega (arith, hj, listed-length es n))
            (here i hi ∙ e ∙ sym (here j hj));
        low = λ x h. omega (
          arith,
          reached-location table m read (region_at es x) ((all.all (region_at es x)).1 (is-listed x h)),
          (sound table m read).locations,
        );
      }

  module _ (labels nexts flags resets spots rows : List ℕ)
      (named : (x : ℕ) → x < n → get_or labels x 0 ≡ label_of m (region_at es x))
      (delays : (x : ℕ) → x < n → delay_numbers m (listed es n) (region_at es x) ≡ followers n (get_or nexts x 0))
      (marked : Blocks 128 (length m.edges) n (λ x e v. v ≡ open_below (λ f. available m (edge_of m f) (region_at es x)) (suc e)) flags)
      (listing : RowsTo m (length m.edges) rows)
      (targets : Distinct es n → Targeted es n (bounds_of m) rows (length m.edges) resets spots) where
    leads : (x e i : ℕ) → x < n → e < length m.edges → i < length (edge_of m e).branches
        → available m (edge_of m e) (region_at es x) ≡ true
        → get_or spots (64 * get_or resets (16 * x + (branch_of m e i).mask) 0 + (branch_of m e i).target) 0
        ≡ number_in found (landing (bounds_of m) (region_at es x) (branch_of m e i))
    leads x e i hx he hi can =
        let r : Region = region_at es x in
        let q : Region = landing (bounds_of m) r (branch_of m e i) in
        let t : ℕ = number_in found q in
        let k = landing-number m found all r (edge_of m e) (branch_of m e i) (is-listed x hx) (member no_edge m.edges e he) can
        (member no_branch (edge_of m e).branches i hi) in
        let inside : t < n = within t k.inside in
        let is : region_at es t ≡ q = sym (here t inside) ∙ k.is (first m) in
        let mask = (fits e he).mask i hi in
        let in_rows : InUse rows (length m.edges) (branch_of m e i).mask =
        subst (λ (k : ℕ). InUse rows (length m.edges) k) ((listing e he).mask i hi)
        (by-branch e i he (omega (arith, hi, (listing e he).count))) in
        let place : (region_at es t).location ≡ (branch_of m e i).target =
        ap (λ (x : Region). x.location) is ∙ landing-location (bounds_of m) r m e i in
        ap (λ (l : ℕ). get_or spots (64 * get_or resets (16 * x + (branch_of m e i).mask) 0 + l) 0) (sym place)
        ∙ targets distinct x (branch_of m e i).mask t hx mask in_rows inside (ap bare is ∙ landing-bare (bounds_of m) r m e i)

    pub shown : Shown m (listed es n) labels nexts flags resets spots rows
    shown =
        record {
          label = λ x h. named x (within x h) ∙ ap (label_of m) (sym (here x (within x h)));
          delay = λ x h.
              ap (delay_numbers m found) (here x (within x h))
              ∙ delays x (within x h)
              ∙ ap (λ (k : ℕ). followers k (get_or nexts x 0)) (sym (listed-length es n));
          flag = λ x e h less.
              marked x e (within x h) less
              ∙ ap (λ (r : Region). open_below (λ f. available m (edge_of m f) r) (suc e)) (sym (here x (within x h)));
          action = λ e h. (listing e h).action;
          whole = λ e h. (listing e h).whole;
          count = λ e h. (listing e h).count;
          weight = λ e i h less. (listing e h).weight i less;
          mask = λ e i h less. (listing e h).mask i less;
          spot = λ e i h less. (listing e h).spot i less;
          target = λ x e i h he hi can.
              let at = here x (within x h) in
              leads x e i (within x h) he hi (ap (available m (edge_of m e)) (sym at) ∙ can)
              ∙ ap (λ (r : Region). number_in found (landing (bounds_of m) r (branch_of m e i))) (sym at);
        }

-- ---- The graph call

-- A refusal does not list all regions.
pub not-refused : (r : Refusal) (o : Outcome) (found : List Region) → Err r ≡ graph_of o → o ≡ whole found → ⊥
not-refused r o found e is =
    let t : ◌≡◌ {A = Result ℕ Refusal} (Err r) (Ok (length found)) = e ∙ ap graph_of is in
    let z : ◌≡◌ {A = ℕ} 0 1 = cc in
    omega arith

module _ (table es es' : List ℕ) (m : Model) (cap : ℕ) (read : read_table table ≡ accepted m) (n : ℕ)
    (answer : Ok n ≡ graph_of (from_answer cap (accepted m))) (left : es' ≡ entries_after es (from_answer cap (accepted m))) where
  outcome-read : outcome_of table cap ≡ from_answer cap (accepted m)
  unfolding outcome_of
  outcome-read = ap (from_answer cap) read

  -- n is answered: all regions were listed.
  pub all_found : (found : List Region) × (from_answer cap (accepted m) ≡ whole found)
  all_found =
      let (found, is, long) = (answers-n table cap n).0 (ap graph_of outcome-read ∙ sym answer) in
      (found, sym outcome-read ∙ is)

  module _ (found : List Region) (is : from_answer cap (accepted m) ≡ whole found) where
    found-long : length found ≡ n
    found-long = let e : ◌≡◌ {A = Result ℕ Refusal} (Ok (length found)) (Ok n) = sym (ap graph_of is) ∙ sym answer in cc

    -- The first n entries are the regions.
    pub list-found : listed es' n ≡ found
    list-found =
        ap₂ (λ (x : List ℕ) (k : ℕ). listed x k) (left ∙ ap (entries_after es) (sym outcome-read)) (sym found-long)
        ∙ listed-whole table es cap found (outcome-read ∙ is)

    pub all_listed : AllRegions m (listed es' n)
    all_listed = subst (AllRegions m) (sym list-found) (whole-model table cap found m (outcome-read ∙ is) read).0

    -- There are no more than there is room for.
    few-cap : n ≤ cap
    few-cap = omega (arith, found-long, (whole-graph table cap found (outcome-read ∙ is)).2)

    pub few-found : cap ≤ max_entries → n ≤ max_entries
    few-found room = omega (arith, few-cap)

    pub bytes-found : entry_bytes * cap ≤ length es → entry_bytes * n ≤ length es'
    bytes-found room =
        let long : length es' ≡ length es =
        ap length (left ∙ ap (entries_after es) (sym outcome-read)) ∙ entries-length table es cap room in
        omega (arith, long, few-cap)

-- A model that was read has at most 128 edges.
pub few-edges : (table : List ℕ) (m : Model) → read_table table ≡ accepted m → length m.edges ≤ 128
few-edges table m read = (sound table m read).few-edges

-- And an edge of it at most 8 branches; and it has at most four clocks.
pub few-branches : (table : List ℕ) (m : Model) → read_table table ≡ accepted m → (e : ℕ) → e < length m.edges
    → length (edge_of m e).branches ≤ 8
few-branches table m read e h = (all-at m.edges (sound table m read).edges (member no_edge m.edges e h)).few-branches

pub few-clocks : (table : List ℕ) (m : Model) → read_table table ≡ accepted m → m.clocks ≤ 4
few-clocks table m read = (sound table m read).clocks
