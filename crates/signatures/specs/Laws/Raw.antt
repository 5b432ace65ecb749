-- Laws of raw forms, and the turns of the loops that make and use them.
use Rattle.std.specs.Prelude.{ℕ, zero, suc, ◌+◌, ◌-◌, ◌*◌, ◌/◌, ◌%◌, ◌≤◌, ◌<◌, ◌≡◌, refl, Bool, true, false, cond, ◌⊎◌, eqb, get_or, set}
use Rattle.std.specs.Prelude.{take}
use Rattle.std.proofs.Common.{arith, add-zero, length-append, add-one, eq-or-lt_of_le, sym, ◌∙◌, subst, inl, inr, length-set}
use Rattle.std.proofs.Common.{get_or-set_same, get_or-set_other, take-suc, take-suc-set, eq-eqb, ne_eqb}
use Rattle.std.proofs.Math.Nat.{div-zero}
use Rattle.std.proofs.Math.Path.{ap, ap₂}
use mathlib.Core.List.{List, [], ◌∷◌, ◌++◌, append_assoc, append-nil}
use Rattle.std.proofs.Math.ListN.{length, drop, length-drop, get_or-append}
use Rattle.signatures.specs.Laws.Sets.{both}
use Rattle.std.proofs.Math.Seq.{get_or-take, get_or-drop, length-take-le, take-length, get_or-append_seam}
use Rattle.bisimulation.specs.Structures.{Branch}
use Rattle.graph.specs.Readers.{branch_count, branch_slot, landing_of, action_of, denominator_of, low_of}
use Rattle.signatures.specs.Sets.{put_in, set_of}
use Rattle.signatures.specs.Walked.{Walked}
use Rattle.signatures.specs.Laws.Walked.{walked_start, walked_on, walked_end}
use Rattle.signatures.specs.Shares.{high_share, low_share}
use Rattle.signatures.specs.Steps.{name_of, named, target_names, mass_of, entry_of, shares_over, step_list}
use Rattle.signatures.specs.Structure.{branches_from}
use Rattle.signatures.specs.Raw.{raw_edge, raw_branches, raw_names, raw_step, Landed}

-- ---- Shares over nothing

pub high_zero : (w d : ℕ) → d ≡ 0 → 0 ≡ high_share w d
unfolding high_share
high_zero w d e = sym (ap (λ (k : ℕ). w * 1073741824 / k % 4294967296) e ∙ ap (λ (k : ℕ). k % 4294967296) (div-zero (w * 1073741824)))

pub low-zero : (w d : ℕ) → d ≡ 0 → 0 ≡ low_share w d
unfolding low_share
low-zero w d e = sym (ap (λ (k : ℕ). w * 1073741824 % k * 1073741824 / k) e ∙ div-zero _)

-- ---- Raw forms

pub names-raw : (edges raw : List ℕ) (i left : ℕ) → target_names (raw_branches edges raw i left) ≡ raw_names raw i left
names-raw edges raw i zero = refl
names-raw edges raw i (suc left) = ap (λ (l : List ℕ). get_or raw (1 + i) 0 ∷ l) (names-raw edges raw (suc i) left)

-- The names of a raw form, as the code takes them.
pub names-size : (raw : List ℕ) → length (take (length raw - 1) (drop 1 raw)) ≡ length raw - 1
names-size raw = length-take-le (length raw - 1) (drop 1 raw) (omega (arith, length-drop 1 raw))

pub names_at : (raw : List ℕ) (i : ℕ) → i < length raw - 1 → get_or (take (length raw - 1) (drop 1 raw)) i 0 ≡ get_or raw (1 + i) 0
names_at raw i h = get_or-take (length raw - 1) (drop 1 raw) i 0 h ∙ get_or-drop 1 raw i 0

-- The edge stands first, and behind it the names of the branches below i.
pub record Landing (graph names : List ℕ) (edge class : ℕ) (raw : List ℕ) (i : ℕ) : Type 0 where
  pub edge-is : raw_edge raw ≡ edge
  pub size : length raw ≡ i + 1
  pub names-are : (j : ℕ) → j < i → get_or raw (1 + j) 0 ≡ name_of names (landing_of graph class (branch_slot graph edge j))

pub landing_start : (graph names : List ℕ) (edge class : ℕ) → Landing graph names edge class (edge ∷ []) 0
landing_start graph names edge class = record { edge-is = refl; size = refl; names-are = λ j h. absurd (omega arith) }

-- One name more.
pub landing_on : {graph names : List ℕ} {edge class : ℕ} {raw : List ℕ} {i : ℕ} → Landing graph names edge class raw i → (v : ℕ)
    → v ≡ name_of names (landing_of graph class (branch_slot graph edge i)) → Landing graph names edge class (raw ++ (v ∷ [])) (i + 1)
landing_on {graph} {names} {edge} {class} {raw} {i} l v is =
    record {
      edge-is = get_or-append raw (v ∷ []) 0 0 (omega (arith, l.size)) ∙ l.edge-is;
      size = omega (arith, length-append raw (v ∷ []), l.size);
      names-are = λ j h. let most : j ≤ i = omega arith in go j (eq-or-lt_of_le most);
    }
  where
    go : (j : ℕ) → (j ≡ i) ⊎ (j < i)
        → get_or (raw ++ (v ∷ [])) (1 + j) 0 ≡ name_of names (landing_of graph class (branch_slot graph edge j))
    go j (inl e) =
        let at : 1 + j ≡ length raw = omega (arith, l.size, e) in
        ap (λ (k : ℕ). get_or (raw ++ (v ∷ [])) k 0) at ∙ get_or-append_seam raw v [] 0 ∙ is
        ∙ ap (λ (k : ℕ). name_of names (landing_of graph class (branch_slot graph edge k))) (sym e)
    go j (inr h) = get_or-append raw (v ∷ []) 0 (1 + j) (omega (arith, l.size)) ∙ l.names-are j h

pub landing-end : {graph names : List ℕ} {edge class : ℕ} {raw : List ℕ} {i : ℕ} → Landing graph names edge class raw i
    → i ≡ branch_count graph edge → i ≤ 8 → Landed graph names edge class raw (length raw)
landing-end l e few =
    record {
      edge-is = l.edge-is;
      size_is = l.size ∙ ap (λ (k : ℕ). k + 1) e;
      few = omega (arith, l.size);
      names-are = λ j h. l.names-are j (omega arith);
    }

-- One name more stands behind the edge.
pub landed-on : (graph names : List ℕ) (edge class : ℕ) (raw : List ℕ) (i v : ℕ) → 1 + i < length raw → raw_edge raw ≡ edge
    → ((j : ℕ) → j < i → get_or raw (1 + j) 0 ≡ name_of names (landing_of graph class (branch_slot graph edge j)))
    → v ≡ name_of names (landing_of graph class (branch_slot graph edge i))
    → (raw_edge (set raw (1 + i) v) ≡ edge)
    × ((j : ℕ) → j < i + 1 → get_or (set raw (1 + i) v) (1 + j) 0 ≡ name_of names (landing_of graph class (branch_slot graph edge j)))
landed-on graph names edge class raw i v room first before is =
    (get_or-set_other raw (1 + i) 0 v 0 (omega arith) ∙ first, λ j h. let most : j ≤ i = omega arith in go j (eq-or-lt_of_le most))
  where
    go : (j : ℕ) → (j ≡ i) ⊎ (j < i)
        → get_or (set raw (1 + i) v) (1 + j) 0 ≡ name_of names (landing_of graph class (branch_slot graph edge j))
    go j (inl e) = rw e (get_or-set_same raw (1 + i) v 0 room ∙ is)
    go j (inr h) = get_or-set_other raw (1 + i) (1 + j) v 0 (omega arith) ∙ before j h

module _ {graph names : List ℕ} {edge class : ℕ} {raw : List ℕ} {size : ℕ} (landed : Landed graph names edge class raw size)
    (edges : List ℕ) where
  landed-branches : (i left : ℕ) → i + left ≤ branch_count graph edge
      → raw_branches edges raw i left ≡ named names (branches_from graph edges class edge i left)
  landed-branches i zero h = refl
  landed-branches i (suc left) h =
      rw (landed.edge-is, landed.names-are i (omega (arith, h)), landed-branches (suc i) left (omega (arith, h))) refl

  taken-branches : (i left : ℕ) → i + left < size → raw_branches edges (take size raw) i left ≡ raw_branches edges raw i left
  taken-branches i zero h = refl
  taken-branches i (suc left) h =
      rw (
        get_or-take size raw 0 0 (omega (arith, h)),
        get_or-take size raw (1 + i) 0 (omega (arith, h)),
        taken-branches (suc i) left
            (omega (arith, h)),
      ) refl

  -- The raw form means the edge's step.
  pub landed-step : size ≤ length raw
      → raw_step edges (take size raw)
      ≡ step_list (action_of edges edge) (denominator_of edges edge)
      (named names (branches_from graph edges class edge 0 (branch_count graph edge)))
  unfolding raw_step
  landed-step room =
      let count : length (take size raw) - 1 ≡ branch_count graph edge =
      omega (arith, length-take-le size raw room, landed.size_is) in
      let first : raw_edge (take size raw) ≡ edge = get_or-take size raw 0 0 (omega (arith, landed.size_is)) ∙ landed.edge-is in
      ap (λ (k : ℕ). step_list (action_of edges (raw_edge (take size raw))) (denominator_of edges (raw_edge (take size raw)))
      (raw_branches edges (take size raw) 0 k)) count
      ∙ ap₂ (λ (e : ℕ) (l : List (Branch ℕ)). step_list (action_of edges e) (denominator_of edges e) l) first
      (taken-branches 0 (branch_count graph edge) (omega (arith, landed.size_is)) ∙ landed-branches 0 (branch_count graph edge)
      (omega arith))

-- A whole list that is a raw form means it.
pub landed-whole : {graph names : List ℕ} {edge class : ℕ} {raw : List ℕ} → Landed graph names edge class raw (length raw)
    → (edges : List ℕ) → raw_step edges raw
    ≡ step_list (action_of edges edge) (denominator_of edges edge)
    (named names (branches_from graph edges class edge 0 (branch_count graph edge)))
landed-whole {raw = raw} landed edges =
    ap (raw_step edges) (sym (take-length raw)) ∙ landed-step landed edges (omega arith)

-- ---- Masses

-- The sum so far and the mass of the rest are the mass of the whole.
module _ (edges raw : List ℕ) (name count : ℕ) where
  pub mass-start : 0 + mass_of name (raw_branches edges raw 0 (count - 0)) ≡ mass_of name (raw_branches edges raw 0 count)
  mass-start = let e : count - 0 ≡ count = omega arith in ap (λ (k : ℕ). 0 + mass_of name (raw_branches edges raw 0 k)) e ∙ omega arith

  module _ (sum i : ℕ) (is : sum + mass_of name (raw_branches edges raw i (count - i)) ≡ mass_of name (raw_branches edges raw 0 count))
    where
      pub mass-on : (more : ℕ) → i < count → more ≡ cond (eqb (get_or raw (1 + i) 0) name) (low_of edges (raw_edge raw) i) 0
          → (more + sum) + mass_of name (raw_branches edges raw (i + 1) (count - (i + 1))) ≡ mass_of name (raw_branches edges raw 0 count)
      mass-on more h e =
          let next : count - i ≡ suc (count - (i + 1)) = omega arith in
          ap₂ (λ (m k : ℕ). (m + sum) + mass_of name (raw_branches edges raw k (count - (i + 1)))) e (add-one i)
          ∙ go (eqb (get_or raw (1 + i) 0) name)
          ∙ sym (ap (λ (k : ℕ). sum + mass_of name (raw_branches edges raw i k)) next) ∙ is
        where
          go : (b : Bool) → (cond b (low_of edges (raw_edge raw) i) 0 + sum) + mass_of name
              (raw_branches edges raw (suc i) (count - (i + 1)))
              ≡ sum + cond b (low_of edges (raw_edge raw) i + mass_of name (raw_branches edges raw (suc i) (count - (i + 1))))
              (mass_of name (raw_branches edges raw (suc i) (count - (i + 1))))
          go true = omega arith
          go false = omega arith

      turned : (more : ℕ) → i < count → more ≡ cond (eqb (get_or raw (1 + i) 0) name) (low_of edges (raw_edge raw) i) 0
          → (sum + more) + mass_of name (raw_branches edges raw (i + 1) (count - (i + 1))) ≡ mass_of name (raw_branches edges raw 0 count)
      turned more h e = omega (arith, mass-on more h e)

      -- The branch lands in the name, or in another.
      pub mass-here : (more : ℕ) → i < count → more ≡ low_of edges (raw_edge raw) i → get_or raw (1 + i) 0 ≡ name
          → (sum + more) + mass_of name (raw_branches edges raw (i + 1) (count - (i + 1))) ≡ mass_of name (raw_branches edges raw 0 count)
      mass-here more h e same =
          turned more h (e ∙ sym (ap (λ (b : Bool). cond b (low_of edges (raw_edge raw) i) 0) (eq-eqb (get_or raw (1 + i) 0) name same)))

      pub mass-past : i < count → (get_or raw (1 + i) 0 ≡ name → ⊥)
          → sum + mass_of name (raw_branches edges raw (i + 1) (count - (i + 1))) ≡ mass_of name (raw_branches edges raw 0 count)
      mass-past h other =
          sym (ap (λ (s : ℕ). s + mass_of name (raw_branches edges raw (i + 1) (count - (i + 1)))) (add-zero sum))
          ∙ turned 0 h (sym (ap (λ (b : Bool). cond b (low_of edges (raw_edge raw) i) 0) (ne_eqb (get_or raw (1 + i) 0) name other)))

      pub mass-end : count ≤ i → sum ≡ mass_of name (raw_branches edges raw 0 count)
      mass-end h =
          let none : count - i ≡ 0 = omega arith in
          let whole : sum + 0 ≡ mass_of name (raw_branches edges raw 0 count) =
          sym (ap (λ (k : ℕ). sum + mass_of name (raw_branches edges raw i k)) none) ∙ is in
          omega (arith, whole)

-- Names are gathered one after the other.
module _ (raw : List ℕ) (count : ℕ) where
  pub gather-start : (list : List ℕ) → Walked (raw_names raw 0 count) (take 0 list) (raw_names raw 0 (count - 0))
  gather-start list =
      let e : count ≡ count - 0 = omega arith in
      subst (λ (k : ℕ). Walked (raw_names raw 0 count) [] (raw_names raw 0 k)) e (walked_start (raw_names raw 0 count))

  module _ (list : List ℕ) (len i : ℕ) (w : Walked (raw_names raw 0 count) (take len list) (raw_names raw i (count - i))) where
    pub gather-on : (list' : List ℕ) (len' v : ℕ) → i < count → v ≡ get_or raw (1 + i) 0 → take len' list' ≡ put_in v (take len list)
        → Walked (raw_names raw 0 count) (take len' list') (raw_names raw (i + 1) (count - (i + 1)))
    gather-on list' len' v h is put =
        let next : count - i ≡ suc (count - (i + 1)) = omega arith in
        subst (λ (l : List ℕ). Walked (raw_names raw 0 count) l (raw_names raw (i + 1) (count - (i + 1))))
        (sym (put ∙ ap (λ (k : ℕ). put_in k (take len list)) is))
        (subst (λ (k : ℕ). Walked (raw_names raw 0 count) (put_in (get_or raw (1 + i) 0) (take len list))
        (raw_names raw k (count - (i + 1))))
        (sym (add-one i))
        (walked_on (raw_names raw 0 count) (take len list) (raw_names raw (suc i) (count - (i + 1))) (get_or raw (1 + i) 0)
        (subst (λ (k : ℕ). Walked (raw_names raw 0 count) (take len list) (raw_names raw i k)) next w)))

    pub gather-end : count ≤ i → take len list ≡ set_of (raw_names raw 0 count)
    gather-end h =
        let none : count - i ≡ 0 = omega arith in
        walked_end (raw_names raw 0 count) (take len list)
        (subst (λ (k : ℕ). Walked (raw_names raw 0 count) (take len list) (raw_names raw i k)) none w)

  -- The same for a set that is a list.
  pub gathering-start : Walked (raw_names raw 0 count) [] (raw_names raw 0 (count - 0))
  gathering-start = gather-start []

  module _ (set : List ℕ) (i : ℕ) (w : Walked (raw_names raw 0 count) set (raw_names raw i (count - i))) where
    whole : Walked (raw_names raw 0 count) (take (length set) set) (raw_names raw i (count - i))
    whole = rw (take-length set) w

    pub gathering-on : (v : ℕ) → i < count → v ≡ get_or raw (1 + i) 0
        → Walked (raw_names raw 0 count) (put_in v set) (raw_names raw (i + 1) (count - (i + 1)))
    gathering-on v h is =
        rw (take-length (put_in v set))
        at (gather-on set (length set) i whole (put_in v set) (length (put_in v set)) v h is
        (take-length (put_in v set) ∙ ap (put_in v) (sym (take-length set))))

    pub gathering-end : count ≤ i → set ≡ set_of (raw_names raw 0 count)
    gathering-end h = sym (take-length set) ∙ gather-end set (length set) i whole h

-- ---- Entries

pub entry-none : (name mass d : ℕ) → mass ≡ 0 → entry_of name mass d ≡ []
entry-none name mass d e =
    ap (λ (b : Bool). cond b [] (name ∷ high_share mass d ∷ low_share mass d ∷ [])) (eq-eqb mass 0 e)

pub entry-some : (name mass d : ℕ) → (mass ≡ 0 → ⊥) → entry_of name mass d ≡ name ∷ high_share mass d ∷ low_share mass d ∷ []
entry-some name mass d e =
    ap (λ (b : Bool). cond b [] (name ∷ high_share mass d ∷ low_share mass d ∷ [])) (ne_eqb mass 0 e)

-- Three numbers stored behind the first ones.
pub three-more : (l : List ℕ) (at a b c : ℕ) → at + 3 ≤ length l
    → take (at + 3) (set (set (set l at a) (at + 1) b) (at + 2) c) ≡ take at l ++ (a ∷ b ∷ c ∷ [])
three-more l at a b c room =
    ap (λ (k : ℕ). take k (set (set (set l at a) (at + 1) b) (at + 2) c)) third
    ∙ take-suc-set (set (set l at a) (at + 1) b) (at + 2) c (omega (arith, size₂))
    ∙ ap (λ (r : List ℕ). r ++ (c ∷ [])) (ap (λ (k : ℕ). take k (set (set l at a) (at + 1) b)) second
    ∙ take-suc-set (set l at a) (at + 1) b (omega (arith, size₁))
    ∙ ap (λ (r : List ℕ). r ++ (b ∷ [])) (ap (λ (k : ℕ). take k (set l at a)) first ∙ take-suc-set l at a (omega arith)))
    ∙ append_assoc (take at l ++ (a ∷ [])) (b ∷ []) (c ∷ []) ∙ append_assoc (take at l) (a ∷ []) (b ∷ c ∷ [])
  where
    first : at + 1 ≡ suc at
    first = omega arith

    second : at + 2 ≡ suc (at + 1)
    second = omega arith

    third : at + 3 ≡ suc (at + 2)
    third = omega arith

    size₁ : length (set l at a) ≡ length l
    size₁ = length-set l at a

    size₂ : length (set (set l at a) (at + 1) b) ≡ length l
    size₂ = length-set (set l at a) (at + 1) b ∙ size₁

module _ (mass : ℕ → ℕ) (d : ℕ) where
  shares-append : (a b : List ℕ) → shares_over mass d (a ++ b) ≡ shares_over mass d a ++ shares_over mass d b
  shares-append [] b = refl
  shares-append (m ∷ a) b =
      ap (λ (r : List ℕ). entry_of m (mass m) d ++ r) (shares-append a b)
      ∙ sym (append_assoc (entry_of m (mass m) d) (shares_over mass d a) (shares_over mass d b))

  -- One name more.
  pub shares-on : (S start l : List ℕ) (j m : ℕ) → j < length S → m ≡ get_or S j 0 → l ≡ start ++ shares_over mass d (take j S)
      → l ++ entry_of m (mass m) d ≡ start ++ shares_over mass d (take (j + 1) S)
  shares-on S start l j m h is e =
      ap₂ (λ (r : List ℕ) (k : ℕ). r ++ entry_of k (mass k) d) e is
      ∙ append_assoc start (shares_over mass d (take j S)) (entry_of (get_or S j 0) (mass (get_or S j 0)) d)
      ∙ ap (λ (r : List ℕ). start ++ r) (sym (ap (λ (k : ℕ). shares_over mass d (take k S)) (add-one j)
      ∙ ap (shares_over mass d) (take-suc S j 0 h) ∙ shares-append (take j S) (get_or S j 0 ∷ [])
      ∙ ap (λ (r : List ℕ). shares_over mass d (take j S) ++ r) (append-nil (entry_of (get_or S j 0) (mass (get_or S j 0)) d))))

  -- A share is three numbers at most.
  pub shares-size : (S : List ℕ) → length (shares_over mass d S) ≤ 3 * length S
  shares-size [] = omega arith
  shares-size (m ∷ S) =
      elim (both (eqb (mass m) 0)) [
        | inl e ↦ rw e (omega (arith, shares-size S))
        | inr e ↦ rw e (omega (arith, shares-size S))
      ]

-- The list of a step, from its first number and the shares.
pub step-made : (edges raw list names l : List ℕ) (action d : ℕ) → 0 < length list → action ≡ action_of edges (raw_edge raw)
    → names ≡ set_of (raw_names raw 0 (length raw - 1))
    → l ≡ take 1 (set list 0 action) ++ shares_over (λ m. mass_of m (raw_branches edges raw 0 (length raw - 1)))
    (denominator_of edges (raw_edge raw)) names
    → l ≡ raw_step edges raw
unfolding raw_step step_list
step-made edges raw list names l action d some is same e =
    e ∙ ap (λ (r : List ℕ). r ++ shares_over (λ m. mass_of m (raw_branches edges raw 0 (length raw - 1)))
    (denominator_of edges (raw_edge raw)) names)
    (take-suc-set list 0 action some)
    ∙ ap₂ (λ (a : ℕ) (n : List ℕ). a ∷ shares_over (λ m. mass_of m (raw_branches edges raw 0 (length raw - 1)))
    (denominator_of edges (raw_edge raw)) n)
    is (same ∙ ap set_of (sym (names-raw edges raw 0 (length raw - 1))))

-- The same for a list that has the action first.
pub step-listed : (edges raw names l : List ℕ) (action : ℕ) → action ≡ action_of edges (raw_edge raw)
    → names ≡ set_of (raw_names raw 0 (length raw - 1))
    → l ≡ (action ∷ []) ++ shares_over (λ m. mass_of m (raw_branches edges raw 0 (length raw - 1)))
    (denominator_of edges (raw_edge raw)) names
    → l ≡ raw_step edges raw
step-listed edges raw names l action = step-made edges raw (0 ∷ []) names l action 0 (omega arith)
