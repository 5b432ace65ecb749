-- Laws on what is stored from number 0 on, and those for the loops that list the edges and their places.
use Prim.Native.Nat.{ℕ, zero, suc, ◌+◌, ◌-◌, ◌≤◌, ◌<◌, min}
use native.Mathlib.Omega.{arith}
use Rattle.std.proofs.Math.Nat.{suc_inj}
use Rattle.std.proofs.Common.{add-zero, add-suc, suc-add, zero-add, add-one, ◌∙◌, inl, inr, ⊎_elim}
use Rattle.std.proofs.Common.{length-set, get_or-set_same, get_or-set_other, eq-eqb, ne_eqb}
use Rattle.std.specs.Prelude.{◌≡◌, Bool, true, false, ◌⊎◌, length, set, get_or, replicate, eqb}
use Rattle.std.proofs.Math.Path.{refl, sym, ap}
use Rattle.std.proofs.Math.Bool.{cond}
use mathlib.Core.List.{List, [], ◌∷◌, map, map-id}
use Rattle.std.proofs.Math.Decide.{dec_lt}
use Rattle.std.proofs.lemmas.List.{length-replicate, get_or-replicate}
use Rattle.std.proofs.Math.ListN.{get_or-eq_default}
use Rattle.std.proofs.Math.Seq.{sets, set_out}
use Rattle.table.specs.Records.{kind_at}
use Rattle.table.specs.Format.{max_edges}
use Rattle.table.specs.Access.{no_edge_struct, read_edge, next_edge, places_from}
use Rattle.table.specs.declared.model.Edge.{Edge as EdgeStruct}
use Rattle.table.specs.Edges.{edge_list}

-- ---- Values that are stored from number i on: numbers before i and after the last value keep what they had, each value stands
-- where there is room for it, and from the end of the list on nothing is stored.

sets-before : {A : Type 0} (z : A) (vs now : List A) (i j : ℕ) → j < i → get_or (sets now i vs) j z ≡ get_or now j z
sets-before z [] now i j h = refl
sets-before z (v ∷ vs) now i j h = sets-before z vs (set now i v) (suc i) j (omega arith) ∙ get_or-set_other now i j v z (omega arith)

sets-after : {A : Type 0} (z : A) (vs now : List A) (i j : ℕ) → i + length vs ≤ j → get_or (sets now i vs) j z ≡ get_or now j z
sets-after z [] now i j h = refl
sets-after z (v ∷ vs) now i j h = sets-after z vs (set now i v) (suc i) j (omega arith) ∙ get_or-set_other now i j v z (omega arith)

sets-at : {A : Type 0} (z : A) (vs now : List A) (i j : ℕ) → j < length vs → i + j < length now
    → get_or (sets now i vs) (i + j) z ≡ get_or vs j z
sets-at z [] now i j h room = absurd (omega arith)
sets-at z (v ∷ vs) now i zero h room =
    rw (add-zero i) (sets-before z vs (set now i v) (suc i) i (omega arith) ∙ get_or-set_same now i v z (omega arith))
sets-at z (v ∷ vs) now i (suc j) h room =
    ap (λ n. get_or (sets (set now i v) (suc i) vs) n z) (add-suc i j ∙ sym (suc-add i j))
    ∙ sets-at z vs (set now i v) (suc i) j (omega arith) (rw length-set (omega arith))

sets-out : {A : Type 0} (vs now : List A) (i : ℕ) → length now ≤ i → sets now i vs ≡ now
sets-out [] now i h = refl
sets-out (v ∷ vs) now i h = sets-out vs (set now i v) (suc i) (rw length-set (omega arith)) ∙ set_out now i v h

-- Value e of what was stored from number 0 on, where there is room for it.
pub stored_at : {A : Type 0} (z : A) (vs old : List A) (e : ℕ) → e < length vs → e < length old
    → get_or (sets old 0 vs) e z ≡ get_or vs e z
stored_at z vs old e h room =
    ap (λ n. get_or (sets old 0 vs) n z) (sym (zero-add e)) ∙ sets-at z vs old 0 e h (rw zero-add room)

-- Edge e of the edge list of at most 128 edges; past the last, an edge of zeros.
pub edge-in-list : (edges : List EdgeStruct) → length edges ≤ max_edges → (e : ℕ)
    → get_or (edge_list edges) e no_edge_struct ≡ get_or edges e no_edge_struct
unfolding edge_list
edge-in-list edges few e = of (dec_lt e (length edges))
  where
    old : List EdgeStruct
    old = replicate max_edges no_edge_struct

    of : Dec (e < length edges) → get_or (sets old 0 edges) e no_edge_struct ≡ get_or edges e no_edge_struct
    of (yes h) = stored_at no_edge_struct edges old e h (rw length-replicate (omega arith))
    of (no h) =
        sets-after no_edge_struct edges old 0 e (rw zero-add (omega arith))
        ∙ zeros (dec_lt e max_edges)
        ∙ sym (get_or-eq_default edges no_edge_struct (omega arith))
      where
        zeros : Dec (e < max_edges) → get_or old e no_edge_struct ≡ no_edge_struct
        zeros (yes less) = get_or-replicate max_edges e no_edge_struct no_edge_struct less
        zeros (no more) = get_or-eq_default old no_edge_struct {n = e} (rw length-replicate (omega arith))

-- ---- The loops that go from edge to edge

module _ (table : List ℕ) (count first : ℕ) where
  -- Storing what `part` says of each edge by its place, from edge i at a place on, comes to what storing it for all edges comes to.
  abbrev pub Comes : {A : Type 0} → (ℕ → A) → List A → ℕ → ℕ → List A → Type 0
  Comes part old at i now =
      sets now i (map part (places_from table (count - i) at)) ≡ sets old 0 (map part (places_from table count first))

  pub comes-on : {A : Type 0} (part : ℕ → A) (old : List A) (at i : ℕ) (now next : List A) → i < count → kind_at table at ≡ 4
      → next ≡ set now i (part at) → Comes part old at i now → Comes part old (next_edge table at) (i + 1) next
  unfolding places_from
  comes-on part old at i now next less here stored comes =
      let k : ℕ = count - (i + 1) in
      let more : count - i ≡ suc k = omega arith in
      let places : places_from table (count - i) at ≡ at ∷ places_from table k (next_edge table at) =
      ap (λ n. places_from table n at) more
      ∙ ap (λ b. cond b (at ∷ places_from table k (next_edge table at)) []) (eq-eqb (kind_at table at) 4 here) in
      rw stored
      (ap (λ n. sets (set now i (part at)) n (map part (places_from table k (next_edge table at)))) (add-one i)
      ∙ sym (ap (λ l. sets now i (map part l)) places)
      ∙ comes)

  -- Where no edge stands, or all edges were met, there is nothing left to store.
  none_left : (at i : ℕ) → (count ≤ i) ⊎ (kind_at table at ≡ 4 → ⊥) → places_from table (count - i) at ≡ []
  unfolding places_from
  none_left at i (inl all) = let over : count - i ≡ 0 = omega arith in ap (λ n. places_from table n at) over
  none_left at i (inr other) = none (count - i)
    where
      none : (n : ℕ) → places_from table n at ≡ []
      none zero = refl
      none (suc n) = rw (ne_eqb (kind_at table at) 4 other)

  comes-over : {A : Type 0} (part : ℕ → A) (old : List A) (at i : ℕ) (now : List A)
      → (count ≤ i) ⊎ (kind_at table at ≡ 4 → ⊥) → Comes part old at i now → now ≡ sets old 0 (map part (places_from table count first))
  comes-over part old at i now over comes = sym (ap (λ l. sets now i (map part l)) (none_left at i over)) ∙ comes

  -- What the loop over the places leaves.
  pub places-over : (old : List ℕ) (at i : ℕ) (now : List ℕ) → (count ≤ i) ⊎ (kind_at table at ≡ 4 → ⊥)
      → Comes (λ p. p) old at i now → now ≡ sets old 0 (places_from table count first)
  places-over old at i now over comes =
      comes-over (λ p. p) old at i now over comes ∙ ap (sets old 0) (map-id (places_from table count first))

-- The edges that a list has no room for leave no trace in it.
places-cut : {A : Type 0} (part : ℕ → A) (table : List ℕ) (c n at i : ℕ) (now : List A) → c ≤ n → (c ≡ n) ⊎ (length now ≤ i + c)
    → sets now i (map part (places_from table c at)) ≡ sets now i (map part (places_from table n at))
unfolding places_from
places-cut part table zero n at i now less (inl e) = ap (λ k. sets now i (map part (places_from table k at))) e
places-cut part table zero n at i now less (inr out) = sym (sets-out (map part (places_from table n at)) now i (omega arith))
places-cut part table (suc c) zero at i now less whole = absurd (omega arith)
places-cut {A = A} part table (suc c) (suc n) at i now less whole =
    of (eqb (kind_at table at) 4) (places-cut part table c n (next_edge table at) (suc i) next (omega arith) rest)
  where
    next : List A
    next = set now i (part at)

    rest : (c ≡ n) ⊎ (length next ≤ suc i + c)
    rest =
        ⊎_elim (λ (e : suc c ≡ suc n). inl (suc_inj e))
        (λ (out : length now ≤ i + suc c). inr (rw length-set (omega arith))) whole

    of : (b : Bool)
        → sets next (suc i) (map part (places_from table c (next_edge table at)))
        ≡ sets next (suc i) (map part (places_from table n (next_edge table at)))
        → sets now i (map part (cond b (at ∷ places_from table c (next_edge table at)) []))
        ≡ sets now i (map part (cond b (at ∷ places_from table n (next_edge table at)) []))
    of true more = more
    of false more = refl

-- What the loop over the edges that the edge list has room for leaves.
pub list_over : (table : List ℕ) (n first at i : ℕ) (now : List EdgeStruct) → (min n max_edges ≤ i) ⊎ (kind_at table at ≡ 4 → ⊥)
    → Comes table (min n max_edges) first (read_edge table) (edge_list []) at i now
    → now ≡ edge_list (map (read_edge table) (places_from table n first))
unfolding edge_list
list_over table n first at i now over comes =
    comes-over table (min n max_edges) first (read_edge table) none at i now over comes
    ∙ places-cut (read_edge table) table (min n max_edges) n first 0 none (omega arith) (of (dec_lt n max_edges))
  where
    none : List EdgeStruct
    none = replicate max_edges no_edge_struct

    of : Dec (n < max_edges) → (min n max_edges ≡ n) ⊎ (length none ≤ 0 + min n max_edges)
    of (yes few) = inl (omega arith)
    of (no many) = inr (omega (arith, length-replicate max_edges no_edge_struct))
