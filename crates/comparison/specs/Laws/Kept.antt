-- An item keeps its key under another block list (`key-kept`), where the two lists agree on what it reaches by delay and on where its
-- available edges lead.
use Rattle.std.specs.Prelude.{ℕ, zero, suc, ◌+◌, ◌*◌, ◌%◌, ◌≤◌, ◌<◌, ◌≡◌, Bool, true, ◌&&◌, ◌||◌, get_or}
use Rattle.std.proofs.Common.{arith}
use Rattle.std.proofs.Math.Path.{refl, ap, ap₂}
use Rattle.std.proofs.Math.Bool.{cond, not}
use mathlib.Core.List.{List, [], ◌∷◌, Memᴰ}
use Rattle.std.proofs.Math.Logic.{inl, inr}
use Rattle.std.proofs.Math.Dec.{eqb}
use Rattle.bisimulation.specs.Finite.{related, sum, any_of}
use Rattle.bisimulation.proofs.Laws.Tests.{both}
use Rattle.comparison.specs.Held.{most_items, chain, is_open, action_at, whole_at, count_at, target_at, branches_from}
use Rattle.comparison.specs.Compare.{weighed}
use Rattle.comparison.specs.Keys.{scatter, delay_room, delay_mark, is_reached, delay_key, joined, code_of, landed, is_new}
use Rattle.comparison.specs.Keys.{share_of, mixed, is_first_into, block_code, landed_by, edge_key, key_of}
use Rattle.comparison.specs.Laws.Compare.{some-agree}
use Rattle.comparison.specs.Laws.Keys.{sum-agree}

any-agree : (p q : ℕ → Bool) (l : List ℕ) → ((y : ℕ) → Memᴰ y l → p y ≡ q y) → any_of p l ≡ any_of q l
any-agree p q [] same = refl
any-agree p q (y ∷ l) same =
    ap₂ (λ (a b : Bool). a || b) (same y (Memᴰ.head refl)) (any-agree p q l (λ z m. same z (Memᴰ.tail m)))

-- Two lists that agree on what x reaches by delay, and on where its edges lead.
module _ (n k : ℕ) (list list' nexts flags resets spots rows : List ℕ) (x : ℕ)
    (delays : (u : ℕ) → Memᴰ u (chain n nexts n x) → get_or list' u 0 ≡ get_or list u 0)
    (lands : (e i : ℕ) → e < k → is_open flags x e ≡ true → i < count_at rows e
    → get_or list' (target_at resets spots rows x e i) 0 ≡ get_or list (target_at resets spots rows x e i) 0) where
  delay-key : delay_key n list' nexts x ≡ delay_key n list nexts x
  unfolding delay_key is_reached
  delay-key =
      sum-agree delay_room (λ v. cond (is_reached n list' nexts x v) (scatter v) 0) (λ v. cond (is_reached n list nexts x v) (scatter v) 0)
      (λ v _. ap (λ (b : Bool). cond b (scatter v) 0) (any-agree (λ y. eqb v (delay_mark list' y)) (λ y. eqb v (delay_mark list y))
      (chain n nexts n x) (λ y m. ap (λ (z : ℕ). eqb v (z % delay_room)) (delays y m))))

  -- Equal numbers of the targets of an edge: equal weights that land, and equal codes.
  weight-kept : (e c i more : ℕ) → e < k → is_open flags x e ≡ true → i + more ≤ count_at rows e → get_or list' c 0 ≡ get_or list c 0
      → sum list' c (branches_from resets spots rows x e i more) ≡ sum list c (branches_from resets spots rows x e i more)
  weight-kept e c i zero h t inside same = refl
  weight-kept e c i (suc more) h t inside same =
      rw (lands e i h t (omega arith), same, weight-kept e c (suc i) more h t (omega arith) same) refl

  branch_kept : (e : ℕ) → e < k → is_open flags x e ≡ true → (i : ℕ) → i < count_at rows e
      → landed_by list' resets spots rows x e i ≡ landed_by list resets spots rows x e i
  unfolding landed_by is_first_into block_code weighed
  branch_kept e h t i b =
      let c = target_at resets spots rows x e i in
      let first : is_first_into list' resets spots rows c x e i ≡ is_first_into list resets spots rows c x e i =
      ap not (some-agree i (λ j. related list' (target_at resets spots rows x e j) c)
      (λ j. related list (target_at resets spots rows x e j) c)
      (λ j a. ap₂ (λ (u v : ℕ). eqb u v) (lands e j h t (omega arith)) (lands e i h t b))) in
      let weight : weighed list' resets spots rows c x e ≡ weighed list resets spots rows c x e =
      weight-kept e c 0 (count_at rows e) h t (omega arith) (lands e i h t b) in
      let added : block_code list' resets spots rows c x e ≡ block_code list resets spots rows c x e =
      ap₂ (λ (v w : ℕ). cond (eqb w 0) 0 (mixed (v % most_items) (share_of w (whole_at rows e)))) (lands e i h t b) weight in
      ap₂ (λ (u : Bool) (m : ℕ). cond u m 0) first added

  code-kept : (e : ℕ) → e < k → is_open flags x e ≡ true → code_of list' resets spots rows x e ≡ code_of list resets spots rows x e
  unfolding code_of landed
  code-kept e h t =
      ap (λ (s : ℕ). joined (action_at rows e) s)
      (sum-agree (count_at rows e) (landed_by list' resets spots rows x e) (landed_by list resets spots rows x e) (branch_kept e h t))

  -- Codes count only for available edges.
  same_code : (e f : ℕ) → e < k → f < k → is_open flags x e ≡ true
      → (is_open flags x f && eqb (code_of list' resets spots rows x f) (code_of list' resets spots rows x e))
      ≡ (is_open flags x f && eqb (code_of list resets spots rows x f) (code_of list resets spots rows x e))
  same_code e f he hf t =
      elim (both (is_open flags x f)) [
        | inl u ↦ ap₂ (λ (a b : ℕ). is_open flags x f && eqb a b) (code-kept f hf u) (code-kept e he t)
        | inr u ↦ rw u refl
      ]

  edge-adds : (e : ℕ) → e < k
      → cond (is_new list' flags resets spots rows x e) (code_of list' resets spots rows x e) 0
      ≡ cond (is_new list flags resets spots rows x e) (code_of list resets spots rows x e) 0
  unfolding is_new
  edge-adds e h =
      elim (both (is_open flags x e)) [
        | inl t ↦ ap₂ (λ (s : Bool) (c : ℕ). cond (is_open flags x e && not s) c 0)
            (some-agree e (λ f. is_open flags x f && eqb (code_of list' resets spots rows x f) (code_of list' resets spots rows x e))
            (λ f. is_open flags x f && eqb (code_of list resets spots rows x f) (code_of list resets spots rows x e))
            (λ f b. same_code e f h (omega arith) t)) (code-kept e h t)
        | inr t ↦ rw t refl
      ]

  pub key-kept : key_of n k list' nexts flags resets spots rows x ≡ key_of n k list nexts flags resets spots rows x
  unfolding key_of edge_key
  key-kept =
      ap₂ (λ (a b : ℕ). a * 65536 + b + 1)
      (sum-agree k (λ e. cond (is_new list' flags resets spots rows x e) (code_of list' resets spots rows x e) 0)
      (λ e. cond (is_new list flags resets spots rows x e) (code_of list resets spots rows x e) 0) edge-adds) delay-key
