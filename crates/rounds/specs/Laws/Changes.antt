-- Calm items: two that were related in this round stay so in the next (`calm-next`), and each keeps its key (`key-calm`). So only
-- stirred items are compared (`stirred-settled`). Below these stand the steps of the loops that find calm items.
use Rattle.std.specs.Prelude.{ℕ, zero, suc, ◌+◌, ◌*◌, ◌<◌, ◌≡◌, Bool, true, false, cond, ◌⊎◌, eqb, ltb, length, get_or, set}
use Rattle.std.proofs.Common.{arith, sym, ◌∙◌, ap, ap₂, subst, inl, inr, get_or-set_same, get_or-set_other, ltb-true, ltb-false}
use mathlib.Core.List.{List, [], Memᴰ}
use Rattle.std.proofs.Math.Logic.{⊎_swap}
use Rattle.std.proofs.Math.Seq.{set_out}
use Rattle.bisimulation.specs.Structures.{Branch, Closed}
use Rattle.bisimulation.specs.Finite.{Finite, structure, related, next}
use Rattle.bisimulation.proofs.Laws.Tests.{both, clash, same?}
use Rattle.bisimulation.proofs.Laws.Matches.{next-iff}
use Rattle.bisimulation.specs.Laws.Blocks.{Successor, delayed, landed, Beyond}
use Rattle.bisimulation.proofs.Laws.Blocks.{matched-kept, successor-item}
use Rattle.comparison.specs.Held.{mask_room, most_items, chain, is_open}
use Rattle.comparison.specs.Held.{count_at, weight_at, mask_at, target_at, branches_from}
use Rattle.comparison.specs.Laws.Steps.{each_on}
use Rattle.rounds.specs.Names.{Changed}
use Rattle.rounds.specs.Changes.{lands_at, class_at, Calm, Stirred, Settled, BranchClassed, Classed, Still, Kept, MarkedAt, Marked}
use Rattle.rounds.specs.Changes.{UsedAt, UsedBy, Used, Untouched, EdgesCalm, Rests, Unreached, Spared}
use Rattle.rounds.specs.Rounds.{HeldIn, key_in}
use Rattle.comparison.specs.declared.held.Graph.{Graph}
use Rattle.comparison.specs.Laws.Compare.{branch-listed}
use Rattle.comparison.specs.Laws.Kept.{key-kept}
use Rattle.comparison.specs.Laws.Steps.{below_one}

-- A listed branch is one of the edge's.
branch_one : (resets spots rows : List ℕ) (x e i left : ℕ) (b : Branch ℕ) → Memᴰ b (branches_from resets spots rows x e i left)
    → (j : ℕ) × (j < i + left) × (b.target ≡ target_at resets spots rows x e j)
branch_one resets spots rows x e i zero b m = elim m [ ]
branch_one resets spots rows x e i (suc left) b (Memᴰ.head same) = (i, omega arith, ap (λ (b : Branch ℕ). b.target) same)
branch_one resets spots rows x e i (suc left) b (Memᴰ.tail m) =
    let (j, h, t) = branch_one resets spots rows x e (suc i) left b m in
    (j, omega arith, t)

-- ---- Calm items in slices that hold a structure

module _ (F : Finite) (g : Graph) (held : HeldIn F g) (closed : Closed (structure F)) where
  -- Available edges lead to items.
  pub targets-below : (x e i : ℕ) → x < g.n → e < g.k → is_open g.flags.now x e ≡ true → i < count_at g.rows.now e → lands_at g x e i < g.n
  targets-below x e i hx he t hi =
      let available : F.available x e ≡ true = held.available x e hx he ∙ t in
      subst (λ (m : ℕ). lands_at g x e i < m) (sym held.size)
      (closed.targets {x = x} {e = e} (subst (λ (m : ℕ). x < m) held.size hx) (subst (λ (m : ℕ). e < m) held.edges he, available)
      (record { weight = weight_at g.rows.now e i; target = lands_at g x e i })
      (subst (λ (l : List (Branch ℕ)). Memᴰ (record { weight = weight_at g.rows.now e i; target = lands_at g x e i }) l)
      (sym (held.branches x e hx he available))
      (branch-listed [] g.resets.now g.spots.now g.rows.now x e 0 (count_at g.rows.now e) i (omega arith) (omega arith))))

  module _ (names names' : List ℕ) (changed : List Bool) (kept : Changed g.n names names' changed) where
    -- What a calm item leads to has the name that it had.
    beyond-kept : (x u : ℕ) → x < g.n → Calm g changed x → Successor F x u
        → get_or names' u 0 ≡ get_or names u 0
    beyond-kept x u h calm s =
        kept u (subst (λ (m : ℕ). u < m) (sym held.size) (successor-item F closed x u (subst (λ (m : ℕ). x < m) held.size h) s))
        (still s)
      where
        still : Successor F x u → get_or changed u false ≡ false
        still (delayed m) = calm.delays u (subst (λ (l : List ℕ). Memᴰ u l) (held.delays x h) m)
        still (landed e l a b m t) =
            let he : e < g.k = subst (λ (m : ℕ). e < m) (sym held.edges) l in
            let (j, hj, at) = branch_one g.resets.now g.spots.now g.rows.now x e 0 (count_at g.rows.now e) b
            (subst (λ (l : List (Branch ℕ)). Memᴰ b l) (held.branches x e h he a) m) in
            ap (λ (z : ℕ). get_or changed z false) (t ∙ at)
            ∙ calm.lands e j he (sym (held.available x e h he) ∙ a) (omega arith)

    pub calm-next : (x y : ℕ) → x < g.n → y < g.n
        → Calm g changed x → Calm g changed y
        → next F names x y ≡ true → related names' x y ≡ true → next F names' x y ≡ true
    calm-next x y hx hy cx cy t r =
        let h = (next-iff F names x y).0 t in
        let sx : x < F.size = subst (λ (m : ℕ). x < m) held.size hx in
        let sy : y < F.size = subst (λ (m : ℕ). y < m) held.size hy in
        (next-iff F names' x y).1 (record {
          before = r;
          there = matched-kept F closed names names' x y sx sy same h.there;
          back = matched-kept F closed names names' y x sy sx (λ u v p q. same u v (⊎_swap p) (⊎_swap q)) h.back;
        })
      where
        name : (u : ℕ) → Beyond F x y u → get_or names' u 0 ≡ get_or names u 0
        name u (inl s) = beyond-kept x u hx cx s
        name u (inr s) = beyond-kept y u hy cy s

        same : (u v : ℕ) → Beyond F x y u → Beyond F x y v → related names u v ≡ related names' u v
        same u v p q = ap₂ (λ (a b : ℕ). eqb a b) (sym (name u p)) (sym (name v q))

    pub key-calm : (x : ℕ) → x < g.n → Calm g changed x
        → key_in g names' x ≡ key_in g names x
    key-calm x h calm =
        key-kept g.n g.k names names' g.nexts.now g.flags.now g.resets.now g.spots.now g.rows.now x
        (λ u m. kept u (item u m) (calm.delays u m))
        (λ e i he t hi. kept (lands_at g x e i) (targets-below x e i h he t hi) (calm.lands e i he t hi))
      where
        item : (u : ℕ) → Memᴰ u (chain g.n g.nexts.now g.n x) → u < g.n
        item u m =
            subst (λ (m : ℕ). u < m) (sym held.size)
            (closed.delays {x = x} {y = u} (subst (λ (m : ℕ). x < m) held.size h)
            (subst (λ (l : List ℕ). Memᴰ u l) (sym (held.delays x h)) m))

  pub stirred-settled : (names names' : List ℕ) (changed stirred : List Bool) → Changed g.n names names' changed
      → Stirred g changed stirred
      → ((x y : ℕ) → x < g.n → y < g.n → related names' x y ≡ next F names x y) → Settled (next F names') (related names') g.n stirred
  stirred-settled names names' changed stirred kept calm agree x y hx hy sx sy r =
      calm-next names names' changed kept x y hx hy (calm x hx sx) (calm y hy sy) (sym (agree x y hx hy) ∙ r) r

-- ---- Still items

-- An item marked as still has not changed, nor has anything that it reaches by delay.
pub still-calm : (g : Graph) (changed still : List Bool) → Still g changed still
    → (x : ℕ) → x < g.n → get_or still x false ≡ true → (u : ℕ) → Memᴰ u (chain g.n g.nexts.now g.n x) → get_or changed u false ≡ false
still-calm g changed still rests x h s u m = go g.n x h s m
  where
    go : (more x : ℕ) → x < g.n → get_or still x false ≡ true → Memᴰ u (chain g.n g.nexts.now more x) → get_or changed u false ≡ false
    go zero x h s (Memᴰ.head same) = ap (λ (z : ℕ). get_or changed z false) same ∙ (rests x h s).0
    go zero x h s (Memᴰ.tail m) = elim m [ ]
    go (suc more) x h s (Memᴰ.head same) = ap (λ (z : ℕ). get_or changed z false) same ∙ (rests x h s).0
    go (suc more) x h s (Memᴰ.tail m) = on (both (ltb (get_or g.nexts.now x 0) g.n)) (go more (get_or g.nexts.now x 0)) m
      where
        none : Memᴰ u [] → get_or changed u false ≡ false
        none m = elim m [ ]

        on : (ltb (get_or g.nexts.now x 0) g.n ≡ true) ⊎ (ltb (get_or g.nexts.now x 0) g.n ≡ false)
            → (get_or g.nexts.now x 0 < g.n → get_or still (get_or g.nexts.now x 0) false ≡ true
            → Memᴰ u (chain g.n g.nexts.now more (get_or g.nexts.now x 0))
            → get_or changed u false ≡ false)
            → Memᴰ u (cond (ltb (get_or g.nexts.now x 0) g.n) (chain g.n g.nexts.now more (get_or g.nexts.now x 0)) [])
            → get_or changed u false ≡ false
        on (inl t) rest m = let b = ltb-true (get_or g.nexts.now x 0) g.n t in rest b ((rests x h s).1 b) (rw t at m)
        on (inr f) rest m = none (rw f at m)

-- ---- Flags

-- Setting a flag keeps those that are set.
pub kept_set : (list : List Bool) (i : ℕ) → Kept list (set list i true)
kept_set list i j t = go (same? j i) (both (ltb i (length list)))
  where
    go : (j ≡ i) ⊎ (¬ (j ≡ i)) → (ltb i (length list) ≡ true) ⊎ (ltb i (length list) ≡ false) → get_or (set list i true) j false ≡ true
    go (inl same) (inl below) = rw same (get_or-set_same list i true false (ltb-true i (length list) below))
    go (inl same) (inr past) = rw (set_out list i true (ltb-false i (length list) past)) t
    go (inr other) _ = get_or-set_other list i j true false other ∙ t

pub kept_on : (old list : List Bool) (i : ℕ) → Kept old list → Kept old (set list i true)
kept_on old list i kept j t = kept_set list i j (kept j t)

-- One more flag of a list that is filled from the front.
pub filled_on : (P : ℕ → Bool → Type 0) (list : List Bool) (i : ℕ) (v : Bool) → i < length list
    → ((x : ℕ) → x < i → P x (get_or list x false)) → P i v → (x : ℕ) → x < i + 1 → P x (get_or (set list i v) x false)
filled_on P list i v h all here x b = go (below_one b)
  where
    go : (x ≡ i) ⊎ (x < i) → P x (get_or (set list i v) x false)
    go (inl same) = rw (same, get_or-set_same list i v false h) here
    go (inr below) = rw (get_or-set_other list i x v false (λ s. absurd (omega (arith, s)))) (all x below)

-- Marking the clocks of an item, and then those of the next.
pub marked-set : (g : Graph) (changed marks : List Bool) (x class : ℕ) → length marks ≡ most_items
    → class ≡ get_or g.resets.now (mask_room * x) 0 → MarkedAt g changed (set marks class true) x
marked-set g changed marks x class long e some small = rw (← e) (get_or-set_same marks class true false (omega arith))

pub marked-on : (g : Graph) (changed marks marks' : List Bool) (i : ℕ) → Kept marks marks' → ((x : ℕ) → x < i → MarkedAt g changed marks x)
    → MarkedAt g changed marks' i → (x : ℕ) → x < i + 1 → MarkedAt g changed marks' x
marked-on g changed marks marks' i kept all here =
    each_on (λ x. MarkedAt g changed marks' x) i
    (λ x h some small. kept (get_or g.resets.now (mask_room * x) 0) (all x h some small)) here

-- Flagging the mask of a branch, and those of an edge after those of the edges before.
pub used-on : (g : Graph) (used : List Bool) (e i mask : ℕ) → length used ≡ mask_room → mask ≡ mask_at g.rows.now e i
    → ((j : ℕ) → j < i → UsedAt g used e j) → (j : ℕ) → j < i + 1 → UsedAt g (set used mask true) e j
used-on g used e i mask long same all =
    each_on (λ j. UsedAt g (set used mask true) e j) i
    (λ j h small. kept_set used mask (mask_at g.rows.now e j) (all j h small))
    (λ small. rw (← same) (get_or-set_same used mask true false (omega arith)))

pub used-kept : (g : Graph) (used used' : List Bool) (i : ℕ) → Kept used used' → ((e : ℕ) → e < i → UsedBy g used e) → UsedBy g used' i
    → (e : ℕ) → e < i + 1 → UsedBy g used' e
used-kept g used used' i kept all here =
    each_on (λ e. UsedBy g used' e) i (λ e h j hj small. kept (mask_at g.rows.now e j) (all e h j hj small)) here

-- ---- Calm items by their clocks

pub branch-classed : (g : Graph) (x e i target mask class : ℕ)
    → target ≡ lands_at g x e i → target < g.n → mask ≡ mask_at g.rows.now e i → mask < mask_room
    → class ≡ class_at g x mask → class < most_items → get_or g.resets.now (mask_room * target) 0 ≡ class → BranchClassed g x e i
branch-classed g x e i target mask class target_is item mask_is masks class-is small same =
    record {
      item = subst (λ (t : ℕ). t < g.n) target_is item;
      mask = subst (λ (m : ℕ). m < mask_room) mask_is masks;
      class =
          ap (λ (t : ℕ). get_or g.resets.now (mask_room * t) 0) (sym target_is) ∙ same ∙ class-is ∙ ap (class_at g x) mask_is;
      marked = subst (λ (c : ℕ). c < most_items) (class-is ∙ ap (class_at g x) mask_is) small;
    }

-- A changed item is marked, so that one which is not marked has not changed.
unreached : (g : Graph) (changed used marks : List Bool) → Marked g changed marks → Used g used → (x : ℕ)
    → Untouched g used marks x → Unreached g changed x
unreached g changed used marks marked uses x untouched e i t he hi hm ht same small = go (both (get_or changed t false))
  where
    go : (get_or changed t false ≡ true) ⊎ (get_or changed t false ≡ false) → get_or changed t false ≡ false
    go (inr none) = none
    go (inl some) =
        absurd (clash (marked t ht some small)
        (ap (λ (c : ℕ). get_or marks c false) same ∙ untouched (mask_at g.rows.now e i) hm (uses e he i hi hm)))

pub rests-spared : (g : Graph) (changed used still marks stirred : List Bool) → Marked g changed marks → Used g used
    → Rests g changed used still marks stirred → Spared g changed still stirred
rests-spared g changed used still marks stirred marked uses rests x h s = ((rests x h s).0, go (rests x h s).1)
  where
    go : Untouched g used marks x ⊎ EdgesCalm g changed x → Unreached g changed x ⊎ EdgesCalm g changed x
    go (inl untouched) = inl (unreached g changed used marks marked uses x untouched)
    go (inr calm) = inr calm

pub spared-stirred : (g : Graph) (changed still stirred : List Bool) → Still g changed still → Classed g
    → Spared g changed still stirred → Stirred g changed stirred
spared-stirred g changed still stirred rests classed spared x h s =
    record {
      delays = still-calm g changed still rests x h (spared x h s).0;
      lands = λ e i he t hi. lands e i he t hi (classed x h e he t i hi) (spared x h s).1;
    }
  where
    lands : (e i : ℕ) → e < g.k → is_open g.flags.now x e ≡ true → i < count_at g.rows.now e → BranchClassed g x e i
        → Unreached g changed x ⊎ EdgesCalm g changed x → get_or changed (lands_at g x e i) false ≡ false
    lands e i he t hi b (inl none) =
        none e i (lands_at g x e i) he hi b.mask b.item b.class (subst (λ (c : ℕ). c < most_items) (sym b.class) b.marked)
    lands e i he t hi b (inr calm) = calm e he t i hi

-- Where all are stirred, nothing is said.
pub all-stirred : (g : Graph) (changed stirred : List Bool) → ((x : ℕ) → x < g.n → get_or stirred x false ≡ true)
    → Stirred g changed stirred
all-stirred g changed stirred all x h s = absurd (clash (all x h) s)
