-- Structures that agree have equal rounds, blocks and judgements. Edges may be numbered in any way: each available edge of one has an equal
-- one in the
-- other.
use Prim.Native.Nat.{ℕ, zero, suc, ◌<◌}
use Rattle.std.proofs.Common.{sym, ◌∙◌}
use Rattle.std.specs.Prelude.{◌≡◌, refl, Bool, true, ◌&&◌}
use Rattle.std.proofs.Math.Path.{ap, ap₂, subst}
use Rattle.std.proofs.Math.Bool.{cond}
use mathlib.Core.List.{List, Memᴰ}
use Rattle.std.proofs.Math.Dec.{eqb}
use Rattle.bisimulation.specs.Structures.{Branch, total, Closed}
use Rattle.bisimulation.specs.Finite.{Finite, structure, related, all_below, some_below, alike, delays_match, edges_match, matches}
use Rattle.bisimulation.specs.Finite.{next}
use Rattle.bisimulation.specs.Finite.{blocks_by, blocks, rounds, rest_from, same_list, last_blocks, block_count, leaders, accepts}
use Rattle.bisimulation.proofs.Laws.Tests.{same_test, and-iff, cond-iff, all-below, some_below_lem, below-some}
use Rattle.bisimulation.proofs.Laws.Leads.{leads-agree}

-- An edge of one structure at an item is an edge of another there: available, with the same action, denominator and branches.
pub record SameEdge (F G : Finite) (x e f : ℕ) : Type 0 where
  pub within : f < G.edges
  pub available : G.available x f ≡ true
  pub action : F.action x e ≡ G.action x f
  pub whole : F.whole x e ≡ G.whole x f
  pub branches : F.branches x e ≡ G.branches x f

-- Two structures agree below their size.
pub record Agree (F G : Finite) : Type 0 where
  pub size : F.size ≡ G.size
  pub label : (x : ℕ) → x < F.size → F.label x ≡ G.label x
  pub delays : (x : ℕ) → x < F.size → F.delays x ≡ G.delays x
  pub to : (x e : ℕ) → x < F.size → e < F.edges → F.available x e ≡ true → (f : ℕ) × SameEdge F G x e f
  pub fro : (x e : ℕ) → x < F.size → e < G.edges → G.available x e ≡ true → (f : ℕ) × SameEdge G F x e f

pub agree-back : {F G : Finite} → Agree F G → Agree G F
agree-back a =
    record {
      size = sym a.size;
      label = λ x h. sym (a.label x (subst (λ (n : ℕ). x < n) (sym a.size) h));
      delays = λ x h. sym (a.delays x (subst (λ (n : ℕ). x < n) (sym a.size) h));
      to = λ x e h. a.fro x e (subst (λ (n : ℕ). x < n) (sym a.size) h);
      fro = λ x e h. a.to x e (subst (λ (n : ℕ). x < n) (sym a.size) h);
    }

-- ---- One round

module _ {F G : Finite} (a : Agree F G) (list : List ℕ) where
  -- Edges that are equal are alike in both.
  alike_same : (x e y d f g : ℕ) → SameEdge F G x e f → SameEdge F G y d g → alike F list x e y d ≡ alike G list x f y g
  alike_same x e y d f g p q =
      rw (p.action, q.action, p.whole, q.whole, p.branches, q.branches, a.size) refl

  edges-to : (x y : ℕ) → x < F.size → y < F.size → edges_match F list x y ≡ true → edges_match G list x y ≡ true
  edges-to x y hx hy is =
      (all-below G.edges (λ f. cond (G.available x f) (some_below G.edges (λ g. G.available y g && alike G list x f y g)) true)).1
      (λ f h. (cond-iff (G.available x f) (some_below G.edges (λ g. G.available y g && alike G list x f y g))).1 (λ t. answer f h t))
    where
      answer : (f : ℕ) → f < G.edges → G.available x f ≡ true → some_below G.edges
          (λ g. G.available y g && alike G list x f y g) ≡ true
      answer f h t =
          let (e, p) = a.fro x f hx h t in
          let (d, k, both) = some_below_lem F.edges (λ d. F.available y d && alike F list x e y d)
          ((cond-iff (F.available x e) (some_below F.edges (λ d. F.available y d && alike F list x e y d))).0
          ((all-below F.edges (λ e. cond (F.available x e)
          (some_below F.edges (λ d. F.available y d && alike F list x e y d)) true)).0
          is e p.within) p.available) in
          let (u, like) = (and-iff (F.available y d) (alike F list x e y d)).0 both in
          let (g, q) = a.to y d hy k u in
          let p' : SameEdge F G x e f =
          record { within = h; available = t; action = sym p.action; whole = sym p.whole; branches = sym p.branches } in
          below-some G.edges (λ g. G.available y g && alike G list x f y g) g q.within
          ((and-iff (G.available y g) (alike G list x f y g)).1 (q.available, sym (alike_same x e y d f g p' q) ∙ like))

  delays-same : (x y : ℕ) → x < F.size → y < F.size → delays_match F list x y ≡ delays_match G list x y
  delays-same x y hx hy = rw (a.delays x hx, a.delays y hy) refl

  matches-to : (x y : ℕ) → x < F.size → y < F.size → matches F list x y ≡ true → matches G list x y ≡ true
  matches-to x y hx hy is =
      let (d, e) = (and-iff (delays_match F list x y) (edges_match F list x y)).0 is in
      (and-iff (delays_match G list x y) (edges_match G list x y)).1 (sym (delays-same x y hx hy) ∙ d, edges-to x y hx hy e)

module _ {F G : Finite} (a : Agree F G) where
  inside : {x : ℕ} → x < F.size → x < G.size
  inside {x} h = subst (λ (n : ℕ). x < n) a.size h

  pub matches-agree : (list : List ℕ) (x y : ℕ) → x < F.size → y < F.size → matches F list x y ≡ matches G list x y
  matches-agree list x y hx hy =
      same_test (matches F list x y) (matches G list x y) (matches-to a list x y hx hy)
      (matches-to (agree-back a) list x y (inside hx) (inside hy))

  pub structures-agree : (list : List ℕ) (x y : ℕ) → x < F.size → y < F.size → next F list x y ≡ next G list x y
  structures-agree list x y hx hy =
      ap₂ (λ (p q : Bool). related list x y && (p && q)) (matches-agree list x y hx hy) (matches-agree list y x hy hx)

  -- ---- All rounds, blocks and judgements

  pub blocks-agree : (k : ℕ) → blocks F k ≡ blocks G k
  unfolding blocks
  blocks-agree zero =
      leads-agree (λ x y hx hy. ap₂ eqb (a.label x hx) (a.label y hy))
      ∙ ap (λ (n : ℕ). blocks_by n (λ x y. eqb (G.label x) (G.label y))) a.size
  blocks-agree (suc k) =
      leads-agree (λ x y hx hy. structures-agree (blocks F k) x y hx hy)
      ∙ ap₂ (λ (n : ℕ) (l : List ℕ). blocks_by n (next G l)) a.size (blocks-agree k)

  rest-agree : (fuel k : ℕ) → rest_from F fuel k ≡ rest_from G fuel k
  rest-agree zero k = refl
  rest-agree (suc fuel) k =
      ap₂ (λ (b : Bool) (r : ℕ). cond b k r) (ap₂ same_list (blocks-agree k) (blocks-agree (suc k))) (rest-agree fuel (suc k))

  pub rounds-agree : rounds F ≡ rounds G
  unfolding rounds
  rounds-agree = rest-agree F.size 0 ∙ ap (λ (n : ℕ). rest_from G n 0) a.size

  pub last-agree : last_blocks F ≡ last_blocks G
  unfolding last_blocks
  last-agree = blocks-agree (rounds F) ∙ ap (blocks G) rounds-agree

  pub count-agree : (k : ℕ) → block_count F k ≡ block_count G k
  unfolding block_count
  count-agree k = ap₂ (λ (l : List ℕ) (n : ℕ). leaders (λ x y. related l x y) n) (blocks-agree k) a.size

-- A proposal is judged alike.
module _ {F G : Finite} (a : Agree F G) (proposal : List ℕ) where
  accepts-to : {F G : Finite} → Agree F G → accepts F proposal ≡ true → accepts G proposal ≡ true
  unfolding accepts
  accepts-to {F} {G} b is =
      (all-below G.size (λ x. all_below G.size
      (λ y. cond (related proposal x y) (eqb (G.label x) (G.label y) && matches G proposal x y) true))).1
      (λ x hx. (all-below G.size (λ y. cond (related proposal x y) (eqb (G.label x) (G.label y) && matches G proposal x y) true)).1
      (λ y hy. let kx : x < F.size = subst (λ (n : ℕ). x < n) (sym b.size) hx in
      let ky : y < F.size = subst (λ (n : ℕ). y < n) (sym b.size) hy in
      ap₂ (λ (p q : Bool). cond (related proposal x y) (p && q) true) (sym (ap₂ eqb (b.label x kx) (b.label y ky)))
      (sym (matches-agree b proposal x y kx ky))
      ∙ (all-below F.size (λ y. cond (related proposal x y) (eqb (F.label x) (F.label y) && matches F proposal x y) true)).0
      ((all-below F.size (λ x. all_below F.size
      (λ y. cond (related proposal x y) (eqb (F.label x) (F.label y) && matches F proposal x y) true))).0 is x kx) y ky))

  pub accepts-agree : accepts F proposal ≡ accepts G proposal
  accepts-agree = same_test (accepts F proposal) (accepts G proposal) (accepts-to a) (accepts-to (agree-back a))

-- A structure that agrees with a closed one is closed.
pub closed-agree : {F G : Finite} → Agree F G → Closed (structure F) → Closed (structure G)
closed-agree {F} {G} a closed =
    record {
      delays = λ {x} {y} hx d. inside a (closed.delays (back x hx)
          (subst (λ (l : List ℕ). Memᴰ y l) (sym (a.delays x (back x hx))) d));
      targets = λ {x} {e = f} hx e b m.
          let (d, s) = a.fro x f (back x hx) e.0 e.1 in
          inside a (closed.targets (back x hx) (s.within, s.available) b
          (subst (λ (l : List (Branch ℕ)). Memᴰ b l) s.branches m));
      positive = λ {x} {e = f} hx e.
          let (d, s) = a.fro x f (back x hx) e.0 e.1 in
          subst (λ (k : ℕ). 0 < k) (sym s.whole) (closed.positive (back x hx) (s.within, s.available));
      sums = λ {x} {e = f} hx e.
          let (d, s) = a.fro x f (back x hx) e.0 e.1 in
          ap total s.branches ∙ closed.sums (back x hx) (s.within, s.available) ∙ sym s.whole;
      labels = λ {x} {y} hx d.
          let here : Memᴰ y (F.delays x) = subst (λ (l : List ℕ). Memᴰ y l) (sym (a.delays x (back x hx))) d in
          sym (a.label y (closed.delays (back x hx) here)) ∙ closed.labels (back x hx) here ∙ a.label x (back x hx);
    }
  where
    back : (x : ℕ) → x < G.size → x < F.size
    back x h = subst (λ (n : ℕ). x < n) (sym a.size) h
