-- The edges of a model by number and by source, as exploring uses them.
use Rattle.std.specs.Prelude.{ℕ, suc, ◌≤◌, ◌<◌, ◌≡◌, refl, Bool, true, false, cond, List, []}
use Rattle.std.specs.Prelude.{◌∷◌, map, eqb, length, get_or, set, take, drop, replicate}
use Rattle.std.proofs.Common.{arith, sym, ◌∙◌, subst, length-set, length-take, get_or-take, drop_of_length-le, drop-cons}
use Rattle.std.proofs.Common.{get_or-set_same, get_or-set_other, eq-eqb, eqb-true}
use Rattle.std.proofs.Math.Path.{ap}
use Rattle.std.proofs.lemmas.List.{length-replicate}
use Rattle.std.proofs.lemmas.List.Edits.{sets}
use Rattle.std.proofs.lemmas.Bool.{eqb-false}
use Rattle.table.specs.Model.{Model, Edge}
use Rattle.table.specs.Sound.{Sound}
use Rattle.table.specs.Access.{no_edge, no_edge_struct, edge_struct}
use Rattle.table.specs.Reads.{Lists, edge_of}
use Rattle.table.specs.declared.model.Edge.{Edge as EdgeStruct}
use Rattle.table.proofs.Laws.Reads.{place-listed}
use Rattle.regions.specs.Lists.{same-at}

-- A list holds the places of the edges, by number.
abbrev pub Placed : Model → List ℕ → Type 0
Placed m places = (e : ℕ) → e < length m.edges → get_or places e 0 ≡ (edge_of m e).place

-- A list has the edges, and no more.
pub record ListsAll (m : Model) (list : List EdgeStruct) : Type 0 where
  pub long : length list ≡ length m.edges
  pub each : (e : ℕ) → e < length list → get_or list e no_edge_struct ≡ edge_struct (edge_of m e)

-- The edges at the front of an edge list.
pub lists-front : (m : Model) (list : List EdgeStruct) (n : ℕ) → Lists m list → n ≤ length list → n ≡ length m.edges
    → ListsAll m (take n list)
lists-front m list n lists room all =
    let long : length (take n list) ≡ n = simp length-take (omega arith) in
    record {
      long = long ∙ all;
      each = λ e h. get_or-take n list e no_edge_struct (omega (arith, h, long)) ∙ lists e;
    }

-- Where 128 numbers were filled with the places of the edges, they hold them.
pub placed-filled : (m : Model) → Sound m → (old places : List ℕ) → length old ≡ 128
    → places ≡ sets old 0 (map (λ edge. edge.place) m.edges) → Placed m places
placed-filled m s old places room is e h = place-listed m old places is e h (omega (arith, room, h, s.few-edges))

-- ---- Links

-- The first edge with source l, in a list of edges of which the first has number e: the number after its own, and 0 where there is
-- none.
unfoldable pub link_in : ℕ → List Edge → ℕ → ℕ
link_in l [] e = 0
link_in l (x ∷ edges) e = cond (eqb x.source l) (suc e) (link_in l edges (suc e))

-- The same from edge e of a model on.
abbrev pub link_from : Model → ℕ → ℕ → ℕ
link_from m l e = link_in l (drop e m.edges) e

-- For each location the link of its first edge, for each edge that of the next one with its source.
pub record Linked (m : Model) (starts follows : List ℕ) : Type 0 where
  pub start : (l : ℕ) → l < 256 → get_or starts l 0 ≡ link_from m l 0
  pub follow : (e : ℕ) → e < length m.edges → get_or follows e 0 ≡ link_from m (edge_of m e).source (suc e)

link-after : (l : ℕ) (edges : List Edge) (e k : ℕ) → link_in l edges e ≡ suc k → e ≤ k
unfolding link_in
link-after l [] e k h = absurd (omega (arith, h))
link-after l (x ∷ edges) e k h = go (eqb x.source l) h (link-after l edges (suc e) k)
  where
    go : (b : Bool) → cond b (suc e) (link_in l edges (suc e)) ≡ suc k → (link_in l edges (suc e) ≡ suc k → suc e ≤ k) → e ≤ k
    go true q rest = omega (arith, q)
    go false q rest = omega (arith, rest q)

module _ (m : Model) (l e : ℕ) where
  pub link-over : length m.edges ≤ e → link_from m l e ≡ 0
  unfolding link_in
  link-over h = ap (λ x. link_in l x e) (drop_of_length-le m.edges h)

  module _ (here : e < length m.edges) where
    link-step : link_from m l e ≡ cond (eqb (edge_of m e).source l) (suc e) (link_from m l (suc e))
    unfolding link_in
    link-step = ap (λ x. link_in l x e) (drop-cons m.edges e no_edge here)

    link-case : (b : Bool) → eqb (edge_of m e).source l ≡ b → link_from m l e ≡ cond b (suc e) (link_from m l (suc e))
    link-case b s = link-step ∙ ap (λ b. cond b (suc e) (link_from m l (suc e))) s

    -- The edge has the source.
    pub link-is : (edge_of m e).source ≡ l → link_from m l e ≡ suc e
    link-is s = link-case true (eq-eqb (edge_of m e).source l s)

    pub link_here : link_from m l e ≡ suc e → (edge_of m e).source ≡ l
    link_here h = go (eqb (edge_of m e).source l) refl
      where
        go : (b : Bool) → eqb (edge_of m e).source l ≡ b → (edge_of m e).source ≡ l
        go true s = eqb-true (edge_of m e).source l s
        go false s =
            absurd (omega (arith, link-after l (drop (suc e) m.edges) (suc e) e (sym (link-case false s) ∙ h)))

    -- It has another.
    pub link-past : ((edge_of m e).source ≡ l → ⊥) → link_from m l (suc e) ≡ link_from m l e
    link-past n = go (eqb (edge_of m e).source l) refl
      where
        go : (b : Bool) → eqb (edge_of m e).source l ≡ b → link_from m l (suc e) ≡ link_from m l e
        go true s = absurd (n (eqb-true (edge_of m e).source l s))
        go false s = sym (link-case false s)

    pub link-other : (link_from m l e ≡ suc e → ⊥) → (edge_of m e).source ≡ l → ⊥
    link-other n s = n (link-is s)

-- ---- For the loop that links the edges, from the last to the first

-- The edges from e on are linked.
pub record LinkedFrom (m : Model) (e : ℕ) (starts follows : List ℕ) : Type 0 where
  pub long : length starts ≡ 256
  pub room : length follows ≡ 128
  pub start : (l : ℕ) → l < 256 → get_or starts l 0 ≡ link_from m l e
  pub follow : (k : ℕ) → e ≤ k → k < length m.edges → get_or follows k 0 ≡ link_from m (edge_of m k).source (suc k)

pub linked-none : (m : Model) (starts follows : List ℕ) → starts ≡ replicate 256 0 → length follows ≡ 128
    → (e : ℕ) → e ≡ length m.edges → LinkedFrom m e starts follows
linked-none m starts follows zeroed room e all =
    record {
      long = ap length zeroed ∙ length-replicate {A = ℕ} 256 0;
      room = room;
      start = λ l h. ap (λ x. get_or x l 0) zeroed ∙ same-at {A = ℕ} 0 256 l ∙ sym (link-over m l e (omega (arith, all)));
      follow = λ k h less. absurd (omega (arith, h, less, all));
    }

pub linked_on : (m : Model) (e : ℕ) (starts follows : List ℕ) → LinkedFrom m (suc e) starts follows → e < length m.edges
    → e < 128 → (source : ℕ) → source ≡ (edge_of m e).source → source < 256 → (next : ℕ) → next ≡ get_or starts source 0
    → (starts' follows' : List ℕ) → follows' ≡ set follows e next → starts' ≡ set starts source (suc e)
    → LinkedFrom m e starts' follows'
linked_on m e starts follows linked here inside source is low next read starts' follows' followed started =
    record {
      long = ap length started ∙ length-set starts source (suc e) ∙ linked.long;
      room = ap length followed ∙ length-set follows e next ∙ linked.room;
      start = λ l h. ap (λ x. get_or x l 0) started ∙ starts-at l h (eqb l source) refl;
      follow = λ k h less. ap (λ x. get_or x k 0) followed ∙ follows-at k h less (eqb k e) refl;
    }
  where
    starts-at : (l : ℕ) → l < 256 → (b : Bool) → eqb l source ≡ b → get_or (set starts source (suc e)) l 0 ≡ link_from m l e
    starts-at l h true s =
        let same = eqb-true l source s in
        ap (λ k. get_or (set starts source (suc e)) k 0) same
        ∙ get_or-set_same starts source (suc e) 0 (omega (arith, low, linked.long))
        ∙ sym (link-is m l e here (sym (same ∙ is)))
    starts-at l h false s =
        let other = eqb-false l source s in
        get_or-set_other starts source l (suc e) 0 other
        ∙ linked.start l h
        ∙ link-past m l e here (λ q. other (sym (is ∙ q)))

    follows-at : (k : ℕ) → e ≤ k → k < length m.edges → (b : Bool) → eqb k e ≡ b
        → get_or (set follows e next) k 0 ≡ link_from m (edge_of m k).source (suc k)
    follows-at k h less true s =
        subst (λ j. get_or (set follows e next) j 0 ≡ link_from m (edge_of m j).source (suc j)) (sym (eqb-true k e s))
        (get_or-set_same follows e next 0 (omega (arith, inside, linked.room))
        ∙ read
        ∙ linked.start source low
        ∙ ap (λ j. link_from m j (suc e)) is)
    follows-at k h less false s =
        let other = eqb-false k e s in
        get_or-set_other follows e k next 0 other ∙ linked.follow k (omega (arith, h, other)) less

pub linked-all : (m : Model) (starts follows : List ℕ) → LinkedFrom m 0 starts follows → Linked m starts follows
linked-all m starts follows linked =
    record { start = linked.start; follow = λ e h. linked.follow e (omega arith) h }
