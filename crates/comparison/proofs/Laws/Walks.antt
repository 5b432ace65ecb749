-- What the iterators over available edges and delays give.
use Rattle.std.proofs.Common.{arith, ap, sym, ◌∙◌, inl, inr, subst, le-leb, leb-true, ltb-true, ltb-false, eq-eqb, eqb-true, get_or-set_same, get_or-set_other}
use Rattle.std.proofs.lemmas.Bool.{lt-leb, leb-false}
use Rattle.std.specs.Prelude.{ℕ, zero, suc, ◌+◌, ◌*◌, ◌-◌, ◌≤◌, ◌<◌, ◌≡◌, refl, Bool, true, false, cond, ◌⊎◌, List, [], leb, ltb, length, take, drop, min}
use Rattle.std.specs.Prelude.{Option, Some, None, MatchOption, unwrap_or, is_some, slice_range, get_or, ◌∷◌, ◌||◌, eqb, set}
use Rattle.std.proofs.lemmas.List.{drop_all, length-take-le, get_or-take, get_or-drop}
use Rattle.std.proofs.Math.ListN.{get_or-eq_default}
use Rattle.bisimulation.proofs.Laws.Tests.{both, clash, same?}
use Rattle.comparison.specs.Held.{flag_room, open_below, is_open, Opened}
use Rattle.comparison.specs.Walks.{front, flags_below, told, OpenStep, delays_left}
use Rattle.comparison.specs.declared.held.Graph.{Graph}
use Rattle.comparison.specs.declared.held.Delays.{Delays}
use Rattle.comparison.specs.Graphs.{after}
use Rattle.comparison.specs.Laws.Open.{open-most, open_none, open_at}
use Rattle.comparison.specs.Laws.Down.{open-past}
use denote.Ref.{Bor}

front-past : (e : ℕ) (l : List ℕ) → length l < e → front e l ≡ []
front-past e l h = ap (λ (b : Bool). cond b (take e l) []) (lt-leb e (length l) h)

-- A front that is asked for as a range.
pub front-got : (e : ℕ) (l : List ℕ) (r : Option (Bor (List ℕ))) (none : Bor (List ℕ)) → none.now ≡ []
    → MatchOption r ((e < 0) ⊎ (length l < e)) (λ y. (0 ≤ e) × (e ≤ length l) × (y.now ≡ slice_range l 0 e)
    × (length y.now + 0 ≡ e))
    → (unwrap_or r none).now ≡ front e l
front-got e l None none empty h = empty ∙ sym (front-past e l (elim h [ inl below ↦ absurd (omega arith) | inr past ↦ past ]))
front-got e l (Some y) none empty (_, room, same, _) =
    same ∙ ap (λ (m : ℕ). take m l) (let same : e - 0 ≡ e = omega arith in same) ∙ sym (ap (λ (b : Bool). cond b (take e l) []) (le-leb e (length l) room))

-- What stands from the flags of an item on, where the place is cut to the list.
pub drop-cut : (m most : ℕ) (l : List ℕ) → length l ≤ most → drop (min (min m most) (length l)) l ≡ drop m l
drop-cut m most l few = go (both (leb m (length l)))
  where
    go : (leb m (length l) ≡ true) ⊎ (leb m (length l) ≡ false) → drop (min (min m most) (length l)) l ≡ drop m l
    go (inl t) =
        let h = leb-true m (length l) t in
        ap (λ (i : ℕ). drop i l) (let same : min (min m most) (length l) ≡ m = omega arith in same)
    go (inr f) =
        let h = leb-false m (length l) f in
        drop_all (min (min m most) (length l)) l (omega arith) ∙ sym (drop_all m l (omega arith))

-- ---- The flags of an item, up to an edge

pub front-few : (e : ℕ) (l : List ℕ) → length (front e l) ≤ e
front-few e l = go (both (leb e (length l)))
  where
    go : (leb e (length l) ≡ true) ⊎ (leb e (length l) ≡ false) → length (front e l) ≤ e
    go (inl t) =
        subst (λ (r : List ℕ). length r ≤ e) (sym (ap (λ (b : Bool). cond b (take e l) []) t))
        (omega (arith, length-take-le e l (leb-true e (length l) t)))
    go (inr f) = subst (λ (r : List ℕ). length r ≤ e) (sym (front-past e l (leb-false e (length l) f))) (omega arith)

take-less : (e m : ℕ) (l : List ℕ) → e ≤ m → take e (take m l) ≡ take e l
take-less zero m l h = refl
take-less (suc e) zero l h = absurd (omega arith)
take-less (suc e) (suc m) [] h = refl
take-less (suc e) (suc m) (y ∷ l) h = ap (λ (r : List ℕ). y ∷ r) (take-less e m l (omega arith))

module _ (flags : List ℕ) (x n k : ℕ) (opened : Opened n k flags) (hx : x < n) where
  -- What stands past the list is 0, so that no edge is available that far.
  short-none : (e : ℕ) → e ≤ k → length (drop (flag_room * x) flags) < e → open_below (is_open flags x) e ≡ 0
  short-none zero few short = open_none (is_open flags x)
  short-none (suc e) few short =
      sym (opened x e hx (omega arith))
      ∙ sym (get_or-drop (flag_room * x) flags e 0)
      ∙ get_or-eq_default (drop (flag_room * x) flags) 0 (omega arith)

  -- What is told is the number after the last available edge.
  told-open : (left : List ℕ) → length left ≤ k → left ≡ take (length left) (drop (flag_room * x) flags)
      → told left ≡ open_below (is_open flags x) (length left)
  told-open [] few is = sym (open_none (is_open flags x))
  told-open (y ∷ l) few is =
      let m = length l in
      let less : suc m - 1 ≡ m = omega arith in
      let same : get_or (y ∷ l) (suc m - 1) 0 ≡ open_below (is_open flags x) (suc m) =
      ap (λ (i : ℕ). get_or (y ∷ l) i 0) less
      ∙ ap (λ (r : List ℕ). get_or r m 0) is
      ∙ get_or-take (suc m) (drop (flag_room * x) flags) m 0 (omega arith)
      ∙ get_or-drop (flag_room * x) flags m 0
      ∙ opened x m hx (omega arith) in
      let most = open-most (is_open flags x) (suc m) in
      ap (λ (b : Bool). cond b (get_or (y ∷ l) (suc m - 1) 0) 0)
      (le-leb (get_or (y ∷ l) (suc m - 1) 0) (suc m) (omega (arith, same, most)))
      ∙ same

-- What is left are the flags of item x for the edges below their count, and all edges from there on to m that are available have a
-- property.
pub record Past (g : Graph) (x m : ℕ) (P : ℕ → Type 0) (left : List ℕ) : Type 0 where
  pub opened : Opened g.n g.k g.flags.now
  pub inside : x < g.n
  pub within : m ≤ g.k
  pub few : length left ≤ m
  pub is : left ≡ take (length left) (drop (flag_room * x) g.flags.now)
  pub past : (f : ℕ) → length left ≤ f → f < m → is_open g.flags.now x f ≡ true → P f

pub past-first : {g : Graph} {x m : ℕ} {P : ℕ → Type 0} {left : List ℕ} → Opened g.n g.k g.flags.now → x < g.n → m ≤ g.k
    → left ≡ flags_below g.flags.now x m → Past g x m P left
past-first {g} {x} {m} {P} opened inside within same =
    subst (Past g x m P) (sym same) (go (both (leb m (length (drop (flag_room * x) g.flags.now)))))
  where
    go : (leb m (length (drop (flag_room * x) g.flags.now)) ≡ true) ⊎ (leb m (length (drop (flag_room * x) g.flags.now)) ≡ false)
        → Past g x m P (flags_below g.flags.now x m)
    go (inl t) =
        let room : m ≤ length (drop (flag_room * x) g.flags.now) = leb-true _ _ t in
        let all : length (take m (drop (flag_room * x) g.flags.now)) ≡ m = length-take-le m (drop (flag_room * x) g.flags.now) room in
        subst (Past g x m P) (sym (ap (λ (b : Bool). cond b (take m (drop (flag_room * x) g.flags.now)) []) t))
        (record {
          opened = opened;
          inside = inside;
          within = within;
          few = omega arith;
          is = ap (λ (n : ℕ). take n (drop (flag_room * x) g.flags.now)) (sym all);
          past = λ f h b u. absurd (omega arith);
        })
    go (inr f) =
        subst (Past g x m P) (sym (ap (λ (b : Bool). cond b (take m (drop (flag_room * x) g.flags.now)) []) f))
        (record {
          opened = opened;
          inside = inside;
          within = within;
          few = omega arith;
          is = refl;
          past = λ f' h b u.
              let none : open_below (is_open g.flags.now x) m ≡ 0 =
              short-none g.flags.now x g.n g.k opened inside m within (leb-false _ _ f) in
              absurd (clash u (open-past (is_open g.flags.now x) m f' (omega arith) b));
        })

module _ {g : Graph} {x m : ℕ} {P : ℕ → Type 0} {left : List ℕ} (past : Past g x m P left) where
  pub told-now : told left ≡ open_below (is_open g.flags.now x) (length left)
  told-now = told-open g.flags.now x g.n g.k past.opened past.inside left (omega (arith, past.few, past.within)) past.is

  -- The property may change, where it does not at edges that were met.
  pub past-then : (Q : ℕ → Type 0) → ((f : ℕ) → length left ≤ f → P f → Q f) → Past g x m Q left
  past-then Q keep = record {
    opened = past.opened;
    inside = past.inside;
    within = past.within;
    few = past.few;
    is = past.is;
    past = λ f h b u. keep f h (past.past f h b u);
  }

  -- The edge that a step gives is available.
  pub past-at : {left' : List ℕ} {e : ℕ} → OpenStep left (Some e) left' → is_open g.flags.now x e ≡ true
  past-at {left'} {e} step = open_at (is_open g.flags.now x) (length left) e (sym told-now ∙ step.0)

  pub past-on : {left' : List ℕ} {e : ℕ} → OpenStep left (Some e) left' → P e → Past g x m P left'
  past-on {left'} {e} step here =
      let told : open_below (is_open g.flags.now x) (length left) ≡ suc e = sym told-now ∙ step.0 in
      record {
        opened = past.opened;
        inside = past.inside;
        within = past.within;
        few = omega (arith, past.few, step.2, step.3);
        is = step.1 ∙ ap (take e) past.is
            ∙ take-less e (length left) (drop (flag_room * x) g.flags.now) (omega (arith, step.2))
            ∙ ap (λ (n : ℕ). take n (drop (flag_room * x) g.flags.now)) (sym step.3);
        past = λ f h b u. elim (same? f e) [
          | inl s ↦ subst P (sym s) here
          | inr o ↦
              elim (both (ltb f (length left))) [
                | inl t ↦
                    absurd (clash u (open-past (is_open g.flags.now x) (length left) f (omega (arith, told, o, h, step.3)) (ltb-true _ _ t)))
                | inr n ↦ past.past f (ltb-false _ _ n) b u
              ]
        ];
      }

  pub past-over : told left ≡ 0 → (f : ℕ) → f < m → is_open g.flags.now x f ≡ true → P f
  past-over over f b u =
      let none : open_below (is_open g.flags.now x) (length left) ≡ 0 = sym told-now ∙ over in
      elim (both (ltb f (length left))) [
        | inl t ↦ absurd (clash u (open-past (is_open g.flags.now x) (length left) f (omega arith) (ltb-true _ _ t)))
        | inr n ↦ past.past f (ltb-false _ _ n) b u
      ]

-- A step that gives nothing was told so.
pub step-none : (left left' : List ℕ) (r : Option ℕ) → is_some r ≡ false → OpenStep left r left' → told left ≡ 0
step-none left left' None h step = step
step-none left left' (Some e) h step = absurd (clash refl h)

-- ---- Delays

-- What follows an item is what the graph holds there, where that is an item.
pub after-some : (g : Graph) (x y : ℕ) → after g x ≡ Some y → (y ≡ get_or g.nexts.now x 0) × (y < g.n)
after-some g x y told = go (both (ltb (get_or g.nexts.now x 0) g.n))
  where
    go : (ltb (get_or g.nexts.now x 0) g.n ≡ true) ⊎ (ltb (get_or g.nexts.now x 0) g.n ≡ false)
        → (y ≡ get_or g.nexts.now x 0) × (y < g.n)
    go (inl t) =
        let found : Some (get_or g.nexts.now x 0) ≡ Some y =
        sym (ap (λ (b : Bool). cond b (Some (get_or g.nexts.now x 0)) None) t) ∙ told in
        let same : get_or g.nexts.now x 0 ≡ y = cc in
        (sym same, omega (arith, ltb-true _ _ t))
    go (inr f) =
        let none : None ≡ Some y = sym (ap (λ (b : Bool). cond b (Some (get_or g.nexts.now x 0)) None) f) ∙ told in
        cc

pub after-none : (g : Graph) (x : ℕ) → after g x ≡ None → g.n ≤ get_or g.nexts.now x 0
after-none g x told = go (both (ltb (get_or g.nexts.now x 0) g.n))
  where
    go : (ltb (get_or g.nexts.now x 0) g.n ≡ true) ⊎ (ltb (get_or g.nexts.now x 0) g.n ≡ false) → g.n ≤ get_or g.nexts.now x 0
    go (inl t) =
        let found : Some (get_or g.nexts.now x 0) ≡ None =
        sym (ap (λ (b : Bool). cond b (Some (get_or g.nexts.now x 0)) None) t) ∙ told in
        cc
    go (inr f) = ltb-false _ _ f

-- What an iterator over delays has left.
abbrev pub left-of : Delays → List ℕ
left-of d = delays_left d.n d.nexts.now d.left d.next

-- A number that is marked, among those that are marked or are still to be.
pub mark-one : (b : Bool) (v u : ℕ) (marks : List ℕ) → v < length marks
    → cond (eqb v u || b) 1 (get_or marks v 0) ≡ cond b 1 (get_or (set marks u 1) v 0)
mark-one b v u marks room = go (both (eqb v u))
  where
    either : (b : Bool) → ◌≡◌ {A = ℕ} 1 (cond b 1 1)
    either true = refl
    either false = refl

    go : (eqb v u ≡ true) ⊎ (eqb v u ≡ false) → cond (eqb v u || b) 1 (get_or marks v 0) ≡ cond b 1 (get_or (set marks u 1) v 0)
    go (inl t) =
        let same = eqb-true v u t in
        ap (λ (a : Bool). cond (a || b) 1 (get_or marks v 0)) t
        ∙ either b
        ∙ ap (cond b 1) (sym (ap (λ (w : ℕ). get_or (set marks w 1) v 0) (sym same) ∙ get_or-set_same marks v 1 0 room))
    go (inr f) =
        ap (λ (a : Bool). cond (a || b) 1 (get_or marks v 0)) f
        ∙ ap (cond b 1) (sym (get_or-set_other marks u v 1 0 (λ s. clash (eq-eqb v u s) f)))
