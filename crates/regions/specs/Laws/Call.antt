-- Laws on the graph call: what its answer says about the regions that are reached, without a word of exploring. The layers above go
-- by these.
use Rattle.std.specs.Prelude.{ℕ, ◌≤◌, ◌<◌, ◌⊎◌, ◌↔◌, ◌≡◌, Bool, true, false, cond, length, Option, Some, None}
use Rattle.std.proofs.Common.{arith, inl, inr, ⊎_elim, ◌∙◌, length-append}
use Rattle.std.proofs.Math.Path.{refl, sym, ap, subst}
use mathlib.Core.List.Memᴰ
use mathlib.Core.List.{List, [], ◌∷◌, ◌++◌, Memᴰ}
use Rattle.table.specs.Model.{Model, Edge}
use Rattle.table.specs.declared.model.Branch.{Branch}
use Rattle.table.specs.Reading.{Answer, refusal, accepted, read_table}
use Rattle.table.specs.declared.refusals.Reason.{Reason}
use Rattle.table.specs.declared.refusals.Reason.TheVariants.{BrokenStart, TooManyRegions}
use Rattle.clocks.specs.Packed.{delayed}
use Rattle.regions.specs.Graph.{every, bounds_of, meets, fits, landing, lands, available, delay_next, gather, edge_next, next_of, first}
use Rattle.regions.specs.Graph.{if_meets, Leads, by-delay, by-edge, Reached, begun, led}
use Rattle.regions.specs.Worklist.{Found, complete, full, explore, Reach, here, on}
use Rattle.regions.specs.Explore.{both_true, same_region, same_true, same_refl}
use Rattle.regions.specs.Call.{Outcome, refused, cut, whole, from_found, from_answer, outcome_of}
use Rattle.regions.specs.Worklist.{Begins}
use Rattle.regions.specs.Order.{AllRegions, FirstRegions, Begun, MoreReached}
use Rattle.regions.specs.Laws.Worklist.{different-grown, no_more, complete-all, full-room, full-first, larger-complete, larger-full}
use Rattle.regions.specs.Laws.Worklist.{items_of}
use Rattle.clocks.specs.declared.region.Region.{Region}

pub false-true : {A : Type 0} → false ≡ true → A
false-true e = absurd (let z : ◌≡◌ {A = ℕ} 0 1 = cc in omega arith)

-- ---- What a region leads to, and what is reached

module _ {A : Type 0} (g : A → List Region) (q : Region) where
  pub gathered : (l : List A) → Memᴰ q (gather g l) → (x : A) × Memᴰ x l × Memᴰ q (g x)
  gathered [] n = absurd (Memᴰ.not-nil n)
  gathered (x ∷ l) n =
      elim (Memᴰ.append_cases (g x) n) [
        | inl h ↦ (x, Memᴰ.head refl, h)
        | inr t ↦ let r = gathered l t in (r.0, Memᴰ.tail r.1, r.2)
      ]

  pub gathers : (x : A) (l : List A) → Memᴰ x l → Memᴰ q (g x) → Memᴰ q (gather g l)
  gathers x [] n h = elim n [ ]
  gathers x (y ∷ l) (Memᴰ.head p) h = Memᴰ.append_left (gather g l) (subst (λ z. Memᴰ q (g z)) p h)
  gathers x (y ∷ l) (Memᴰ.tail n) h = Memᴰ.append_right (g y) (gathers x l n h)

module _ (m : Model) where
  -- The regions that are met from a region are those that it leads to.
  pub leads-next : (r q : Region) → Leads m r q ↔ Memᴰ q (next_of m r)
  unfolding next_of
  leads-next r q = (into, out)
    where
      into : Leads m r q → Memᴰ q (delay_next m r ++ gather (edge_next m r) m.edges)
      into (by-delay n) = Memᴰ.append_left (gather (edge_next m r) m.edges) n
      into (by-edge {e} a n) = Memᴰ.append_right (delay_next m r) (gathers (edge_next m r) q e m.edges a n)

      out : Memᴰ q (delay_next m r ++ gather (edge_next m r) m.edges) → Leads m r q
      out n =
          elim (Memᴰ.append_cases (delay_next m r) n) [
            | inl h ↦ by-delay h
            | inr t ↦ let s = gathered (edge_next m r) q m.edges t in by-edge s.1 s.2
          ]

  to-reached : (r : Region) → Reach (next_of m) (first m) r → Reached m r
  to-reached r here = begun
  to-reached r (on {x} s n) = led (to-reached x s) ((leads-next x r).1 n)

  from-reached : (r : Region) → Reached m r → Reach (next_of m) (first m) r
  from-reached r begun = here
  from-reached r (led {r = x} s n) = on (from-reached x s) ((leads-next x r).0 n)

  -- ---- Every region reached meets its invariant

  pub kept : (b : Bool) (l : List Region) (q : Region) → Memᴰ q (cond b l []) → (b ≡ true) × Memᴰ q l
  kept true l q n = (refl, n)
  kept false l q n = absurd (Memᴰ.not-nil n)

  of-every : {A : Type 0} (p : A → Bool) (x : A) (l : List A) → Memᴰ x l → every p l ≡ true → p x ≡ true
  of-every p x [] n h = elim n [ ]
  of-every p x (y ∷ l) (Memᴰ.head e) h = ap p e ∙ (both_true (p y) (every p l) h).0
  of-every p x (y ∷ l) (Memᴰ.tail n) h = of-every p x l n (both_true (p y) (every p l) h).1

  -- What follows by delay meets its invariant.
  pub follows : (r q : Region) → Memᴰ q (delay_next m r)
      → (delayed (bounds_of m) r ≡ Some q) × (meets (bounds_of m) m.invariants q ≡ true)
  unfolding delay_next
  follows r q n = go (delayed (bounds_of m) r) refl n
    where
      go : (o : Option Region) → delayed (bounds_of m) r ≡ o → Memᴰ q (if_meets m o)
          → (delayed (bounds_of m) r ≡ Some q) × (meets (bounds_of m) m.invariants q ≡ true)
      go None e n = absurd (Memᴰ.not-nil n)
      go (Some p) e n =
          let k = kept (meets (bounds_of m) m.invariants p) (p ∷ []) q n in
          let same : q ≡ p = Memᴰ.eq_of_singleton k.1 in
          (e ∙ ap Some (sym same), ap (meets (bounds_of m) m.invariants) same ∙ k.0)

  fine-delay : (r q : Region) → Memᴰ q (delay_next m r) → meets (bounds_of m) m.invariants q ≡ true
  fine-delay r q n =
      (follows r q n).1

  fine-edge : (r q : Region) (e : Edge) → Memᴰ q (edge_next m r e) → meets (bounds_of m) m.invariants q ≡ true
  unfolding edge_next lands
  fine-edge r q e n =
      let land : Branch → List Region = λ b. landing (bounds_of m) r b ∷ [] in
      let k = kept (available m e r) (gather land e.branches) q n in
      let s = gathered land q e.branches k.1 in
      let h = (both_true (fits (bounds_of m) e r) (lands (bounds_of m) m.invariants e r) k.0).1 in
      ap (meets (bounds_of m) m.invariants) (Memᴰ.eq_of_singleton s.2)
      ∙ of-every (λ b. meets (bounds_of m) m.invariants (landing (bounds_of m) r b)) s.0 e.branches s.1 h

  pub reached-meets : (r : Region) → meets (bounds_of m) m.invariants (first m) ≡ true → Reached m r
      → meets (bounds_of m) m.invariants r ≡ true
  reached-meets r h begun = h
  reached-meets r h (led {r = x} s (by-delay n)) = fine-delay x r n
  reached-meets r h (led {r = x} s (by-edge {e} a n)) = fine-edge x r e n

  -- ---- What the answer says

  whole_of : (cap : ℕ) (found : List Region) → explore same_region (next_of m) cap (first m) ≡ complete found → AllRegions m found
  whole_of cap found e =
      let a = complete-all same_region (next_of m) same_true same_refl cap (first m) found e in
      record {
        zeroth = a.first;
        some = a.some;
        different = a.sound.different;
        all = λ r. (λ s. a.all-reached r (from-reached r s), λ n. to-reached r (a.sound.reached r n));
      }

  cut_of : (cap : ℕ) (found : List Region) → explore same_region (next_of m) cap (first m) ≡ full found → FirstRegions m cap found
  cut_of cap found e =
      let a = full-room same_region (next_of m) same_true same_refl cap (first m) found e in
      record {
        zeroth = full-first same_region (next_of m) cap (first m) found e;
        fills = a.fills;
        different = a.sound.different;
        reached = λ r n. to-reached r (a.sound.reached r n);
        another = a.another;
        another-reached = to-reached a.another a.another-reached;
        another-new = a.another-new;
      }

abbrev kind_of : Outcome → ℕ
kind_of (refused reason place) = 0
kind_of (cut found) = 1
kind_of (whole found) = 2

-- The regions that an outcome lists.
abbrev pub regions_in : Outcome → List Region
regions_in (refused reason place) = []
regions_in (cut found) = found
regions_in (whole found) = found

module _ (table : List ℕ) (cap : ℕ) (out : Outcome) (explored : 0 < kind_of out) where
  -- Where the call explored, it did so from region 0 of the model read.
  pub record Ran : Type 0 where
    pub begun : Begun table
    pub found : Found Region
    pub comes : explore same_region (next_of begun.model) cap (first begun.model) ≡ found
    pub gives : from_found found ≡ out

  ran-from : (a : Answer) → read_table table ≡ a → from_answer cap a ≡ out → Ran
  ran-from (refusal reason place) t e = absurd (omega (arith, ap kind_of e))
  ran-from (accepted m) t e = go (meets (bounds_of m) m.invariants (first m)) refl e
    where
      go : (b : Bool) → meets (bounds_of m) m.invariants (first m) ≡ b
          → cond b (from_found (explore same_region (next_of m) cap (first m))) (refused BrokenStart 0) ≡ out → Ran
      go false h g = absurd (omega (arith, ap kind_of g))
      go true h g =
          record {
            begun = record { model = m; read = t; meets-first = h };
            found = explore same_region (next_of m) cap (first m);
            comes = refl;
            gives = g;
          }

  ran : outcome_of table cap ≡ out → Ran
  unfolding outcome_of
  ran e = ran-from (read_table table) refl e

module _ (table : List ℕ) (cap : ℕ) (found : List Region) where
  whole-ran : (b : Begun table) (f : Found Region) → explore same_region (next_of b.model) cap (first b.model) ≡ f
      → from_found f ≡ whole found → explore same_region (next_of b.model) cap (first b.model) ≡ complete found
  whole-ran b (complete l) c g = c ∙ ap complete (ap regions_in g)
  whole-ran b (full l) c g = absurd (omega (arith, ap kind_of g))

  cut-ran : (b : Begun table) (f : Found Region) → explore same_region (next_of b.model) cap (first b.model) ≡ f
      → from_found f ≡ cut found → explore same_region (next_of b.model) cap (first b.model) ≡ full found
  cut-ran b (complete l) c g = absurd (omega (arith, ap kind_of g))
  cut-ran b (full l) c g = c ∙ ap full (ap regions_in g)

  -- What exploring came to.
  pub whole-explored : (m : Model) → outcome_of table cap ≡ whole found → read_table table ≡ accepted m
      → explore same_region (next_of m) cap (first m) ≡ complete found
  whole-explored m e read =
      let r = ran table cap (whole found) (omega arith) e in
      let b = r.begun in
      let same : b.model ≡ m = cc (b.read, read) in
      subst (λ k. explore same_region (next_of k) cap (first k) ≡ complete found) same
      (whole-ran b r.found r.comes r.gives)

  pub cut-explored : (m : Model) → outcome_of table cap ≡ cut found → read_table table ≡ accepted m
      → explore same_region (next_of m) cap (first m) ≡ full found
  cut-explored m e read =
      let r = ran table cap (cut found) (omega arith) e in
      let b = r.begun in
      let same : b.model ≡ m = cc (b.read, read) in
      subst (λ k. explore same_region (next_of k) cap (first k) ≡ full found) same
      (cut-ran b r.found r.comes r.gives)

  -- N is answered: the entries are all regions that are reached, each once, region 0 first.
  pub whole-graph : outcome_of table cap ≡ whole found → (b : Begun table) × AllRegions b.model found × (length found ≤ cap)
  whole-graph e =
      let r = ran table cap (whole found) (omega arith) e in
      let b = r.begun in
      let c = whole-ran b r.found r.comes r.gives in
      let a = complete-all same_region (next_of b.model) same_true same_refl cap (first b.model) found c in
      (b, whole_of b.model cap found c, a.sound.fits)

  -- The same for the model that the table was read as, whose region 0 meets its invariant.
  pub whole-model : (m : Model) → outcome_of table cap ≡ whole found → read_table table ≡ accepted m
      → AllRegions m found × (meets (bounds_of m) m.invariants (first m) ≡ true)
  whole-model m e read =
      let (b, all, few) = whole-graph e in
      let same : b.model ≡ m = cc (b.read, read) in
      subst (λ k. AllRegions k found × (meets (bounds_of k) k.invariants (first k) ≡ true)) same (all, b.meets-first)

  -- 15 is answered: the entries are as many reached regions as there is room for, each once, and there are more.
  pub cut-graph : outcome_of table cap ≡ cut found → (b : Begun table) × FirstRegions b.model cap found
  cut-graph e =
      let r = ran table cap (cut found) (omega arith) e in
      let b = r.begun in
      (b, cut_of b.model cap found (cut-ran b r.found r.comes r.gives))

  -- N and the regions do not depend on how much room there is, where there is enough.
  pub more_room : (cap' : ℕ) → cap ≤ cap' → outcome_of table cap ≡ whole found → outcome_of table cap' ≡ whole found
  unfolding outcome_of
  more_room cap' h e =
      let r = ran table cap (whole found) (omega arith) e in
      let b = r.begun in
      let c = whole-ran b r.found r.comes r.gives in
      rw (b.read, b.meets-first, larger-complete same_region (next_of b.model) cap cap' (first b.model) found h c) refl

-- A refusal below 15 is that of reading the table, or 14, where region 0 breaks its invariant.
pub refused-graph : (table : List ℕ) (cap : ℕ) (reason : Reason) (place : ℕ) → outcome_of table cap ≡ refused reason place
    → (read_table table ≡ refusal reason place)
    ⊎ ((m : Model) × (read_table table ≡ accepted m) × (meets (bounds_of m) m.invariants (first m) ≡ false)
    × (reason ≡ BrokenStart) × (place ≡ 0))
unfolding outcome_of
refused-graph table cap reason place e = by_answer (read_table table) refl e
  where
    answer : Outcome → Answer
    answer (refused r p) = refusal r p
    answer (cut found) = refusal TooManyRegions 0
    answer (whole found) = refusal TooManyRegions 0

    no_found : (f : Found Region) → from_found f ≡ refused reason place → ⊥
    no_found (complete found) g = omega (arith, ap kind_of g)
    no_found (full found) g = omega (arith, ap kind_of g)

    by_answer : (a : Answer) → read_table table ≡ a → from_answer cap a ≡ refused reason place
        → (read_table table ≡ refusal reason place)
        ⊎ ((m : Model) × (read_table table ≡ accepted m) × (meets (bounds_of m) m.invariants (first m) ≡ false)
        × (reason ≡ BrokenStart) × (place ≡ 0))
    by_answer (refusal r p) t g = inl (t ∙ ap answer g)
    by_answer (accepted m) t g = go (meets (bounds_of m) m.invariants (first m)) refl g
      where
        go : (b : Bool) → meets (bounds_of m) m.invariants (first m) ≡ b
            → cond b (from_found (explore same_region (next_of m) cap (first m))) (refused BrokenStart 0) ≡ refused reason place
            → (read_table table ≡ refusal reason place)
            ⊎ ((m : Model) × (read_table table ≡ accepted m) × (meets (bounds_of m) m.invariants (first m) ≡ false)
            × (reason ≡ BrokenStart) × (place ≡ 0))
        go true h k = absurd (no_found (explore same_region (next_of m) cap (first m)) k)
        go false h k = inr (m, t, h, cc, cc)

module _ (table : List ℕ) (cap cap' : ℕ) (found : List Region) (h : cap ≤ cap') (e : outcome_of table cap ≡ cut found) where
  items-of : (f : Found Region) → items_of f ≡ regions_in (from_found f)
  items-of (complete l) = refl
  items-of (full l) = refl

  -- "15 leaves the first regions": with more room the same regions come first, be all listed then or not.
  pub cut-first : Begins found (regions_in (outcome_of table cap'))
  unfolding outcome_of
  cut-first =
      let r = ran table cap (cut found) (omega arith) e in
      let b = r.begun in
      let c = cut-ran table cap found b r.found r.comes r.gives in
      let more = explore same_region (next_of b.model) cap' (first b.model) in
      let out : outcome_of table cap' ≡ from_found more = rw (b.read, b.meets-first) refl in
      subst (Begins found) (items-of more ∙ sym (ap regions_in out))
      (larger-full same_region (next_of b.model) cap cap' (first b.model) found h c)

  -- Where all are listed then.
  pub cut-begins : (more : List Region) → outcome_of table cap' ≡ whole more → Begins found more
  cut-begins more out = subst (Begins found) (ap regions_in out) cut-first

  -- Where there is no room for all then either.
  pub cut-begins-cut : (more : List Region) → outcome_of table cap' ≡ cut more → Begins found more
  cut-begins-cut more out = subst (Begins found) (ap regions_in out) cut-first

module _ (table : List ℕ) (cap : ℕ) (b : Begun table) where
  outcome-is : outcome_of table cap ≡ from_found (explore same_region (next_of b.model) cap (first b.model))
  unfolding outcome_of
  outcome-is = rw (b.read, b.meets-first) refl

  more-reached : (found : List Region) → FirstRegions b.model cap found → MoreReached b.model cap
  more-reached found f =
      record {
        regions = found ++ (f.another ∷ []);
        different = different-grown found f.another f.another-new f.different;
        reached = λ r n. ⊎_elim (f.reached r)
            (λ k. subst (Reached b.model) (sym (Memᴰ.eq_of_singleton k)) f.another-reached) (Memᴰ.append_cases found n);
        many = omega (arith, f.fills, length-append found (f.another ∷ []));
      }

  has-cut : (f : Found Region) → explore same_region (next_of b.model) cap (first b.model) ≡ f → MoreReached b.model cap
      → (found : List Region) × (outcome_of table cap ≡ cut found)
  has-cut (full found) c more = (found, outcome-is ∙ ap from_found c)
  has-cut (complete found) c more =
      let a = complete-all same_region (next_of b.model) same_true same_refl cap (first b.model) found c in
      let few = no_more more.regions found more.different (λ r n. a.all-reached r (from-reached b.model r (more.reached r n))) in
      absurd (omega (arith, few, a.sound.fits, more.many))

  -- "15. N exceeds 4,096 or the whole entries lent": 15 is answered exactly where more regions are reached than there is room for.
  pub fifteen-iff : ((found : List Region) × (outcome_of table cap ≡ cut found)) ↔ MoreReached b.model cap
  fifteen-iff = (
    λ t. more-reached t.0 (cut_of b.model cap t.0 (cut-ran table cap t.0 b _ refl (sym outcome-is ∙ t.1))),
    has-cut (explore same_region (next_of b.model) cap (first b.model)) refl,
  )
