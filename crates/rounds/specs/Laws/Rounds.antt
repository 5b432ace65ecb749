-- Laws on what the code of the rounds keeps, one for each turn of a loop.
use Prim.Native.Nat.{ℕ, suc, ◌+◌, ◌≤◌, ◌<◌}
use Rattle.std.proofs.Common.{arith, add-one, sym, ◌∙◌, subst, inl, inr, ext_get_or}
use Rattle.std.proofs.Common.{get_or-set_same, get_or-set_other, eq-eqb, ne_eqb, eqb-true}
use Rattle.std.proofs.Math.Decide.{dec_lt}
use Rattle.std.specs.Prelude.{◌≡◌, refl, false, ◌&&◌, ◌↔◌, ◌⊎◌, length, get_or, set}
use Rattle.std.proofs.Math.Path.{ap, ap₂}
use Rattle.std.proofs.Math.Bool.{Bool, true, cond}
use mathlib.Core.List.{List}
use Rattle.std.proofs.Math.Dec.{eqb}
use Rattle.std.proofs.Math.Seq.{set_out}
use Rattle.bisimulation.specs.Structures.{Closed}
use Rattle.bisimulation.specs.Finite.{Finite, structure, related, matches, next, lead, leaders, block_of, blocks_by, blocks, rounds}
use Rattle.bisimulation.specs.Finite.{last_blocks, block_count, accepts, all_below}
use Rattle.bisimulation.proofs.Laws.Tests.{clash, fails, same?, same_test, and-iff, eqb-iff}
use Rattle.bisimulation.proofs.Laws.Rounds.{matched-agree}
use Rattle.bisimulation.proofs.Laws.Leads.{related-equivalence, reps-own}
use Rattle.bisimulation.specs.Below.{EquivalenceBelow, AgreeBelow, Reps}
use Rattle.bisimulation.proofs.Laws.Leads.{lead_low, lead-lowest, lead-related, lead-of, lead-iff, lead-lead}
use Rattle.bisimulation.proofs.Laws.Leads.{lead-found, lead-none, lead-agree, leaders-agree}
use Rattle.bisimulation.proofs.Laws.Leads.{block_new, block-old, blocks-by-at, blocks-by-length, leader-finer, lead-first}
use Rattle.bisimulation.proofs.Laws.Blocks.{first-reps, first-agree, next-classes, next-finer, next-reps, next-count}
use Rattle.bisimulation.proofs.Laws.Blocks.{reps-numbered, turn-stop, turn_on, count-grows, rounds-stay}
use Rattle.bisimulation.proofs.Laws.Matches.{Related, matches-iff}
use Rattle.bisimulation.proofs.Laws.Judging.{WithFirst, judged-first}
use Rattle.comparison.specs.Held.{most_items}
use Rattle.comparison.specs.Compare.{Below}
use Rattle.comparison.specs.Laws.Compare.{all-agree}
use Rattle.comparison.specs.Laws.Steps.{below_one}
use Rattle.rounds.specs.Rounds.{Numbered, Led, FirstWith, Seen, label_room}
use Rattle.rounds.specs.Rounds.{Step, LinksBelow, KinsBelow, After, Chains, Walked, Last, Turned, Rested, judged_with}
use Rattle.rounds.specs.declared.links.Buckets.{Buckets}
use Rattle.rounds.specs.Links.{link_to}
use Rattle.std.specs.Prelude.{Option, None, Some, IfSome}
use Rattle.std.specs.Option.{is_some}
use mathlib.Core.Bool.{not}

-- ---- Lists filled from the front

-- The count of leaders after an item: one more where it leads itself.
pub data Counts (i l count count' : ℕ) : Type 0 where
  one_more : l ≡ i → count' ≡ count + 1 → Counts i l count count'
  as_before : ¬ (l ≡ i) → count' ≡ count → Counts i l count count'

pub counts-most : {i l count count' : ℕ} → Counts i l count count' → count ≤ i → count' ≤ i + 1
counts-most (Counts.one_more s c) h = omega (arith, c, h)
counts-most (Counts.as_before o c) h = omega (arith, c, h)

pub count-on : (d : ℕ → ℕ → Bool) (i l count count' : ℕ) → l ≡ lead d i → count ≡ leaders d i → Counts i l count count'
    → count' ≡ leaders d (i + 1)
count-on d i l count count' e h (Counts.one_more s c) = rw (add-one i, eq-eqb (lead d i) i (sym e ∙ s)) (c ∙ add-one count ∙ ap suc h)
count-on d i l count count' e h (Counts.as_before o c) = rw (add-one i, ne_eqb (lead d i) i (λ s. o (e ∙ s))) (c ∙ h)

-- A rep map, filled from the front.
pub reps-on : (q : ℕ → ℕ → Bool) (list : List ℕ) (i l : ℕ) → i < length list → Reps q i list → l ≡ lead q i
    → Reps q (i + 1) (set list i l)
reps-on q list i l h reps e = record { rep = λ x hx. at x (below_one hx) }
  where
    at : (x : ℕ) → (x ≡ i) ⊎ (x < i) → get_or (set list i l) x 0 ≡ lead q x
    at x (inl s) = rw s (get_or-set_same list i l 0 h ∙ e)
    at x (inr b) = get_or-set_other list i x l 0 (λ s. absurd (omega (arith, s))) ∙ reps.rep x b

pub led-none : (d : ℕ → ℕ → Bool) (list : List ℕ) → Led d list 0 0
led-none d list = record { reps = record { rep = λ x h. absurd (omega arith) }; counted = refl }

pub led_on : (d : ℕ → ℕ → Bool) (list : List ℕ) (i l count count' : ℕ) → i < length list → Led d list i count → l ≡ lead d i
    → Counts i l count count' → Led d (set list i l) (i + 1) count'
led_on d list i l count count' h led e counts =
    record { reps = reps-on d list i l h led.reps e; counted = count-on d i l count count' e led.counted counts }

-- ---- Numbering

pub numbered-none : (q : ℕ → ℕ → Bool) (list : List ℕ) → Numbered q list list 0 0
numbered-none q list = record { counted = refl; done = λ x h. absurd (omega arith); rest = λ x h. refl }

module _ (n : ℕ) (q : ℕ → ℕ → Bool) (classes : EquivalenceBelow n q) (list₀ : List ℕ) (reps : Reps q n list₀) where
  module _ (list : List ℕ) (i count : ℕ) (hl : length list ≡ n) (h : i < n) (numbered : Numbered q list₀ list i count) where
    led : get_or list i 0 ≡ lead q i
    led = numbered.rest i (omega arith) ∙ reps.rep i h

    numbered-by : (v count' : ℕ) → v ≡ block_of q i → Counts i (get_or list i 0) count count'
        → Numbered q list₀ (set list i v) (i + 1) count'
    numbered-by v count' is counts =
        record {
          counted = count-on q i (get_or list i 0) count count' led numbered.counted counts;
          done = λ x hx. at x (below_one hx);
          rest =
              λ x hx. get_or-set_other list i x v 0 (λ s. absurd (omega (arith, s))) ∙ numbered.rest x (omega arith);
        }
      where
        at : (x : ℕ) → (x ≡ i) ⊎ (x < i) → get_or (set list i v) x 0 ≡ block_of q x
        at x (inl s) = rw s (get_or-set_same list i v 0 (omega arith) ∙ is)
        at x (inr b) = get_or-set_other list i x v 0 (λ s. absurd (omega (arith, s))) ∙ numbered.done x b

    -- An item that leads itself gets a new number, and any other the one that its lead has got.
    pub numbered_new : get_or list i 0 ≡ i → Numbered q list₀ (set list i count) (i + 1) (count + 1)
    numbered_new s =
        numbered-by count (count + 1) (numbered.counted ∙ sym (block_new classes i (sym led ∙ s))) (Counts.one_more s refl)

    pub numbered_old : ¬ (get_or list i 0 ≡ i)
        → Numbered q list₀ (set list i (get_or list (get_or list i 0) 0)) (i + 1) count
    numbered_old o =
        numbered-by (get_or list (get_or list i 0) 0) count
        (numbered.done (get_or list i 0) (omega (arith, lead_low q i, led))
        ∙ ap (block_of q) led
        ∙ sym (block-old classes i h)) (Counts.as_before o refl)

  pub numbered-over : (list : List ℕ) (i count : ℕ) → length list ≡ n → n ≤ i → Numbered q list₀ list i count
      → list ≡ blocks_by n q
  numbered-over list i count hl h numbered =
      ext_get_or 0 list (blocks_by n q) (hl ∙ sym (blocks-by-length n q))
      (λ x hx. numbered.done x (omega arith) ∙ sym (blocks-by-at n q x (omega arith)))

-- ---- Round 0

pub seen_none : (labels seen : List ℕ) → ((label : ℕ) → label < label_room → get_or seen label 0 ≡ 0) → Seen labels seen 0
seen_none labels seen zeros = record { at = λ label h. FirstWith.none (zeros label h) (λ y k. absurd (omega arith)) }

module _ (labels seen : List ℕ) (i label : ℕ) (known : Seen labels seen i) (labelled : label ≡ get_or labels i 0)
    (room : label < label_room) where
  -- Item i is passed: its label has a first item now, and what is known of the others stays.
  seen-by : (seen' : List ℕ) → FirstWith labels (i + 1) label (get_or seen' label 0)
      → ((other : ℕ) → ¬ (other ≡ label) → get_or seen' other 0 ≡ get_or seen other 0) → Seen labels seen' (i + 1)
  seen-by seen' here there = record { at = λ other h. at other h (same? other label) }
    where
      at : (other : ℕ) → other < label_room → (other ≡ label) ⊎ (¬ (other ≡ label)) → FirstWith labels (i + 1) other (get_or seen' other 0)
      at other h (inl s) = rw s here
      at other h (inr o) = rw (there other o) (go (known.at other h))
        where
          not-here : ¬ (get_or labels i 0 ≡ other)
          not-here s = o (sym s ∙ sym labelled)

          nowhere : ((y : ℕ) → y < i → ¬ (get_or labels y 0 ≡ other)) → (y : ℕ) → (y ≡ i) ⊎ (y < i) → ¬ (get_or labels y 0 ≡ other)
          nowhere none y (inl s) e = not-here (ap (λ (z : ℕ). get_or labels z 0) (sym s) ∙ e)
          nowhere none y (inr b) e = none y b e

          go : FirstWith labels i other (get_or seen other 0) → FirstWith labels (i + 1) other (get_or seen other 0)
          go (FirstWith.none e none) = FirstWith.none e (λ y k. nowhere none y (below_one k))
          go (FirstWith.some m e below at none) = FirstWith.some m e (omega arith) at none

  -- No item is linked: item i is the first with its label.
  pub seen_new : get_or seen label 0 ≡ 0 → length seen ≡ label_room
      → (i ≡ lead (related labels) i) × Seen labels (set seen label (i + 1)) (i + 1)
  seen_new e long = go (known.at label room)
    where
      go : FirstWith labels i label (get_or seen label 0) → (i ≡ lead (related labels) i) × Seen labels (set seen label (i + 1)) (i + 1)
      go (FirstWith.some m f below at none) = absurd (omega (arith, e, f))
      go (FirstWith.none f none) = (
        sym (lead-none (related labels) i (eq-eqb (get_or labels i 0) (get_or labels i 0) refl)
            (λ y h. ne_eqb (get_or labels y 0) (get_or labels i 0) (λ s. none y h (s ∙ sym labelled)))),
        seen-by (set seen label (i + 1))
            (rw (get_or-set_same seen label (i + 1) 0 (omega (arith, room, long)))
            (FirstWith.some i (omega arith) (omega arith) (sym labelled) none))
            (λ other o. get_or-set_other seen label other (i + 1) 0 o),
      )

  -- One is, and leads item i.
  pub seen_known : (m : ℕ) → get_or seen label 0 ≡ suc m → (m ≡ lead (related labels) i) × (m < i) × Seen labels seen (i + 1)
  seen_known m e = go (known.at label room)
    where
      go : FirstWith labels i label (get_or seen label 0) → (m ≡ lead (related labels) i) × (m < i) × Seen labels seen (i + 1)
      go (FirstWith.none f none) = absurd (omega (arith, e, f))
      go (FirstWith.some k f below at none) =
          let same : m ≡ k = omega (arith, e, f) in (
            same ∙ sym (lead-found (related labels) i k (omega arith) (eq-eqb (get_or labels k 0) (get_or labels i 0) (at ∙ labelled))
                (λ y h. ne_eqb (get_or labels y 0) (get_or labels i 0) (λ s. none y h (s ∙ sym labelled)))),
            omega (arith, same),
            seen-by seen (FirstWith.some k f (omega arith) at none) (λ other o. refl),
          )

-- ---- A round from the one before

pub chains-none : (d q : ℕ → ℕ → Bool) (links : List ℕ) → Chains d q links 0
chains-none d q links = record { after = λ y h e. absurd (omega arith) }

-- Links at and past item i say nothing yet.
chains-past : (d q : ℕ → ℕ → Bool) (links : List ℕ) (i v : ℕ) → Chains d q links i → Chains d q (set links i v) i
chains-past d q links i v chains =
    record { after = λ y h e. rw (get_or-set_other links i y v 0 (λ s. absurd (omega (arith, s)))) (chains.after y h e) }

-- Links to kins: none at first, and then only to items that were passed.
pub links-none : (links : List ℕ) → ((b : ℕ) → get_or links b 0 ≡ 0) → LinksBelow 0 links
links-none links none b z e = absurd (omega (arith, none b, e))

links-kept : (links : List ℕ) (i : ℕ) → LinksBelow i links → LinksBelow (i + 1) links
links-kept links i known b z e = let below = known b z e in omega arith

links-set : (links : List ℕ) (i b v : ℕ) → ((z : ℕ) → v ≡ suc z → z < i) → LinksBelow i links → LinksBelow i (set links b v)
links-set links i b v below known = go (dec_lt b (length links))
  where
    go : Dec (b < length links) → LinksBelow i (set links b v)
    go (no h) = rw (set_out links b v (omega arith)) known
    go (yes h) = λ c z f. at c z f (same? c b)
      where
        at : (c z : ℕ) → get_or (set links b v) c 0 ≡ suc z → (c ≡ b) ⊎ (¬ (c ≡ b)) → z < i
        at c z f (inl s) =
            below z (sym (ap (λ (m : ℕ). get_or (set links b v) m 0) s ∙ get_or-set_same links b v 0 h) ∙ f)
        at c z f (inr o) = known c z (sym (get_or-set_other links b c v 0 o) ∙ f)

pub kins-kept : (kins : Buckets) (i : ℕ) → KinsBelow i kins → KinsBelow (i + 1) kins
kins-kept kins i known =
    record { heads = links-kept kins.heads i known.heads; links = links-kept kins.links i known.links }

-- Item x becomes the newest kin of its sign, and what was the newest comes after it.
pub kins-put : (kins : Buckets) (x sign i : ℕ) → x < i → KinsBelow i kins
    → KinsBelow i (record { heads = set kins.heads sign (x + 1); links = set kins.links x (get_or kins.heads sign 0) })
kins-put kins x sign i h known =
    record {
      heads = links-set kins.heads i sign (x + 1) (λ z f. omega arith) known.heads;
      links = links-set kins.links i x (get_or kins.heads sign 0) (λ z f. known.heads sign z f) known.links;
    }

-- The item that a link tells.
pub linked-below : (links : List ℕ) (i b : ℕ) (o : Option ℕ) → link_to o ≡ get_or links b 0 → LinksBelow i links → IfSome o (λ z. z < i)
linked-below links i b None e known = tt
linked-below links i b (Some z) e known = known b z (sym e)

pub linked-some : (o : Option ℕ) (b : Bool) → is_some o ≡ not b → b ≡ false → ¬ (link_to o ≡ 0)
linked-some None b e f = λ z. clash (e ∙ ap not f) refl
linked-some (Some y) b e f = λ z. omega (arith, z)

-- An item that is related to one below it has that one's lead.
pub led-by-kin : (d : ℕ → ℕ → Bool) (n x z : ℕ) (new : List ℕ) → EquivalenceBelow n d → x < n → z < x → Reps d x new → d z x ≡ true
    → (get_or new z 0 ≡ lead d x) × (get_or new z 0 < x)
led-by-kin d n x z new classes hx h reps t =
    let own = reps.rep z h in
    (own ∙ (lead-iff classes z x (omega arith) hx).1 t, omega (arith, own, lead_low d z))

module _ (d : ℕ → ℕ → Bool) (n : ℕ) (old : List ℕ) (step : Step d n old) where
  abbrev q : ℕ → ℕ → Bool
  q = related old

  blocks-before : EquivalenceBelow n q
  blocks-before = related-equivalence n old

  -- Items in the block of x are in one block.
  joined : (x y z : ℕ) → x < n → y < n → z < n → q y x ≡ true → q z x ≡ true → q y z ≡ true
  joined x y z hx hy hz a b = blocks-before.transitive y x z hy hx hz a (blocks-before.symmetric z x hz hx b)

  -- What led its block still does.
  own-lead : (x : ℕ) → x < n → x ≤ get_or old x 0 → lead d x ≡ x
  own-lead x hx own =
      leader-finer step.classes blocks-before step.finer x hx (omega (arith, step.reps.rep x hx, lead_low q x))

  -- The search starts at the old lead, and goes on until a hit or the last link.
  pub walk_start : (x y : ℕ) → x < n → y ≡ get_or old x 0 → y < x → Walked d (related old) x y
  walk_start x y hx e h =
      let led : y ≡ lead q x = e ∙ step.reps.rep x hx in
      record {
        below = h;
        leads =
            leader-finer step.classes blocks-before step.finer y (omega arith)
            (ap (lead q) led ∙ lead-lead blocks-before x hx ∙ sym led);
        same = rw led (lead-of blocks-before x hx);
        passed = λ z hz e' t. absurd (clash t (lead-lowest q x z (omega (arith, led))));
      }

  pub walk-hit : (x y : ℕ) → x < n → Walked d (related old) x y → d y x ≡ true → lead d x ≡ y
  walk-hit x y hx walked t =
      lead-first step.classes blocks-before step.finer x y hx (omega (arith, walked.below)) t walked.passed

  module _ (links : List ℕ) (x : ℕ) (hx : x < n) (chains : Chains d (related old) links x) where
    pub walk-on : (y link : ℕ) → Walked d (related old) x y → d y x ≡ false → link ≡ get_or links y 0 → y < link
        → Walked d (related old) x link
    walk-on y link walked f e h = go (rw (← e) at (chains.after y walked.below walked.leads))
      where
        go : After d q x y link → Walked d q x link
        go (After.none l none) = absurd (omega arith)
        go (After.some _ below leads same none) =
            record {
              below = below;
              leads = leads;
              same =
                  blocks-before.transitive link y x (omega arith) (omega (arith, walked.below)) hx
                  (blocks-before.symmetric y link (omega (arith, walked.below)) (omega arith) same) walked.same;
              passed = λ z hz lz t. at z hz lz t (same? z y);
            }
          where
            at : (z : ℕ) → z < link → lead d z ≡ z → q z x ≡ true → (z ≡ y) ⊎ (¬ (z ≡ y)) → d z x ≡ false
            at z hz lz t (inl s) = rw s f
            at z hz lz t (inr o) = past (dec_lt z y)
              where
                past : Dec (z < y) → d z x ≡ false
                past (yes k) = walked.passed z k lz t
                past (no k) =
                    absurd (clash (joined x y z hx (omega (arith, walked.below)) (omega arith) walked.same t)
                    (none z (omega arith) hz lz))

    pub walk_end : (y link : ℕ) → Walked d (related old) x y → d y x ≡ false → link ≡ get_or links y 0 → link ≤ y
        → Last d (related old) x y
    walk_end y link walked f e h = go (rw (← e) at (chains.after y walked.below walked.leads))
      where
        go : After d q x y link → Last d q x y
        go (After.some k _ _ _ _) = absurd (omega arith)
        go (After.none _ none) =
            record {
              own =
                  lead-first step.classes blocks-before step.finer x x hx (omega arith) (step.classes.reflexive x hx)
                  (λ z hz lz t. at z hz lz t (same? z y));
              below = walked.below;
              leads = walked.leads;
              same = walked.same;
              none = none;
            }
          where
            at : (z : ℕ) → z < x → lead d z ≡ z → q z x ≡ true → (z ≡ y) ⊎ (¬ (z ≡ y)) → d z x ≡ false
            at z hz lz t (inl s) = rw s f
            at z hz lz t (inr o) = past (dec_lt z y)
              where
                past : Dec (z < y) → d z x ≡ false
                past (yes k) = walked.passed z k lz t
                past (no k) =
                    absurd (clash (joined x y z hx (omega (arith, walked.below)) (omega arith) walked.same t)
                    (none z (omega arith) hz lz))

    -- Where the new item leads no block, or its block of q starts with it, the links stay.
    chains-hit : (y : ℕ) → lead d x ≡ y → y < x → Chains d (related old) links (x + 1)
    chains-hit y e h = record { after = λ z hz lz. at z lz (below_one hz) }
      where
        grown : (z : ℕ) → After d q x z (get_or links z 0) → After d q (x + 1) z (get_or links z 0)
        grown z (After.none l none) = After.none l (λ w a b lw. later w a lw (below_one b))
          where
            later : (w : ℕ) → z < w → lead d w ≡ w → (w ≡ x) ⊎ (w < x) → q z w ≡ false
            later w a lw (inl s) = absurd (omega (arith, e, ap (lead d) s, lw, s))
            later w a lw (inr b) = none w a b lw
        grown z (After.some a b lw same none) = After.some a (omega arith) lw same none

        at : (z : ℕ) → lead d z ≡ z → (z ≡ x) ⊎ (z < x) → After d q (x + 1) z (get_or links z 0)
        at z lz (inl s) = absurd (omega (arith, e, ap (lead d) s, lz, s))
        at z lz (inr b) = grown z (chains.after z b lz)

    chains-own : x ≤ get_or old x 0 → get_or links x 0 ≡ 0 → Chains d (related old) links (x + 1)
    chains-own own zero-here = record { after = λ z hz lz. at z lz (below_one hz) }
      where
        apart : (z : ℕ) → z < x → q z x ≡ false
        apart z h = lead-lowest q x z (omega (arith, step.reps.rep x hx))

        grown : (z : ℕ) → z < x → After d q x z (get_or links z 0) → After d q (x + 1) z (get_or links z 0)
        grown z h (After.none l none) = After.none l (λ w a b lw. later w a lw (below_one b))
          where
            later : (w : ℕ) → z < w → lead d w ≡ w → (w ≡ x) ⊎ (w < x) → q z w ≡ false
            later w a lw (inl s) = rw s (apart z h)
            later w a lw (inr b) = none w a b lw
        grown z h (After.some a b lw same none) = After.some a (omega arith) lw same none

        at : (z : ℕ) → lead d z ≡ z → (z ≡ x) ⊎ (z < x) → After d q (x + 1) z (get_or links z 0)
        at z lz (inl s) = After.none (omega (arith, ap (λ (k : ℕ). get_or links k 0) s, zero-here)) (λ w a b lw. absurd (omega arith))
        at z lz (inr b) = grown z b (chains.after z b lz)

    -- A new leader is linked after the last one of its block of q.
    chains-new : (y : ℕ) → Last d (related old) x y → get_or links x 0 ≡ 0 → x < length links
        → Chains d (related old) (set links y x) (x + 1)
    chains-new y last zero-here long = record { after = λ z hz lz. at z lz (below_one hz) (same? z y) }
      where
        apart : (z : ℕ) → z < x → lead d z ≡ z → ¬ (z ≡ y) → ((w : ℕ) → z < w → w < x → lead d w ≡ w → q z w ≡ false)
            → q z x ≡ false
        apart z h lz o none = fails (q z x) refute
          where
            refute : q z x ≡ true → ⊥
            refute t = side (dec_lt z y)
              where
                side : Dec (z < y) → ⊥
                side (yes k) =
                    clash (joined x z y hx (omega arith) (omega (arith, last.below)) t last.same)
                    (none y k last.below last.leads)
                side (no k) =
                    clash (joined x y z hx (omega (arith, last.below)) (omega arith) last.same t)
                    (last.none z (omega arith) h lz)

        grown : (z : ℕ) → z < x → lead d z ≡ z → ¬ (z ≡ y) → After d q x z (get_or links z 0) → After d q (x + 1) z (get_or links z 0)
        grown z h lz o (After.none l none) = After.none l (λ w a b lw. later w a lw (below_one b))
          where
            later : (w : ℕ) → z < w → lead d w ≡ w → (w ≡ x) ⊎ (w < x) → q z w ≡ false
            later w a lw (inl s) = rw s (apart z h lz o none)
            later w a lw (inr b) = none w a b lw
        grown z h lz o (After.some a b lw same none) = After.some a (omega arith) lw same none

        other : (z : ℕ) → ¬ (z ≡ y) → get_or (set links y x) z 0 ≡ get_or links z 0
        other z o = get_or-set_other links y z x 0 o

        at : (z : ℕ) → lead d z ≡ z → (z ≡ x) ⊎ (z < x) → (z ≡ y) ⊎ (¬ (z ≡ y)) → After d q (x + 1) z (get_or (set links y x) z 0)
        at z lz (inl s) (inl t) = absurd (omega (arith, last.below))
        at z lz (inl s) (inr o) =
            rw (other z o)
            (After.none (omega (arith, ap (λ (k : ℕ). get_or links k 0) s, zero-here)) (λ w a b lw. absurd (omega arith)))
        at z lz (inr b) (inl t) =
            rw (t, get_or-set_same links y x 0 (omega (arith, last.below)))
            (After.some last.below (omega arith) last.own last.same last.none)
        at z lz (inr b) (inr o) = rw (other z o) (grown z b lz o (chains.after z b lz))

  -- An item is placed: its link is cleared, and where a search found no lead it is linked in.
  module _ (links : List ℕ) (x : ℕ) (hx : x < n) (chains : Chains d (related old) links x) where
    pub chains-cleared : Chains d (related old) (set links x 0) x
    chains-cleared = chains-past d q links x 0 chains

    pub placed-own : x ≤ get_or old x 0 → get_or links x 0 ≡ 0 → (x ≡ lead d x) × Chains d (related old) links (x + 1)
    placed-own own zero-here = (sym (own-lead x hx own), chains-own links x hx chains own zero-here)

    -- Its lead is known.
    pub placed-known : (y : ℕ) → lead d x ≡ y → y < x → (y ≡ lead d x) × Chains d (related old) links (x + 1)
    placed-known y e h = (sym e, chains-hit links x hx chains y e h)

    pub placed-new : (y : ℕ) → Last d (related old) x y → get_or links x 0 ≡ 0 → x < length links
        → (x ≡ lead d x) × Chains d (related old) (set links y x) (x + 1)
    placed-new y last zero-here long = (sym last.own, chains-new links x hx chains y last zero-here long)

-- ---- The loop over the rounds

pub size-reps : {d : ℕ → ℕ → Bool} {m n : ℕ} {p : List ℕ} → m ≡ n → Reps d m p → Reps d n p
size-reps {d} {m} {n} {p} e reps = subst (λ (k : ℕ). Reps d k p) e reps

module _ (F : Finite) (closed : Closed (structure F)) where
  -- Round 0 by the list of labels.
  pub turned-first : (labels list : List ℕ) (n count : ℕ) → n ≡ F.size → ((x : ℕ) → x < n → get_or labels x 0 ≡ F.label x)
      → Led (related labels) list n count → Turned F list count 0
  unfolding block_count
  turned-first labels list n count size label led =
      record {
        reps = first-reps F closed (record { rep = λ x h. (size-reps size led.reps).rep x h ∙ lead-agree agree x h });
        counted = led.counted ∙ ap (leaders (related labels)) size ∙ counted;
        before = omega arith;
      }
    where
      agree : AgreeBelow F.size (related labels) (λ x y. eqb (F.label x) (F.label y))
      agree x y hx hy = rw (label x (omega (arith, size)), label y (omega (arith, size)))

      counted : leaders (related labels) F.size ≡ block_count F 0
      counted =
          leaders-agree agree F.size (omega arith) ∙ sym (leaders-agree (first-agree F closed) F.size (omega arith))

  module _ (list : List ℕ) (count k : ℕ) (turned : Turned F list count k) where
    pub turned-step : (n : ℕ) → n ≡ F.size → Step (next F list) n list
    turned-step n size =
        rw size (record {
          classes = next-classes F closed k turned.reps;
          finer = next-finer F closed k turned.reps;
          reps = reps-own (related-equivalence F.size (blocks F k)) turned.reps;
        })

    module _ (n : ℕ) (size : n ≡ F.size) (list' : List ℕ) (more : ℕ) (led : Led (next F list) list' n more) where
      more-is : more ≡ block_count F (suc k)
      more-is = led.counted ∙ ap (leaders (next F list)) size ∙ next-count F closed k turned.reps

      reps-then : Reps (related (blocks F (suc k))) F.size list'
      reps-then = next-reps F closed k turned.reps (size-reps size led.reps)

      -- A block was added: there is another round.
      pub turned_on : count < more → Turned F list' more (k + 1)
      turned_on h =
          rw (add-one k) (record {
            reps = reps-then;
            counted = more-is;
            before = turn_on F closed k turned.before (omega (arith, more-is, turned.counted));
          })

      -- None was: this round is the last.
      pub turned-over : more ≤ count → Rested F list' list count k
      turned-over h =
          let e : rounds F ≡ k =
          turn-stop F closed k turned.before (omega (arith, more-is, turned.counted, count-grows F closed k)) in
          record {
            first = subst (λ (l : List ℕ). Reps (related l) F.size list') (rounds-stay F closed (suc k) (omega arith)) reps-then;
            second = subst (λ (l : List ℕ). Reps (related l) F.size list) (rounds-stay F closed k (omega arith)) turned.reps;
            counted = turned.counted ∙ ap (block_count F) (sym e);
            made = sym e;
          }

  -- The numbers of a rep map of the last round are the last blocks.
  module _ (list : List ℕ) (n : ℕ) (size : n ≡ F.size) (reps : Reps (related (last_blocks F)) F.size list) where
    pub last-own : Reps (related list) n list
    last-own = rw size (reps-own (related-equivalence F.size (last_blocks F)) reps)

    pub last-numbered : blocks_by n (related list) ≡ last_blocks F
    unfolding last_blocks
    last-numbered = rw size (reps-numbered F closed (rounds F) reps)

-- ---- Judging

module _ (F : Finite) (closed : Closed (structure F)) (list : List ℕ) where
  judged-with : (x : ℕ) → (judged_with F list x (lead (related list) x) ≡ true) ↔ WithFirst F list x
  judged-with x = (there, back)
    where
      y : ℕ
      y = lead (related list) x

      there : judged_with F list x y ≡ true → WithFirst F list x
      there t =
          let (l, m) = (and-iff (eqb (F.label x) (F.label y)) (matches F list x y && matches F list y x)).0 t in
          let (a, b) = (and-iff (matches F list x y) (matches F list y x)).0 m in
          record {
            label = (eqb-iff (F.label x) (F.label y)).0 l;
            there = (matches-iff F list x y).0 a;
            back = (matches-iff F list y x).0 b;
          }

      back : WithFirst F list x → judged_with F list x y ≡ true
      back w =
          (and-iff (eqb (F.label x) (F.label y)) (matches F list x y && matches F list y x)).1 (
            (eqb-iff (F.label x) (F.label y)).1 w.label,
            (and-iff (matches F list x y) (matches F list y x)).1
                ((matches-iff F list x y).1 w.there, (matches-iff F list y x).1 w.back),
          )

  pub judged-all : (n : ℕ) → n ≡ F.size → ((x : ℕ) → x < n → judged_with F list x (lead (related list) x) ≡ true)
      → accepts F list ≡ true
  judged-all n size all =
      (judged-first F closed list).0 (λ x h. (judged-with x).0 (all x (omega (arith, size))))

  pub judged-not : (x : ℕ) → x < F.size → judged_with F list x (lead (related list) x) ≡ false → accepts F list ≡ false
  judged-not x h f =
      fails (accepts F list) (λ t. clash ((judged-with x).1 ((judged-first F closed list).1 t x h)) f)

-- An item is related to its lead.
pub lead-alike : (list : List ℕ) (x y : ℕ) → y ≡ lead (related list) x → related list x y ≡ true
lead-alike list x y is =
    eq-eqb (get_or list x 0) (get_or list y 0)
    (sym (ap (λ (z : ℕ). get_or list z 0) is ∙ eqb-true (get_or list (lead (related list) x) 0) (get_or list x 0)
    (lead-related (related list) x (eq-eqb (get_or list x 0) (get_or list x 0) refl))))

module _ (F : Finite) (list : List ℕ) (x y : ℕ) where
  pub judged-other : ¬ (F.label x ≡ F.label y) → false ≡ judged_with F list x y
  judged-other o = rw (ne_eqb (F.label x) (F.label y) o)

  pub judged-next : F.label x ≡ F.label y → related list x y ≡ true → next F list x y ≡ judged_with F list x y
  judged-next l r = rw (eq-eqb (F.label x) (F.label y) l, r)

-- One more item is judged.
abbrev pub JudgedTo : Finite → List ℕ → ℕ → Type 0
JudgedTo F list i = (x : ℕ) → x < i → judged_with F list x (lead (related list) x) ≡ true

pub judged-on : (F : Finite) (list : List ℕ) (i y : ℕ) → JudgedTo F list i → y ≡ lead (related list) i
    → judged_with F list i y ≡ true → JudgedTo F list (i + 1)
judged-on F list i y judged e t x h = at (below_one h)
  where
    at : (x ≡ i) ⊎ (x < i) → judged_with F list x (lead (related list) x) ≡ true
    at (inl s) = rw (s, ← e) t
    at (inr b) = judged x b

-- ---- Lists that relate the same items

pub reps-none : (q : ℕ → ℕ → Bool) (list : List ℕ) → Reps q 0 list
reps-none q list = record { rep = λ x h. absurd (omega arith) }

-- A rep map's numbers are those of items.
pub reps-below : (n : ℕ) (q : ℕ → ℕ → Bool) (list : List ℕ) → n ≤ most_items → Reps q n list → Below n list
reps-below n q list few reps x h = omega (arith, reps.rep x h, lead_low q x, few)

module _ (F : Finite) (closed : Closed (structure F)) where
  matches-passes : (list list' : List ℕ) → AgreeBelow F.size (related list) (related list') → (x y : ℕ) → x < F.size → y < F.size
      → matches F list x y ≡ true → matches F list' x y ≡ true
  matches-passes list list' agree x y hx hy t =
      (matches-iff F list' x y).1
      (matched-agree (structure F) closed (Related list) (Related list') hx hy
      (λ a b ha hb. (λ u. sym (agree a b ha hb) ∙ u, λ u. agree a b ha hb ∙ u)) ((matches-iff F list x y).0 t))

  pub matches-agree : (list list' : List ℕ) → AgreeBelow F.size (related list) (related list')
      → AgreeBelow F.size (matches F list) (matches F list')
  matches-agree list list' agree x y hx hy =
      same_test (matches F list x y) (matches F list' x y) (matches-passes list list' agree x y hx hy)
      (matches-passes list' list (λ a b ha hb. sym (agree a b ha hb)) x y hx hy)

  -- Proposals that relate the same items are accepted alike.
  pub accepts-agree : (list list' : List ℕ) → AgreeBelow F.size (related list) (related list') → accepts F list ≡ accepts F list'
  unfolding accepts
  accepts-agree list list' agree =
      all-agree F.size (row list) (row list') (λ x hx. all-agree F.size (one list x) (one list' x) (λ y hy.
      ap₂ (λ (a b : Bool). cond a (eqb (F.label x) (F.label y) && b) true) (agree x y hx hy)
      (matches-agree list list' agree x y hx hy)))
    where
      one : List ℕ → ℕ → ℕ → Bool
      one l x y = cond (related l x y) (eqb (F.label x) (F.label y) && matches F l x y) true

      row : List ℕ → ℕ → Bool
      row l x = all_below F.size (one l x)
