-- What a C host reads off an answer of the graph call: the refusal is 0 exactly where all regions were listed, and then the
-- value is how many they are; it is 15 exactly where there was no room for all; from 1 to 14 nothing was changed. And off one
-- of the state call: the refusal is 0 exactly where a region's number is answered, and then the value is that number. And off
-- those of the partition call, the pair call and the judging call: the refusal is 0 exactly on success, and then the fields
-- are what was answered. And off those of the part call: value and place say what was written.
use Rattle.std.specs.Prelude.{ℕ, ◌≤◌, ◌⊎◌, ◌↔◌, ◌≡◌, refl, Bool, true, false, cond, List, [], ◌∷◌, leb, length, Result, Ok, Err}
use Rattle.std.proofs.Common.{arith, inl, inr, sym, ap, subst}
use Rattle.regions.specs.Call.{Outcome, refused, cut, whole, outcome_of, graph_of}
use Rattle.regions.specs.Passed.{Model, read_table, accepted, Region}
use Rattle.states.specs.States.{State, Same}
use Rattle.states.specs.StateCall.{is_not_taken, own_state, place_of}
use Rattle.regions.specs.Laws.Numbers.{refused-number}
use Rattle.states.specs.Laws.Placed.{placed-numbers, same_place}
use Rattle.partition.specs.Passed.{Reason, Refusal, number}
use Rattle.partition.specs.Calls.{refuses, counts, acceptance, reduce_of, pair_of, judge_of}
use Rattle.partition.specs.Laws.Numbers.{reduce-numbers, pair-numbers, judge-numbers}
use Rattle.partition.specs.declared.calls.Reduction.{Reduction}
use Rattle.listing.specs.Parts.{text_of, part_of, fitted, bytes_in, bytes_told}
use Rattle.listing.specs.declared.parts.Part.{Part}
use Rattle.listing.specs.declared.parts.Part.TheVariants as T
use Rattle.terkwabu.specs.Answers.{of_graph, of_placing, of_reduction, one_if, of_pairing, of_judgement, told_part, of_part}
use Rattle.terkwabu.specs.declared.answer.Answer.{Answer}

module _ (table : List ℕ) (cap : ℕ) where
  -- The answer of the graph call.
  abbrev pub answered : Answer
  answered = of_graph (graph_of (outcome_of table cap))

  -- The refusal is 0 exactly where all regions were listed.
  pub zero-whole : (answered.refusal ≡ 0) ↔ ((found : List Region) × (outcome_of table cap ≡ whole found))
  zero-whole = (of (outcome_of table cap) refl, λ t. ap (λ o. (of_graph (graph_of o)).refusal) t.1)
    where
      of : (o : Outcome) → outcome_of table cap ≡ o → (of_graph (graph_of o)).refusal ≡ 0
          → (found : List Region) × (outcome_of table cap ≡ whole found)
      of (refused n p) t e = let low = (refused-number table cap n p t).0 in absurd (omega arith)
      of (cut found) t e = absurd (omega arith)
      of (whole found) t e = (found, t)

  -- The value is then how many they are.
  pub value-whole : (found : List Region) → outcome_of table cap ≡ whole found → answered.value ≡ length found
  value-whole found t = ap (λ o. (of_graph (graph_of o)).value) t

  -- The refusal is 15 exactly where there was no room for all regions.
  pub fifteen-cut : (answered.refusal ≡ 15) ↔ ((found : List Region) × (outcome_of table cap ≡ cut found))
  fifteen-cut = (of (outcome_of table cap) refl, λ t. ap (λ o. (of_graph (graph_of o)).refusal) t.1)
    where
      of : (o : Outcome) → outcome_of table cap ≡ o → (of_graph (graph_of o)).refusal ≡ 15
          → (found : List Region) × (outcome_of table cap ≡ cut found)
      of (refused n p) t e = let high = (refused-number table cap n p t).1 in absurd (omega arith)
      of (cut found) t e = (found, t)
      of (whole found) t e = absurd (omega arith)

  -- From 1 to 14 it is the number of a refusal that changes nothing, and its place is the answer's.
  pub other-refused : 1 ≤ answered.refusal → answered.refusal ≤ 14
      → (reason : Reason) × (answered.refusal ≡ number reason) × (outcome_of table cap ≡ refused reason answered.place)
  other-refused low high = of (outcome_of table cap) refl low high
    where
      of : (o : Outcome) → outcome_of table cap ≡ o → 1 ≤ (of_graph (graph_of o)).refusal → (of_graph (graph_of o)).refusal ≤ 14
          → (reason : Reason) × (answered.refusal ≡ number reason) × (outcome_of table cap ≡ refused reason answered.place)
      of (refused n p) t l h = (n, ap (λ o. (of_graph (graph_of o)).refusal) t, rw t)
      of (cut found) t l h = absurd (omega arith)
      of (whole found) t l h = absurd (omega arith)

module _ (table : List ℕ) (cap : ℕ) (s : State) where
  -- The answer of the state call.
  abbrev pub placing : Answer
  placing = of_placing (place_of table cap s)

  -- The refusal is 0 exactly where a region's number is answered.
  pub zero-placed : (placing.refusal ≡ 0) ↔ ((region : ℕ) × (place_of table cap s ≡ Ok region))
  zero-placed = (of (place_of table cap s) refl, λ t. ap (λ o. (of_placing o).refusal) t.1)
    where
      of : (o : Result ℕ Refusal) → place_of table cap s ≡ o → (of_placing o).refusal ≡ 0
          → (region : ℕ) × (place_of table cap s ≡ Ok region)
      of (Err r) t e =
          absurd (elim (placed-numbers table cap s r.reason r.place t) [
            | inl low ↦ omega (arith, low, e)
            | inr high ↦ elim high [ inl q ↦ omega (arith, q, e) | inr q ↦ omega (arith, q, e) ]
          ])
      of (Ok region) t e = (region, t)

  -- The value is then that number.
  pub value-placed : (region : ℕ) → place_of table cap s ≡ Ok region → placing.value ≡ region
  value-placed region t = ap (λ o. (of_placing o).value) t

  -- Any other refusal is the call's: 1 to 15, 20 or 21, and its place is the answer's.
  pub other-placed : 1 ≤ placing.refusal
      → (reason : Reason) × (placing.refusal ≡ number reason) × (place_of table cap s ≡ refuses reason placing.place)
  other-placed low = of (place_of table cap s) refl low
    where
      of : (o : Result ℕ Refusal) → place_of table cap s ≡ o → 1 ≤ (of_placing o).refusal
          → (reason : Reason) × (placing.refusal ≡ number reason) × (place_of table cap s ≡ refuses reason placing.place)
      of (Err r) t l = (r.reason, ap (λ o. (of_placing o).refusal) t, rw t)
      of (Ok region) t l = absurd (omega arith)

  pub placed-refusal : 1 ≤ placing.refusal
      → ((1 ≤ placing.refusal) × (placing.refusal ≤ 15)) ⊎ ((placing.refusal ≡ 20) ⊎ (placing.refusal ≡ 21))
  placed-refusal low =
      let (reason, is, e) = other-placed low in
      subst (λ (n : ℕ). ((1 ≤ n) × (n ≤ 15)) ⊎ ((n ≡ 20) ⊎ (n ≡ 21))) (sym is) (placed-numbers table cap s reason placing.place e)

-- Equal states that the call takes get one answer.
pub same-placing : (table : List ℕ) (cap : ℕ) (m : Model) → read_table table ≡ accepted m → (s t : State)
    → is_not_taken m s ≡ false → is_not_taken m t ≡ false → Same (own_state m s) (own_state m t)
    → placing table cap s ≡ placing table cap t
same-placing table cap m read s t hs ht e = ap of_placing (same_place table cap m read s t hs ht e)

module _ (table : List ℕ) (cap : ℕ) (first second : List ℕ) where
  -- The answer of the partition call.
  abbrev pub reducing : Answer
  reducing = of_reduction (reduce_of table cap first second)

  -- The refusal is 0 exactly where blocks are answered.
  pub zero-reduced : (reducing.refusal ≡ 0)
      ↔ ((n : ℕ) × (b : ℕ) × (k : ℕ) × (reduce_of table cap first second ≡ Ok (counts n b k)))
  zero-reduced = (of (reduce_of table cap first second) refl, λ t. ap (λ o. (of_reduction o).refusal) t.3)
    where
      of : (o : Result Reduction Refusal) → reduce_of table cap first second ≡ o → (of_reduction o).refusal ≡ 0
          → (n : ℕ) × (b : ℕ) × (k : ℕ) × (reduce_of table cap first second ≡ Ok (counts n b k))
      of (Err r) t e = let low = (reduce-numbers table cap first second r.reason r.place t).0 in absurd (omega arith)
      of (Ok c) t e = (c.regions, c.blocks, c.rounds, t)

  -- The value is then N, and the counts of blocks and rounds stand in their fields.
  pub value-reduced : (n b k : ℕ) → reduce_of table cap first second ≡ Ok (counts n b k)
      → (reducing.value ≡ n) × (reducing.blocks ≡ b) × (reducing.rounds ≡ k)
  value-reduced n b k t = (
    ap (λ o. (of_reduction o).value) t,
    ap (λ o. (of_reduction o).blocks) t,
    ap (λ o. (of_reduction o).rounds) t,
  )

module _ (table : List ℕ) (cap : ℕ) (first second : List ℕ) (r s : ℕ) where
  -- The answer of the pair call.
  abbrev pub pairing : Answer
  pairing = of_pairing (pair_of table cap first second r s)

  -- The refusal is 0 exactly where it is answered whether the two regions share a block.
  pub zero-paired : (pairing.refusal ≡ 0) ↔ ((v : Bool) × (pair_of table cap first second r s ≡ Ok v))
  zero-paired = (of (pair_of table cap first second r s) refl, λ t. ap (λ o. (of_pairing o).refusal) t.1)
    where
      of : (o : Result Bool Refusal) → pair_of table cap first second r s ≡ o → (of_pairing o).refusal ≡ 0
          → (v : Bool) × (pair_of table cap first second r s ≡ Ok v)
      of (Err x) t e = let low = (pair-numbers table cap first second r s x.reason x.place t).0 in absurd (omega arith)
      of (Ok v) t e = (v, t)

  -- The value is then 1 where they do, 0 where not.
  pub value-paired : (v : Bool) → pair_of table cap first second r s ≡ Ok v → pairing.value ≡ one_if v
  value-paired v t = ap (λ o. (of_pairing o).value) t

module _ (table : List ℕ) (cap : ℕ) (proposal : List ℕ) where
  -- The answer of the judging call.
  abbrev pub judging : Answer
  judging = of_judgement (judge_of table cap proposal)

  -- The refusal is 0 exactly where the proposal is accepted.
  pub zero-judged : (judging.refusal ≡ 0) ↔ (judge_of table cap proposal ≡ acceptance)
  zero-judged = (of (judge_of table cap proposal) refl, λ t. ap (λ o. (of_judgement o).refusal) t)
    where
      of : (o : Result (Unit {0}) Refusal) → judge_of table cap proposal ≡ o → (of_judgement o).refusal ≡ 0
          → judge_of table cap proposal ≡ acceptance
      of (Err r) t e = let low = (judge-numbers table cap proposal r.reason r.place t).0 in absurd (omega arith)
      of (Ok done) t e = t

  -- The value is then 1.
  pub value-judged : judge_of table cap proposal ≡ acceptance → judging.value ≡ 1
  value-judged t = ap (λ o. (of_judgement o).value) t

-- ---- The part call

-- The value is how many bytes were written.
pub value-part : (p : Part) → (told_part p).value ≡ bytes_in p
value-part (T.Written k) = refl
value-part (T.Short k) = refl
value-part T.End = refl

pub value-told : (p : Result Part Refusal) → (of_part p).value ≡ bytes_told p
value-told (Err r) = refl
value-told (Ok part) = value-part part

module _ (table entries list : List ℕ) (regions blocks rounds part room : ℕ) where
  -- The answer of the part call, and the text of the part, which is empty exactly where there is no such part.
  abbrev pub parting : Answer
  parting = of_part (part_of table entries list regions blocks rounds part room)

  abbrev pub text : List ℕ
  text = text_of table entries list regions blocks rounds part

  fitted-says : (l : List ℕ) → ((told_part (fitted l room)).refusal ≡ 0)
      × ((told_part (fitted l room)).value ≡ cond (leb (length l) room) (length l) 0)
      × ((told_part (fitted l room)).place ≡ cond (leb (length l) room) 0 (length l))
  fitted-says [] = go (leb 0 room)
    where
      go : (b : Bool) → (◌≡◌ {A = ℕ} 0 0) × (◌≡◌ {A = ℕ} 0 (cond b 0 0)) × (◌≡◌ {A = ℕ} 0 (cond b 0 0))
      go true = (refl, refl, refl)
      go false = (refl, refl, refl)
  fitted-says (c ∷ l) = go (leb (length (c ∷ l)) room)
    where
      go : (b : Bool) → ((told_part (cond b (T.Written (length (c ∷ l))) (T.Short (length (c ∷ l))))).refusal ≡ 0)
          × ((told_part (cond b (T.Written (length (c ∷ l))) (T.Short (length (c ∷ l))))).value ≡ cond b (length (c ∷ l)) 0)
          × ((told_part (cond b (T.Written (length (c ∷ l))) (T.Short (length (c ∷ l))))).place ≡ cond b 0 (length (c ∷ l)))
      go true = (refl, refl, refl)
      go false = (refl, refl, refl)

  -- For a table that was read nothing is refused. Where the part fits, the value is its length and the place 0; else the other way
  -- round. So all three are 0 exactly where there is no such part.
  pub part_says : (m : Model) → read_table table ≡ accepted m → (parting.refusal ≡ 0)
      × (parting.value ≡ cond (leb (length text) room) (length text) 0)
      × (parting.place ≡ cond (leb (length text) room) 0 (length text))
  unfolding part_of
  part_says m read = rw read (fitted-says text)
