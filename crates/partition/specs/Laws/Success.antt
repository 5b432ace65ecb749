-- When the partition call and the pair call succeed, that an accepted table has one model and one list of regions whatever was lent,
-- and that the two calls say the same.
use Rattle.std.specs.Prelude.{ℕ, ◌≤◌, ◌<◌, ◌↔◌, ◌≡◌, Bool, true, false, List, [], leb, length, get_or, Ok}
use Rattle.std.proofs.Common.{arith, sym, ◌∙◌, ap, ap₂}
use Rattle.std.proofs.Math.Path.{refl}
use borrow.Author.Tests.{eqb-true, eq-eqb, le-ltb, lt-leb, leb-true, leb-false}
use Rattle.regions.specs.Passed.{Model, Answer, refusal, accepted, Region}
use Rattle.regions.specs.Call.{Outcome, refused, cut, whole}
use Rattle.regions.specs.Laws.Call.{more_room}
use Rattle.bisimulation.specs.Finite.{related, last_blocks, rounds, block_count}
use Rattle.partition.specs.Instances.{graph}
use Rattle.partition.specs.Calls.{refuses, counts, is_short, blocks_of, numbered_in, shared_of, reduce_of, list_of, list_after, pair_of}
use Rattle.partition.specs.Laws.Calls.{on-accepted, numbered-at, reduce-accepted, reduce-long, reduce-lists}
use Rattle.partition.specs.Laws.Calls.{pair-accepted, pair-shares, pair-long, pair-below}
use Rattle.partition.specs.Calls.{Accepted}

-- ---- An accepted table has one model and one list of regions

abbrev model_in : Model → Answer → Model
model_in other (refusal reason place) = other
model_in other (accepted m) = m

abbrev regions_in : Outcome → List Region
regions_in (refused reason place) = []
regions_in (cut found) = []
regions_in (whole found) = found

pub one-model : (table : List ℕ) (cap cap' : ℕ) (a : Accepted table cap) (b : Accepted table cap') → a.model ≡ b.model
one-model table cap cap' a b = ap (model_in a.model) (sym a.read ∙ b.read)

pub one_found : (table : List ℕ) (cap cap' : ℕ) (a : Accepted table cap) (b : Accepted table cap') → a.found ≡ b.found
one_found table cap cap' a b = go (leb cap cap') refl
  where
    go : (t : Bool) → leb cap cap' ≡ t → a.found ≡ b.found
    go true e = ap regions_in (sym (more_room table cap a.found cap' (leb-true cap cap' e) a.out) ∙ b.out)
    go false e =
        let less = leb-false cap cap' e in
        sym (ap regions_in (sym (more_room table cap' b.found cap (omega (arith, less)) b.out) ∙ a.out))

-- ---- When the calls succeed

module _ (table : List ℕ) (cap : ℕ) (a : Accepted table cap) (first second : List ℕ)
    (one : length a.found ≤ length first) (two : length a.found ≤ length second) where
  not_short : is_short (length a.found) first second ≡ false
  not_short = rw (le-ltb (length first) (length a.found) one, le-ltb (length second) (length a.found) two) refl

  -- Nothing is refused where the table is accepted and both lists are long enough: N, the count of blocks and the count of rounds.
  pub reduce-succeeds : reduce_of table cap first second
      ≡ Ok (counts (length a.found) (block_count (graph a.model a.found) (rounds (graph a.model a.found)))
      (rounds (graph a.model a.found)))
  unfolding reduce_of
  reduce-succeeds = on-accepted refuses (blocks_of first second) table cap a ∙ rw not_short refl

  -- Both lists then hold the blocks.
  pub reduce-holds : (list : List ℕ) → list_after table cap first second list ≡ numbered_in list a.model a.found
  unfolding list_after
  reduce-holds list =
      on-accepted (λ reason place. list) (list_of first second list) table cap a
      ∙ rw not_short refl

  -- The pair call, where moreover both numbers are those of regions.
  pub pair-succeeds : (r s : ℕ) → r < length a.found → s < length a.found
      → pair_of table cap first second r s ≡ Ok (related (last_blocks (graph a.model a.found)) r s)
  unfolding pair_of
  pair-succeeds r s hr hs =
      on-accepted refuses (shared_of first second r s) table cap a
      ∙ rw (not_short, lt-leb (length a.found) r hr, lt-leb (length a.found) s hs) refl

-- Exactly where: the calls answer no refusal only there.
module _ (table : List ℕ) (cap : ℕ) (first second : List ℕ) where
  pub reduce-exactly : ((n : ℕ) × (b : ℕ) × (k : ℕ) × (reduce_of table cap first second ≡ Ok (counts n b k)))
      ↔ ((a : Accepted table cap) × (length a.found ≤ length first) × (length a.found ≤ length second))
  reduce-exactly = (
    λ t.
        let (n, b, k, e) = t in
        let (one, two) = reduce-long table cap first second n b k e in
        (reduce-accepted table cap first second n b k e, one, two),
    λ t. let (a, one, two) = t in (_, _, _, reduce-succeeds table cap a first second one two),
  )

  pub pair-exactly : (r s : ℕ) → ((v : Bool) × (pair_of table cap first second r s ≡ Ok v))
      ↔ ((a : Accepted table cap) × (length a.found ≤ length first) × (length a.found ≤ length second)
      × (r < length a.found) × (s < length a.found))
  pair-exactly r s = (
    λ t.
        let (v, e) = t in
        let (one, two) = pair-long table cap first second r s v e in
        let (hr, hs) = pair-below table cap first second r s v e in
        (pair-accepted table cap first second r s v e, one, two, hr, hs),
    λ t. let (a, one, two, hr, hs) = t in (_, pair-succeeds table cap a first second one two r s hr hs),
  )

-- ---- The pair call says the same as the lists of the partition call, whatever was lent to either

module _ (table : List ℕ) (cap cap' : ℕ) (first second first₂ second₂ : List ℕ) (n b k : ℕ)
    (reduced : reduce_of table cap first second ≡ Ok (counts n b k)) (r s : ℕ) (shares : Bool)
    (paired : pair_of table cap' first₂ second₂ r s ≡ Ok shares) where
  abbrev mine : Accepted table cap
  mine = reduce-accepted table cap first second n b k reduced

  abbrev theirs : Accepted table cap'
  theirs = pair-accepted table cap' first₂ second₂ r s shares paired

  same_blocks : related (last_blocks (graph mine.model mine.found)) r s ≡ shares
  same_blocks =
      ap₂ (λ (m : Model) (found : List Region). related (last_blocks (graph m found)) r s) (one-model table cap cap' mine theirs)
      (one_found table cap cap' mine theirs)
      ∙ pair-shares table cap' first₂ second₂ r s shares paired

  -- Both numbers are those of regions, since the pair call succeeded.
  below-mine : (r < length mine.found) × (s < length mine.found)
  below-mine =
      let (hr, hs) = pair-below table cap' first₂ second₂ r s shares paired in
      let same = ap length (one_found table cap cap' mine theirs) in
      (omega (arith, hr, same), omega (arith, hs, same))

  -- In a list of the partition call: the first (where `list` is `first`) or the second.
  pub calls-agree : (list : List ℕ)
      → (shares ≡ true)
      ↔ (get_or (list_after table cap first second list) r 0 ≡ get_or (list_after table cap first second list) s 0)
  calls-agree list =
      let (hr, hs) = below-mine in
      let at : (x : ℕ) → x < length mine.found
      → get_or (list_after table cap first second list) x 0 ≡ get_or (last_blocks (graph mine.model mine.found)) x 0 =
      λ x h. ap (λ (l : List ℕ). get_or l x 0) (reduce-lists table cap first second n b k reduced list)
      ∙ numbered-at list mine.model mine.found x h in (
        λ e. at r hr ∙ eqb-true _ _ (same_blocks ∙ e) ∙ sym (at s hs),
        λ e. sym same_blocks ∙ eq-eqb _ _ (sym (at r hr) ∙ e ∙ at s hs),
      )
