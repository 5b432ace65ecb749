-- What the code of the rounds keeps turn by turn: labels seen, anchors and marks, leaders linked within blocks of equal marks,
-- names and keys, numbers given, rounds made. A rep map holds for each item the lowest one that is related to it.
use Rattle.std.specs.Prelude.{ℕ, suc, ◌+◌, ◌*◌, ◌-◌, ◌%◌, ◌≤◌, ◌<◌, ◌≡◌, Bool, true, false, cond, ◌&&◌, List, ◌⊎◌, Option, IfSome}
use Rattle.std.specs.Prelude.{eqb, length, get_or}
use Rattle.bisimulation.specs.Finite.{Finite, related, matches, next, lead, leaders, block_of, blocks, rounds}
use Rattle.bisimulation.specs.Finite.{last_blocks, block_count}
use Rattle.bisimulation.specs.Below.{EquivalenceBelow, FinerBelow, Reps}
use Rattle.comparison.specs.Held.{Held}
use Rattle.comparison.specs.Keys.{key_of, Keyed, Equipped}
use Rattle.rounds.specs.Names.{Named}
use Rattle.rounds.specs.Changes.{Settled}
use Rattle.comparison.specs.declared.held.Graph.{Graph}
use Rattle.rounds.specs.declared.links.Buckets.{Buckets}
use Rattle.rounds.specs.declared.rounds.Carried.{Carried}

-- ---- The slices of a graph hold a structure, and keys and shelf go with it

abbrev pub HeldIn : Finite → Graph → Type 0
HeldIn F g = Held F g.n g.k g.labels.now g.nexts.now g.flags.now g.resets.now g.spots.now g.rows.now

-- The key of an item under a block list.
abbrev pub key_in : Graph → (names : List ℕ) → (x : ℕ) → ℕ
key_in g names x = key_of g.n g.k names g.nexts.now g.flags.now g.resets.now g.spots.now g.rows.now x

abbrev pub KeyedIn : Finite → Graph → (names keys : List ℕ) → Type 0
KeyedIn F g names keys = Keyed F g.n g.k names keys g.labels.now g.nexts.now g.flags.now g.resets.now g.spots.now g.rows.now

abbrev pub EquippedIn : Finite → Graph → (names keys shelf : List ℕ) → Type 0
EquippedIn F g names keys shelf =
    Equipped F g.n g.k names keys shelf g.labels.now g.nexts.now g.flags.now g.resets.now g.spots.now g.rows.now

-- ---- Numbering: the first i items have the numbers of their blocks, the rest of the list is as it was

pub record Numbered (q : ℕ → ℕ → Bool) (list₀ list : List ℕ) (i count : ℕ) : Type 0 where
  pub counted : count ≡ leaders q i
  pub done : (x : ℕ) → x < i → get_or list x 0 ≡ block_of q x
  pub rest : (x : ℕ) → i ≤ x → get_or list x 0 ≡ get_or list₀ x 0

-- The first i items of a list are a rep map, with so many leaders.
pub record Led (d : ℕ → ℕ → Bool) (list : List ℕ) (i count : ℕ) : Type 0 where
  pub reps : Reps d i list
  pub counted : count ≡ leaders d i

-- ---- Round 0: for each label the first item with it, among the first i. Link m + 1 is item m, and 0 is none.

pub data FirstWith (labels : List ℕ) (i label link : ℕ) : Type 0 where
  none : link ≡ 0 → ((y : ℕ) → y < i → ¬ (get_or labels y 0 ≡ label)) → FirstWith labels i label link
  some : (m : ℕ) → link ≡ suc m → m < i → get_or labels m 0 ≡ label → ((y : ℕ) → y < m → ¬ (get_or labels y 0 ≡ label))
      → FirstWith labels i label link

abbrev pub label_room : ℕ
label_room = 65536

pub record Seen (labels seen : List ℕ) (i : ℕ) : Type 0 where
  pub at : (label : ℕ) → label < label_room → FirstWith labels i label (get_or seen label 0)

-- ---- Items that join their block's anchor: d is the test of the next round over the rep map `old` of this one

-- Each block that has an item which is not stirred has one as its anchor, told at the number of its leader. Link a + 1 is item a,
-- and 0 is none.
pub record Anchored (n : ℕ) (old : List ℕ) (stirred : List Bool) (anchors : List ℕ) : Type 0 where
  pub some : (x : ℕ) → x < n → get_or stirred x false ≡ false → ¬ (get_or anchors (get_or old x 0) 0 ≡ 0)
  pub calm : (b a : ℕ) → get_or anchors b 0 ≡ suc a → (a < n) × (get_or old a 0 ≡ b) × (get_or stirred a false ≡ false)

-- An item joins where its block has an anchor that is related to it in the next round.
abbrev pub joined_by : (d : ℕ → ℕ → Bool) → (anchors old : List ℕ) → (x : ℕ) → Bool
joined_by d anchors old x = cond (eqb (get_or anchors (get_or old x 0) 0) 0) false (d (get_or anchors (get_or old x 0) 0 - 1) x)

-- Marks are odd for items that join. Equal marks mean: of one block, and both join or neither does.
abbrev pub join_mark : (block : ℕ) (joins : Bool) → ℕ
join_mark block joins = 2 * block + cond joins 1 0

abbrev pub MarkedTo : (i : ℕ) (d : ℕ → ℕ → Bool) → (anchors old marks : List ℕ) → Type 0
MarkedTo i d anchors old marks = (x : ℕ) → x < i → get_or marks x 0 ≡ join_mark (get_or old x 0) (joined_by d anchors old x)

-- ---- A round from the one before: d is the test of the next round over a rep map that is not finer

pub record Step (d : ℕ → ℕ → Bool) (n : ℕ) (old : List ℕ) : Type 0 where
  pub classes : EquivalenceBelow n d
  pub finer : FinerBelow n d (related old)
  pub reps : Reps (related old) n old

-- The rep map `mid` of equal marks is such a one, and tells the leads of items that join.
pub record Sorted (d : ℕ → ℕ → Bool) (n : ℕ) (marks mid : List ℕ) : Type 0 where
  pub step : Step d n mid
  pub joins : (x : ℕ) → x < n → get_or marks x 0 % 2 ≡ 1 → lead d x ≡ get_or mid x 0

-- An item may get its lead, or its mark, from a kin, an earlier item of its block. All links lead to items below i: link z + 1 is item
-- z, and 0 is none.
abbrev pub LinksBelow : (i : ℕ) → (links : List ℕ) → Type 0
LinksBelow i links = (b z : ℕ) → get_or links b 0 ≡ suc z → z < i

pub record KinsBelow (i : ℕ) (kins : Buckets) : Type 0 where
  pub heads : LinksBelow i kins.heads
  pub links : LinksBelow i kins.links

-- A kin of item x is an earlier item that is related to it in the next round.
abbrev pub KinOf : (d : ℕ → ℕ → Bool) → (x : ℕ) → Option ℕ → Type 0
KinOf d x kin = IfSome kin (λ z. (z < x) × (d z x ≡ true))

-- A lead of item x that was found in this way.
abbrev pub LedByKin : (d : ℕ → ℕ → Bool) → (x : ℕ) → Option ℕ → Type 0
LedByKin d x led = IfSome led (λ l. (l ≡ lead d x) × (l < x))

-- Leaders of d in one block of q are linked in rising order. Among the items below i the next one after y is the link of y, where
-- that is above y; else there is none.
pub data After (d q : ℕ → ℕ → Bool) (i y link : ℕ) : Type 0 where
  none : link ≤ y → ((z : ℕ) → y < z → z < i → lead d z ≡ z → q y z ≡ false) → After d q i y link
  some : y < link → link < i → lead d link ≡ link → q y link ≡ true
      → ((z : ℕ) → y < z → z < link → lead d z ≡ z → q y z ≡ false) → After d q i y link

pub record Chains (d q : ℕ → ℕ → Bool) (links : List ℕ) (i : ℕ) : Type 0 where
  pub after : (y : ℕ) → y < i → lead d y ≡ y → After d q i y (get_or links y 0)

-- A search along the leaders for that of x has come to y: those before y are not related to x.
pub record Walked (d q : ℕ → ℕ → Bool) (x y : ℕ) : Type 0 where
  pub below : y < x
  pub leads : lead d y ≡ y
  pub same : q y x ≡ true
  pub passed : (z : ℕ) → z < y → lead d z ≡ z → q z x ≡ true → d z x ≡ false

-- It ended without a hit: x leads a new block, and y is the last leader before it.
pub record Last (d q : ℕ → ℕ → Bool) (x y : ℕ) : Type 0 where
  pub own : lead d x ≡ x
  pub below : y < x
  pub leads : lead d y ≡ y
  pub same : q y x ≡ true
  pub none : (z : ℕ) → y < z → z < x → lead d z ≡ z → q y z ≡ false

-- ---- The loop over the rounds

-- The list is the rep map of round k, with so many blocks, and no earlier round is the last.
pub record Turned (F : Finite) (list : List ℕ) (count k : ℕ) : Type 0 where
  pub reps : Reps (related (blocks F k)) F.size list
  pub counted : count ≡ block_count F k
  pub before : k ≤ rounds F

-- The keys of the items below n that are stirred are forgotten; all others stay.
abbrev pub ForgottenAt : (keys keys' : List ℕ) → (stirred : List Bool) → (x : ℕ) → Type 0
ForgottenAt keys keys' stirred x = get_or keys' x 0 ≡ cond (get_or stirred x false) 0 (get_or keys x 0)

abbrev pub Forgotten : (n : ℕ) → (keys keys' : List ℕ) → (stirred : List Bool) → Type 0
Forgotten n keys keys' stirred =
    ((x : ℕ) → x < n → ForgottenAt keys keys' stirred x) × ((x : ℕ) → n ≤ x → get_or keys' x 0 ≡ get_or keys x 0)

-- Beside it: names for its blocks, keys under them that are known or not, and that items which are not stirred need no comparison.
pub record Prepared (F : Finite) (g : Graph) (list : List ℕ) (c : Carried) : Type 0 where
  pub named : Named g.n list c.tags c.names
  pub keyed : (x : ℕ) → x < g.n → (get_or c.keys x 0 ≡ 0) ⊎ (get_or c.keys x 0 ≡ key_in g c.names x)
  pub settled : Settled (next F c.names) (related c.names) g.n c.stirred

-- The loop is over: both lists are rep maps of the last round.
pub record Rested (F : Finite) (one two : List ℕ) (count k : ℕ) : Type 0 where
  pub first : Reps (related (last_blocks F)) F.size one
  pub second : Reps (related (last_blocks F)) F.size two
  pub counted : count ≡ block_count F (rounds F)
  pub made : k ≡ rounds F

-- There is no room for n items in two lists, or there are more than there may be.
abbrev pub NoRoom : (n : ℕ) → (first second : List ℕ) → Type 0
NoRoom n first second = (n ≤ 4096) × (n ≤ length first) × (n ≤ length second) → ⊥

-- ---- Judging: an item against the first one with its number

abbrev pub judged_with : Finite → List ℕ → (x y : ℕ) → Bool
judged_with F list x y = eqb (F.label x) (F.label y) && (matches F list x y && matches F list y x)
