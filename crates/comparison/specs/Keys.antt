-- A key for each item under a block list: a number that is equal for items that the next round relates (`key-same` in Laws/Keys), so
-- that items with different keys need not be compared. How numbers are scattered and joined is our choice; only speed depends on it.
use Rattle.std.specs.Prelude.{ℕ, zero, suc, ◌+◌, ◌*◌, ◌/◌, ◌%◌, ◌≤◌, ◌<◌, ◌≡◌, Bool, true}
use Rattle.std.specs.Prelude.{false, cond, not, ◌&&◌, List, ◌⊎◌, eqb, length, get_or, set}
use Rattle.bisimulation.specs.Structures.{Closed}
use Rattle.bisimulation.specs.Finite.{Finite, structure, related, some_below, any_of}
use Rattle.comparison.specs.Held.{most_items, most_edges, chain, action_at, whole_at, count_at, target_at}
use Rattle.comparison.specs.Held.{Held, is_open}
use Rattle.comparison.specs.Compare.{Below, weighed, answers, some_answers}

unfoldable pub sum_below : (m : ℕ) → (ℕ → ℕ) → ℕ
sum_below zero f = 0
sum_below (suc m) f = sum_below m f + f m

-- Numbers spread over those below 2 to the 20.
unfoldable pub scatter : ℕ → ℕ
scatter v = ((v + 77) * ((v + 1003) * (v + 2001))) % 1048573

-- The number of an item's block, cut to those that there may be.
abbrev pub mark_of : (list : List ℕ) → (x : ℕ) → ℕ
mark_of list x = get_or list x 0 % most_items

-- ---- Delays: each block that x reaches by delay counts once. Numbers are cut further here, since so many marks are cleared for a key.

abbrev pub delay_room : ℕ
delay_room = 512

abbrev pub delay_mark : (list : List ℕ) → (x : ℕ) → ℕ
delay_mark list x = get_or list x 0 % delay_room

unfoldable pub is_reached : (n : ℕ) → (list nexts : List ℕ) → (x v : ℕ) → Bool
is_reached n list nexts x v = any_of (λ y. eqb v (delay_mark list y)) (chain n nexts n x)

unfoldable pub delay_key : (n : ℕ) → (list nexts : List ℕ) → (x : ℕ) → ℕ
delay_key n list nexts x = sum_below delay_room (λ v. cond (is_reached n list nexts x v) (scatter v) 0)

-- ---- Edges: each block that an edge lands in counts once, by a mix of its number and of the share that lands there. Sums of such mixes
-- are not linear in the shares, so that edges with other shares seldom have the same code.

-- A denominator that may be divided by.
abbrev pub divisor : ℕ → ℕ
divisor w = cond (eqb w 0) 1 w

-- The share of a weight, times 2 to the 31st and rounded down.
unfoldable pub share_of : (weight whole : ℕ) → ℕ
share_of weight whole = (weight * 2147483648) / divisor whole

-- The third power modulo a prime. No two numbers below it have the same, since it is not 1 modulo 3.
unfoldable pub cube : ℕ → ℕ
cube t = ((t * t) % 2147483579 * t) % 2147483579

-- A block's number and a share, mixed: in no linear way, so that a change of shares seldom makes up for a change of blocks.
unfoldable pub mixed : (v share : ℕ) → ℕ
mixed v share = cube ((share + v * (v * 131 + 524309) + 12345) % 2147483579)

-- No branch of edge e at x below branch i leads to the block of c.
unfoldable pub is_first_into : (list resets spots rows : List ℕ) → (c x e i : ℕ) → Bool
is_first_into list resets spots rows c x e i = not (some_below i (λ j. related list (target_at resets spots rows x e j) c))

-- What the block of c adds: nothing where no weight lands there.
unfoldable pub block_code : (list resets spots rows : List ℕ) → (c x e : ℕ) → ℕ
block_code list resets spots rows c x e =
    cond (eqb (weighed list resets spots rows c x e) 0) 0
    (mixed (mark_of list c) (share_of (weighed list resets spots rows c x e) (whole_at rows e)))

-- What branch i adds: where it is the first into its block, what the block adds.
unfoldable pub landed_by : (list resets spots rows : List ℕ) → (x e i : ℕ) → ℕ
landed_by list resets spots rows x e i =
    cond (is_first_into list resets spots rows (target_at resets spots rows x e i) x e i)
    (block_code list resets spots rows (target_at resets spots rows x e i) x e) 0

unfoldable pub landed : (list resets spots rows : List ℕ) → (x e : ℕ) → ℕ
landed list resets spots rows x e = sum_below (count_at rows e) (landed_by list resets spots rows x e)

unfoldable pub joined : (action sum : ℕ) → ℕ
joined action sum = ((sum % 2147483629) * (sum % 2147483629) + action * 40503001) % 1099511627689

unfoldable pub code_of : (list resets spots rows : List ℕ) → (x e : ℕ) → ℕ
code_of list resets spots rows x e = joined (action_at rows e) (landed list resets spots rows x e)

-- Edge e is available at x, and no lower one there has its code.
unfoldable pub is_new : (list flags resets spots rows : List ℕ) → (x e : ℕ) → Bool
is_new list flags resets spots rows x e =
    is_open flags x e
    && not (some_below e (λ f. is_open flags x f && eqb (code_of list resets spots rows x f) (code_of list resets spots rows x e)))

-- Each code of an edge that is available at x counts once.
unfoldable pub edge_key : (k : ℕ) → (list flags resets spots rows : List ℕ) → (x : ℕ) → ℕ
edge_key k list flags resets spots rows x =
    sum_below k (λ e. cond (is_new list flags resets spots rows x e) (code_of list resets spots rows x e) 0)

-- ---- Both; no key is 0

unfoldable pub key_of : (n k : ℕ) → (list nexts flags resets spots rows : List ℕ) → (x : ℕ) → ℕ
key_of n k list nexts flags resets spots rows x =
    edge_key k list flags resets spots rows x * 65536 + delay_key n list nexts x + 1

-- Keys are computed when they are asked for: a list holds the key of an item, or 0 where it is not known.
abbrev pub Known : (n k : ℕ) → (names keys nexts flags resets spots rows : List ℕ) → Type 0
Known n k names keys nexts flags resets spots rows =
    (x : ℕ) → x < n → (get_or keys x 0 ≡ 0) ⊎ (get_or keys x 0 ≡ key_of n k names nexts flags resets spots rows x)

-- Asking for the key of x, or for those of x and y, changes no key of another item and none that is known.
abbrev pub AskedFor : (x : ℕ) → (keys keys' : List ℕ) → Type 0
AskedFor x keys keys' = (z : ℕ) → (get_or keys' z 0 ≡ get_or keys z 0) ⊎ ((z ≡ x) × (get_or keys z 0 ≡ 0))

abbrev pub BothAsked : (x y : ℕ) → (keys keys' : List ℕ) → Type 0
BothAsked x y keys keys' = (z : ℕ) → (get_or keys' z 0 ≡ get_or keys z 0) ⊎ (((z ≡ x) ⊎ (z ≡ y)) × (get_or keys z 0 ≡ 0))

-- The codes of the edges below e that are available at x are kept.
abbrev pub Coded : (e x : ℕ) → (list flags resets spots rows codes : List ℕ) → Type 0
Coded e x list flags resets spots rows codes =
    (f : ℕ) → f < e → is_open flags x f ≡ true → get_or codes f 0 ≡ code_of list resets spots rows x f

-- Edges at y that answer to edge e at x have this code; edges at y that answer to one that is available at x have its code. In a closed
-- structure this is so (`answers-tell` in Laws/Codes).
abbrev pub ToldBy : (k : ℕ) → (list flags resets spots rows : List ℕ) → (x e y code : ℕ) → Type 0
ToldBy k list flags resets spots rows x e y code =
    (f : ℕ) → f < k → answers list flags resets spots rows x e y f ≡ true → code_of list resets spots rows y f ≡ code

abbrev pub Told : (k : ℕ) → (list flags resets spots rows : List ℕ) → (x y : ℕ) → Type 0
Told k list flags resets spots rows x y =
    (e : ℕ) → e < k → is_open flags x e ≡ true → ToldBy k list flags resets spots rows x e y (code_of list resets spots rows x e)

-- Each edge that is marked answers at y to itself at x.
abbrev pub Own : (k : ℕ) → (list flags resets spots rows : List ℕ) → (x y : ℕ) → (own : List ℕ) → Type 0
Own k list flags resets spots rows x y own = (e : ℕ) → e < k → get_or own e 0 ≡ 1 → answers list flags resets spots rows x e y e ≡ true

-- What a search tells: 0 where no edge at y answers to edge e at x, and else the number after one that does.
abbrev pub Found : (k : ℕ) → (list flags resets spots rows : List ℕ) → (x e y r : ℕ) → Type 0
Found k list flags resets spots rows x e y r =
    ((r ≡ 0) × (some_answers k list flags resets spots rows x e y ≡ false))
    ⊎ ((f : ℕ) × (r ≡ suc f) × (f < k) × (answers list flags resets spots rows x e y f ≡ true))

-- Each edge at x that is marked has an answer at y.
abbrev pub Met : (k : ℕ) → (list flags resets spots rows : List ℕ) → (x y : ℕ) → (met : List ℕ) → Type 0
Met k list flags resets spots rows x y met = (e : ℕ) → get_or met e 0 ≡ 1 → some_answers k list flags resets spots rows x e y ≡ true

-- ---- Comparing by keys

-- What comparisons go by: slices that hold a structure, names of blocks that there are marks for, and keys under them that are known or
-- not.
pub record Keyed (F : Finite) (n k : ℕ) (names keys labels nexts flags resets spots rows : List ℕ) : Type 0 where
  pub held : Held F n k labels nexts flags resets spots rows
  pub closed : Closed (structure F)
  pub below : Below n names
  pub keyed : Known n k names keys nexts flags resets spots rows

-- A shelf keeps the codes of one item's edges from comparison to comparison, each at the place of its edge. At place 128 stands the number
-- after that item, and 0 where no codes are kept.
abbrev pub Shelved : (k : ℕ) → (list flags resets spots rows shelf : List ℕ) → Type 0
Shelved k list flags resets spots rows shelf =
    (most_edges < length shelf) × ((x : ℕ) → get_or shelf most_edges 0 ≡ suc x → Coded k x list flags resets spots rows shelf)

-- What stands past these places stays.
abbrev pub KeptPast : (shelf shelf' : List ℕ) → Type 0
KeptPast shelf shelf' = (i : ℕ) → most_edges < i → get_or shelf' i 0 ≡ get_or shelf i 0

-- What comparisons with a shelf go by.
pub record Equipped (F : Finite) (n k : ℕ) (names keys shelf labels nexts flags resets spots rows : List ℕ) : Type 0 where
  pub keyed : Keyed F n k names keys labels nexts flags resets spots rows
  pub shelved : Shelved k names flags resets spots rows shelf

-- The keys of the items below n that are stirred are forgotten; all others stay.
abbrev pub ForgottenAt : (keys keys' stirred : List ℕ) → ℕ → Type 0
ForgottenAt keys keys' stirred x = get_or keys' x 0 ≡ cond (eqb (get_or stirred x 0) 0) (get_or keys x 0) 0

abbrev pub Forgotten : (n : ℕ) → (keys keys' stirred : List ℕ) → Type 0
Forgotten n keys keys' stirred =
    ((x : ℕ) → x < n → ForgottenAt keys keys' stirred x) × ((x : ℕ) → n ≤ x → get_or keys' x 0 ≡ get_or keys x 0)

-- The keys after item x was looked at.
abbrev pub keys_after : (keys stirred : List ℕ) → (x : ℕ) → List ℕ
keys_after keys stirred x = cond (eqb (get_or stirred x 0) 0) keys (set keys x 0)
