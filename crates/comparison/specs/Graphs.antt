-- The definitions of Held, Compare, Keys and Twins, at a graph.
use Rattle.std.specs.Prelude.{ℕ, ◌<◌, ◌≡◌, Bool, false, true, cond, List, ltb, get_or, Option, Some, None, MatchOption}
use Rattle.bisimulation.specs.Finite.{Finite}
use Rattle.comparison.specs.declared.held.Graph.{Graph}
use Rattle.comparison.specs.Held.{Held as HeldIn, Onward as OnwardIn, Opened as OpenedIn, is_open as is_open_in, chain as chain_in}
use Rattle.comparison.specs.Held.{action_at, whole_at, count_at, weight_at, target_at as target_in, target_of as target_of_in}
use Rattle.comparison.specs.Compare.{reaches_number as reaches_in, all_marked as all_marked_in, delays_answered as delays_in}
use Rattle.comparison.specs.Compare.{number_of as number_in, weighed as weighed_in, edges_alike as alike_in, answers as answers_in}
use Rattle.comparison.specs.Compare.{some_answers as some_in, edges_answered as edges_in, next_in}
use Rattle.comparison.specs.Keys.{delay_key as delay_in, is_first_into as first_in, block_code as block_in, landed_by as landed_by_in}
use Rattle.comparison.specs.Keys.{landed as landed_in, code_of as code_in, edge_key as edge_in, key_of as key_in}
use Rattle.comparison.specs.Keys.{Known as KnownIn, Coded as CodedIn, ToldBy as ToldByIn, Told as ToldIn, Own as OwnIn, Met as MetIn}
use Rattle.comparison.specs.Keys.{Shelved as ShelvedIn, Equipped as EquippedIn}
use Rattle.comparison.specs.Twins.{RunTo as RunToIn, DelaysAgree as DelaysAgreeIn, BothAlike as BothAlikeIn, SameRow as SameRowIn}

-- ---- Items

-- What follows an item by delay, if anything does.
abbrev pub after : Graph → (x : ℕ) → Option ℕ
after g x = cond (ltb (get_or g.nexts.now x 0) g.n) (Some (get_or g.nexts.now x 0)) None

-- An item and what it reaches by delay.
abbrev pub chain : Graph → (x : ℕ) → List ℕ
chain g x = chain_in g.n g.nexts.now g.n x

abbrev pub Onward : Graph → Type 0
Onward g = OnwardIn g.n g.nexts.now

abbrev pub reaches_number : Graph → (list : List ℕ) → (v y : ℕ) → Bool
reaches_number g list v y = reaches_in g.n list g.nexts.now v y

abbrev pub all_marked : Graph → (list marks : List ℕ) → (x : ℕ) → Bool
all_marked g list marks x = all_marked_in g.n list g.nexts.now marks x

abbrev pub delays_answered : Graph → (list : List ℕ) → (x y : ℕ) → Bool
delays_answered g list x y = delays_in g.n list g.nexts.now x y

abbrev pub delay_key : Graph → (list : List ℕ) → (x : ℕ) → ℕ
delay_key g list x = delay_in g.n list g.nexts.now x

abbrev pub RunTo : Graph → (list : List ℕ) → (x z : ℕ) → Type 0
RunTo g list x z = RunToIn g.n list g.nexts.now x z

abbrev pub DelaysAgree : Graph → (list : List ℕ) → (x y : ℕ) → Type 0
DelaysAgree g list x y = DelaysAgreeIn g.n list g.nexts.now x y

-- ---- Edges

abbrev pub is_open : Graph → (x e : ℕ) → Bool
is_open g x e = is_open_in g.flags.now x e

abbrev pub Opened : Graph → Type 0
Opened g = OpenedIn g.n g.k g.flags.now

abbrev pub action : Graph → (e : ℕ) → ℕ
action g e = action_at g.rows.now e

abbrev pub whole : Graph → (e : ℕ) → ℕ
whole g e = whole_at g.rows.now e

abbrev pub count : Graph → (e : ℕ) → ℕ
count g e = count_at g.rows.now e

abbrev pub weight : Graph → (e i : ℕ) → ℕ
weight g e i = weight_at g.rows.now e i

abbrev pub SameRow : Graph → (e f : ℕ) → Type 0
SameRow g e f = SameRowIn g.rows.now e f

abbrev pub target_at : Graph → (x e i : ℕ) → ℕ
target_at g x e i = target_in g.resets.now g.spots.now g.rows.now x e i

abbrev pub target_of : Graph → (x e i : ℕ) → ℕ
target_of g x e i = target_of_in g.resets.now g.spots.now g.rows.now x e i

-- ---- Edges under a block list

abbrev pub number_of : Graph → (list : List ℕ) → (x e i : ℕ) → ℕ
number_of g list x e i = number_in list g.resets.now g.spots.now g.rows.now x e i

abbrev pub weighed : Graph → (list : List ℕ) → (c x e : ℕ) → ℕ
weighed g list c x e = weighed_in list g.resets.now g.spots.now g.rows.now c x e

abbrev pub edges_alike : Graph → (list : List ℕ) → (x e y f : ℕ) → Bool
edges_alike g list x e y f = alike_in list g.resets.now g.spots.now g.rows.now x e y f

abbrev pub BothAlike : Graph → (list : List ℕ) → (x e y f : ℕ) → Type 0
BothAlike g list x e y f = BothAlikeIn list g.resets.now g.spots.now g.rows.now x e y f

abbrev pub answers : Graph → (list : List ℕ) → (x e y f : ℕ) → Bool
answers g list x e y f = answers_in list g.flags.now g.resets.now g.spots.now g.rows.now x e y f

abbrev pub some_answers : Graph → (list : List ℕ) → (x e y : ℕ) → Bool
some_answers g list x e y = some_in g.k list g.flags.now g.resets.now g.spots.now g.rows.now x e y

abbrev pub edges_answered : Graph → (list : List ℕ) → (x y : ℕ) → Bool
edges_answered g list x y = edges_in g.k list g.flags.now g.resets.now g.spots.now g.rows.now x y

-- ---- Codes of edges and keys of items

abbrev pub is_first_into : Graph → (list : List ℕ) → (c x e i : ℕ) → Bool
is_first_into g list c x e i = first_in list g.resets.now g.spots.now g.rows.now c x e i

abbrev pub block_code : Graph → (list : List ℕ) → (c x e : ℕ) → ℕ
block_code g list c x e = block_in list g.resets.now g.spots.now g.rows.now c x e

abbrev pub landed_by : Graph → (list : List ℕ) → (x e i : ℕ) → ℕ
landed_by g list x e i = landed_by_in list g.resets.now g.spots.now g.rows.now x e i

abbrev pub landed : Graph → (list : List ℕ) → (x e : ℕ) → ℕ
landed g list x e = landed_in list g.resets.now g.spots.now g.rows.now x e

abbrev pub code_of : Graph → (list : List ℕ) → (x e : ℕ) → ℕ
code_of g list x e = code_in list g.resets.now g.spots.now g.rows.now x e

abbrev pub edge_key : Graph → (list : List ℕ) → (x : ℕ) → ℕ
edge_key g list x = edge_in g.k list g.flags.now g.resets.now g.spots.now g.rows.now x

abbrev pub key_of : Graph → (list : List ℕ) → (x : ℕ) → ℕ
key_of g list x = key_in g.n g.k list g.nexts.now g.flags.now g.resets.now g.spots.now g.rows.now x

abbrev pub Known : Graph → (names keys : List ℕ) → Type 0
Known g names keys = KnownIn g.n g.k names keys g.nexts.now g.flags.now g.resets.now g.spots.now g.rows.now

abbrev pub Coded : Graph → (x : ℕ) → (list codes : List ℕ) → Type 0
Coded g x list codes = CodedIn g.k x list g.flags.now g.resets.now g.spots.now g.rows.now codes

abbrev pub ToldBy : Graph → (list : List ℕ) → (x e y code : ℕ) → Type 0
ToldBy g list x e y code = ToldByIn g.k list g.flags.now g.resets.now g.spots.now g.rows.now x e y code

abbrev pub Told : Graph → (list : List ℕ) → (x y : ℕ) → Type 0
Told g list x y = ToldIn g.k list g.flags.now g.resets.now g.spots.now g.rows.now x y

abbrev pub Own : Graph → (list : List ℕ) → (x y : ℕ) → (own : List ℕ) → Type 0
Own g list x y own = OwnIn g.k list g.flags.now g.resets.now g.spots.now g.rows.now x y own

-- What a search tells: an edge at y that answers to edge e at x, or that none does.
abbrev pub Found : Graph → (list : List ℕ) → (x e y : ℕ) → Option ℕ → Type 0
Found g list x e y r =
    MatchOption r (some_answers g list x e y ≡ false) (λ f. (f < g.k) × (answers g list x e y f ≡ true))

abbrev pub Met : Graph → (list : List ℕ) → (x y : ℕ) → (met : List ℕ) → Type 0
Met g list x y met = MetIn g.k list g.flags.now g.resets.now g.spots.now g.rows.now x y met

abbrev pub Shelved : Graph → (list shelf : List ℕ) → Type 0
Shelved g list shelf = ShelvedIn g.k list g.flags.now g.resets.now g.spots.now g.rows.now shelf

-- ---- What comparisons go by

abbrev pub Held : Finite → Graph → Type 0
Held F g = HeldIn F g.n g.k g.labels.now g.nexts.now g.flags.now g.resets.now g.spots.now g.rows.now

abbrev pub Equipped : Finite → Graph → (names keys shelf : List ℕ) → Type 0
Equipped F g names keys shelf =
    EquippedIn F g.n g.k names keys shelf g.labels.now g.nexts.now g.flags.now g.resets.now g.spots.now g.rows.now

-- What the next round says of two items: this round, and both conditions both ways.
abbrev pub next_round : Graph → (list : List ℕ) → (x y : ℕ) → Bool
next_round g list x y = next_in g.n g.k list g.nexts.now g.flags.now g.resets.now g.spots.now g.rows.now x y
