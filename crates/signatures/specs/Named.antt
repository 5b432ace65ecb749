-- Signatures over a dictionary. Each step of an item is a list with an id, and so is the set of names that the item reaches by delay. The
-- signature is a list with an id too: the set of the steps' ids, then the item's name and the id of the names reached by delay.
use Rattle.std.specs.Prelude.{ℕ, ◌+◌, ◌*◌, ◌/◌, ◌≤◌, ◌<◌, ◌≡◌, length, get_or, take, true, cond, ltb}
use mathlib.Core.List.{List, [], ◌∷◌, ◌++◌, Memᴰ}
use Rattle.std.specs.Prelude.{Result, Ok, Err}
use Rattle.arrayvec.specs.ArrayVec.{ArrayVec}
use Rattle.signatures.specs.declared.dictionary.NoRoom.{NoRoom}
use Rattle.graph.specs.Readers.{delay_of, is_available}
use Rattle.signatures.specs.Sets.{set_of}
use Rattle.signatures.specs.Dictionary.{index_size, Dictionary, Interns, entries_of}
use Rattle.signatures.specs.Raw.{raw_step}
use Rattle.signatures.specs.Memo.{memo_size, Noted}
use Rattle.signatures.specs.Book.{full, max_ids, room, At, Different, numbers_in, Shut, Grows}
use Rattle.signatures.specs.Steps.{name_of}
use Rattle.signatures.specs.Signatures.{names_of, steps_below, steps_of}
use Rattle.signatures.specs.Structure.{chain_from, structure_of, step_at}

-- Ids of some lists, in the same order.
pub data AllIds (held : List (List ℕ)) : List (List ℕ) → List ℕ → Type 0 where
  none : AllIds held [] []
  more : {i : ℕ} {s : List ℕ} {is : List ℕ} {ss : List (List ℕ)} → At held i s → AllIds held ss is → AllIds held (s ∷ ss) (i ∷ is)

-- The list of a signature.
abbrev pub spelled : (name delays : ℕ) → List ℕ → List ℕ
spelled name delays ids = set_of ids ++ (name ∷ delays ∷ [])

-- An item of this name, these names reached by delay and these steps has the signature of this id.
pub record Named (held : List (List ℕ)) (name : ℕ) (delays : List ℕ) (steps : List (List ℕ)) (id : ℕ) : Type 0 where
  pub ids : List ℕ
  pub each : AllIds held steps ids
  pub delay : ℕ
  pub reached : At held delay delays
  pub whole : At held id (spelled name delay ids)

-- One of its lists is not held, and never will be.
pub data Refused (held : List (List ℕ)) (name : ℕ) (delays : List ℕ) (steps : List (List ℕ)) : Type 0 where
  by-step : {s : List ℕ} → Memᴰ s steps → Shut held s → Refused held name delays steps
  by-delays : Shut held delays → Refused held name delays steps
  by_whole : {ids : List ℕ} {delay : ℕ} → AllIds held steps ids → At held delay delays → Shut held (spelled name delay ids)
      → Refused held name delays steps

-- What a signature stands for: the name, the set of names reached by delay, and the set of steps.
pub record Alike (name : ℕ) (delays : List ℕ) (steps : List (List ℕ)) (name' : ℕ) (delays' : List ℕ) (steps' : List (List ℕ)) : Type 0 where
  pub same : name ≡ name'
  pub reaches : delays ≡ delays'
  pub to : (s : List ℕ) → Memᴰ s steps → Memᴰ s steps'
  pub fro : (s : List ℕ) → Memᴰ s steps' → Memᴰ s steps

-- Some steps are held, and their ids are a set in the first len numbers of a list; k counts the steps.
pub record Partial (held₀ held : List (List ℕ)) (steps : List (List ℕ)) (k : ℕ) (list : List ℕ) (len : ℕ) : Type 0 where
  pub ids : List ℕ
  pub each : AllIds held steps ids
  pub put : take len list ≡ set_of ids
  pub short : len ≤ k
  pub grows : Grows held₀ held
  pub few : length held ≤ length held₀ + k
  pub small : numbers_in held ≤ numbers_in held₀ + 25 * k

-- What the function of a signature answers. From an empty dictionary it is never full.
abbrev pub Signed : (held held' : List (List ℕ)) → (name : ℕ) (delays : List ℕ) (steps : List (List ℕ)) → Result ℕ NoRoom → Type 0
Signed held held' name delays steps (Ok id) = Named held' name delays steps id
Signed held held' name delays steps (Err _) = Refused held' name delays steps × (held ≡ [] → ⊥)

-- ---- Names, and where to go on along the delays

-- The first half of a list holds the names of items. The second half says for each item where to go on along its delays: to what follows,
-- or past items of the same name (`Skips`).
unfoldable pub items_in : List ℕ → ℕ
items_in names = length names / 2

unfoldable pub jump_of : List ℕ → ℕ → ℕ
jump_of names y = get_or names (items_in names + y) 0

-- A way along delays, of at least one, on which all items passed have one name. Where nothing follows, it leads to no item.
pub data Way (graph names : List ℕ) (name : ℕ) : (from to : ℕ) → Type 0 where
  by-delay : {y to : ℕ} → name_of names y ≡ name → to ≡ delay_of graph y → Way graph names name y to
  past_end : {y to : ℕ} → name_of names y ≡ name → items_in names ≤ delay_of graph y → items_in names ≤ to → Way graph names name y to
  passing : {y to : ℕ} → name_of names y ≡ name → delay_of graph y < items_in names → Way graph names name (delay_of graph y) to
      → Way graph names name y to

-- Each item's jump is such a way past items of its own name: a walk by jumps then meets the same names as one by delays (`jumps-skip`).
abbrev pub Skips : (graph names : List ℕ) → Type 0
Skips graph names = (y : ℕ) → y < items_in names → Way graph names (name_of names y) y (jump_of names y)

-- The names met on the way.
unfoldable pub reached_from : List ℕ → ℕ → List ℕ
reached_from names x = set_of (names_of names (chain_from (jump_of names) (items_in names) (items_in names) x))

-- The steps of an item of the slices.
unfoldable pub steps_from : (graph edges names : List ℕ) → ℕ → List (List ℕ)
steps_from graph edges names x = steps_of (structure_of (items_in names) graph edges) names x

-- ---- What the functions leave

-- The step of an edge has an id, or is refused, and the memo stays right.
pub record Stepped (graph edges names : List ℕ) (class edge : ℕ) (index numbers index' numbers' memo' : List ℕ)
    (answer : Result ℕ NoRoom) : Type 0 where
  pub interns : Interns (step_at graph edges names class edge) index numbers index' numbers' answer
  pub noted : Noted (raw_step edges) (entries_of index' numbers') memo'

-- The steps of an item: their ids are a set in the first numbers of a list, or one of them is refused.
abbrev pub Answered : (graph edges names : List ℕ) → ℕ → (held held' : List (List ℕ)) → List ℕ → Result ℕ NoRoom → Type 0
Answered graph edges names x held held' list' (Ok len) = Partial held held' (steps_from graph edges names x) 128 list' len
Answered graph edges names x held held' list' (Err _) =
    Grows held held' × ((name : ℕ) (delays : List ℕ) → Signed held held' name delays (steps_from graph edges names x) full)

-- The same for a list that is that set.
abbrev pub Listed : (graph edges names : List ℕ) → ℕ → (held held' : List (List ℕ)) → Result (ArrayVec ℕ) NoRoom → Type 0
Listed graph edges names x held held' (Ok set) =
    Partial held held' (steps_from graph edges names x) 128 set.items (length set.items)
Listed graph edges names x held held' (Err e) =
    (name : ℕ) (delays : List ℕ) → Signed held held' name delays (steps_from graph edges names x) (Err e)

-- The ranks before one were looked at, and their steps are held.
pub record Listing (graph edges names : List ℕ) (x count : ℕ) (index numbers list index' numbers' memo' list' : List ℕ)
    (len rank : ℕ) : Type 0 where
  pub kept : Dictionary index' numbers'
  pub noted : Noted (raw_step edges) (entries_of index' numbers') memo'
  pub size : length list' ≡ length list
  pub part : Partial (entries_of index numbers) (entries_of index' numbers')
      (steps_below (structure_of (items_in names) graph edges) names x rank)
      rank list' len
  pub within : rank ≤ count
  pub here : rank < count → is_available graph x rank ≡ true

pub record Gathering (graph edges names : List ℕ) (x : ℕ) (index numbers list index' numbers' memo' list' : List ℕ)
    (answer : Result ℕ NoRoom) : Type 0 where
  pub kept : Dictionary index' numbers'
  pub noted : Noted (raw_step edges) (entries_of index' numbers') memo'
  pub size : length list' ≡ length list
  pub answered : Answered graph edges names x (entries_of index numbers) (entries_of index' numbers') list' answer

-- The delays and the name are put behind the ids of steps, whatever steps these are of.
pub record Finishes (names : List ℕ) (x len : ℕ) (index numbers list index' numbers' list' : List ℕ) (answer : Result ℕ NoRoom)
    : Type 0 where
  pub kept : Dictionary index' numbers'
  pub size : length list' ≡ length list
  pub grows : Grows (entries_of index numbers) (entries_of index' numbers')
  pub signed : (held : List (List ℕ)) (steps : List (List ℕ)) → Partial held (entries_of index numbers) steps 128 list len
      → Signed held (entries_of index' numbers') (name_of names x) (reached_from names x) steps answer

-- The signature of an item.
pub record Signs (graph edges names : List ℕ) (x : ℕ) (index numbers list index' numbers' memo' list' : List ℕ)
    (answer : Result ℕ NoRoom) : Type 0 where
  pub kept : Dictionary index' numbers'
  pub noted : Noted (raw_step edges) (entries_of index' numbers') memo'
  pub size : length list' ≡ length list
  pub grows : Grows (entries_of index numbers) (entries_of index' numbers')
  pub signed : Signed (entries_of index numbers) (entries_of index' numbers') (name_of names x) (reached_from names x)
      (steps_from graph edges names x) answer

-- ---- A pass

-- What stands in the place of an id where an item has none.
abbrev pub no_id : ℕ
no_id = 65535

-- An answer as a number.
abbrev pub number_of : Result ℕ NoRoom → ℕ
number_of (Ok id) = cond (ltb id no_id) id no_id
number_of (Err _) = no_id

-- The items before k have their ids, or none; the others stand as they were.
pub record Passing (graph edges names items items' : List ℕ) (held : List (List ℕ)) (k : ℕ) : Type 0 where
  pub size : length items' ≡ length items
  pub id : (j : ℕ) → j < k → (get_or items' j 0 ≡ no_id → ⊥)
      → Named held (name_of names (get_or items j 0)) (reached_from names (get_or items j 0))
      (steps_from graph edges names (get_or items j 0))
      (get_or items' j 0)
  pub refused : (j : ℕ) → j < k → get_or items' j 0 ≡ no_id
      → Refused held (name_of names (get_or items j 0)) (reached_from names (get_or items j 0))
      (steps_from graph edges names (get_or items j 0))
  pub rest : (j : ℕ) → k ≤ j → get_or items' j 0 ≡ get_or items j 0
  pub first : 0 < k → get_or items' 0 0 ≡ no_id → ⊥

-- A pass has come to item k.
pub record Signing (graph edges names items list index numbers memo list' items' : List ℕ) (k : ℕ) : Type 0 where
  pub kept : Dictionary index numbers
  pub noted : Noted (raw_step edges) (entries_of index numbers) memo
  pub size : length list' ≡ length list
  pub passing : Passing graph edges names items items' (entries_of index numbers) k
  pub empty : k ≡ 0 → entries_of index numbers ≡ []
  pub within : k ≤ length items

-- After a pass each item has the id of its signature, or none. Which items have none is unspecified: `held` may be full of lists that no
-- item asks for. Every choice has in common that the first item has an id (`pass-first`), and, in a closed structure, that an item without
-- one is related to none that has one (`pass-apart`).
pub record Passed (graph edges names items items' : List ℕ) : Type 0 where
  pub held : List (List ℕ)
  pub different : Different held
  pub few : length held ≤ max_ids
  pub all : Passing graph edges names items items' held (length items)

-- The sizes that a pass asks of the memory that it works in, of the names and of the items.
pub record Roomy (names index numbers memo items : List ℕ) : Type 0 where
  pub names-few : length names ≤ 8192
  pub items-few : length items ≤ 4096
  pub indexed : length index ≡ index_size
  pub numbered : length numbers ≡ room
  pub memoed : length memo ≡ memo_size
