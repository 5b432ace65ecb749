-- Demand 2: "The region graph, the blocks, their numbers, the count of rounds and the listing are those defined in document 01 after Chen,
-- Han and Katoen (source document 002). A region leads by some delay or edge to another exactly when each of its states, with fractions as
-- clock values, does so under the automaton's own rules. A proposed partition is accepted exactly when it is a probabilistic
-- time-abstracting bisimulation of the region graph." One closed statement; proofs/Demand2.antt has its theorem. Document 01 stands as
-- document 02 amends it.
--
-- A premise `ReduceCall table entries first second answer entries' first' second'` (Calls) is what the contract of terkwabu_reduce
-- (src/calls.rt) says of every call with these that answers `answer` and leaves entries', first' and second'. `answer.refusal ≡ 0` says
-- that it refused nothing, and `read_table table ≡ accepted m` that refusals 1 to 13 find nothing and m is the model that was read. With
-- this file five say what is claimed:
--   Graph, Order (of regions)         what a region leads to, what is reached; all regions, and their order
--   Alike (of states)                 what it is that a region leads as its states do
--   Bisimulations (of bisimulation)   bisimulations and rounds
--   Instances (of partition)          `graph m found`: the region graph as a structure, where found are the regions by number
-- The listing (Printed, of listing) and states (of Demand3) are as document 01 has them. What these files rest on is named in their first
-- lines.
use Rattle.std.specs.Prelude.{ℕ, suc, ◌≤◌, ◌<◌, ◌≡◌, true, ◌↔◌, ◌⊎◌, List, map, length, get_or, take}
use Rattle.regions.specs.Passed.{Model, edge_of, read_table, accepted, Region}
use Rattle.regions.specs.Entries.{region_at}
use Rattle.regions.specs.Graph.{bounds_of, landing, available, DelaysTo, Reached}
use Rattle.regions.specs.View.{number_in}
use Rattle.regions.specs.Order.{AllRegions, InOrder}
use Rattle.regions.specs.Explore.{listed}
use Rattle.states.specs.States.{State, IsState}
use Rattle.states.specs.Alike.{region_in, LeadsAlike, RegionLeads, StateLeads}
use Rattle.bisimulation.specs.Structures.{Structure}
use Rattle.bisimulation.specs.Bisimulations.{Bisimulation, Round}
use Rattle.bisimulation.specs.Finite.{structure}
use Rattle.partition.specs.Instances.{graph}
use Rattle.text.specs.Text.{up_to}
use Rattle.listing.specs.Printed.{listing}
use Rattle.listing.specs.Parts.{part_count}
use Rattle.terkwabu.specs.Answers.{result_as}
use Rattle.terkwabu.specs.Calls.{GraphCall, ReduceCall, JudgeCall, PartCall, LineCall}
use Rattle.terkwabu.specs.Rows.{entries_lent}
use Rattle.terkwabu.specs.declared.answer.Answer.{Answer}

-- The region graph that a call left in the entries, n of them, as a structure: items are the numbers of regions.
abbrev pub graph_in : Model → (entries : List ℕ) (n : ℕ) → Structure ℕ
graph_in m entries n = structure (graph m (listed entries n))

-- What it has at item x: the label of the region's location; in table order, the edges available at the region; and of each edge action,
-- denominator, and its branches, each with its weight and the number of the region that it lands in.
abbrev pub StructureAt : Model → (entries : List ℕ) (n x : ℕ) → Type 1
StructureAt m entries n x =
    ((graph_in m entries n).label x ≡ get_or m.labels (region_at entries x).location 0)
    × ((e : ℕ) → (graph_in m entries n).Edge x e ≡ ((e < length m.edges) × (available m (edge_of m e) (region_at entries x) ≡ true)))
    × ((e : ℕ) → (graph_in m entries n).action x e ≡ (edge_of m e).action)
    × ((e : ℕ) → (graph_in m entries n).whole x e ≡ (edge_of m e).denominator)
    × ((e : ℕ) → (graph_in m entries n).branches x e
    ≡ map (λ b. record { weight = b.weight; target = number_in (listed entries n) (landing (bounds_of m) (region_at entries x) b) })
    (edge_of m e).branches)

-- Document 01's blocks of a structure with n items, in a list: so many blocks, after so many rounds.
pub record BlockNumbers (S : Structure ℕ) (n blocks rounds : ℕ) (list : List ℕ) : Type 0 where
  -- "The reported count is the least k whose round equals the next; it is at most N - 1."
  pub rests : (x y : ℕ) → x < n → y < n → Round S rounds x y ↔ Round S (suc rounds) x y
  pub least : (k : ℕ) → k < rounds → ¬ ((x y : ℕ) → x < n → y < n → Round S k x y ↔ Round S (suc k) x y)
  pub few : rounds < n
  -- Regions have one number exactly where that round relates them.
  pub relates : (x y : ℕ) → x < n → y < n → (get_or list x 0 ≡ get_or list y 0) ↔ Round S rounds x y
  -- "Blocks are numbered from 0 by their lowest region": every number that is smaller than a region's stands before it.
  pub lowest : (x c : ℕ) → x < n → c < get_or list x 0 → (y : ℕ) × (y < x) × (get_or list y 0 ≡ c)
  -- The numbers are those below the count of blocks.
  pub below : (x : ℕ) → x < n → get_or list x 0 < blocks
  pub taken : (c : ℕ) → c < blocks → (x : ℕ) × (x < n) × (get_or list x 0 ≡ c)
  -- They are a bisimulation of the structure. (That it is the coarsest is said below.)
  pub bisimulation : Bisimulation S (λ x y. get_or list x 0 ≡ get_or list y 0)

pub record Demand2 : Type 1 where
  -- The region graph and its numbers: the entries are all regions that are reached, each once, in document 01's order, and no other list of
  -- regions is in that order.
  pub regions : (table entries : List ℕ) (answer : Answer) (entries' : List ℕ)
      → GraphCall table entries answer entries' → answer.refusal ≡ 0
      → (m : Model) × (read_table table ≡ accepted m)
      × AllRegions m (listed entries' answer.value) × InOrder m (listed entries' answer.value)
      × ((other : List Region) → InOrder m other → other ≡ listed entries' answer.value)
  -- A region of the graph leads by some delay or edge to a region exactly when each of its states does. More than that: it leads as each of
  -- its states does, by delay to the same regions, and by each branch of each edge to the same region. And it has a state.
  pub leads : (table : List ℕ) (m : Model) → read_table table ≡ accepted m → (r : Region) → Reached m r
      → ((q : Region) → RegionLeads m r q ↔ ((s : State) → IsState m s → region_in m s ≡ r → StateLeads m s q))
      × ((s : State) → IsState m s → region_in m s ≡ r → LeadsAlike m r s)
      × ((s : State) × IsState m s × (region_in m s ≡ r))
  -- The structure that the blocks are of is the region graph, by number.
  pub structure-is : (table entries : List ℕ) (answer : Answer) (entries' : List ℕ)
      → GraphCall table entries answer entries' → answer.refusal ≡ 0
      → (m : Model) → read_table table ≡ accepted m → (x : ℕ) → x < answer.value
      → StructureAt m entries' answer.value x
  -- It has, by number, the delays of the regions.
  pub delays : (table entries : List ℕ) (answer : Answer) (entries' : List ℕ)
      → GraphCall table entries answer entries' → answer.refusal ≡ 0
      → (m : Model) → read_table table ≡ accepted m → (x y : ℕ) → x < answer.value → y < answer.value
      → (graph_in m entries' answer.value).Delay x y ↔ DelaysTo m (region_at entries' x) (region_at entries' y)
  -- The blocks, their numbers, their count and the count of rounds: in both lists, of the graph in the entries.
  pub blocks : (table entries first second : List ℕ) (answer : Answer) (entries' first' second' : List ℕ)
      → ReduceCall table entries first second answer entries' first' second' → answer.refusal ≡ 0
      → (m : Model) × (read_table table ≡ accepted m)
      × AllRegions m (listed entries' answer.value) × InOrder m (listed entries' answer.value)
      × BlockNumbers (graph_in m entries' answer.value) answer.value answer.blocks answer.rounds first'
      × BlockNumbers (graph_in m entries' answer.value) answer.value answer.blocks answer.rounds second'
  -- No bisimulation of the region graph relates more.
  pub coarsest : (table entries first second : List ℕ) (answer : Answer) (entries' first' second' : List ℕ)
      → ReduceCall table entries first second answer entries' first' second' → answer.refusal ≡ 0
      → (m : Model) → read_table table ≡ accepted m
      → (R : ℕ → ℕ → Type 0) → Bisimulation (graph_in m entries' answer.value) R
      → (x y : ℕ) → x < answer.value → y < answer.value → R x y
      → (get_or first' x 0 ≡ get_or first' y 0) × (get_or second' x 0 ≡ get_or second' y 0)
  -- A proposal for a table that the graph call accepts with these entries is accepted exactly when it has N numbers, and equal numbers are
  -- a bisimulation of the region graph.
  pub proposals : (table entries : List ℕ) (answer : Answer) (entries' : List ℕ)
      → GraphCall table entries answer entries' → answer.refusal ≡ 0
      → (m : Model) → read_table table ≡ accepted m
      → (proposal : List ℕ) (judged : Answer) (entries'' : List ℕ) → JudgeCall table entries proposal judged entries''
      → (judged ≡ result_as 1 0 0)
      ↔ ((length proposal ≡ answer.value)
      × Bisimulation (graph_in m entries' answer.value) (λ x y. get_or proposal x 0 ≡ get_or proposal y 0))
  -- The listing: part calls with what a partition call answered and left, either list, and buffers of 65,536 bytes; of each buffer so many
  -- bytes as the value says, one after the other, are the listing.
  pub parts : (table entries first second : List ℕ) (answer : Answer) (entries' first' second' : List ℕ)
      → ReduceCall table entries first second answer entries' first' second' → answer.refusal ≡ 0
      → (list : List ℕ) → (list ≡ first') ⊎ (list ≡ second')
      → (buffers : ℕ → List ℕ) (answers : ℕ → Answer) (buffers' : ℕ → List ℕ)
      → ((p : ℕ) → p < part_count answer.value answer.blocks
      → PartCall table entries' list answer.value answer.blocks answer.rounds p (buffers p) (answers p) (buffers' p))
      → ((p : ℕ) → p < part_count answer.value answer.blocks → 65536 ≤ length (buffers p))
      → up_to (λ p. take (answers p).value (buffers' p)) (part_count answer.value answer.blocks)
      ≡ listing table (entries_lent entries)
  -- The host sees where the parts end: past the last all five numbers are 0, and before it the value is not.
  pub ends : (table entries first second : List ℕ) (answer : Answer) (entries' first' second' : List ℕ)
      → ReduceCall table entries first second answer entries' first' second' → answer.refusal ≡ 0
      → (list : List ℕ) → (list ≡ first') ⊎ (list ≡ second')
      → (p : ℕ) (buffer : List ℕ) (said : Answer) (buffer' : List ℕ)
      → PartCall table entries' list answer.value answer.blocks answer.rounds p buffer said buffer'
      → (part_count answer.value answer.blocks ≤ p → said ≡ result_as 0 0 0)
      × (p < part_count answer.value answer.blocks → 65536 ≤ length buffer → 0 < said.value)
  -- Where the partition call refuses, but for a list that is too short, the line of its refusal is the listing.
  pub refused : (table entries first second : List ℕ) (answer : Answer) (entries' first' second' : List ℕ)
      → ReduceCall table entries first second answer entries' first' second' → ¬ (answer.refusal ≡ 0) → ¬ (answer.refusal ≡ 16)
      → (buffer : List ℕ) (said : Answer) (buffer' : List ℕ) → LineCall answer.refusal answer.place buffer said buffer'
      → 128 ≤ length buffer → take said.value buffer' ≡ listing table (entries_lent entries)
